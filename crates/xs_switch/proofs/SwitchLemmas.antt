-- A bank that has a task's file.
use Rattle.std.proofs.Common.{◌≡◌, ◌⊎◌, ℕ, ◌++◌, Bool, true, false, not, ◌&&◌, List, [], length, get_or, refl, sym, ap, ◌∙◌, if◌then◌else◌, arith, inl, inr, Option, Some, None}
use Rattle.std.proofs.lemmas.Bool.{false≢true, cases_eq}
use Rattle.std.proofs.lemmas.List.{ext_get_or, get_or-set_same, get_or-set_other, length-set}
use Rattle.std.specs.Int.{to_le_bytes, w32}
use Rattle.xs_base.specs.declared.component.Row.{Row}
use Rattle.xs_area.specs.declared.area.Lease.{Lease}
use Rattle.xs_base.specs.Bytes.{zeros}
use Rattle.xs_base.specs.File.{File, IsFile, AreSameButPkru, part, with_pkru, pkru_bytes}
use Rattle.xs_base.specs.Layout.{has_row}
use Rattle.xs_base.specs.Task.{PrivateTask, IsPrivateTask}
use Rattle.xs_bank.specs.Bank as banks
use Rattle.xs_bank.specs.Holds.{Holds}
use Rattle.xs_bank.specs.Load.{tiles}
use Rattle.xs_task.specs.declared.task.Task.{Task}
use Rattle.xs_task.specs.Marks.{IsSavedIn}
use Rattle.xs_task.specs.Private.{HasForm, private_of}
use Rattle.xs_task.specs.TaskArea.{KeepsArea, has_large, is_large}
use Rattle.xs_switch.specs.Armed.{armed_for}
use Rattle.xs_switch.specs.Running.{IsRunning, IsInBank}

-- a file with PKRU written beside the same registers
pub same_file : (file bank : File) (pkru : ℕ) → IsFile file → IsFile bank → AreSameButPkru file bank → part file 9 ≡ pkru_bytes pkru → with_pkru bank pkru ≡ file
same_file file bank pkru good other same is =
    let len : length (with_pkru bank pkru).parts ≡ length file.parts = length-set bank.parts 9 (to_le_bytes w32 pkru ++ zeros 4) ∙ other.count ∙ sym good.count in
    let parts : (with_pkru bank pkru).parts ≡ file.parts = ext_get_or [] (with_pkru bank pkru).parts file.parts len (λ c lt. each c (cases_eq c 9)) in
    ap (λ (ps : List (List ℕ)). record { rows = bank.rows; parts = ps; mxcsr = bank.mxcsr }) parts
    ∙ ap (λ (rs : List Row). record { rows = rs; parts = file.parts; mxcsr = bank.mxcsr }) same.rows_are
    ∙ ap (λ (n : ℕ). record { rows = file.rows; parts = file.parts; mxcsr = n }) same.control
  where
    each : (c : ℕ) → (c ≡ 9) ⊎ (c ≡ 9 → ⊥) → get_or (with_pkru bank pkru).parts c [] ≡ get_or file.parts c []
    each c (inl nine) = rw nine (get_or-set_same bank.parts 9 (to_le_bytes w32 pkru ++ zeros 4) [] (omega (arith, other.count)) ∙ sym is)
    each c (inr apart) = get_or-set_other bank.parts 9 c (to_le_bytes w32 pkru ++ zeros 4) [] apart ∙ same.parts c apart

-- the same where PKRU is the same
pub same_whole : (file bank : File) → IsFile file → IsFile bank → AreSameButPkru file bank → part bank 9 ≡ part file 9 → bank ≡ file
same_whole file bank good other same is =
    let parts : bank.parts ≡ file.parts = ext_get_or [] bank.parts file.parts (other.count ∙ sym good.count) (λ c lt. each c (cases_eq c 9)) in
    ap (λ (ps : List (List ℕ)). record { rows = bank.rows; parts = ps; mxcsr = bank.mxcsr }) parts
    ∙ ap (λ (rs : List Row). record { rows = rs; parts = file.parts; mxcsr = bank.mxcsr }) same.rows_are
    ∙ ap (λ (n : ℕ). record { rows = file.rows; parts = file.parts; mxcsr = n }) same.control
  where
    each : (c : ℕ) → (c ≡ 9) ⊎ (c ≡ 9 → ⊥) → get_or bank.parts c [] ≡ get_or file.parts c []
    each c (inl nine) = rw nine is
    each c (inr apart) = same.parts c apart

-- PKRU's component is that of the number that is read
pub pkru_read : (bank : File) (pkru : ℕ) → IsFile bank → with_pkru bank pkru ≡ bank → part bank 9 ≡ pkru_bytes pkru
pkru_read bank pkru good is = ap (λ (f : File). part f 9) (sym is) ∙ get_or-set_same bank.parts 9 (to_le_bytes w32 pkru ++ zeros 4) [] (omega (arith, good.count))

-- ---- a task in a turn

pub running_in_bank : (rows : List Row) (task : Task) (bank : banks.Bank) (private : PrivateTask) → IsPrivateTask rows private → HasForm task private → task.need_load ≡ false → bank.file ≡ private.file → IsRunning rows task bank private
running_in_bank rows task bank private valid form clear same = record {
  valid = valid;
  form = form;
  pkru = ap (λ (f : File). part f 9) same;
  saved = λ flag. absurd (false≢true (sym clear ∙ flag));
  whole = λ flag. same;
}

-- what holds of a task's area holds of each area that it is
pub the_lease : (P : Lease → Type 0) (o : Option Lease) (lease : Lease) → o ≡ Some lease → P lease → (other : Lease) → o ≡ Some other → P other
the_lease P o lease here known other is = let same : other ≡ lease = cc (sym here ∙ is) in rw same known

pub running_saved : (rows : List Row) (task : Task) (bank : banks.Bank) (private : PrivateTask) → IsPrivateTask rows private → HasForm task private → task.need_load ≡ true → part bank.file 9 ≡ part private.file 9 → ((lease : Lease) → task.lease ≡ Some lease → IsSavedIn rows lease private.file) → IsRunning rows task bank private
running_saved rows task bank private valid form set pkru saved = record {
  valid = valid;
  form = form;
  pkru = pkru;
  saved = λ flag. saved;
  whole = λ flag. absurd (false≢true (sym flag ∙ set));
}

-- 'the bank holds the task' in terms of its area, and back
large_is : (task : Task) (private : PrivateTask) (lease : Lease) → HasForm task private → task.lease ≡ Some lease → private.large ≡ is_large lease.class
large_is task private lease form is = ap (λ (q : PrivateTask). q.large) form ∙ ap has_large is

pub in_bank_from : (rows : List Row) (task : Task) (bank : banks.Bank) (private : PrivateTask) (lease : Lease) → HasForm task private → task.lease ≡ Some lease → private.file.rows ≡ rows → Holds bank private → IsInBank rows lease bank private.file
in_bank_from rows task bank private lease form is rows_are holds = record {
  same = holds.file;
  armed = holds.armed ∙ ap (λ (rs : List Row). if has_row rs 18 && not private.large then tiles else 0) rows_are ∙ ap (λ (b : Bool). if has_row rows 18 && not b then tiles else 0) (large_is task private lease form is);
}

pub holds_from : (rows : List Row) (task : Task) (bank : banks.Bank) (private : PrivateTask) (lease : Lease) → HasForm task private → task.lease ≡ Some lease → private.file.rows ≡ rows → bank.file ≡ private.file → bank.armed ≡ armed_for rows lease.class → Holds bank private
holds_from rows task bank private lease form is rows_are same armed = record {
  file = rw same (record { rows_are = refl; parts = λ c apart. refl; control = refl });
  armed = armed ∙ sym (ap (λ (rs : List Row). if has_row rs 18 && not private.large then tiles else 0) rows_are ∙ ap (λ (b : Bool). if has_row rows 18 && not b then tiles else 0) (large_is task private lease form is));
}

-- a task whose area is another of its class
pub form_kept : (task : Task) (new : Option Lease) (private : PrivateTask) → HasForm task private → KeepsArea task.lease new → private ≡ private_of (record task { lease = new }) private.file private.marks
form_kept task new private form keeps = form ∙ ap (λ (b : Bool). record (private_of task private.file private.marks) { large = b }) (here task.lease new keeps)
  where
    here : (old new : Option Lease) → KeepsArea old new → has_large old ≡ has_large new
    here None new keeps = ap has_large (sym keeps)
    here (Some old) None keeps = absurd keeps
    here (Some old) (Some lease) keeps = ap is_large (sym keeps.0)
