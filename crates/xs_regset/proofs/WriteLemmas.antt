-- The task after a set that was accepted.
use Rattle.std.proofs.Common.{◌≡◌, ℕ, ◌<◌, ◌^◌, ◌==◌, Bool, true, false, not, ◌&&◌, ◌||◌, List, Some, None, take, if◌then◌else◌, refl, sym, ap, subst, ◌∙◌, inl, inr, lit<}
use Rattle.std.proofs.lemmas.Bool.{ne_eqb, false≢true, cases_eq}
use Rattle.std.proofs.lemmas.Nat.{from_le_bytes-to_le_bytes_4}
use Rattle.std.specs.Int.{from_le_bytes, w32}
use Rattle.xs_base.specs.declared.component.Row.{Row}
use Rattle.xs_base.specs.declared.header.Origin.TheVariants.{Regset}
use Rattle.xs_base.specs.declared.header.Parts.{Parts}
use Rattle.xs_base.specs.declared.words.Set.TheVariants.{Xstate, Fx}
use Rattle.xs_area.specs.declared.area.Lease.{Lease}
use Rattle.xs_base.specs.Area.{StandsFor}
use Rattle.xs_base.specs.Component.{component_numbers, initial_mxcsr}
use Rattle.xs_base.specs.File.{File, part, pkru_of, pkru_bytes, initial_file}
use Rattle.xs_base.specs.HeaderCheck.{parts_in}
use Rattle.xs_base.specs.Image.{image_file}
use Rattle.xs_base.specs.KernelArea.{class_features}
use Rattle.xs_base.specs.Layout.{IsLayout, is_known}
use Rattle.xs_base.specs.RegisterSet.{is_given, is_added, fx_file, with_file, set_error, after_set}
use Rattle.xs_base.specs.Sets.{has}
use Rattle.xs_base.specs.Task.{PrivateTask, IsPrivateTask, mark_by}
use Rattle.xs_task.specs.declared.task.Task.{Task}
use Rattle.xs_task.specs.Marks.{is_marked_in, has_mark, marks_of}
use Rattle.xs_task.specs.Parked.{IsParked}
use Rattle.xs_task.specs.Private.{private_of}
use Rattle.xs_task.specs.TaskArea.{has_large, is_large}
use Rattle.xs_base.proofs.AcceptedLemmas.{set_is_private}
use Rattle.xs_base.proofs.ByteRangeLemmas.{AreBytes}
use Rattle.xs_base.proofs.ImageLemmas.{image_at, image_pkru}
use Rattle.xs_base.proofs.SetLemmas.{has_set_of}
use Rattle.xs_regset.proofs.LegacyLemmas.{fx_other}
use Rattle.xs_regset.proofs.MarkLemmas.{set_of_same}

-- the number of PKRU's bytes
pkru_is : (file : File) (value : ℕ) → value < 2 ^ 32 → part file 9 ≡ pkru_bytes value → pkru_of file ≡ value
pkru_is file value small own = ap (λ (bs : List ℕ). from_le_bytes w32 (take 4 bs)) own ∙ from_le_bytes-to_le_bytes_4 value small

-- The task that is left of an accepted set, by its file and its marks.
set_parked : (rows : List Row) (old new : Task) (before lease : Lease) (p : PrivateTask) (file : File) (marks pkru : ℕ) → IsParked rows old p → old.lease ≡ Some before → lease.class ≡ before.class → new ≡ record old { lease = Some lease; pkru = pkru; last = None } → IsPrivateTask rows (record p { file = file; marks = marks }) → StandsFor rows lease.area.bytes.items file → part file 9 ≡ pkru_bytes pkru → marks ≡ marks_of (Some lease) pkru → IsParked rows new (record p { file = file; marks = marks })
set_parked rows old new before lease p file marks pkru parked is class new_is valid stands own marks_is = rw new_is (record {
  valid = valid;
  flag = parked.flag;
  form = ap (λ (q : PrivateTask). record q { file = file; marks = marks }) parked.form ∙ ap (λ (b : Bool). record (private_of old file marks) { large = b }) (ap has_large is ∙ ap is_large (sym class));
  stands = λ other here. let same : other ≡ lease = cc here in rw same stands;
  pkru = own;
  marks = marks_is;
})

-- ---- the Xstate set

-- the task with the file and the marks of an image
unfoldable image_task : PrivateTask → List ℕ → List Row → Parts → PrivateTask
image_task p bytes rows parts = with_file p (image_file (initial_file rows) bytes parts) (is_given (image_file (initial_file rows) bytes parts) parts.bits.0)

-- so it is after an Xstate set
image_task_is : (p : PrivateTask) (bytes : List ℕ) → image_task p bytes p.file.rows (parts_in p.file.rows Regset bytes) ≡ after_set p Xstate bytes
unfolding image_task
image_task_is p bytes = refl

set_is_image : (p : PrivateTask) (bytes : List ℕ) (rows : List Row) (parts : Parts) → parts ≡ parts_in rows Regset bytes → p.file.rows ≡ rows → image_task p bytes rows parts ≡ after_set p Xstate bytes
set_is_image p bytes rows parts is rows_are = ap (image_task p bytes rows) is ∙ ap (λ (rs : List Row). image_task p bytes rs (parts_in rs Regset bytes)) (sym rows_are) ∙ image_task_is p bytes

image_parked : (rows : List Row) (old new : Task) (before lease : Lease) (p : PrivateTask) (bytes : List ℕ) (parts : Parts) → IsParked rows old p → old.lease ≡ Some before → lease.class ≡ before.class → new ≡ record old { lease = Some lease; pkru = parts.pkru; last = None } → IsPrivateTask rows (image_task p bytes rows parts) → parts.pkru < 2 ^ 32 → ((c : ℕ) → (c ≡ 9 → ⊥) → has parts.bits.0 c ≡ true → has (class_features rows before.class) c ≡ true) → StandsFor rows lease.area.bytes.items (image_file (initial_file rows) bytes parts) → ((c : ℕ) → is_marked_in lease.area.bytes.items c ≡ ((has parts.bits.0 c && has (class_features rows before.class) c) || ((c == 1) && not (parts.mxcsr == initial_mxcsr)))) → IsParked rows new (image_task p bytes rows parts)
unfolding image_task
image_parked rows old new before lease p bytes parts parked is class new_is valid low inside stands marked =
    set_parked rows old new before lease p (image_file (initial_file rows) bytes parts) _ parts.pkru parked is class new_is valid stands own
    (set_of_same (mark_by (image_file (initial_file rows) bytes parts) (is_given (image_file (initial_file rows) bytes parts) parts.bits.0)) (has_mark lease.area.bytes.items parts.pkru) (λ c. ap (λ b. b && is_known c) (each c)))
  where
    own : part (image_file (initial_file rows) bytes parts) 9 ≡ pkru_bytes parts.pkru
    own = image_at (initial_file rows) bytes parts 9 (lit< tt) ∙ image_pkru (initial_file rows) bytes parts

    both : (a b z : Bool) → (a ≡ true → b ≡ true) → (a || z) ≡ ((a && b) || z)
    both true true z on = refl
    both true false z on = absurd (false≢true (on refl))
    both false b z on = refl

    each : (c : ℕ) → mark_by (image_file (initial_file rows) bytes parts) (is_given (image_file (initial_file rows) bytes parts) parts.bits.0) c ≡ has_mark lease.area.bytes.items parts.pkru c
    each c = elim (cases_eq c 9) [
      | inl nine ↦ rw nine (ap (λ n. not (n == 0)) (pkru_is (image_file (initial_file rows) bytes parts) parts.pkru low own))
      | inr other ↦
          ap (λ b. if b then not (pkru_of (image_file (initial_file rows) bytes parts) == 0) else (has parts.bits.0 c || ((c == 1) && not (parts.mxcsr == initial_mxcsr)))) (ne_eqb c 9 other)
          ∙ both (has parts.bits.0 c) (has (class_features rows before.class) c) ((c == 1) && not (parts.mxcsr == initial_mxcsr)) (inside c other) ∙ sym (marked c)
          ∙ sym (ap (λ b. if b then not (parts.pkru == 0) else is_marked_in lease.area.bytes.items c) (ne_eqb c 9 other))
    ]

pub xstate_parked : (rows : List Row) (old new : Task) (before lease : Lease) (p : PrivateTask) (bytes : List ℕ) (parts : Parts) → IsParked rows old p → old.lease ≡ Some before → lease.class ≡ before.class → new ≡ record old { lease = Some lease; pkru = parts.pkru; last = None } → AreBytes bytes → set_error p Xstate bytes ≡ None → parts ≡ parts_in rows Regset bytes → parts.pkru < 2 ^ 32 → ((c : ℕ) → (c ≡ 9 → ⊥) → has parts.bits.0 c ≡ true → has (class_features rows before.class) c ≡ true) → StandsFor rows lease.area.bytes.items (image_file (initial_file rows) bytes parts) → ((c : ℕ) → is_marked_in lease.area.bytes.items c ≡ ((has parts.bits.0 c && has (class_features rows before.class) c) || ((c == 1) && not (parts.mxcsr == initial_mxcsr)))) → IsParked rows new (after_set p Xstate bytes)
xstate_parked rows old new before lease p bytes parts parked is class new_is small passes parts_are low inside stands marked =
    let rows_are = parked.valid.file.rows_are in
    let table : IsLayout rows = rw (rows_are) at parked.valid.file.is_file.layout in
    let same = set_is_image p bytes rows parts parts_are rows_are in
    let valid = subst (IsPrivateTask rows) (sym same) (set_is_private rows p table parked.valid Xstate bytes small passes) in
    subst (IsParked rows new) same (image_parked rows old new before lease p bytes parts parked is class new_is valid low inside stands marked)

-- ---- the Fx set

pub fx_parked : (rows : List Row) (old new : Task) (before lease : Lease) (p : PrivateTask) (bytes : List ℕ) → IsParked rows old p → old.lease ≡ Some before → lease.class ≡ before.class → new ≡ record old { lease = Some lease; last = None } → AreBytes bytes → set_error p Fx bytes ≡ None → old.pkru < 2 ^ 32 → StandsFor rows lease.area.bytes.items (fx_file p.file bytes) → ((c : ℕ) → is_marked_in lease.area.bytes.items c ≡ (is_marked_in before.area.bytes.items c || (c == 0) || (c == 1))) → IsParked rows new (after_set p Fx bytes)
fx_parked rows old new before lease p bytes parked is class new_is small passes low stands marked =
    set_parked rows old new before lease p (fx_file p.file bytes) _ old.pkru parked is class new_is
    (set_is_private rows p table parked.valid Fx bytes small passes) stands own (set_of_same (mark_by (fx_file p.file bytes) (is_added p.marks)) (has_mark lease.area.bytes.items old.pkru) each)
  where
    table : IsLayout rows
    table = rw (parked.valid.file.rows_are) at parked.valid.file.is_file.layout

    own : part (fx_file p.file bytes) 9 ≡ pkru_bytes old.pkru
    own = fx_other p.file bytes parked.valid.file.is_file 9 (λ e. absurd (cc e)) (λ e. absurd (cc e)) ∙ parked.pkru

    marks_at : (c : ℕ) → (c ≡ 9 → ⊥) → has p.marks c ≡ (is_marked_in before.area.bytes.items c && is_known c)
    marks_at c other =
        ap (λ m. has m c) (parked.marks ∙ ap (λ o. marks_of o old.pkru) is) ∙ has_set_of (has_mark before.area.bytes.items old.pkru) component_numbers refl c
        ∙ ap (λ b. (if b then not (old.pkru == 0) else is_marked_in before.area.bytes.items c) && is_known c) (ne_eqb c 9 other)

    known : (m k z o : Bool) → (((m && k) || z || o) && k) ≡ ((m || z || o) && k)
    known true true z o = refl
    known true false true o = refl
    known true false false true = refl
    known true false false false = refl
    known false true z o = refl
    known false false true o = refl
    known false false false true = refl
    known false false false false = refl

    each : (c : ℕ) → (mark_by (fx_file p.file bytes) (is_added p.marks) c && is_known c) ≡ (has_mark lease.area.bytes.items old.pkru c && is_known c)
    each c = elim (cases_eq c 9) [
      | inl nine ↦ rw nine (ap (λ n. not (n == 0) && true) (pkru_is (fx_file p.file bytes) old.pkru low own))
      | inr other ↦
          ap (λ b. (if b then not (pkru_of (fx_file p.file bytes) == 0) else (has p.marks c || (c == 0) || (c == 1))) && is_known c) (ne_eqb c 9 other)
          ∙ ap (λ b. (b || (c == 0) || (c == 1)) && is_known c) (marks_at c other)
          ∙ known (is_marked_in before.area.bytes.items c) (is_known c) (c == 0) (c == 1) ∙ ap (λ b. b && is_known c) (sym (marked c))
          ∙ sym (ap (λ b. (if b then not (old.pkru == 0) else is_marked_in lease.area.bytes.items c) && is_known c) (ne_eqb c 9 other))
    ]
