-- A load of a processor's initial area.
use Rattle.std.proofs.Common.{◌≡◌, ℕ, ◌==◌, Bool, true, false, not, ◌&&◌, List, Some, sym, ap, ◌∙◌, inl, inr, arith, refl}
use Rattle.std.proofs.lemmas.Bool.{ne_eqb, false≢true, true≢false, cases_Bool}
use Rattle.xs_base.specs.declared.class.Class.TheVariants.{Small}
use Rattle.xs_base.specs.declared.component.Row.{Row}
use Rattle.xs_base.specs.File.{File, AreSameButPkru, part, initial_file, pkru_bytes}
use Rattle.xs_base.specs.Header.{xstate_bv, xcomp_bv}
use Rattle.xs_base.specs.KernelArea.{IsLoadable}
use Rattle.xs_base.specs.Layout.{IsLayout, has_row}
use Rattle.xs_base.specs.Sets.{has}
use Rattle.xs_base.specs.Task.{start_file, start_pkru}
use Rattle.xs_base.proofs.ClassLemmas.{has_class}
use Rattle.xs_base.proofs.FileLemmas.{initial_is_file, part_here, part_other}
use Rattle.xs_bank.specs.Bank.{Bank, IsReady, loaded_from, is_unmodified}
use Rattle.xs_bank.specs.Load.{IsStopped}
use Rattle.xs_bank.specs.declared.instruction.Trap.{Trap}

-- ---- the file of a start

pub start_pkru_is : (rows : List Row) → IsLayout rows → part (start_file rows) 9 ≡ pkru_bytes start_pkru
start_pkru_is rows table =
    let count = (initial_is_file rows table).count in
    part_here (initial_file rows) 9 (pkru_bytes start_pkru) (omega (arith, count))

pub start_same : (rows : List Row) (after : File) → AreSameButPkru (initial_file rows) after → AreSameButPkru (start_file rows) after
start_same rows after same = record {
  rows_are = same.rows_are;
  parts = λ c other. same.parts c other ∙ sym (part_other (initial_file rows) 9 c (pkru_bytes start_pkru) other);
  control = same.control;
}

-- ---- the initial area

-- no load of a Small area stops at tiles
pub never_stopped : (rows : List Row) (id armed mask : ℕ) (area : List ℕ) (trap : Trap) → IsLayout rows → IsLoadable rows Small id area → IsStopped armed mask area trap → ⊥
never_stopped rows id armed mask area trap table loadable stopped = elim (cases_Bool (has (xstate_bv area) 18)) [
  | inl on ↦ false≢true (sym (here (has_row rows 18)) ∙ sym (has_class rows Small table 18) ∙ loadable.bits 18 on)
  | inr off ↦ true≢false (sym stopped.0 ∙ last (has armed 18) (has mask 18) (has (xstate_bv area) 18) off)
]
  where
    here : (a : Bool) → (a && false) ≡ false
    here true = refl
    here false = refl

    last : (a b c : Bool) → (c ≡ false) → (a && b && c) ≡ false
    last true true c off = off
    last true false c off = refl
    last false b c off = refl

-- an area of another number isn't the one that was loaded
pub ready_other : (bank : Bank) (rows : List Row) (mask id m : ℕ) (loaded area : List ℕ) → bank.tracked ≡ Some (loaded_from rows 0 mask loaded) → (id ≡ 0 → ⊥) → IsReady bank id m area
ready_other bank rows mask id m loaded area tracked other i r row wanted same =
    absurd (false≢true (sym (ap (λ b. b && (xcomp_bv loaded == xcomp_bv area) && not (has (loaded_from rows 0 mask loaded).modified r.comp.0)) (ne_eqb 0 id (λ e. other (sym e)))) ∙ ap (λ t. is_unmodified t id (xcomp_bv area) r.comp.0) (sym tracked) ∙ same))
