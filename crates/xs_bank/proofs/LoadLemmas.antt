-- Components loaded along the rows.
use Rattle.std.proofs.Common.{◌≡◌, inl, inr, ℕ, ◌+◌, ◌<◌, ◌≤◌, true, false, List, length, get_or, refl, sym, ap, subst, ◌∙◌, arith}
use Rattle.std.proofs.lemmas.Bool.{cases_eq, true≢false}
use Rattle.std.proofs.lemmas.List.{get_or_default}
use Rattle.xs_base.specs.declared.component.Row.{Row}
use Rattle.xs_base.specs.Area.{StandsAt}
use Rattle.xs_base.specs.Compact.{place}
use Rattle.xs_base.specs.Component.{initial_part}
use Rattle.xs_base.specs.File.{File, part}
use Rattle.xs_base.specs.Header.{xstate_bv, xcomp_bv}
use Rattle.xs_base.specs.Layout.{IsLayout}
use Rattle.xs_bank.specs.Load.{IsLoaded}
use Rattle.xs_base.specs.Sets.{has}
use Rattle.xs_base.proofs.LayoutLemmas.{same_index}
use Rattle.xs_base.proofs.RowLemmas.{row_index}
use Rattle.xs_bank.specs.Rows.{IsRowLoaded}

-- The components of the rows before `upto` have been loaded.
pub record IsLoadedTo (mask : ℕ) (area : List ℕ) (upto : ℕ) (before now : File) : Type 0 where
  pub rows_are : now.rows ≡ before.rows
  pub present : (j : ℕ) (r : Row) → j < upto → j < length before.rows → r ≡ get_or before.rows j r → has mask r.comp.0 ≡ true → has (xstate_bv area) r.comp.0 ≡ true → StandsAt area (place before.rows (xcomp_bv area) r) now r.comp.0
  pub absent : (j : ℕ) (r : Row) → j < upto → j < length before.rows → r ≡ get_or before.rows j r → has mask r.comp.0 ≡ true → has (xstate_bv area) r.comp.0 ≡ false → part now r.comp.0 ≡ initial_part r.comp.0
  pub others : (c : ℕ) → has mask c ≡ false → part now c ≡ part before c
  pub control : now.mxcsr ≡ before.mxcsr

pub loaded_none : (mask : ℕ) (area : List ℕ) (file : File) → IsLoadedTo mask area 0 file file
loaded_none mask area file = record {
  rows_are = refl;
  present = λ j r none lt is wanted on. absurd (omega arith);
  absent = λ j r none lt is wanted off. absurd (omega arith);
  others = λ c out. refl;
  control = refl;
}

module _ (mask : ℕ) (area : List ℕ) (i : ℕ) (before now : File) (r : Row) (lt : i < length before.rows) (is : r ≡ get_or before.rows i r) (h : IsLoadedTo mask area i before now) where
  same_row : (j : ℕ) (s : Row) → s ≡ get_or before.rows j s → j ≡ i → s ≡ r
  same_row j s at one = at ∙ ap (λ n. get_or before.rows n s) one ∙ get_or_default before.rows i s r lt ∙ sym is

  -- a row of the mask
  pub loaded_more : (new : File) (bits at : ℕ) → IsLayout before.rows → has mask r.comp.0 ≡ true → bits ≡ xstate_bv area → at ≡ place before.rows (xcomp_bv area) r → IsRowLoaded area bits at r.comp.0 now new → IsLoadedTo mask area (i + 1) before new
  loaded_more new bits at table wanted bits_are at_is row = record {
    rows_are = row.rows_are ∙ h.rows_are;
    present = λ j s below lt_j is_j w on. elim (cases_eq j i) [
      | inl one ↦ subst (λ (t : Row). StandsAt area (place before.rows (xcomp_bv area) t) new t.comp.0) (sym (same_row j s is_j one)) (here (subst (λ (t : Row). has (xstate_bv area) t.comp.0 ≡ true) (same_row j s is_j one) on))
      | inr apart ↦ λ k small own. h.present j s (omega arith) lt_j is_j w on k small own ∙ ap (λ l. get_or l k 0) (sym (kept j s lt_j is_j apart))
    ];
    absent = λ j s below lt_j is_j w off. elim (cases_eq j i) [
      | inl one ↦ subst (λ (t : Row). part new t.comp.0 ≡ initial_part t.comp.0) (sym (same_row j s is_j one)) (there (subst (λ (t : Row). has (xstate_bv area) t.comp.0 ≡ false) (same_row j s is_j one) off))
      | inr apart ↦ kept j s lt_j is_j apart ∙ h.absent j s (omega arith) lt_j is_j w off
    ];
    others = λ c out. row.others c (λ one. true≢false (sym wanted ∙ ap (has mask) (sym one) ∙ out)) ∙ h.others c out;
    control = row.control ∙ h.control;
  }
    where
      kept : (j : ℕ) (s : Row) → j < length before.rows → s ≡ get_or before.rows j s → (j ≡ i → ⊥) → part new s.comp.0 ≡ part now s.comp.0
      kept j s lt_j is_j apart = row.others s.comp.0 (λ one. apart (same_index before.rows table j i s r lt_j lt is_j is one))

      here : has (xstate_bv area) r.comp.0 ≡ true → StandsAt area (place before.rows (xcomp_bv area) r) new r.comp.0
      here on = subst (λ n. StandsAt area n new r.comp.0) at_is (row.present (ap (λ n. has n r.comp.0) bits_are ∙ on))

      there : has (xstate_bv area) r.comp.0 ≡ false → part new r.comp.0 ≡ initial_part r.comp.0
      there off = row.absent (ap (λ n. has n r.comp.0) bits_are ∙ off)

  -- a row outside the mask
  pub loaded_skip : has mask r.comp.0 ≡ false → IsLoadedTo mask area (i + 1) before now
  loaded_skip out = record {
    rows_are = h.rows_are;
    present = λ j s below lt_j is_j w on. elim (cases_eq j i) [
      | inl one ↦ absurd (no_row j s is_j one w)
      | inr apart ↦ h.present j s (omega arith) lt_j is_j w on
    ];
    absent = λ j s below lt_j is_j w off. elim (cases_eq j i) [
      | inl one ↦ absurd (no_row j s is_j one w)
      | inr apart ↦ h.absent j s (omega arith) lt_j is_j w off
    ];
    others = h.others;
    control = h.control;
  }
    where
      no_row : (j : ℕ) (s : Row) → s ≡ get_or before.rows j s → j ≡ i → has mask s.comp.0 ≡ true → ⊥
      no_row j s is_j one w = true≢false (sym w ∙ ap (λ (t : Row). has mask t.comp.0) (same_row j s is_j one) ∙ out)

-- no row is left
pub loaded_all : (mask : ℕ) (area : List ℕ) (i : ℕ) (before now : File) → length before.rows ≤ i → IsLoadedTo mask area i before now → IsLoaded mask area before.mxcsr before now
loaded_all mask area i before now past h = record {
  rows_are = h.rows_are;
  present = λ j r row w on. let at = row_index before.rows j r row in h.present j r (omega arith) at.0 at.1 w on;
  absent = λ j r row w off. let at = row_index before.rows j r row in h.absent j r (omega arith) at.0 at.1 w off;
  others = h.others;
  control_is = h.control;
}
