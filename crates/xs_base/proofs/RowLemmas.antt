-- The row of a component among the rows of a machine.
use Rattle.std.proofs.Common.{◌≡◌, ℕ, ◌+◌, ◌<◌, ◌≤◌, ◌==◌, ◌&&◌, ◌||◌, Bool, true, false, true≢false, not, List, [], ◌∷◌, length, get_or, drop, Some, None, if◌then◌else◌, refl, sym, ap, ◌∙◌, add-one, inl, inr, arith}
use Rattle.std.proofs.lemmas.Bool.{cases_Bool, eqb-true, eq-eqb, ne_eqb}
use Rattle.std.proofs.lemmas.Option.{same_Some, slice_get_within, get_or_from_slice_get}
use Rattle.std.proofs.lemmas.List.{at_drop_all}
use Rattle.xs_base.specs.declared.component.Row.{Row}
use Rattle.std.proofs.lemmas.List.{get_or_default}
use Rattle.std.specs.List.{list_any}
use Rattle.std.specs.Prelude.{slice_get}
use Rattle.xs_base.specs.declared.layout_error.LayoutError.TheVariants as errors
use Rattle.xs_base.specs.Layout.{IsLayout, IsRowOf, row_of, has_row, table_error}
use Rattle.xs_base.proofs.LayoutLemmas.{has_row_at, same_index, else_none, layout_parts}
use Rattle.xs_base.proofs.StandardLemmas.{one_row_more}

-- another component's row
pub row_of_more : (rows : List Row) (c i : ℕ) (r : Row) → i < length rows → r ≡ get_or rows i r → (r.comp.0 ≡ c → ⊥) → row_of (drop (i + 1) rows) c ≡ row_of (drop i rows) c
unfolding row_of
row_of_more rows c i r lt is other = sym (one_row_more (λ xs. row_of xs c) rows i r lt is ∙ rw (ne_eqb r.comp.0 c other) refl)

-- the component's own row
pub row_of_here : (rows : List Row) (c i : ℕ) (r : Row) → i < length rows → r ≡ get_or rows i r → r.comp.0 ≡ c → row_of (drop i rows) c ≡ Some r
unfolding row_of
row_of_here rows c i r lt is own = one_row_more (λ xs. row_of xs c) rows i r lt is ∙ rw (eq-eqb r.comp.0 c own) refl

-- no row is left
pub row_of_all : (rows : List Row) (c i : ℕ) → length rows ≤ i → row_of (drop i rows) c ≡ None
unfolding row_of
row_of_all rows c i past = at_drop_all (λ xs. row_of xs c) rows i past

-- what a look-up that finds a row tells
pub row_of_tells : (rows : List Row) (c : ℕ) (r : Row) → row_of rows c ≡ Some r → IsRowOf rows c r
unfolding row_of
row_of_tells [] c r found = cc
row_of_tells (s ∷ rows) c r found = elim (cases_Bool (s.comp.0 == c)) [
  | inl own ↦
      let same : s ≡ r = same_Some s r (let first : (if s.comp.0 == c then Some s else row_of rows c) ≡ Some s = rw own refl in sym first ∙ found) in
      record { index = 0; within = omega arith; is = sym same; number = ap (λ (x : Row). x.comp.0) (sym same) ∙ eqb-true s.comp.0 c own }
  | inr other ↦
      let later : (if s.comp.0 == c then Some s else row_of rows c) ≡ row_of rows c = rw other refl in
      let tells = row_of_tells rows c r (sym later ∙ found) in
      record { index = tells.index + 1; within = omega arith; is = rw add-one tells.is; number = tells.number }
]

-- ---- what the machine has

-- the row of a component that the machine has
pub row_found : (rows : List Row) (c : ℕ) → has_row rows c ≡ true → (r : Row) × (row_of rows c ≡ Some r)
unfolding has_row row_of
row_found [] c h = absurd (true≢false (sym h))
row_found (s ∷ rows) c h = elim (cases_Bool (s.comp.0 == c)) [
  | inl own ↦ (s, rw own refl)
  | inr other ↦
      let rest : (s.comp.0 == c || list_any (λ (r : Row). r.comp.0 == c) rows) ≡ list_any (λ (r : Row). r.comp.0 == c) rows = rw other refl in
      let later = row_found rows c (sym rest ∙ h) in
      (later.0, let skip : (if s.comp.0 == c then Some s else row_of rows c) ≡ row_of rows c = rw other refl in skip ∙ later.1)
]

-- a row is found by its number
pub row_of_at : (rows : List Row) → IsLayout rows → (i : ℕ) (r : Row) → i < length rows → r ≡ get_or rows i r → row_of rows r.comp.0 ≡ Some r
row_of_at rows table i r lt is =
    let found = row_found rows r.comp.0 (has_row_at rows i r lt is) in
    let tells = row_of_tells rows r.comp.0 found.0 found.1 in
    let one : tells.index ≡ i = same_index rows table tells.index i found.0 r tells.within lt tells.is is tells.number in
    let same : found.0 ≡ r = tells.is ∙ ap (λ n. get_or rows n found.0) one ∙ get_or_default rows i found.0 r lt ∙ sym is in
    found.1 ∙ ap (λ x. Some x) same

-- A machine has x87 and SSE.
pub has_x87 : (rows : List Row) → IsLayout rows → has_row rows 0 ≡ true
unfolding table_error
has_x87 rows table = both (has_row rows 0) (has_row rows 1) (else_none (not (has_row rows 0 && has_row rows 1)) errors.LegacyMissing _ (layout_parts rows table).1).0
  where
    both : (a b : Bool) → not (a && b) ≡ false → a ≡ true
    both true b h = refl
    both false b h = absurd (true≢false h)

pub has_sse : (rows : List Row) → IsLayout rows → has_row rows 1 ≡ true
unfolding table_error
has_sse rows table = both (has_row rows 0) (has_row rows 1) (else_none (not (has_row rows 0 && has_row rows 1)) errors.LegacyMissing _ (layout_parts rows table).1).0
  where
    both : (a b : Bool) → not (a && b) ≡ false → b ≡ true
    both true true h = refl
    both true false h = absurd (true≢false h)
    both false b h = absurd (true≢false h)

-- a look-up that finds a row, by its index
pub row_index : (rows : List Row) (i : ℕ) (r : Row) → slice_get rows i ≡ Some r → (i < length rows) × (r ≡ get_or rows i r)
row_index rows i r row = (slice_get_within rows i r row, sym (get_or_from_slice_get rows i r r row))
