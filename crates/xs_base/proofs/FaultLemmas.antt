-- The first row that fails, row after row.
use Rattle.std.proofs.Common.{◌≡◌, ℕ, ◌+◌, ◌<◌, ◌≤◌, List, [], ◌∷◌, ◌++◌, length, take, get_or, drop, Option, Some, None, append_assoc, refl, sym, ap, ◌∙◌, add-one, arith}
use Rattle.std.proofs.Math.Seq.{take-suc}
use Rattle.std.proofs.lemmas.List.{append-nil, at_drop_more, at_drop_all, length-take}
use Rattle.xs_base.specs.declared.component.Row.{Row}
use Rattle.xs_base.specs.declared.layout_error.LayoutError.{LayoutError}
use Rattle.xs_base.specs.declared.layout_error.LayoutFault.{LayoutFault}
use Rattle.xs_base.specs.Layout.{row_error, first_row_fault, fault_or, most_rows}
use Rattle.xs_base.proofs.LayoutLemmas.{row_fault_none, few_in}

first_none : (at : Option ℕ) (e : Option LayoutError) (later : Option LayoutFault) → e ≡ None → later ≡ None → fault_or at e later ≡ None
first_none at None later h l = l
first_none at (Some e) later h l = cc

push_from : (before rows : List Row) (r : Row) → first_row_fault before rows ≡ None → row_error (before ++ rows) r ≡ None → first_row_fault before (rows ++ r ∷ []) ≡ None
unfolding first_row_fault
push_from before [] r h e = first_none (Some (length before)) (row_error before r) None (rw append-nil at e) refl
push_from before (s ∷ rows) r h e =
    let parts = row_fault_none before s rows h in
    first_none (Some (length before)) (row_error before s) _ parts.0 (push_from (before ++ s ∷ []) rows r parts.1 (rw append_assoc e))

-- one row more that passes
pub rows_push : (rows : List Row) (r : Row) → first_row_fault [] rows ≡ None → row_error rows r ≡ None → first_row_fault [] (rows ++ r ∷ []) ≡ None
rows_push rows r h e = push_from [] rows r h e

-- The rows before place i have passed.
pub record IsChecked (rows : List Row) (i : ℕ) : Type 0 where
  pub rest : first_row_fault [] rows ≡ first_row_fault (take i rows) (drop i rows)
  pub passed : first_row_fault [] (take i rows) ≡ None
  pub within : i ≤ length rows

pub checked_none : (rows : List Row) → IsChecked rows 0
unfolding first_row_fault
checked_none rows = record { rest = refl; passed = refl; within = omega arith }

one_more : (rows : List Row) (i : ℕ) (r : Row) → i < length rows → r ≡ get_or rows i r → take (i + 1) rows ≡ take i rows ++ r ∷ []
one_more rows i r lt is = rw add-one (take-suc rows i r lt ∙ ap (λ (x : Row). take i rows ++ x ∷ []) (sym is))

fault_more : (rows : List Row) (i : ℕ) (r : Row) → i < length rows → r ≡ get_or rows i r → first_row_fault (take i rows) (drop i rows) ≡ fault_or (Some i) (row_error (take i rows) r) (first_row_fault (take (i + 1) rows) (drop (i + 1) rows))
unfolding first_row_fault
fault_more rows i r lt is =
    let at : length (take i rows) ≡ i = omega (arith, length-take i rows) in
    at_drop_more (first_row_fault (take i rows)) rows i r lt
    ∙ ap (λ (x : Row). first_row_fault (take i rows) (x ∷ drop (i + 1) rows)) (sym is)
    ∙ ap (λ n. fault_or (Some n) (row_error (take i rows) r) (first_row_fault (take i rows ++ r ∷ []) (drop (i + 1) rows))) at
    ∙ ap (λ (before : List Row). fault_or (Some i) (row_error (take i rows) r) (first_row_fault before (drop (i + 1) rows))) (sym (one_more rows i r lt is))

-- the row at place i fails
pub checked_found : (rows : List Row) (i : ℕ) (r : Row) (e : LayoutError) → i < length rows → r ≡ get_or rows i r → IsChecked rows i → row_error (take i rows) r ≡ Some e → first_row_fault [] rows ≡ Some (record { row = Some i; error = e })
checked_found rows i r e lt is h fails =
    (h.rest ∙ fault_more rows i r lt is) ∙ ap (λ (f : Option LayoutError). fault_or (Some i) f (first_row_fault (take (i + 1) rows) (drop (i + 1) rows))) fails

-- the row at place i passes
pub checked_more : (rows : List Row) (i : ℕ) (r : Row) → i < length rows → r ≡ get_or rows i r → IsChecked rows i → row_error (take i rows) r ≡ None → IsChecked rows (i + 1)
checked_more rows i r lt is h ok = record {
  rest = (h.rest ∙ fault_more rows i r lt is) ∙ ap (λ (f : Option LayoutError). fault_or (Some i) f (first_row_fault (take (i + 1) rows) (drop (i + 1) rows))) ok;
  passed = rw (one_more rows i r lt is) (rows_push (take i rows) r h.passed ok);
  within = omega arith;
}

-- every row has passed
pub checked_all : (rows : List Row) (i : ℕ) → length rows ≤ i → IsChecked rows i → first_row_fault [] rows ≡ None
unfolding first_row_fault
checked_all rows i le h = h.rest ∙ at_drop_all (first_row_fault (take i rows)) rows i le

-- no more rows pass than there are components
pub checked_few : (rows : List Row) (i : ℕ) → IsChecked rows i → i ≤ most_rows
checked_few rows i h = let within = h.within in omega (arith, few_in (take i rows) h.passed, length-take i rows)
