-- The rows of a script's machine, one after another, and the table that they are.
use Rattle.std.proofs.Common.{◌≡◌, ℕ, ◌≤◌, List, [], ◌∷◌, ◌++◌, length, Option, Some, None, Ok, Err, refl, ap}
use Rattle.xs_base.specs.declared.component.Row.{Row}
use Rattle.xs_base.specs.declared.layout_error.LayoutError.{LayoutError}
use Rattle.xs_base.specs.declared.layout_error.LayoutFault.{LayoutFault}
use Rattle.xs_base.specs.Layout.{row_error, first_row_fault, fault_or, layout_fault, table_error}
use Rattle.xs_base.proofs.LayoutLemmas.{few_in}
use Rattle.xs_script.specs.declared.refusal.Kind.TheVariants.{Layout}
use Rattle.xs_script.specs.declared.line.Line.TheVariants as lines
use Rattle.xs_script.specs.LineOrder.{AtRow, after_cpus, next}

-- rows that pass are nine at most
pub rows_few : (rows : List Row) → first_row_fault [] rows ≡ None → length rows ≤ 9
rows_few rows h = few_in rows h

fault_is : (e : Option LayoutError) (fault : LayoutFault) → fault_or None e None ≡ Some fault → e ≡ Some fault.error
fault_is None fault h = cc
fault_is (Some e) fault h =
    let same : record { row = None; error = e } ≡ fault = cc in
    ap Some (ap (λ (f : LayoutFault). f.error) same)

-- rows that pass and are no table fail as a whole
pub table_fails : (rows : List Row) (fault : LayoutFault) → first_row_fault [] rows ≡ None → layout_fault rows ≡ Some fault → table_error rows ≡ Some fault.error
unfolding layout_fault
table_fails rows fault h is = fault_is (table_error rows) fault (rw h at is)

-- ---- what a row, and the line after the rows, lead to

pub row_leads : (rows : List Row) (r : Row) → row_error rows r ≡ None → next (AtRow rows) (lines.Row r) ≡ Ok (AtRow (rows ++ r ∷ []))
row_leads rows r h = rw h refl

pub row_fails : (rows : List Row) (r : Row) (e : LayoutError) → row_error rows r ≡ Some e → next (AtRow rows) (lines.Row r) ≡ Err (Layout e)
row_fails rows r e h = rw h refl

pub rows_over : (rows : List Row) (n : ℕ) → table_error rows ≡ None → next (AtRow rows) (lines.Cpus n) ≡ after_cpus n
rows_over rows n h = rw h refl

pub table_over : (rows : List Row) (n : ℕ) (e : LayoutError) → table_error rows ≡ Some e → next (AtRow rows) (lines.Cpus n) ≡ Err (Layout e)
table_over rows n e h = rw h refl

pub no_rows : first_row_fault [] [] ≡ None
unfolding first_row_fault
no_rows = refl
