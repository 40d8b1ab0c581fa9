-- The fields of a layout that is made of a table.
use Rattle.std.proofs.Common.{◌≤◌, List, length, sym, ap, subst}
use Rattle.xs_base.specs.declared.component.Row.{Row}
use Rattle.xs_base.specs.Layout.{IsLayout, most_rows}
use Rattle.xs_layout.specs.Rows.{AreRows, padded, take_padded}

pub are_rows : (rows : List Row) → IsLayout rows → length rows ≤ most_rows → AreRows (padded rows) (length rows)
are_rows rows h few = record {
  few = few;
  len = ap length (take_padded rows);
  layout = subst (λ (x : List Row). IsLayout x) (sym (take_padded rows)) h;
  rest = ap padded (sym (take_padded rows));
}
