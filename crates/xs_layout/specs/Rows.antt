-- The fields of a layout: its rows first, and then rows of nothing.
use Rattle.std.specs.Prelude.{◌≡◌, ℕ, ◌-◌, ◌≤◌, List, ◌++◌, length, take, replicate}
use Rattle.std.proofs.Common.{sym}
use Rattle.std.proofs.Math.Seq.{take-append_seam}
use Rattle.xs_base.specs.declared.component.Row.{Row}
use Rattle.xs_base.specs.Layout.{IsLayout, row, most_rows}
use Rattle.xs_layout.specs.declared.layout.Layout.TheInside.{Inside}

abbrev pub no_row : Row
no_row = row 0 0 0 0

-- the rows, and rows of nothing after them
unfoldable pub padded : List Row → List Row
padded rows = rows ++ replicate (most_rows - length rows) no_row

-- The first `count` rows are a machine's table, and the others are rows of nothing.
pub record AreRows (rows : List Row) (count : ℕ) : Type 0 where
  pub few : count ≤ most_rows
  pub len : length (take count rows) ≡ count
  pub layout : IsLayout (take count rows)
  pub rest : rows ≡ padded (take count rows)

inside : List Row → ℕ → Inside
inside rows count = record { rows = rows; count = count }

same_inside : (a b : List Row) (m n : ℕ) → a ≡ b → m ≡ n → inside a m ≡ inside b n
same_inside a b m n rows count = cc

-- the table gives the fields back
pub fields_back : (l : Inside) → AreRows l.rows l.count → record { rows = padded (take l.count l.rows); count = length (take l.count l.rows) } ≡ l
unfolding inside
fields_back l h = same_inside (padded (take l.count l.rows)) l.rows (length (take l.count l.rows)) l.count (sym h.rest) h.len

-- the rows come back from the fields
pub take_padded : (rows : List Row) → take (length rows) (padded rows) ≡ rows
unfolding padded
take_padded rows = take-append_seam rows (replicate (most_rows - length rows) no_row)
