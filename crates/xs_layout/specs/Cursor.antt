-- A cursor along the rows of a machine.
use Rattle.std.specs.Prelude.{◌≡◌, ℕ, List, take}
use Rattle.xs_base.specs.declared.component.Row.{Row}
use Rattle.xs_base.specs.Compact.{compact_end}
use Rattle.xs_layout.specs.declared.cursor.Cursor.{Cursor}

-- The cursor stands before row i: it knows where the components of the rows before that one end by its XCOMP_BV.
abbrev pub IsBefore : List Row → ℕ → Cursor → Type 0
IsBefore rows i cursor = cursor.end ≡ compact_end cursor.names.0 576 (take i rows)
