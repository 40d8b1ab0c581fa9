use Rattle.std.proofs.Common.{◌≡◌, drop}
use Rattle.xs_base.specs.Layout.{has_row, row_of}
use Rattle.xs_layout.proofs.layout.Layout.row.Given as goal

abbrev pub invariant-each : goal.invariant-each
invariant-each l = (has_row (drop l.i l.self) l.c.0 ≡ has_row l.self l.c.0) × (row_of (drop l.i l.self) l.c.0 ≡ row_of l.self l.c.0)
