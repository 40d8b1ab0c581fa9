-- Rows without a fault are a machine's table.
use Rattle.std.proofs.Common.{sym, ◌∙◌}
use Rattle.xs_layout.proofs.layout.Layout.from_rows.Goals as goal

pub of_table-requires : goal.of_table-requires
of_table-requires c = sym c.layout_fault.ensures ∙ c.in_default.is
