-- The number of rows is the length of the table.
use Rattle.std.proofs.Common.{sym}
use Rattle.xs_layout.proofs.layout.Layout.len.Goals as goal

pub returns-clause-len : goal.returns-clause-len
returns-clause-len c = rw (← c.self.view_is) (sym c.self.invariant.len)
