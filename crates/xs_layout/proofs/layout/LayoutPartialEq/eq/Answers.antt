-- The rows and their number are those of the table.
use Rattle.xs_layout.proofs.layout.LayoutPartialEq.eq.Goals as goal

pub returns : goal.returns
returns c = cc
