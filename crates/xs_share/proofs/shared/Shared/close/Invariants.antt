use Rattle.std.proofs.Common.{length}
use Rattle.xs_share.proofs.Loops.{HasBack}
use Rattle.xs_share.proofs.shared.Shared.close.Given as goal

abbrev pub invariant-loop-slot : goal.invariant-loop-slot
invariant-loop-slot g l = HasBack l.fn.passes l.list.items l.keeper

abbrev pub decreases-loop-slot : goal.decreases-loop-slot
decreases-loop-slot g l = length l.list.items
