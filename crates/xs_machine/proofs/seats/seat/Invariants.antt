-- The processors from the length of the list on have their passes.
use Rattle.std.proofs.Common.{length}
use Rattle.xs_machine.proofs.Seating.{AreSeated}
use Rattle.xs_machine.proofs.seats.seat.Given as goal

abbrev pub invariant-loop-pass : goal.invariant-loop-pass
invariant-loop-pass g l = AreSeated l.fn.list.items l.list.items l.fn.procs l.procs

abbrev pub decreases-loop-pass : goal.decreases-loop-pass
decreases-loop-pass g l = length l.list.items
