-- The processors below the place gave their passes.
use Rattle.xs_machine.proofs.Seating.{AreCollected}
use Rattle.xs_machine.proofs.seats.collect.Given as goal

abbrev pub invariant-loop-place : goal.invariant-loop-place
invariant-loop-place g l = AreCollected l.list.items l.fn.procs l.procs l.place
