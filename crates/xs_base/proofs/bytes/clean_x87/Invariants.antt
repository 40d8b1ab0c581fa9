use Rattle.xs_base.proofs.ComponentLemmas.{IsCleanedTo}
use Rattle.xs_base.proofs.bytes.clean_x87.Given as goal

abbrev pub invariant-slots : goal.invariant-slots
invariant-slots l = IsCleanedTo l.at l.slot l.fn.out l.out
