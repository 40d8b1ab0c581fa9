use Rattle.xs_bench.proofs.Changes.{CanBeTaken}
use Rattle.xs_bench.proofs.repeats.repeat_compact_of.Given as goal

abbrev pub invariant-turns : goal.invariant-turns
invariant-turns l = CanBeTaken l.layout l.image l.parts l.area.bytes.items
