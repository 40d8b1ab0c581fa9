use Rattle.xs_bench.proofs.Changes.{CanBeRead}
use Rattle.xs_bench.proofs.repeats.repeat_standard_of.Given as goal

abbrev pub invariant-turns : goal.invariant-turns
invariant-turns l = CanBeRead l.layout l.area.bytes.items
