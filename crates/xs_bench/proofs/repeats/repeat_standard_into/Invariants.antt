use Rattle.xs_bench.proofs.Changes.{CanBeWritten}
use Rattle.xs_bench.proofs.repeats.repeat_standard_into.Given as goal

abbrev pub invariant-turns : goal.invariant-turns
invariant-turns l = CanBeWritten l.file l.mask.0 l.place l.out
