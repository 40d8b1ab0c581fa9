use Rattle.std.proofs.Common.{◌≡◌, length}
use Rattle.xs_bench.proofs.repeats.repeat_copy.Given as goal

abbrev pub invariant-turns : goal.invariant-turns
invariant-turns l = (length l.from ≡ length l.initial.from) × (length l.to ≡ length l.initial.to)
