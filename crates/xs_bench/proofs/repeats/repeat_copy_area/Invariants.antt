use Rattle.std.proofs.Common.{◌≤◌, length}
use Rattle.xs_bench.proofs.Changes.{CanBeRead}
use Rattle.xs_bench.proofs.repeats.repeat_copy_area.Given as goal

abbrev pub invariant-turns : goal.invariant-turns
invariant-turns l = CanBeRead l.layout l.from.bytes.items × (8192 ≤ length l.to.bytes.items)
