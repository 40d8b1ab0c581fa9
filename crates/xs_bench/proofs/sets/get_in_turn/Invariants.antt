use Rattle.std.proofs.Common.{◌≡◌, length, true}
use Rattle.xs_base.specs.Task.{buffer_length}
use Rattle.xs_task.specs.TaskArea.{IsTask}
use Rattle.xs_bench.proofs.sets.get_in_turn.Given as goal

abbrev pub invariant-turns : goal.invariant-turns
invariant-turns l = IsTask l.layout l.task × (l.task.need_load ≡ true) × (length l.out ≡ buffer_length)
