use Rattle.std.proofs.Common.{◌≡◌}
use Rattle.xs_base.specs.declared.class.Class.TheVariants.{Large}
use Rattle.xs_task.specs.TaskArea.{IsTask, IsTaskArea}
use Rattle.xs_bench.proofs.growing.grow_in_turn.Given as goal

abbrev pub invariant-turns : goal.invariant-turns
invariant-turns l = IsTask l.layout l.first × IsTask l.layout l.second × IsTaskArea l.layout l.area × (l.area.class ≡ Large)
