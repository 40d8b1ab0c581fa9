-- An empty schedule stands for the processors in order.
use Rattle.std.proofs.Common.{refl}
use Rattle.xs_machine.proofs.Schedules.{length_plain}
use Rattle.xs_machine.proofs.script.entries.Goals as goal

pub returns-then-is_empty : goal.returns-then-is_empty
returns-then-is_empty c = length_plain _ _ (c.if-is_empty.ensures.0 refl)
