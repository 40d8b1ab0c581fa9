-- After the delivery the bank is still armed for the task.
use Rattle.std.proofs.Common.{ap, ◌∙◌}
use Rattle.xs_task.specs.declared.task.Task.{Task}
use Rattle.xs_bench.proofs.signals.repeat_both.Goals as goal

pub sigreturn-requires-clause-armed : goal.sigreturn-requires-clause-armed
sigreturn-requires-clause-armed g c = λ lease at.
    (c.deliver.ensures.ready (ap (λ (t : Task). t.need_load) c.deliver.ensures.task ∙ c.turns.invariant.in_bank) lease at).armed
