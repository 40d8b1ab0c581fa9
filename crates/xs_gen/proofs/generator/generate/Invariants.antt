-- The text so far and the tasks that are left are the whole text.
use Rattle.std.proofs.Common.{◌≡◌, ◌-◌, ◌++◌}
use Rattle.xs_script.specs.Grammar.{lines_text}
use Rattle.xs_gen.specs.Generated.{generated_text, task_blocks}
use Rattle.xs_gen.proofs.generator.generate.Given as goal

abbrev pub invariant-loop-task : goal.invariant-loop-task
invariant-loop-task l = l.text.items ++ lines_text (task_blocks (64 - l.task) l.task l.draws.state) ≡ generated_text l.number
