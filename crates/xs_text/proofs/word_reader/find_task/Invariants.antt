-- The name is that of none of the blocks that were looked at.
use Rattle.std.proofs.Common.{◌≡◌, ℕ, ◌<◌}
use Rattle.xs_text.specs.Text.{name_of}
use Rattle.xs_text.proofs.word_reader.find_task.Given as goal

abbrev pub invariant-tasks : goal.invariant-tasks
invariant-tasks l = (k : ℕ) → k < l.task → l.name ≡ name_of l.script k → ⊥
