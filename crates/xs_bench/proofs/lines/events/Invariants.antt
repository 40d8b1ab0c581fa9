-- The task of each event so far is known.
use Rattle.xs_text.specs.Text.{AreTasksKnown}
use Rattle.xs_bench.proofs.lines.events.Given as goal

abbrev pub invariant-loop-n : goal.invariant-loop-n
invariant-loop-n l = AreTasksKnown l.script l.events.items
