-- The words so far are entries, and what is left comes after them.
use Rattle.std.proofs.Common.{length}
use Rattle.xs_script.specs.Schedule.{TakesFront}
use Rattle.xs_script.proofs.schedule.Schedule.add_words.Given as goal

abbrev pub invariant-words : goal.invariant-words
invariant-words l = TakesFront l.fn.self l.words l.within l.self l.left

abbrev pub decreases-words : goal.decreases-words
decreases-words l = length l.left
