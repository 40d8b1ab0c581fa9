-- The marks are of the same components.
use Rattle.xs_tile.proofs.MarkLemmas.{grown_marks}
use Rattle.xs_tile.proofs.laws.growth_keeps_the_marks.Goals as goal

pub returns : goal.returns
returns c = grown_marks
