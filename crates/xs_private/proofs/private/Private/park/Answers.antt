-- The marks are those after a turn.
use Rattle.std.proofs.Common.{refl}
use Rattle.xs_base.specs.Task.{marks_after}
use Rattle.xs_private.proofs.private.Private.park.Goals as goal

pub returns : goal.returns
unfolding marks_after
returns c = rw (← c.self.view_is, c.marks_after-self-inside.ensures) refl
