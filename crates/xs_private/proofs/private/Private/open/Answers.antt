-- Each part is that of a task before its first turn.
use Rattle.std.proofs.Common.{◌∙◌, refl}
use Rattle.xs_base.specs.Task.{root_task}
use Rattle.xs_private.proofs.private.Private.open.Goals as goal

pub returns : goal.returns
unfolding root_task
returns c = c.park.ensures ∙ rw (c.in_ok-file.ensures, c.in_ok-zeroed.ensures, c.in_ok-zeroed-2.ensures) refl
