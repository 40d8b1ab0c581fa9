-- An accepted image has room in the task's area.
use Rattle.xs_base.specs.declared.header.Origin.TheVariants.{Regset}
use Rattle.xs_image.proofs.RoomLemmas.{passed_room}
use Rattle.xs_image.proofs.checking.read_xstate.Goals as goal

pub returns-in-Ok-clause-room : goal.returns-in-Ok-clause-room
returns-in-Ok-clause-room c = λ class is. rw (c.in-Ok.ensures.parts) (passed_room c.args.layout.now class c.args.user.0 Regset c.args.bytes.now c.len.ensures.layout is c.in-Ok.ensures.error)
