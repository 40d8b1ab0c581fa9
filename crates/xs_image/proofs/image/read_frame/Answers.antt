-- An accepted frame has room in the task's area, and its MXCSR has no bit above 15.
use Rattle.std.proofs.Common.{bit_and}
use Rattle.xs_base.specs.declared.header.Origin.TheVariants.{Frame}
use Rattle.xs_base.proofs.AcceptedLemmas.{accepted_control}
use Rattle.xs_image.proofs.RoomLemmas.{legacy_room, passed_room}
use Rattle.xs_image.proofs.image.read_frame.Goals as goal

pub returns-then-is_legacy_only-clause-room : goal.returns-then-is_legacy_only-clause-room
returns-then-is_legacy_only-clause-room c = λ class is. legacy_room c.args.layout.now class c.legacy_parts.result c.len.ensures.layout c.legacy_parts.ensures.bits

pub returns-in-Ok-clause-small : goal.returns-in-Ok-clause-small
returns-in-Ok-clause-small c =
    let origin = Frame (record { 0 = bit_and c.xfeatures.result c.args.user.0 }) in
    rw (c.in-Ok.ensures.parts) (accepted_control origin c.args.user.0 c.args.frame.now c.in-Ok.ensures.error)

pub returns-in-Ok-clause-room : goal.returns-in-Ok-clause-room
returns-in-Ok-clause-room c = λ class is.
    let origin = Frame (record { 0 = bit_and c.xfeatures.result c.args.user.0 }) in
    rw (c.in-Ok.ensures.parts) (passed_room c.args.layout.now class c.args.user.0 origin c.args.frame.now c.len.ensures.layout is c.in-Ok.ensures.error)
