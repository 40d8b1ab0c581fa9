-- The block of a step is one of the script's.
use Rattle.std.proofs.Common.{◌≡◌, ◌<◌, ap, ◌∙◌, length, arith}
use Rattle.xs_model.specs.Note.{task_of}
use Rattle.xs_legal.proofs.numbers.mark_left.Goals as goal

pub is_user-requires : goal.is_user-requires
is_user-requires c =
    let within : task_of c.args.event.now < length c.args.blocks.now = c.steps_told.ensures.within c.args.script.now c.args.blocks.now c.args.event.now c.requires in
    let count : length c.args.blocks.now ≡ length c.args.script.now.blocks = ap length c.requires.blocks_are ∙ (c.machine_known.ensures.known c.args.script.now c.requires.past).2 in
    let is = c.task_of-t.ensures in
    omega arith
