-- The task has the registers and the marks of the set.
use Rattle.std.proofs.Common.{◌∙◌, ap}
use Rattle.xs_base.specs.File.{initial_file}
use Rattle.xs_base.specs.Image.{image_file}
use Rattle.xs_base.specs.Task.{PrivateTask}
use Rattle.xs_private.proofs.SetLemmas.{xstate_is}
use Rattle.xs_private.proofs.private.Private.take_xstate.Goals as goal

pub returns : goal.returns
returns c =
    let file = c.take_image.new.file in
    let marks = c.marks_by-self-inside.result.0 in
    ap (λ (p : PrivateTask). record p { file = file; marks = marks }) c.self.view_is
    ∙ xstate_is c.args.self.now c.args.bytes.now c.in-Ok.parts file c.given.result.0 marks
    (c.take_image.ensures ∙ ap (λ (p : PrivateTask). image_file (initial_file p.file.rows) c.args.bytes.now c.in-Ok.parts) c.self.view_is)
    c.in-Ok.ensures.parts c.given.ensures c.marks_by-self-inside.ensures
