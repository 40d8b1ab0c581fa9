-- Each part is that of the child.
use Rattle.std.proofs.Common.{◌∙◌, ap}
use Rattle.xs_base.specs.Component.{initial_part}
use Rattle.xs_base.specs.File.{File, with_part}
use Rattle.xs_base.specs.Task.{PrivateTask}
use Rattle.xs_private.proofs.TaskLemmas.{child_is}
use Rattle.xs_private.proofs.private.Private.bear.Goals as goal

pub returns : goal.returns
returns c =
    let file = ap (λ (p : PrivateTask). with_part p.file 18 (initial_part 18)) c.parent.view_is in
    child_is c.args.parent.now c.reset.new.self _ c.parent.inside.permitted _ _
    (c.reset.ensures.written ∙ ap (λ (f : File). with_part f 18 (initial_part 18)) c.copy_file.ensures ∙ file)
    c.marks_after-self-inside.ensures (ap (λ (p : PrivateTask). p.permitted) c.parent.view_is) c.clear_all.ensures c.clear_all-2.ensures
