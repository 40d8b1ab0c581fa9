use Rattle.std.proofs.Common.{◌≡◌, true, sym, ◌∙◌}
use Rattle.xs_model.specs.Machine.{may_act}
use Rattle.xs_model.specs.Note.{task_of}
use Rattle.xs_legal.proofs.Rights.{judged}
use Rattle.xs_legal.proofs.judging.judge.Goals as goal

pub returns-in-Some : goal.returns-in-Some
returns-in-Some c = λ m script blocks committing known.
    let is = c.foreseen.ensures m script blocks known in
    let acts : may_act m.committing (task_of c.args.event.now) ≡ true = cc in
    judged m c.args.event.now c.in-Some.right c.compare.result acts (sym is ∙ c.in-Some.is) c.compare.ensures
