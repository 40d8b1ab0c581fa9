use Rattle.std.proofs.Common.{sym, ◌∙◌, ap}
use Rattle.xs_script.specs.Refusal.{before}
use Rattle.xs_script.proofs.Cuts.{before_cut, before_all}
use Rattle.xs_script.proofs.words.before.Goals as goal

pub returns-in-Some : goal.returns-in-Some
returns-in-Some c = sym (ap (before c.args.byte) c.in-Some.ensures.1 ∙ before_cut c.args.byte _ _ c.in-Some.ensures.0)

pub returns-in-None : goal.returns-in-None
returns-in-None c = sym (before_all c.args.byte c.args.bytes.now c.in-None.ensures)
