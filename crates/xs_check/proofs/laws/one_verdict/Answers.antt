use Rattle.xs_check.proofs.Verdicts.{one_verdict}
use Rattle.xs_check.proofs.laws.one_verdict.Goals as goal

pub returns : goal.returns
returns c = one_verdict c.one_script.ensures c.one_refusal.ensures c.not_both.ensures c.one_history.ensures.events c.one_bad_line.ensures c.not_both-2.ensures
