use Rattle.xs_check.proofs.Verdicts.{no_refusal}
use Rattle.xs_check.proofs.laws.no_refusal.Goals as goal

pub returns : goal.returns
returns c = no_refusal c.not_both.ensures
