use Rattle.xs_model.proofs.ShortTurns.{turns_short}
use Rattle.xs_model.proofs.FitSteps.{never_idle}
use Rattle.xs_model.proofs.laws.never_idle.Goals as goal

pub returns-clause-short : goal.returns-clause-short
returns-clause-short c = turns_short

pub returns-clause-next : goal.returns-clause-next
returns-clause-next c = never_idle
