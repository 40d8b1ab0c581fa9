use Rattle.xs_model.proofs.FamilySteps.{never_stuck}
use Rattle.xs_model.proofs.laws.never_stuck.Goals as goal

pub returns : goal.returns
returns c = never_stuck
