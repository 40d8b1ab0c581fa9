use Rattle.xs_model.proofs.FamilySteps.{waits_for_child}
use Rattle.xs_model.proofs.laws.waits_known.Goals as goal

pub returns : goal.returns
returns c = waits_for_child
