use Rattle.xs_model.proofs.FamilySteps.{few_events}
use Rattle.xs_model.proofs.laws.few_events.Goals as goal

pub returns : goal.returns
returns c = few_events
