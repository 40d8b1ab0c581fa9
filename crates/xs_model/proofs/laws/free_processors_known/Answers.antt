use Rattle.xs_model.proofs.StepLaws.{free_tells, free_found}
use Rattle.xs_model.proofs.laws.free_processors_known.Goals as goal

pub returns-clause-tells : goal.returns-clause-tells
returns-clause-tells c = free_tells

pub returns-clause-found : goal.returns-clause-found
returns-clause-found c = free_found
