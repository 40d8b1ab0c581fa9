use Rattle.xs_model.proofs.Bearing.{born_by_fork, unborn_unseen}
use Rattle.xs_model.proofs.Births.{fork_bears}
use Rattle.xs_model.proofs.laws.a_fork_bears.Goals as goal

pub returns-clause-bears : goal.returns-clause-bears
returns-clause-bears c = fork_bears

pub returns-clause-by_fork : goal.returns-clause-by_fork
returns-clause-by_fork c = born_by_fork

pub returns-clause-unseen : goal.returns-clause-unseen
returns-clause-unseen c = unborn_unseen
