use Rattle.xs_model.proofs.TasksStay.{task_stays, others_keep}
use Rattle.xs_model.proofs.laws.task_stays.Goals as goal

pub returns-clause-stays : goal.returns-clause-stays
returns-clause-stays c = task_stays

pub returns-clause-keeps : goal.returns-clause-keeps
returns-clause-keeps c = others_keep
