use Rattle.xs_model.proofs.LargeUsers.{lines_valid}
use Rattle.xs_model.proofs.StepLaws.{machine_known}
use Rattle.xs_model.proofs.MachineTasks.{tasks_valid}
use Rattle.xs_model.proofs.laws.machine_known.Goals as goal

pub returns-clause-known : goal.returns-clause-known
returns-clause-known c = machine_known

pub returns-clause-valid : goal.returns-clause-valid
returns-clause-valid c = tasks_valid

pub returns-clause-lines : goal.returns-clause-lines
returns-clause-lines c = lines_valid
