-- Its parts are the initial ones, and MXCSR is initial.
use Rattle.xs_base.proofs.TaskLemmas.{initial_is_valid}
use Rattle.xs_base.proofs.task.the_initial_file_is_valid.Goals as goal

pub returns : goal.returns
returns c = initial_is_valid
