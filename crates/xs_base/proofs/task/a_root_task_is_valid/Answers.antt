-- Its parts are initial but for PKRU, and its memories are zero.
use Rattle.xs_base.proofs.TaskLemmas.{root_is_private}
use Rattle.xs_base.proofs.task.a_root_task_is_valid.Goals as goal

pub returns : goal.returns
returns c = root_is_private
