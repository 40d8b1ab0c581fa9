-- The marks of a saved area are those after a turn.
use Rattle.xs_task.proofs.ParkLemmas.{parked_from}
use Rattle.xs_task.proofs.laws.a_saved_task_is_parked.Goals as goal

pub returns : goal.returns
returns c rows task private valid flag form some saved own value = parked_from rows task private valid flag form some saved own value
