-- The lines of a turn, one after another.
use Rattle.xs_board.proofs.Running.{one_more, one_more_task, last_one, at_outer, at_refused, at_trap, at_end}
use Rattle.xs_board.proofs.laws.lines_follow.Goals as goal

pub returns-clause-more : goal.returns-clause-more
returns-clause-more c = one_more

pub returns-clause-last : goal.returns-clause-last
returns-clause-last c = last_one

pub returns-clause-last_task : goal.returns-clause-last_task
returns-clause-last_task c = one_more_task

pub returns-clause-outer : goal.returns-clause-outer
returns-clause-outer c = at_outer

pub returns-clause-refused : goal.returns-clause-refused
returns-clause-refused c = at_refused

pub returns-clause-trap : goal.returns-clause-trap
returns-clause-trap c = at_trap

pub returns-clause-end : goal.returns-clause-end
returns-clause-end c = at_end
