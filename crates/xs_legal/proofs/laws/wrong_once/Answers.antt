use Rattle.xs_legal.proofs.Rights.{step_right, one_wrong}
use Rattle.xs_legal.proofs.laws.wrong_once.Goals as goal

pub returns-clause-right : goal.returns-clause-right
returns-clause-right c = λ m event wrong step is. step_right m event step wrong is

pub returns-clause-once : goal.returns-clause-once
returns-clause-once c = λ m event one other a b. one_wrong m event one other a b
