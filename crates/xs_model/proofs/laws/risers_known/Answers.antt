use Rattle.xs_model.proofs.OuterRisers.{outer_rises, end_rises, kill_rises}
use Rattle.xs_model.proofs.RiserLaws.{start_takes, local_keeps, local_rises, grow_rises}
use Rattle.xs_model.proofs.laws.risers_known.Goals as goal

pub returns-clause-start : goal.returns-clause-start
returns-clause-start c = start_takes

pub returns-clause-goes_on : goal.returns-clause-goes_on
returns-clause-goes_on c = local_keeps

pub returns-clause-ends : goal.returns-clause-ends
returns-clause-ends c = local_rises

pub returns-clause-outer : goal.returns-clause-outer
returns-clause-outer c = outer_rises

pub returns-clause-end : goal.returns-clause-end
returns-clause-end c = end_rises

pub returns-clause-kill : goal.returns-clause-kill
returns-clause-kill c = kill_rises

pub returns-clause-grow : goal.returns-clause-grow
returns-clause-grow c = grow_rises
