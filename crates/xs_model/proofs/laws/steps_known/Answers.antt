use Rattle.xs_model.proofs.StepLaws.{start_is_step, local_is_step, outer_is_step, refusal_is_step, trap_is_step, end_is_step}
use Rattle.xs_model.proofs.laws.steps_known.Goals as goal

pub returns-clause-start : goal.returns-clause-start
returns-clause-start c = start_is_step

pub returns-clause-local : goal.returns-clause-local
returns-clause-local c = local_is_step

pub returns-clause-end : goal.returns-clause-end
returns-clause-end c = end_is_step

pub returns-clause-outer : goal.returns-clause-outer
returns-clause-outer c = outer_is_step

pub returns-clause-refused : goal.returns-clause-refused
returns-clause-refused c = refusal_is_step

pub returns-clause-trap : goal.returns-clause-trap
returns-clause-trap c = trap_is_step
