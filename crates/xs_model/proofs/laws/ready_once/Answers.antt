use Rattle.xs_model.proofs.ReadySteps.{ready_once, first_ready, nobody_ready}
use Rattle.xs_model.proofs.laws.ready_once.Goals as goal

pub returns-clause-once : goal.returns-clause-once
returns-clause-once c = ready_once

pub returns-clause-first : goal.returns-clause-first
returns-clause-first c = first_ready

pub returns-clause-nobody : goal.returns-clause-nobody
returns-clause-nobody c = nobody_ready
