use Rattle.xs_model.proofs.LegalTurns.{turns_known, turns_apart, turns_marked}
use Rattle.xs_model.proofs.laws.turns_known.Goals as goal

pub returns-clause-known : goal.returns-clause-known
returns-clause-known c = turns_known

pub returns-clause-apart : goal.returns-clause-apart
returns-clause-apart c = turns_apart

pub returns-clause-marked : goal.returns-clause-marked
returns-clause-marked c = turns_marked
