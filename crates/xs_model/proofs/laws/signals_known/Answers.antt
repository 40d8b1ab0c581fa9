use Rattle.xs_model.proofs.SignalLaws.{threads_quiet}
use Rattle.xs_model.proofs.PendingLaws.{pending_rise}
use Rattle.xs_model.proofs.QuietLaws.{quiet_unless_alive}
use Rattle.xs_model.proofs.laws.signals_known.Goals as goal

pub returns-clause-threads : goal.returns-clause-threads
returns-clause-threads c = threads_quiet

pub returns-clause-rise : goal.returns-clause-rise
returns-clause-rise c = pending_rise

pub returns-clause-quiet : goal.returns-clause-quiet
returns-clause-quiet c = quiet_unless_alive
