use Rattle.xs_bench.proofs.SignalTurns.{IsOn}
use Rattle.xs_bench.proofs.signals.repeat_returns.Given as goal

abbrev pub invariant-turns : goal.invariant-turns
invariant-turns g l = IsOn g.B.Bank.state l.cpu l.task
