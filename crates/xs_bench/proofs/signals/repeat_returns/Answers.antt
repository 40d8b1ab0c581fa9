use Rattle.xs_bench.proofs.signals.repeat_returns.Goals as goal

pub sigreturn-requires-clause-armed : goal.sigreturn-requires-clause-armed
sigreturn-requires-clause-armed g c = λ lease at. (c.turns.invariant.ready c.turns.invariant.in_bank lease at).armed
