-- An empty schedule stands for the processors in order.
use Rattle.std.proofs.Common.{arith, refl}
use Rattle.xs_machine.proofs.Schedules.{length_plain, at_plain}
use Rattle.xs_machine.proofs.script.entry_at.Goals as goal

pub overflow_cast-result : goal.overflow_cast-result
overflow_cast-result c = omega (arith, length_plain c.args.script.now.cpus c.args.script.now.sched (c.if-is_empty.ensures.0 refl))

pub returns-then-is_empty-clause-is : goal.returns-then-is_empty-clause-is
returns-then-is_empty-clause-is c = at_plain c.args.script.now.cpus c.args.script.now.sched c.args.at (c.if-is_empty.ensures.0 refl) c.requires.within

pub returns-then-is_empty-clause-known : goal.returns-then-is_empty-clause-known
returns-then-is_empty-clause-known c = omega (arith, length_plain c.args.script.now.cpus c.args.script.now.sched (c.if-is_empty.ensures.0 refl))
