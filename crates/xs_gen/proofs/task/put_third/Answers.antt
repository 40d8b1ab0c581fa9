-- Each form of the line takes its own number of draws.
use Rattle.std.proofs.Common.{◌≡◌, ◌%◌, rules, arith}
use Rattle.xs_gen.proofs.DrawLemmas.{after_none, after_one}
use Rattle.xs_gen.proofs.task.put_third.Goals as goal

pub returns-in-0-clause-state : goal.returns-in-0-clause-state
returns-in-0-clause-state c = rw (c.in-0.is, after_none) (search rules)

pub returns-in-1-clause-state : goal.returns-in-1-clause-state
returns-in-1-clause-state c = rw (c.in-1.is, after_one) (search rules)

pub returns-in_default-clause-state : goal.returns-in_default-clause-state
returns-in_default-clause-state c = let last : c.args.round % 4 ≡ 3 = omega arith in rw (last, after_none) (search rules)
