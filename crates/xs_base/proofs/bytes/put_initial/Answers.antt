use Rattle.std.proofs.Common.{sym, ◌∙◌, arith}
use Rattle.std.proofs.lemmas.Bool.{eqb-true, eqb-false}
use Rattle.xs_base.proofs.ComponentLemmas.{x87_is, initial_x87_written, initial_other_written}
use Rattle.xs_base.proofs.bytes.put_initial.Goals as goal

pub put-requires : goal.put-requires
put-requires c = omega (arith, x87_is c.args.comp.0 c.args.size (eqb-true c.args.comp.0 0 (sym c.eq.ensures ∙ c.if-eq.true)) c.requires.size)

pub overflow_sub-size : goal.overflow_sub-size
overflow_sub-size c = omega (arith, x87_is c.args.comp.0 c.args.size (eqb-true c.args.comp.0 0 (sym c.eq.ensures ∙ c.if-eq.true)) c.requires.size)

pub clear-requires : goal.clear-requires
clear-requires c = omega (arith, x87_is c.args.comp.0 c.args.size (eqb-true c.args.comp.0 0 (sym c.eq.ensures ∙ c.if-eq.true)) c.requires.size)

pub returns-then-eq-clause-written : goal.returns-then-eq-clause-written
returns-then-eq-clause-written c =
    rw (c.clear.ensures.written, c.put.ensures.written) (initial_x87_written c.args.at c.args.comp.0 c.args.size c.args.out.now (eqb-true c.args.comp.0 0 (sym c.eq.ensures ∙ c.if-eq.true)) c.requires.size c.requires.within)

pub returns-else-eq-clause-written : goal.returns-else-eq-clause-written
returns-else-eq-clause-written c =
    rw c.clear-else-eq.ensures.written (initial_other_written c.args.at c.args.comp.0 c.args.size c.args.out.now (eqb-false c.args.comp.0 0 (sym c.eq.ensures ∙ c.if-eq.false)) c.requires.size)
