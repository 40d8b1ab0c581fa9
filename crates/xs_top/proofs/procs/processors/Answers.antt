-- One processor more.
use Rattle.std.proofs.Common.{length, refl, sym, ◌∙◌, arith, length-append}
use Rattle.xs_top.proofs.NewProcessors.{IsNew, more_new}
use Rattle.xs_top.proofs.procs.processors.Goals as goal

pub each-init : goal.each-init
each-init c = rw c.new-procs.ensures.items (record { many = refl; each = λ i proc at. absurd (cc at) })

pub each-preserved : goal.each-preserved
each-preserved c =
    let made = c.in_ok-processor.ensures in
    let new : IsNew (length c.each.procs.items) c.in_ok-processor.field-0 = record {
      number_is = made.number ∙ sym c.each.invariant.many;
      execs = made.counts.execs;
      loads = made.counts.loads;
      saves = made.counts.saves;
    } in
    rw c.in_ok-push.ensures.items (record {
      many = simp length-append (omega (arith, c.each.invariant.many));
      each = more_new c.each.procs.items c.in_ok-processor.field-0 c.each.invariant.each new;
    })

pub returns-clause-many : goal.returns-clause-many
returns-clause-many c = omega (arith, c.each.invariant.many, c.each.auto.number-end, c.each-test.false)

pub returns-clause-numbers : goal.returns-clause-numbers
returns-clause-numbers c = λ i proc at. (c.each.invariant.each i proc at).number_is

pub returns-clause-counts : goal.returns-clause-counts
returns-clause-counts c = λ i proc at. let new = c.each.invariant.each i proc at in record { execs = new.execs; loads = new.loads; saves = new.saves }
