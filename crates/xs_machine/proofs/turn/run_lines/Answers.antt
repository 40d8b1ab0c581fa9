-- The lines run on from the Start.
use Rattle.std.proofs.Common.{arith}
use Rattle.xs_machine.proofs.EntryLemmas.{keeps_more}
use Rattle.xs_machine.proofs.turn.run_lines.Goals as goal

pub returns-in-Some-clause-over : goal.returns-in-Some-clause-over
returns-in-Some-clause-over g c = λ t cpu past before start are.
    let now = c.loop-close.invariant.each t cpu past before start are in
    c.in-Some.ensures.after t cpu past before start now.0 now.1

pub returns-in-Some-clause-kept : goal.returns-in-Some-clause-kept
returns-in-Some-clause-kept g c = keeps_more _ _ _ c.loop-close.invariant.kept c.in-Some.ensures.kept

pub loop-close-smaller : goal.loop-close-smaller
loop-close-smaller g c =
    let r = c.loop-close.invariant.some in
    let few = r.running.few in
    omega (arith, few, c.in_default.ensures.longer)

pub loop-close-preserved : goal.loop-close-preserved
loop-close-preserved g c =
    let r = c.loop-close.invariant.some in
    let next = c.in_default.ensures.after r.t r.c r.first r.before r.start r.private r.running in
    record {
      some = record { t = r.t; c = r.c; first = r.first; before = r.before; start = r.start; private = next.0; running = next.1 };
      each = λ t cpu past before start are.
          let now = c.loop-close.invariant.each t cpu past before start are in
          c.in_default.ensures.after t cpu past before start now.0 now.1;
      kept = keeps_more _ _ _ c.loop-close.invariant.kept c.in_default.ensures.kept;
    }
