-- The lines run on from the Start.
use Rattle.std.proofs.Common.{arith, sym, ap, ◌∙◌}
use Rattle.xs_share.specs.Passes.{name_of}
use Rattle.xs_model.specs.Script.{is_user}
use Rattle.xs_machine.proofs.Marks.{pass_now, pass_on, runs_now}
use Rattle.xs_machine.proofs.EntryLemmas.{keeps_more}
use Rattle.xs_machine.proofs.marking.run_marked_lines.Goals as goal

pub returns-in-Some-clause-over : goal.returns-in-Some-clause-over
returns-in-Some-clause-over g c = λ t cpu past before start are.
    let now = c.loop-close.invariant.each t cpu past before start are in
    c.in-Some.ensures.after t cpu past before start now.0 now.1

pub returns-in-Some-clause-kept : goal.returns-in-Some-clause-kept
returns-in-Some-clause-kept g c = keeps_more _ _ _ c.loop-close.invariant.kept c.in-Some.ensures.kept

pub run_marked_line-requires-clause-pass : goal.run_marked_line-requires-clause-pass
run_marked_line-requires-clause-pass g c = pass_now (name_of c.args.shared.now) c.args.cpu.now c.loop-close.cpu c.args.pass.now c.loop-close.pass c.loop-close.cpu.mark c.loop-close.invariant.kept c.loop-close.invariant.pass

pub run_marked_line-requires-clause-runs : goal.run_marked_line-requires-clause-runs
run_marked_line-requires-clause-runs g c = λ user.
    let now = c.loop-close.invariant in
    runs_now (name_of c.args.shared.now) c.args.cpu.now c.loop-close.cpu c.args.pass.now c.loop-close.pass c.loop-close.cpu.mark now.kept now.pass _ _ now.name (c.requires.runs (ap (is_user c.args.script.now) (sym now.name) ∙ user))

pub returns-in-Some-clause-pass : goal.returns-in-Some-clause-pass
returns-in-Some-clause-pass g c = pass_on (name_of c.args.shared.now) c.args.cpu.now c.loop-close.cpu c.args.pass.now c.loop-close.pass c.loop-close.cpu.mark c.loop-close.invariant.kept c.loop-close.invariant.pass c.run_marked_line.new.cpu.mark c.run_marked_line.new.pass c.in-Some.ensures.pass

pub loop-close-smaller : goal.loop-close-smaller
loop-close-smaller g c =
    let r = c.loop-close.invariant.some in
    let few = r.running.few in
    omega (arith, few, c.in_default.ensures.longer)

pub loop-close-preserved : goal.loop-close-preserved
loop-close-preserved g c =
    let r = c.loop-close.invariant.some in
    let next = c.in_default.ensures.after r.t r.c r.first r.before r.start r.private r.running in
    record {
      some = record { t = r.t; c = r.c; first = r.first; before = r.before; start = r.start; private = next.0; running = next.1 };
      each = λ t cpu past before start are.
          let now = c.loop-close.invariant.each t cpu past before start are in
          c.in_default.ensures.after t cpu past before start now.0 now.1;
      kept = keeps_more _ _ _ c.loop-close.invariant.kept c.in_default.ensures.kept;
      pass = pass_on (name_of c.args.shared.now) c.args.cpu.now c.loop-close.cpu c.args.pass.now c.loop-close.pass c.loop-close.cpu.mark c.loop-close.invariant.kept c.loop-close.invariant.pass c.run_marked_line.new.cpu.mark c.run_marked_line.new.pass c.in_default.ensures.pass;
      name = c.in_default.ensures.name ∙ c.loop-close.invariant.name;
    }
