use Rattle.std.proofs.Common.{arith, ◌∙◌}
use Rattle.xs_script.proofs.ScheduleLines.{sched_on, words_explain}
use Rattle.xs_script.proofs.schedule.read_schedule.Goals as goal

pub returns-in-Err-clause-refused : goal.returns-in-Err-clause-refused
returns-in-Err-clause-refused c =
    let inv = c.lines.invariant in
    let cut = c.in-Some.ensures.words in
    words_explain c.args.cpus c.args.first c.lines.number c.args.text.now c.lines.left.now c.in-Some.words.now c.in-Some.rest.now c.lines.schedule c.in-Err.e inv.cpus inv.lines cut.1 cut.0 c.in-Err.ensures.refused

pub lines-preserved : goal.lines-preserved
lines-preserved c =
    let inv = c.lines.invariant in
    let cut = c.in-Some.ensures.words in
    let taken = c.in-Ok.ensures.taken in
    record {
      cpus = taken.cpus ∙ inv.cpus;
      lines = sched_on c.args.cpus c.args.first c.args.text.now c.lines.left.now c.in-Some.words.now c.in-Some.rest.now c.lines.number c.lines.schedule c.add_words.new.self inv.cpus inv.lines cut.1 taken;
      room = omega (arith, inv.room, c.in-Some.ensures.shorter);
    }
