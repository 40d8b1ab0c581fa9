-- What a run leaves: that of the schedule, over processors that are set up.
use Rattle.std.proofs.Common.{◌≡◌, length, ◌∙◌, arith}
use Rattle.xs_top.proofs.RunLemmas.{known_tasks, machine_kept, numbers_kept}
use Rattle.xs_top.proofs.running.run_by_schedule.Goals as goal

pub returns-clause-run : goal.returns-clause-run
returns-clause-run g c =
    let ran = c.run_schedule.ensures in
    let script = c.args.script.now in
    let len : length c.run_schedule.new.procs ≡ length c.set_up.new.procs = omega (arith, c.run_schedule.auto.procs, c.set_up.auto.procs) in
    record {
      whole = ran.whole;
      played = ran.replay;
      banks = ran.banks;
      machine = machine_kept g.B.Bank.state script c.set_up.new.procs c.run_schedule.new.procs len ran.kept c.set_up.ensures.set_up;
      others = ran.others ∙ c.set_up.ensures.others;
    }

pub returns-clause-tasks : goal.returns-clause-tasks
returns-clause-tasks g c =
    let legal = c.run_schedule.ensures.whole.legal in
    known_tasks c.args.script.now c.run_schedule.result (c.a_legal_history_has_a_text.ensures c.args.script.now c.run_schedule.result c.requires.valid legal)

pub returns-clause-numbers : goal.returns-clause-numbers
returns-clause-numbers g c =
    let len : length c.run_schedule.new.procs ≡ length c.set_up.new.procs = omega (arith, c.run_schedule.auto.procs, c.set_up.auto.procs) in
    numbers_kept c.set_up.new.procs c.run_schedule.new.procs len c.run_schedule.ensures.kept c.set_up.ensures.numbers
