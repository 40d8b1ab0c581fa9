-- The rounds from the opening to the last one.
use Rattle.std.proofs.Common.{◌≡◌, suc, ◌≤◌, IsTrue, List, length, refl, ap, ◌∙◌, arith}
use Rattle.std.proofs.lemmas.List.{length-reverse}
use Rattle.xs_board.specs.Board.{past_of}
use Rattle.xs_model.specs.Bound.{most_events}
use Rattle.xs_model.specs.declared.event.Event.{Event}
use Rattle.xs_model.specs.Replay.{entries, schedule_of}
use Rattle.xs_machine.proofs.Opening.{at_opened, banks_over, fewer_left, replay_opened, replay_over, rounds_more, run_opened, schedule_opened}
use Rattle.xs_machine.proofs.Rounds.{kept_twice}
use Rattle.xs_machine.proofs.schedule.run_schedule.Goals as goal

pub rounds-init : goal.rounds-init
rounds-init g c =
    let script = c.args.script.now in
    record {
      none = c.new-lines.ensures;
      run = run_opened script c.args.board c.requires.script c.requires.new c.requires.valid;
      at = at_opened script c.args.board c.requires.script c.requires.new g.B.Bank.state _ c.args.procs.now (refl, (refl, (refl, (refl, (refl, (refl, (refl, (refl, (refl, (refl, (refl, (refl, (refl, (refl, (refl, (refl, tt)))))))))))))))) c.requires.set_up;
      schedule = schedule_opened script c.args.board c.requires.script c.requires.new;
      replay = (0, replay_opened script c.args.board c.requires.new);
      many = refl;
      room = refl;
      kept = λ i before after was is. let same : before ≡ after = cc (was, is) in rw same (record { number = refl; layout = refl; initial = refl });
      others = refl;
    }

pub rounds-smaller : goal.rounds-smaller
rounds-smaller g c =
    let script = c.args.script.now in
    let now = c.run_round.ensures in
    let few : length (past_of c.run_round.new.board) ≤ most_events script = c.few_events.ensures script (past_of c.run_round.new.board) now.run.valid now.run.legal in
    fewer_left (most_events script) (length c.rounds.board.history) (length c.run_round.new.board.history) (now.grows c.rounds-test.true) (omega (arith, few, length-reverse c.run_round.new.board.history))

pub rounds-preserved : goal.rounds-preserved
rounds-preserved g c =
    let script = c.args.script.now in
    let now = c.run_round.ensures in
    let before = c.rounds.invariant in
    record {
      none = now.none;
      run = now.run;
      at = now.at;
      schedule = now.schedule;
      replay = (suc before.replay.0, now.replay ∙ ap (λ (p : List Event). entries script p (schedule_of script.cpus script.sched)) before.replay.1 ∙ rounds_more script before.replay.0);
      many = now.many ∙ before.many;
      room = now.room ∙ before.room;
      kept = kept_twice c.args.procs.now c.rounds.procs c.run_round.new.procs before.many before.kept now.kept;
      others = now.others ∙ before.others;
    }

pub returns-clause-replay : goal.returns-clause-replay
returns-clause-replay g c =
    let script = c.args.script.now in
    let now = c.run_round.ensures in
    let before = c.rounds.invariant in
    replay_over script c.run_round.new.board c.into_history.result (suc before.replay.0) c.into_history.ensures.events now.run
    (now.replay ∙ ap (λ (p : List Event). entries script p (schedule_of script.cpus script.sched)) before.replay.1 ∙ rounds_more script before.replay.0)
    (now.ended (λ (moved : IsTrue c.run_round.result). absurd (cc (moved, c.rounds-test.false))))

pub returns-clause-banks : goal.returns-clause-banks
returns-clause-banks g c = banks_over g.B.Bank.state c.args.script.now c.run_round.new.board c.into_history.result c.run_round.new.turns c.run_round.new.procs c.into_history.ensures.events c.run_round.ensures.at

pub returns-clause-kept : goal.returns-clause-kept
returns-clause-kept g c = kept_twice c.args.procs.now c.rounds.procs c.run_round.new.procs c.rounds.invariant.many c.rounds.invariant.kept c.run_round.ensures.kept
