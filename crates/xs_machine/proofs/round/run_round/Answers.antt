-- A round, entry by entry.
use Rattle.std.proofs.Common.{◌≡◌, ◌<◌, ◌≤◌, IsTrue, length, sym, ◌∙◌, arith}
use Rattle.xs_model.specs.Replay.{schedule_of}
use Rattle.xs_machine.proofs.Idle.{processor_at, entry_adds, idle_more, replay_more, round_over, schedule_kept, some_entries}
use Rattle.xs_machine.proofs.Rounds.{kept_twice}
use Rattle.xs_machine.proofs.round.run_round.Goals as goal
use Rattle.xs_machine.proofs.round.run_round.Goals.{then-moved, else-moved}

pub entries-preserved : goal.entries-preserved
entries-preserved g c =
    let before = c.entries.invariant in
    let now = c.run_at-made.ensures in
    let script = c.args.script.now in
    let within : c.entries.at < length (schedule_of script.cpus script.sched) = omega arith in
    let here : c.entry_at.result ≡ processor_at script c.entries.at = c.entry_at.ensures.is in
    let more : length c.entries.board.history ≤ length c.run_at-made.new.board.history = entry_adds script c.entry_at.result c.entries.board c.run_at-made.new.board c.run_at-made.result now.grows now.idle in
    record {
      none = now.none;
      run = now.run;
      at = now.at;
      schedule = schedule_kept script c.entries.at c.entry_at.result c.entries.board c.run_at-made.new.board within here now.turns before.schedule;
      replay = replay_more script _ _ _ c.entries.at c.entry_at.result within here now.replay before.replay;
      many = now.many ∙ before.many;
      room = now.room ∙ before.room;
      kept = kept_twice c.args.procs.now c.entries.procs c.run_at-made.new.procs before.many before.kept now.kept;
      others = now.others ∙ before.others;
      more = omega (arith, more, before.more);
      grows = elim c.if-moved.branch [
        | then-moved w ↦ λ moved. omega (arith, before.grows w.if-moved.true, more)
        | else-moved w ↦ λ moved. omega (arith, now.grows (sym w.moved-is ∙ moved), before.more)
      ];
      idle = elim c.if-moved.branch [
        | then-moved w ↦ λ still. absurd (still (w.moved-is ∙ w.if-moved.true))
        | else-moved w ↦ λ still. idle_more script c.entries.at c.entry_at.result c.entries.board c.run_at-made.new.board here (before.idle (λ (e : IsTrue c.entries.moved). absurd (cc (e, w.if-moved.false)))) (now.idle (λ (made : IsTrue c.run_at-made.result). still (w.moved-is ∙ made)))
      ];
    }

pub returns-clause-ended : goal.returns-clause-ended
returns-clause-ended g c still =
    let script = c.args.script.now in
    let all : c.entries.at ≡ length (schedule_of script.cpus script.sched) = omega arith in
    let some : 0 < c.entries.at = omega (arith, all, some_entries script.cpus script.sched c.requires.run.valid.cpus.0) in
    round_over c.never_stuck.ensures c.ready_once.ensures.nobody c.free_processors_known.ensures.tells script c.entries.board c.entries.at all some c.entries.invariant.run (c.entries.invariant.idle still) c.entries.invariant.schedule
