use Rattle.std.proofs.Common.{◌≡◌, ℕ, ◌-◌, [], length, drop}
use Rattle.xs_board.specs.Board.{past_of}
use Rattle.xs_model.specs.Bound.{most_events}
use Rattle.xs_model.specs.Replay.{rounds}
use Rattle.xs_machine.specs.Processors.{KeepProcessors}
use Rattle.xs_machine.specs.Running.{AreAt, IsRun, KeepsToSchedule}
use Rattle.xs_machine.proofs.schedule.run_schedule.Given as goal

abbrev pub invariant-rounds : goal.invariant-rounds
invariant-rounds g l = record {
  none : l.lines.items ≡ [];
  run : IsRun l.script l.board;
  at : AreAt g.B.Bank.state l.script l.board l.turns l.procs;
  schedule : KeepsToSchedule l.script l.board;
  replay : (n : ℕ) × (past_of l.board ≡ rounds l.script n);
  many : length l.procs ≡ length l.initial.procs;
  room : length l.turns ≡ 16;
  kept : KeepProcessors l.initial.procs l.procs;
  others : drop l.script.cpus l.procs ≡ drop l.script.cpus l.initial.procs;
}

abbrev pub decreases-rounds : goal.decreases-rounds
decreases-rounds g l = most_events l.script - length l.board.history
