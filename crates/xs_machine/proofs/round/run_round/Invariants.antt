use Rattle.std.proofs.Common.{◌≡◌, ◌<◌, ◌≤◌, IsTrue, [], length, drop}
use Rattle.xs_board.specs.Board.{past_of}
use Rattle.xs_model.specs.Replay.{entries, schedule_of}
use Rattle.xs_machine.specs.Processors.{KeepProcessors}
use Rattle.xs_machine.specs.Running.{AreAt, IsRun, KeepsToSchedule}
use Rattle.xs_machine.proofs.Idle.{AreIdle}
use Rattle.xs_machine.proofs.round.run_round.Given as goal

abbrev pub invariant-entries : goal.invariant-entries
invariant-entries g l = record {
  none : l.lines.items ≡ [];
  run : IsRun l.script l.board;
  at : AreAt g.B.Bank.state l.script l.board l.turns l.procs;
  schedule : KeepsToSchedule l.script l.board;
  replay : entries l.script (past_of l.board) (drop l.at (schedule_of l.script.cpus l.script.sched)) ≡ entries l.script (past_of l.initial.board) (schedule_of l.script.cpus l.script.sched);
  many : length l.procs ≡ length l.initial.procs;
  room : length l.turns ≡ length l.initial.turns;
  kept : KeepProcessors l.initial.procs l.procs;
  others : drop l.script.cpus l.procs ≡ drop l.script.cpus l.initial.procs;
  more : length l.initial.board.history ≤ length l.board.history;
  grows : IsTrue l.moved → length l.initial.board.history < length l.board.history;
  idle : (IsTrue l.moved → ⊥) → AreIdle l.script l.at l.board;
}
