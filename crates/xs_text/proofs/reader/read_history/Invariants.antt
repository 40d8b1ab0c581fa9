-- The history has the events of the lines so far, and what is left comes after them.
use Rattle.std.proofs.Common.{◌≡◌, ◌+◌, ◌≤◌, length}
use Rattle.xs_text.proofs.FirstBad.{IsFrontOf}
use Rattle.xs_text.proofs.reader.read_history.Given as goal

abbrev pub invariant-lines : goal.invariant-lines
invariant-lines l = record {
  front : IsFrontOf l.script l.text l.history l.left;
  few : length l.history ≤ 1048576;
  next : l.number ≡ length l.history + 1;
}

abbrev pub decreases-lines : goal.decreases-lines
decreases-lines l = length l.left
