-- The head has the lines so far, and what is left comes after them.
use Rattle.std.proofs.Common.{◌≡◌, ◌+◌, ◌≤◌, length}
use Rattle.xs_script.specs.LineOrder.{AtVersion}
use Rattle.xs_script.specs.Front.{IsFront}
use Rattle.xs_script.specs.Head.{IsHead, head_stand, lines_of_head}
use Rattle.xs_script.proofs.reader.read_head.Given as goal

abbrev pub invariant-lines : goal.invariant-lines
invariant-lines l = record {
  head : IsHead l.head;
  front : IsFront AtVersion l.text (lines_of_head l.head) (head_stand l.head) l.left;
  next : l.number ≡ length (lines_of_head l.head) + 1;
  room : l.number + length l.left ≤ 1 + length l.text;
}

abbrev pub decreases-lines : goal.decreases-lines
decreases-lines l = length l.left
