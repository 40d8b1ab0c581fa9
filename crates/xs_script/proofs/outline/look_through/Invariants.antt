-- The outline is that of the lines so far, and what is left comes after them.
use Rattle.std.proofs.Common.{◌+◌, ◌≤◌, length}
use Rattle.xs_script.specs.Outline.{IsLooked}
use Rattle.xs_script.proofs.outline.look_through.Given as goal

abbrev pub invariant-lines : goal.invariant-lines
invariant-lines l = record {
  looked : IsLooked l.first l.text l.outline l.number l.left;
  room : l.number + length l.left ≤ l.first + length l.text;
}

abbrev pub decreases-lines : goal.decreases-lines
decreases-lines l = length l.left
