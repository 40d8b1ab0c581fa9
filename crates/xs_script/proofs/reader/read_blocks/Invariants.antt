-- The blocks have what is kept of the lines so far, and what is left comes after them.
use Rattle.std.proofs.Common.{◌+◌, ◌≤◌, length}
use Rattle.xs_script.specs.Body.{IsReadSoFar}
use Rattle.xs_script.proofs.reader.read_blocks.Given as goal

abbrev pub invariant-lines : goal.invariant-lines
invariant-lines l = record {
  read : IsReadSoFar l.scope l.first l.text l.body l.number l.left;
  room : l.number + length l.left ≤ l.first + length l.text;
}

abbrev pub decreases-lines : goal.decreases-lines
decreases-lines l = length l.left
