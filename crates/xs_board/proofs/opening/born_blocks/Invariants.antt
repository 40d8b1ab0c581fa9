use Rattle.std.proofs.Common.{◌≡◌, ◌≤◌, ◌++◌, drop, length}
use Rattle.std.specs.VecDeque.{deque_capacity}
use Rattle.xs_board.specs.Opening.{born_from}
use Rattle.xs_board.proofs.opening.born_blocks.Given as goal

abbrev pub invariant-each : goal.invariant-each
invariant-each l = record {
  so_far : l.born.items ++ born_from l.block-index (drop l.block-index l.blocks) ≡ born_from 0 l.blocks;
  number : l.number ≡ l.block-index;
  few : length l.born.items ≤ l.block-index;
  room : length l.blocks ≤ deque_capacity l.born;
}
