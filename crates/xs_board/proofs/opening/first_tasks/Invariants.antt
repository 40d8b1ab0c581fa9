use Rattle.std.proofs.Common.{◌≡◌, ◌+◌, ◌≤◌, length, drop}
use Rattle.std.specs.Prelude.{vec_capacity}
use Rattle.xs_board.specs.Opening.{users_in, AreFirst}
use Rattle.xs_board.proofs.opening.first_tasks.Given as goal

abbrev pub invariant-each : goal.invariant-each
invariant-each l = record {
  count : length l.tasks.items ≡ l.block-index;
  room : length l.blocks ≤ vec_capacity l.tasks;
  first : AreFirst l.layout l.blocks l.block-index l.tasks.items;
  rows : l.pool.rows ≡ l.initial.pool.rows;
  out : l.pool.small.out + users_in (drop l.block-index l.blocks) ≡ users_in l.blocks;
  capacity : l.pool.small.capacity ≡ l.initial.pool.small.capacity;
  large : l.pool.large ≡ l.initial.pool.large;
  given : l.pool.given ≡ l.pool.small.out;
}
