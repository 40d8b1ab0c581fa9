use Rattle.std.proofs.Common.{◌≡◌, ◌+◌, ◌≤◌, drop}
use Rattle.xs_board.specs.Opening.{users_in}
use Rattle.xs_board.proofs.opening.users.Given as goal

abbrev pub invariant-each : goal.invariant-each
invariant-each l = record {
  few : l.users ≤ l.block-index;
  so_far : l.users + users_in (drop l.block-index l.blocks) ≡ users_in l.blocks;
}
