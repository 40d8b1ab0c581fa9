use Rattle.std.proofs.Common.{◌≡◌, ◌≤◌, length, map, take}
use Rattle.std.specs.Prelude.{vec_capacity}
use Rattle.xs_board.specs.Opening.{first_member}
use Rattle.xs_board.proofs.opening.first_members.Given as goal

abbrev pub invariant-each : goal.invariant-each
invariant-each l = record {
  are : l.members.items ≡ map first_member (take l.block-index l.blocks);
  room : length l.blocks ≤ vec_capacity l.members;
}
