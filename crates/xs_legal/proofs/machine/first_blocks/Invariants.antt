-- The blocks so far are those of an opening.
use Rattle.std.proofs.Common.{◌≡◌, ◌≤◌, length, map, take}
use Rattle.std.specs.Prelude.{vec_capacity}
use Rattle.xs_model.specs.State.{opening_block}
use Rattle.xs_legal.proofs.machine.first_blocks.Given as goal

abbrev pub invariant-each : goal.invariant-each
invariant-each l = record {
  are : l.states.items ≡ map (opening_block l.script.layout) (take l.block-index l.blocks);
  room : length l.blocks ≤ vec_capacity l.states;
}
