-- The lines so far and those that are left are all, and no more than the lines of bodies.
use Rattle.std.proofs.Common.{◌≡◌, ◌+◌, ◌≤◌, drop}
use Rattle.xs_model.specs.Bound as bound
use Rattle.xs_model.proofs.bound.all_kill_lines.Given as goal

abbrev pub invariant-each : goal.invariant-each
invariant-each l = record {
  so_far : l.kills + bound.all_kill_lines (drop l.block-index l.blocks) ≡ bound.all_kill_lines l.blocks;
  few : l.kills + bound.body_lines (drop l.block-index l.blocks) ≤ bound.body_lines l.blocks;
}
