-- The large ones so far and those that are left are all.
use Rattle.std.proofs.Common.{◌≡◌, ◌+◌, ◌≤◌, drop}
use Rattle.xs_model.specs.Due.{large_count}
use Rattle.xs_legal.proofs.due.count_large.Given as goal

abbrev pub invariant-each : goal.invariant-each
invariant-each l = record {
  few : l.count ≤ l.block-index;
  so_far : l.count + large_count (drop l.block-index l.blocks) ≡ large_count l.blocks;
}
