-- The lines so far and those that are left are all, and no more than the orders.
use Rattle.std.proofs.Common.{◌≡◌, ◌+◌, ◌≤◌, drop}
use Rattle.xs_model.specs.Bound as bound
use Rattle.xs_model.proofs.bound.kill_lines.Given as goal

abbrev pub invariant-each : goal.invariant-each
invariant-each l = record {
  few : l.kills ≤ l.order-index;
  so_far : l.kills + bound.kill_lines (drop l.order-index l.orders) ≡ bound.kill_lines l.orders;
}
