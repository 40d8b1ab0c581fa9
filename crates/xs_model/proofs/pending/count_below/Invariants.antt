use Rattle.std.proofs.Common.{◌≡◌, ◌+◌, drop}
use Rattle.xs_model.specs.Pending.{below}
use Rattle.xs_model.proofs.pending.count_below.Given as goal

abbrev pub invariant-each : goal.invariant-each
invariant-each l = record {
  number : l.count ≡ l.other-index;
  so_far : l.count + below l.signo (drop l.other-index l.signals) ≡ below l.signo l.signals;
}
