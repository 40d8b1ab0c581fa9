-- The places so far have no number.
use Rattle.std.proofs.Common.{◌≡◌, ◌≤◌, None}
use Rattle.std.specs.Prelude.{replicate, vec_capacity}
use Rattle.xs_legal.proofs.machine.no_numbers.Given as goal

abbrev pub invariant-each : goal.invariant-each
invariant-each l = record {
  are : l.numbers.items ≡ replicate l._place None;
  room : l.count ≤ vec_capacity l.numbers;
}
