-- The bytes so far are taken up.
use Rattle.std.proofs.Common.{◌≡◌, drop}
use Rattle.xs_base.specs.Trail.{mixed}
use Rattle.xs_bank.proofs.trail.mixed.Given as goal

abbrev pub invariant-each : goal.invariant-each
invariant-each l = mixed l.now (drop l.byte-index l.bytes) ≡ mixed l.trail l.bytes
