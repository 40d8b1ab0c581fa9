-- The longest so far or of those that are left is the longest of all.
use Rattle.std.proofs.Common.{◌≡◌, drop}
use Rattle.std.specs.Prelude.{max}
use Rattle.xs_model.specs.Bound as bound
use Rattle.xs_model.proofs.bound.longest_handler.Given as goal

abbrev pub invariant-each : goal.invariant-each
invariant-each l = max l.longest (bound.longest_handler (drop l.block-index l.blocks)) ≡ bound.longest_handler l.blocks
