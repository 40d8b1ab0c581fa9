-- The lines so far and those that are left are all.
use Rattle.std.proofs.Common.{◌≡◌, ◌+◌, drop}
use Rattle.xs_model.specs.Bound as bound
use Rattle.xs_model.proofs.bound.body_lines.Given as goal

abbrev pub invariant-each : goal.invariant-each
invariant-each l = l.lines + bound.body_lines (drop l.block-index l.blocks) ≡ bound.body_lines l.blocks
