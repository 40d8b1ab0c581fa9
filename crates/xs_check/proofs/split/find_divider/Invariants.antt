-- No line so far parts the input.
use Rattle.std.proofs.Common.{ℕ, ◌<◌}
use Rattle.xs_check.specs.Split.{IsDivider}
use Rattle.xs_check.proofs.split.find_divider.Given as goal

abbrev pub invariant-places : goal.invariant-places
invariant-places l = (i : ℕ) → i < l.at → IsDivider l.input i → ⊥
