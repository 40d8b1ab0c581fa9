-- None of the names so far is this one.
use Rattle.std.proofs.Common.{◌≡◌, ℕ, ◌<◌, map, slice_index_or}
use Rattle.xs_base.specs.Register.{Single}
use Rattle.xs_regs.specs.Names.{single_of}
use Rattle.xs_regs.proofs.register.find_alone.Given as goal

abbrev pub invariant-each : goal.invariant-each
invariant-each l = (k : ℕ) (s : Single) → k < l.single-index → slice_index_or (map single_of l.entries) k s ≡ s → l.name ≡ s.name → ⊥
