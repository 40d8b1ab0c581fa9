-- The name is none of the families so far.
use Rattle.std.proofs.Common.{◌≡◌, ℕ, ◌<◌, map, slice_index_or}
use Rattle.xs_base.specs.declared.component.Place.{Place}
use Rattle.xs_base.specs.Register.{Family, IsMember}
use Rattle.xs_regs.specs.Names.{family_of}
use Rattle.xs_regs.proofs.register.find_numbered.Given as goal

abbrev pub invariant-each : goal.invariant-each
invariant-each l = (k : ℕ) (f : Family) → k < l.family-index → slice_index_or (map family_of l.entries) k f ≡ f → (place : Place) × IsMember l.name place f → ⊥
