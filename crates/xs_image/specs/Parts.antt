-- The components that are taken of an image from outside.
use Rattle.std.specs.Prelude.{◌≡◌, ℕ, true}
use Rattle.xs_base.specs.declared.header.Parts.{Parts}
use Rattle.xs_base.specs.Component.{pkru_number}
use Rattle.xs_base.specs.Sets.{has}

-- The parts are of these components, PKRU aside.
abbrev pub AreOf : Parts → ℕ → Type 0
AreOf parts set = (c : ℕ) → (c ≡ pkru_number → ⊥) → has parts.bits.0 c ≡ true → has set c ≡ true
