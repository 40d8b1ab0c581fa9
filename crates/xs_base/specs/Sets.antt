-- A set of components is a number: component c is in it where bit c is 1 (SDM volume 1, 13.1).
use Rattle.std.specs.Prelude.{ℕ, Bool, ◌==◌}
use Rattle.std.specs.Int.{bit_at}

-- the set has component c
abbrev pub has : ℕ → ℕ → Bool
has set c = bit_at set c == 1
