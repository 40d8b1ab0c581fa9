-- The trail of a bank: a number that takes up each instruction, in order, with its operands. So two banks with one trail
-- have almost surely run the same instructions. This project's own.
use Rattle.std.specs.Prelude.{ℕ, ◌+◌, ◌-◌, ◌*◌, ◌%◌, ◌^◌, min, List, [], ◌∷◌}
use Rattle.xs_base.specs.declared.component.Place.{Place}

-- one number more
abbrev pub mix : ℕ → ℕ → ℕ
mix trail n = (trail * 6364136223846793005 + n + 1) % 2 ^ 64

unfoldable pub mixed : ℕ → List ℕ → ℕ
mixed trail [] = trail
mixed trail (n ∷ ns) = mixed (mix trail n) ns

-- the numbers of a read and of a write of a register, and of a release of the tiles
abbrev pub read_numbers : Place → List ℕ → List ℕ
read_numbers place bytes = 1 ∷ place.comp.0 ∷ place.offset ∷ bytes

abbrev pub write_numbers : Place → List ℕ → List ℕ
write_numbers place bytes = 2 ∷ place.comp.0 ∷ place.offset ∷ bytes

abbrev pub release_numbers : List ℕ
release_numbers = 3 ∷ []

-- a count that stays at its greatest value
abbrev pub counted : ℕ → ℕ
counted n = min (n + 1) (2 ^ 64 - 1)
