-- One component of a file loaded or made initial (SDM volume 1, 13.8 and 13.12), for the crate's own loop.
use Rattle.std.specs.Prelude.{◌≡◌, ℕ, true, false, List}
use Rattle.xs_base.specs.Area.{StandsAt}
use Rattle.xs_base.specs.Component.{initial_part}
use Rattle.xs_base.specs.File.{File, part}
use Rattle.xs_base.specs.Sets.{has}

-- Component c comes from place `at` of the area where it is of the bits, and is initial where it isn't; nothing else changed.
pub record IsRowLoaded (area : List ℕ) (bits at c : ℕ) (old new : File) : Type 0 where
  pub rows_are : new.rows ≡ old.rows
  pub present : has bits c ≡ true → StandsAt area at new c
  pub absent : has bits c ≡ false → part new c ≡ initial_part c
  pub others : (d : ℕ) → (d ≡ c → ⊥) → part new d ≡ part old d
  pub control : new.mxcsr ≡ old.mxcsr
