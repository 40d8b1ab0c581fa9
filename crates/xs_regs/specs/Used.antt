-- The set of the components in use, as a file keeps it: this is the project's own.
use Rattle.std.specs.Prelude.{◌≡◌, ℕ}
use Rattle.xs_base.specs.File.{File, in_use}
use Rattle.xs_base.specs.Sets.{has}

-- The set has the components of the file that are in use.
pub record HasUsed (file : File) (set : ℕ) : Type 0 where
  pub each : (c : ℕ) → has set c ≡ in_use file c
