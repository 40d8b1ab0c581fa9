-- Where a signal stands among those that are pending.
use Rattle.std.specs.Prelude.{ℕ, suc, ◌==◌, Bool, false, List, [], ◌∷◌, nat_lt, Option, Some, None, if◌then◌else◌}
use Rattle.xs_base.specs.declared.words.Signo.{Signo}

-- how many signals stand before its place
abbrev pub below : Signo → List Signo → ℕ
below signo [] = 0
below signo (other ∷ pending) = if nat_lt other.number signo.number then suc (below signo pending) else 0

-- the signal is this one
abbrev pub is_signal : Option Signo → Signo → Bool
is_signal None signo = false
is_signal (Some other) signo = other.number == signo.number
