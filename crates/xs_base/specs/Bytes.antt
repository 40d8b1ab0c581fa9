-- Lists of bytes: zeros, one list written over a part of another, and a byte that is nowhere in a list.
use Rattle.std.specs.Prelude.{◌≡◌, ℕ, ◌+◌, Bool, ◌&&◌, nat_le, nat_lt, List, ◌++◌, length, take, drop, replicate}
use Rattle.std.specs.List.{AllByRecursion}

-- n bytes of 0
unfoldable pub zeros : ℕ → List ℕ
zeros n = replicate n 0

-- old, with new written over it from place `at` on
unfoldable pub splice : ℕ → List ℕ → List ℕ → List ℕ
splice at new old = take at old ++ (new ++ drop (at + length new) old)

-- i is one of n places from `at` on
abbrev pub is_within : ℕ → ℕ → ℕ → Bool
is_within at n i = nat_le at i && nat_lt i (at + n)

-- the byte is nowhere among the bytes
abbrev pub Lacks : ℕ → List ℕ → Type 0
Lacks byte bytes = AllByRecursion (λ b. b ≡ byte → ⊥) bytes
