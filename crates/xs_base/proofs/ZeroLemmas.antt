-- Bytes that are zero throughout: the first is, and each other is as the one before it.
use Rattle.std.proofs.Common.{◌≡◌, inl, inr, ℕ, Some, ◌==◌, ◌&&◌, not, List, [], ◌∷◌, length, take, refl}
use Rattle.std.specs.List.{list_all, list_any}
use Rattle.std.specs.Prelude.{slice_get, drop}
use Rattle.std.specs.Str.{bytes_eq}
use Rattle.std.proofs.lemmas.Bool.{cases_eq, ne_eqb}

shifted : (b : ℕ) (bs : List ℕ) → ((b == 0) && bytes_eq bs (take (length bs) (b ∷ bs))) ≡ list_all (λ x. x == 0) (b ∷ bs)
shifted b [] = refl
shifted b (d ∷ ds) = elim (cases_eq b 0) [
  | inl same ↦ rw same (shifted d ds)
  | inr apart ↦ rw (ne_eqb b 0 apart) refl
]

pub zeros_by_shift : (bytes others before : List ℕ) (first : ℕ) → Some first ≡ slice_get bytes 0 → first ≡ 0 → others ≡ drop 1 bytes → before ≡ take (length others) bytes → bytes_eq others before ≡ list_all (λ x. x == 0) bytes
zeros_by_shift [] others before first at zero rest front = absurd cc
zeros_by_shift (b ∷ bs) others before first at zero rest front =
    let here : b ≡ 0 = cc in
    let tail : others ≡ bs = rest in
    rw (front, tail, here) (shifted 0 bs)

-- a byte isn't zero exactly where not all are
pub some_or_all : (bytes : List ℕ) → list_any (λ x. not (x == 0)) bytes ≡ not (list_all (λ x. x == 0) bytes)
some_or_all [] = refl
some_or_all (b ∷ bs) = elim (cases_eq b 0) [
  | inl same ↦ rw same (some_or_all bs)
  | inr apart ↦ rw (ne_eqb b 0 apart) refl
]
