-- The test of an initial component.
use Rattle.std.proofs.Common.{◌≡◌, ℕ, ◌==◌, ◌&&◌, Bool, true, false, List, [], ◌∷◌, length, take, drop, refl, sym, ap, ◌∙◌, arith}
use Rattle.std.specs.List.{list_all}
use Rattle.std.specs.Str.{bytes_eq}
use Rattle.xs_base.specs.Bytes.{zeros}
use Rattle.xs_base.specs.Component.{initial_part, component_size}
use Rattle.xs_base.proofs.ComponentLemmas.{x87_size, initial_x87, initial_other}

-- bytes that are all zero
pub zeros_test : (bytes : List ℕ) (n : ℕ) → length bytes ≡ n → bytes_eq bytes (zeros n) ≡ list_all (λ b. b == 0) bytes
unfolding zeros
zeros_test [] n len = rw (← len) refl
zeros_test (b ∷ bytes) n len = rw (← len) (ap (λ t. (b == 0) && t) (zeros_test bytes (length bytes) refl))

-- FCW and the other bytes of x87
pub x87_test : (bytes : List ℕ) → length bytes ≡ 160 → bytes_eq bytes (initial_part 0) ≡ (bytes_eq (take 2 bytes) (0x7f ∷ 0x03 ∷ []) && list_all (λ b. b == 0) (drop 2 bytes))
x87_test [] len = absurd (omega arith)
x87_test (a ∷ []) len = absurd (omega arith)
x87_test (a ∷ b ∷ rest) len = rw initial_x87 (regroup (a == 0x7f) (b == 0x03) (bytes_eq rest (zeros 158)) ∙ ap (λ t. ((a == 0x7f) && ((b == 0x03) && true)) && t) (zeros_test rest 158 (omega arith)))
  where
    regroup : (x y z : Bool) → (x && (y && z)) ≡ ((x && (y && true)) && z)
    regroup true true z = refl
    regroup true false z = refl
    regroup false y z = refl

pub other_test : (c : ℕ) (bytes : List ℕ) → (c ≡ 0 → ⊥) → length bytes ≡ component_size c → bytes_eq bytes (initial_part c) ≡ list_all (λ b. b == 0) bytes
other_test c bytes other len = rw (initial_other c other) (zeros_test bytes (component_size c) len)

pub x87_is : (c : ℕ) (bytes front others start : List ℕ) → c ≡ 0 → length bytes ≡ component_size c → front ≡ take 2 bytes → others ≡ drop 2 bytes → start ≡ 0x7f ∷ 0x03 ∷ [] → (bytes_eq front start && list_all (λ b. b == 0) others) ≡ bytes_eq bytes (initial_part c)
x87_is c bytes front others start zero size cut rest is =
    let len : length bytes ≡ 160 = size ∙ ap component_size zero ∙ x87_size in
    rw (cut, rest, is, zero) (sym (x87_test bytes len))
