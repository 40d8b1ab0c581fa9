-- A trail that takes up numbers.
use Rattle.std.proofs.Common.{◌≡◌, ℕ, ◌+◌, ◌*◌, ◌/◌, ◌%◌, ◌^◌, ◌<◌, ◌≤◌, List, length, get_or, drop, sym, ap, ◌∙◌, arith}
use Rattle.std.proofs.Math.Nat.{mod-add-div, add-mul-mod_self_left}
use Rattle.std.proofs.lemmas.List.{at_drop_more, at_drop_all}
use Rattle.xs_base.specs.Trail.{mix, mixed}

-- a remainder that is added to
pub mod_first : (a b m : ℕ) → (a % m + b) % m ≡ (a + b) % m
mod_first a b m =
    let whole = mod-add-div a m in
    let e : a + b ≡ (a % m + b) + m * (a / m) = ap (λ n. n + b) (sym whole) ∙ turn (a % m) (m * (a / m)) b in
    sym (ap (λ n. n % m) e ∙ add-mul-mod_self_left (a % m + b) m (a / m))
  where
    turn : (x y z : ℕ) → (x + y) + z ≡ (x + z) + y
    turn x y z = omega arith

-- the three wrapping steps are one
pub wrapped : (trail n : ℕ) → (((trail * 6364136223846793005) % 2 ^ 64 + n) % 2 ^ 64 + 1) % 2 ^ 64 ≡ mix trail n
wrapped trail n =
    mod_first ((trail * 6364136223846793005) % 2 ^ 64 + n) 1 (2 ^ 64)
    ∙ ap (λ x. x % 2 ^ 64) (turn ((trail * 6364136223846793005) % 2 ^ 64) n)
    ∙ mod_first (trail * 6364136223846793005) (n + 1) (2 ^ 64)
    ∙ ap (λ x. x % 2 ^ 64) (back (trail * 6364136223846793005) n)
  where
    turn : (x y : ℕ) → x + y + 1 ≡ x + (y + 1)
    turn x y = omega arith

    back : (x y : ℕ) → x + (y + 1) ≡ x + y + 1
    back x y = omega arith

-- one number more, and none left
pub mixed_more : (bytes : List ℕ) (i trail : ℕ) → i < length bytes → mixed trail (drop i bytes) ≡ mixed (mix trail (get_or bytes i 0)) (drop (i + 1) bytes)
unfolding mixed
mixed_more bytes i trail lt = at_drop_more (λ bs. mixed trail bs) bytes i 0 lt

pub mixed_all : (bytes : List ℕ) (i trail : ℕ) → length bytes ≤ i → mixed trail (drop i bytes) ≡ trail
unfolding mixed
mixed_all bytes i trail past = at_drop_all (λ bs. mixed trail bs) bytes i past
