-- Sets of components: a set one component larger, and what is in a set that a test makes.
use Rattle.std.proofs.Common.{◌≡◌, ◌⊎◌, inl, inr, ℕ, zero, suc, ◌+◌, ◌*◌, ◌/◌, ◌%◌, ◌^◌, ◌-◌, ◌<◌, ◌≤◌, Bool, true, false, not, ◌&&◌, ◌||◌, ◌==◌, List, [], ◌∷◌, if◌then◌else◌, bit_and, bit_or, w64, refl, sym, ap, ◌∙◌, add-one, zero-add, arith}
use Rattle.std.specs.Int.{bit_at, bit_not}
use Rattle.std.specs.List.{list_any}
use Rattle.std.proofs.lemmas.Nat.{shr_split}
use Rattle.std.proofs.Math.Nat.{suc-mul}
use Rattle.std.proofs.Math.Nat.{mod-lt}
use Rattle.std.proofs.lemmas.Nat.{pow_pos}
use Rattle.std.proofs.lemmas.Bool.{cases_eq, cases_lt, ne_eqb, and_parts}
use Rattle.std.proofs.lemmas.Bool.Decides.{nat_tests}
use Rattle.std.proofs.lemmas.Nat.Bits.{bit_at_above, bit_at_and, bit_at-zero, bit_at-lt, same_from_bits, bit_at-suc, bit_at_cat_low, bit_at_cat_high, bit_at_set_same, bit_at_set_other, bit_at_clear_same, bit_at_clear_other}
use Rattle.xs_base.specs.Sets.{has}
use Rattle.xs_base.specs.Layout.{set_of}

-- nothing is in the empty set
pub has_none : (c : ℕ) → has 0 c ≡ false
has_none c = rw (bit_at-zero c) refl

-- one more than an even number has the bits of that number from 1 on
even_more : (q j : ℕ) → q % 2 ≡ 0 → bit_at (q + 1) (suc j) ≡ bit_at q (suc j)
even_more q j even = let half : (q + 1) / 2 ≡ q / 2 = omega arith in (bit_at-suc (q + 1) j ∙ ap (λ n. bit_at n j) half) ∙ sym (bit_at-suc q j)

-- the bits of a number from bit k on, which is 0, and after that bit is set
upper : (q j : ℕ) → q % 2 ≡ 0 → bit_at (q + 1) j ≡ (if j == 0 then 1 else bit_at q j)
upper q zero even = omega arith
upper q (suc j) even = let no : (suc j == 0) ≡ false = ne_eqb (suc j) 0 (λ e. omega arith) in rw no (even_more q j even)

-- a number by its bits from k on and those below k
split_at : (m k i : ℕ) → i < k → bit_at m i ≡ bit_at (m % 2 ^ k) i
split_at m k i lt = ap (λ n. bit_at n i) (sym (shr_split m k)) ∙ bit_at_cat_low (m / 2 ^ k) k (m % 2 ^ k) i lt

more_upper : (m k : ℕ) → 2 ^ k + m ≡ (m / 2 ^ k + 1) * 2 ^ k + m % 2 ^ k
more_upper m k = let whole = shr_split m k in let next : (m / 2 ^ k + 1) * 2 ^ k ≡ m / 2 ^ k * 2 ^ k + 2 ^ k = rw add-one (suc-mul (m / 2 ^ k) (2 ^ k)) in omega arith

below_added : (m k i : ℕ) → i < k → bit_at (2 ^ k + m) i ≡ bit_at m i
below_added m k i lt =
    rw (more_upper m k) (bit_at_cat_low (m / 2 ^ k + 1) k (m % 2 ^ k) i lt ∙ sym (split_at m k i lt))

above_added : (m k i : ℕ) → k ≤ i → bit_at m k ≡ 0 → bit_at (2 ^ k + m) i ≡ (if i - k == 0 then 1 else bit_at m i)
above_added m k i ge h =
    let low : m % 2 ^ k < 2 ^ k = mod-lt m (pow_pos k) in
    let here : bit_at m i ≡ bit_at (m / 2 ^ k) (i - k) = ap (λ n. bit_at n i) (sym (shr_split m k)) ∙ bit_at_cat_high (m / 2 ^ k) k (m % 2 ^ k) i low ge in
    rw (more_upper m k, here) (bit_at_cat_high (m / 2 ^ k + 1) k (m % 2 ^ k) i low ge ∙ upper (m / 2 ^ k) (i - k) h)

-- to add the power of a component that isn't in the set adds that component alone
pub has_added : (m k i : ℕ) → has m k ≡ false → has (2 ^ k + m) i ≡ (has m i || (i == k))
has_added m k i h =
    let off : bit_at m k ≡ 0 = grind (arith, nat_tests, bit_at-lt m k) in
    let lt = bit_at-lt m i in
    here off lt (cases_lt i k)
  where
    here : bit_at m k ≡ 0 → bit_at m i < 2 → (i < k) ⊎ (k ≤ i) → has (2 ^ k + m) i ≡ (has m i || (i == k))
    here off lt (inl below) = rw (below_added m k i below) (grind (arith, nat_tests))
    here off lt (inr above) = rw (above_added m k i above off) (grind (arith, nat_tests))

-- no number stands twice in the list
abbrev pub are_distinct : List ℕ → Bool
are_distinct [] = true
are_distinct (c ∷ cs) = not (list_any (λ k. k == c) cs) && are_distinct cs

distinct_parts : (any rest : Bool) → (not any && rest) ≡ true → (any ≡ false) × (rest ≡ true)
distinct_parts true rest h = cc
distinct_parts false rest h = (refl, h)

or_false : (b : Bool) → (b && false) ≡ false
or_false true = refl
or_false false = refl

joined : (t o : Bool) (i c : ℕ) → (i ≡ c → t ≡ true) → ((t && o) || (i == c)) ≡ (t && ((c == i) || o))
joined t o i c h = grind (arith, nat_tests)

left_out : (t o : Bool) (i c : ℕ) → (i ≡ c → t ≡ false) → (t && o) ≡ (t && ((c == i) || o))
left_out t o i c h = grind (arith, nat_tests)

-- one number more: `rest` is the set of the others
set_more : (test : ℕ → Bool) (others : ℕ → Bool) (rest c i : ℕ) → others c ≡ false → ((k : ℕ) → has rest k ≡ (test k && others k)) → has ((if test c then 2 ^ c else 0) + rest) i ≡ (test i && ((c == i) || others i))
set_more test others rest c i none is = here (test c) refl
  where
    without : has rest c ≡ false
    without = (is c ∙ ap (λ b. test c && b) none) ∙ or_false (test c)

    here : (b : Bool) → test c ≡ b → has ((if b then 2 ^ c else 0) + rest) i ≡ (test i && ((c == i) || others i))
    here true on = (has_added rest c i without ∙ ap (λ b. b || (i == c)) (is i)) ∙ joined (test i) (others i) i c (λ e. ap test e ∙ on)
    here false off = rw (zero-add rest) (is i ∙ left_out (test i) (others i) i c (λ e. ap test e ∙ off))

-- what is in a set that a test makes of a list of numbers
pub has_set_of : (test : ℕ → Bool) (cs : List ℕ) → are_distinct cs ≡ true → (i : ℕ) → has (set_of test cs) i ≡ (test i && list_any (λ k. k == i) cs)
unfolding set_of
has_set_of test [] d i = has_none i ∙ sym (or_false (test i))
has_set_of test (c ∷ cs) d i =
    let parts = distinct_parts (list_any (λ k. k == c) cs) (are_distinct cs) d in
    set_more test (λ k. list_any (λ n. n == k) cs) (set_of test cs) c i parts.0 (has_set_of test cs parts.1)

-- sets of the same components are the same
pub same_set : (a b : ℕ) → ((c : ℕ) → has a c ≡ has b c) → a ≡ b
same_set a b same = same_from_bits a b (λ i. bit (bit_at-lt a i) (bit_at-lt b i) (same i))
  where
    bit : {x y : ℕ} → x < 2 → y < 2 → (x == 1) ≡ (y == 1) → x ≡ y
    bit {x} {y} a b e = grind (arith, nat_tests)

-- a component more, as `set | 1 << k` makes it
pub has_or : (set k c : ℕ) → k < 64 → has (bit_or set (1 * 2 ^ k % 2 ^ 64)) c ≡ (has set c || (c == k))
has_or set k c lt = here (cases_eq c k)
  where
    here : (c ≡ k) ⊎ (c ≡ k → ⊥) → has (bit_or set (1 * 2 ^ k % 2 ^ 64)) c ≡ (has set c || (c == k))
    here (inl e) = rw (e, bit_at_set_same w64 set k lt) (grind (arith, nat_tests))
    here (inr ne) = rw (bit_at_set_other w64 set k lt c ne) (grind (arith, nat_tests))

-- a component less, as `set & !(1 << k)` makes it
pub has_without : (set k c : ℕ) → k < 64 → set < 2 ^ 64 → has (bit_and set (bit_not w64 (1 * 2 ^ k % 2 ^ 64))) c ≡ (has set c && not (c == k))
has_without set k c lt fits = here (cases_eq c k) (cases_lt c 64)
  where
    here : (c ≡ k) ⊎ (c ≡ k → ⊥) → (c < 64) ⊎ (64 ≤ c) → has (bit_and set (bit_not w64 (1 * 2 ^ k % 2 ^ 64))) c ≡ (has set c && not (c == k))
    here (inl e) within = rw (e, bit_at_clear_same w64 set k lt) (grind (arith, nat_tests))
    here (inr ne) (inl within) = rw (bit_at_clear_other w64 set k lt c within ne) (grind (arith, nat_tests))
    here (inr ne) (inr above) = rw (bit_at_and set (bit_not w64 (1 * 2 ^ k % 2 ^ 64)) c, bit_at_above set 64 c fits above) (grind (arith, nat_tests))

-- a bit set, and a bit cleared
pub put_in : (a same : Bool) → (a || same) ≡ (if same then true else a)
put_in true true = refl
put_in true false = refl
put_in false true = refl
put_in false false = refl

pub put_out : (a same : Bool) → (a && not same) ≡ (if same then false else a)
put_out true true = refl
put_out true false = refl
put_out false true = refl
put_out false false = refl

-- ---- a set within another

-- what both sets have
pub has_and : (a b c : ℕ) → has (bit_and a b) c ≡ (has a c && has b c)
has_and a b c =
    let x = bit_at-lt a c in
    let y = bit_at-lt b c in
    rw (bit_at_and a b c) (grind (arith, nat_tests))

-- each bit of a set within another is in the other
pub within_set : (a b : ℕ) → bit_and a b ≡ a → (c : ℕ) → has a c ≡ true → has b c ≡ true
within_set a b same c named = (and_parts (has a c) (has b c) (sym (has_and a b c) ∙ ap (λ s. has s c) same ∙ named)).1

-- and a set is within another that has each of its bits
pub set_within : (a b : ℕ) → ((c : ℕ) → has a c ≡ true → has b c ≡ true) → bit_and a b ≡ a
set_within a b all = same_set (bit_and a b) a (λ c. has_and a b c ∙ one (has a c) (has b c) (all c))
  where
    one : (x y : Bool) → (x ≡ true → y ≡ true) → (x && y) ≡ x
    one true y h = h refl
    one false y h = refl
