-- A number's last digits stand behind those of the number without them.
use Rattle.std.proofs.Common.{◌≡◌, ℕ, zero, suc, ◌+◌, ◌-◌, ◌*◌, ◌/◌, ◌%◌, ◌<◌, ◌≤◌, ◌^◌, Bool, true, ◌&&◌, T, eqb, List, [], ◌∷◌, ◌++◌, slice_index, decimal, ap, ◌∙◌, inl, inr, arith, eq-zero-or-pos, eqb→eq}
use lib.Ieee.Fits.{and_l, and_r}
use Rattle.std.proofs.lemmas.List.{append_assoc}
use Rattle.std.proofs.lemmas.Fmt.{decimal_digit, decimal_step}
use Rattle.xs_text.specs.declared.digits.TheConstants.{PAIRS}

-- the two digits of a number below 100
abbrev pub pair : ℕ → List ℕ
pair n = (48 + n / 10) ∷ (48 + n % 10) ∷ []

-- the four digits of a number below 10,000
abbrev pub four : ℕ → List ℕ
four n = (48 + n / 1000) ∷ (48 + n / 100 % 10) ∷ (48 + n / 10 % 10) ∷ (48 + n % 10) ∷ []

-- whether the table has the digits of each number below this one
abbrev are_pairs : ℕ → Bool
are_pairs zero = true
are_pairs (suc n) = (eqb (slice_index PAIRS (2 * n)) (48 + n / 10) && eqb (slice_index PAIRS (2 * n + 1)) (48 + n % 10)) && are_pairs n

-- so each number below has its digits there
below : (most n : ℕ) → T (are_pairs most) → n < most → (slice_index PAIRS (2 * n) ≡ 48 + n / 10) × (slice_index PAIRS (2 * n + 1) ≡ 48 + n % 10)
below zero n t h = absurd (omega arith)
below (suc most) n t h =
    elim (eq-zero-or-pos (most - n)) [
      | inl z ↦ let e : n ≡ most = omega arith in let a = and_l _ (are_pairs most) t in rw e (eqb→eq _ _ (and_l _ _ a), eqb→eq _ _ (and_r _ _ a))
      | inr g ↦ below most n (and_r _ (are_pairs most) t) (omega arith)
    ]

-- the table has the digits of each number below 100
pub pairs_at : (n : ℕ) → n < 100 → (slice_index PAIRS (2 * n) ≡ 48 + n / 10) × (slice_index PAIRS (2 * n + 1) ≡ 48 + n % 10)
pairs_at n h = below 100 n tt h

-- two digits
pub two_digits : (n : ℕ) → 10 ≤ n → n < 100 → decimal n ≡ pair n
two_digits n ge small = decimal_step n ge (omega arith) ∙ ap (λ ds. ds ++ (48 + n % 10) ∷ []) (decimal_digit (n / 10) (omega arith))

-- the last two of more
pub last_two : (n : ℕ) → 100 ≤ n → n < 2 ^ 32 → decimal n ≡ decimal (n / 100) ++ pair (n % 100)
last_two n ge small =
    let front : n / 10 / 10 ≡ n / 100 = omega arith in
    let tens : n / 10 % 10 ≡ n % 100 / 10 = omega arith in
    let ones : n % 10 ≡ n % 100 % 10 = omega arith in
    rw (decimal_step n (omega arith) (omega arith), decimal_step (n / 10) (omega arith) (omega arith), append_assoc, front, tens, ← ones)

-- the last four of more
pub last_four : (n : ℕ) → 10000 ≤ n → n < 2 ^ 32 → decimal n ≡ decimal (n / 10000) ++ four (n % 10000)
last_four n ge small =
    let front : n / 100 / 100 ≡ n / 10000 = omega arith in
    let thousands : n / 100 % 100 / 10 ≡ n % 10000 / 1000 = omega arith in
    let hundreds : n / 100 % 100 % 10 ≡ n % 10000 / 100 % 10 = omega arith in
    let tens : n % 100 / 10 ≡ n % 10000 / 10 % 10 = omega arith in
    let ones : n % 100 % 10 ≡ n % 10000 % 10 = omega arith in
    rw (last_two n (omega arith) small, last_two (n / 100) (omega arith) (omega arith), append_assoc, front, thousands, hundreds, tens, ones)

-- the last eight of more
pub last_eight : (n : ℕ) → 100000000 ≤ n → n < 2 ^ 32 → decimal n ≡ (decimal (n / 100000000) ++ four (n / 10000 % 10000)) ++ four (n % 10000)
last_eight n ge small =
    let front : n / 10000 / 10000 ≡ n / 100000000 = omega arith in
    last_four n (omega arith) small
    ∙ ap (λ ds. ds ++ four (n % 10000)) (last_four (n / 10000) (omega arith) (omega arith) ∙ ap (λ k. decimal k ++ four (n / 10000 % 10000)) front)
