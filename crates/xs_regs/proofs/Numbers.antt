-- Numbers of one or two digits.
use Rattle.std.proofs.Common.{◌≡◌, ℕ, ◌+◌, ◌/◌, ◌%◌, ◌<◌, ◌≤◌, List, [], ◌∷◌, length, Option, Some, None, slice_index, refl, ◌∙◌, inl, inr, arith, decimal}
use Rattle.std.proofs.lemmas.Bool.{cases_lt}
use Rattle.std.proofs.lemmas.Fmt.{decimal_digit, length-decimal-le, decimal_nonempty}
use Rattle.xs_base.proofs.Registers.{decimal_two}
use Rattle.xs_regs.specs.Finds.{Finds}

-- the number below 100 that the bytes spell
abbrev pub IsIndex : List ℕ → ℕ → Type 0
IsIndex bs n = (n < 100) × (bs ≡ decimal n)

-- one byte spells a digit
pub one_digit : (bs : List ℕ) (o : Option ℕ) → length bs ≡ 1 → Finds (λ (n : ℕ). (n < 10) × (slice_index bs 0 ≡ 48 + n)) o → Finds (IsIndex bs) o
one_digit [] o len h = absurd (omega arith)
one_digit (b ∷ []) None len h = λ n is. elim (cases_lt n 10) [
  | inl lt ↦
      let e : b ∷ [] ≡ (48 + n) ∷ [] = is.1 ∙ decimal_digit n lt in
      h n (lt, cc)
  | inr ge ↦
      let e : b ∷ [] ≡ (48 + n / 10) ∷ (48 + n % 10) ∷ [] = is.1 ∙ decimal_two n ge is.0 in
      cc
]
one_digit (b ∷ []) (Some n) len h = (omega (arith, h.0), rw (decimal_digit n h.0, h.1) refl)
one_digit (b ∷ c ∷ bs) o len h = absurd (omega arith)

-- two bytes spell a number of two digits
pub two_digits : (bs : List ℕ) (o : Option ℕ) → length bs ≡ 2 → Finds (λ (n : ℕ). (10 ≤ n) × (n < 100) × (slice_index bs 0 ≡ 48 + n / 10) × (slice_index bs 1 ≡ 48 + n % 10)) o → Finds (IsIndex bs) o
two_digits [] o len h = absurd (omega arith)
two_digits (a ∷ []) o len h = absurd (omega arith)
two_digits (a ∷ b ∷ []) None len h = λ n is. elim (cases_lt n 10) [
  | inl lt ↦
      let e : a ∷ b ∷ [] ≡ (48 + n) ∷ [] = is.1 ∙ decimal_digit n lt in
      cc
  | inr ge ↦
      let e : a ∷ b ∷ [] ≡ (48 + n / 10) ∷ (48 + n % 10) ∷ [] = is.1 ∙ decimal_two n ge is.0 in
      h n (ge, is.0, cc, cc)
]
two_digits (a ∷ b ∷ []) (Some n) len h = (h.1, rw (decimal_two n h.0 h.1, h.2, h.3) refl)
two_digits (a ∷ b ∷ c ∷ bs) o len h = absurd (omega arith)

-- No byte spells no number, and three bytes spell none below 100.
pub no_index : (bs : List ℕ) (n : ℕ) → IsIndex bs n → (0 < length bs) × (length bs < 3)
no_index bs n is =
    let some = decimal_nonempty n (omega (arith, is.0)) in
    let short = length-decimal-le 2 n (omega arith) (omega (arith, is.0)) (omega (arith, is.0)) in
    rw is.1 (some, omega (arith, short))
