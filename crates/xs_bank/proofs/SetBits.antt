-- Sets by their components: one set where a mask has it, and another elsewhere.
use Rattle.std.proofs.Common.{◌≡◌, ◌⊎◌, inl, inr, ℕ, ◌+◌, ◌%◌, ◌<◌, ◌==◌, min, bit_and, if◌then◌else◌, refl, ap, ◌∙◌, arith}
use Rattle.std.proofs.lemmas.Bool.{cases_eq}
use Rattle.std.proofs.lemmas.Nat.Bits.{bit_at_and, bit_at_xor, bit_at-lt}
use Rattle.std.specs.Int.{bit_at}
use Rattle.std.specs.Int.Bits.{bit_xor}
use Rattle.xs_base.specs.Sets.{has}

-- a bit is 0 or 1
pub bit_cases : (set c : ℕ) → (bit_at set c ≡ 0) ⊎ (bit_at set c ≡ 1)
bit_cases set c = here (bit_at set c) (bit_at-lt set c)
  where
    here : (b : ℕ) → b < 2 → (b ≡ 0) ⊎ (b ≡ 1)
    here b lt = elim (cases_eq b 0) [
      | inl none ↦ inl none
      | inr some ↦ inr (omega arith)
    ]

-- the others of one set, and those of the mask of another
pub has_merged : (others inside mask c : ℕ) → has (bit_xor others (bit_and (bit_xor others inside) mask)) c ≡ (if has mask c then has inside c else has others c)
has_merged others inside mask c =
    ap (λ n. n == 1) (bit_at_xor others (bit_and (bit_xor others inside) mask) c ∙ ap (λ n. (bit_at others c + n) % 2) (bit_at_and (bit_xor others inside) mask c ∙ ap (λ n. min n (bit_at mask c)) (bit_at_xor others inside c)))
    ∙ here (bit_at others c) (bit_at inside c) (bit_at mask c) (bit_cases others c) (bit_cases inside c) (bit_cases mask c)
  where
    here : (o i m : ℕ) → (o ≡ 0) ⊎ (o ≡ 1) → (i ≡ 0) ⊎ (i ≡ 1) → (m ≡ 0) ⊎ (m ≡ 1) → ((o + min ((o + i) % 2) m) % 2 == 1) ≡ (if m == 1 then i == 1 else o == 1)
    here o i m (inl a) (inl b) (inl d) = rw (a, b, d) refl
    here o i m (inl a) (inl b) (inr d) = rw (a, b, d) refl
    here o i m (inl a) (inr b) (inl d) = rw (a, b, d) refl
    here o i m (inl a) (inr b) (inr d) = rw (a, b, d) refl
    here o i m (inr a) (inl b) (inl d) = rw (a, b, d) refl
    here o i m (inr a) (inl b) (inr d) = rw (a, b, d) refl
    here o i m (inr a) (inr b) (inl d) = rw (a, b, d) refl
    here o i m (inr a) (inr b) (inr d) = rw (a, b, d) refl
