-- What is left of an area when its MXCSR and XSTATE_BV are written.
use Rattle.std.proofs.Common.{◌≡◌, ℕ, ◌+◌, ◌-◌, ◌<◌, ◌≤◌, ◌^◌, ◌==◌, ◌&&◌, ◌||◌, Bool, true, false, List, length, get_or, if◌then◌else◌, refl, ap, ◌∙◌, arith, inl, inr}
use Rattle.std.proofs.lemmas.Bool.{cases_eq, ne_eqb}
use Rattle.std.specs.Int.{to_le_bytes, w64}
use Rattle.xs_base.specs.Bytes.{zeros, splice, is_within}
use Rattle.xs_base.specs.Sets.{has}
use Rattle.xs_base.specs.Standard.{control_bytes}
use Rattle.xs_base.proofs.ByteLemmas.{length_splice, splice_byte, within_below, within_above, within_in}
use Rattle.xs_base.proofs.ComponentLemmas.{cleared_byte, length_zeros}
use Rattle.xs_base.proofs.StandardLemmas.{control_eight}
use Rattle.xs_base.proofs.HeaderLemmas.{xstate_bv_splice, mxcsr_splice, mxcsr_same}
use Rattle.xs_area.specs.Copy.{IsFinished}

-- SSE is in the set where its registers were copied, and where its bit is there for MXCSR alone.
pub sse_more : (copied c : ℕ) (alone : Bool) → (if c == 1 then has copied 1 || alone else has copied c) ≡ (has copied c || ((c == 1) && alone))
sse_more copied c alone = elim (cases_eq c 1) [
  | inl same ↦ rw same refl
  | inr apart ↦ rw (ne_eqb c 1 apart) (or_false (has copied c))
]
  where
    or_false : (b : Bool) → b ≡ (b || false)
    or_false true = refl
    or_false false = refl

-- ---- the three writes

module _ (area : List ℕ) (copied control bits : ℕ) (alone : Bool) (long : 576 ≤ length area) where
  cleared : List ℕ
  cleared = if alone then splice 160 (zeros 256) area else area

  cleared_length : length cleared ≡ length area
  unfolding cleared
  cleared_length = here alone
    where
      here : (b : Bool) → length (if b then splice 160 (zeros 256) area else area) ≡ length area
      here true = length_splice 160 (zeros 256) area (omega (arith, length_zeros 256))
      here false = refl

  cleared_zero : alone ≡ true → (k : ℕ) → k < 256 → get_or cleared (160 + k) 0 ≡ 0
  unfolding cleared
  cleared_zero on k small =
      ap (λ b. get_or (if b then splice 160 (zeros 256) area else area) (160 + k) 0) on
      ∙ cleared_byte 160 256 area (160 + k) (omega arith)
      ∙ ap (λ b. if b then 0 else get_or area (160 + k) 0) (within_in 160 256 (160 + k) (omega arith) (omega arith))

  cleared_other : (k : ℕ) → (alone ≡ true → is_within 160 256 k ≡ false) → get_or cleared k 0 ≡ get_or area k 0
  unfolding cleared
  cleared_other k outside = here alone outside
    where
      here : (b : Bool) → (b ≡ true → is_within 160 256 k ≡ false) → get_or (if b then splice 160 (zeros 256) area else area) k 0 ≡ get_or area k 0
      here true off = cleared_byte 160 256 area k (omega arith) ∙ ap (λ b. if b then 0 else get_or area k 0) (off refl)
      here false off = refl

  pub finished : bits < 2 ^ 64 → control < 2 ^ 32 → ((c : ℕ) → has bits c ≡ (has copied c || ((c == 1) && alone))) → IsFinished copied control alone area (splice 512 (to_le_bytes w64 bits) (splice 24 (control_bytes control) (if alone then splice 160 (zeros 256) area else area)))
  unfolding cleared
  finished bits_small small are =
      let l1 = cleared_length in
      let fits : 24 + length (control_bytes control) ≤ length cleared = omega (arith, control_eight control) in
      let two = splice 24 (control_bytes control) cleared in
      let l2 : length two ≡ length area = length_splice 24 (control_bytes control) cleared fits ∙ l1 in
      let three = splice 512 (to_le_bytes w64 bits) two in
      let fits3 : 512 + length (to_le_bytes w64 bits) ≤ length two = omega arith in
      let l3 : length three ≡ length area = length_splice 512 (to_le_bytes w64 bits) two fits3 ∙ l2 in
      let outer : (k : ℕ) → is_within 512 8 k ≡ false → get_or three k 0 ≡ get_or two k 0 = λ k off. splice_byte 512 (to_le_bytes w64 bits) two k fits3 ∙ ap (λ b. if b then get_or (to_le_bytes w64 bits) (k - 512) 0 else get_or two k 0) off in
      let middle : (k : ℕ) → is_within 24 8 k ≡ false → get_or two k 0 ≡ get_or cleared k 0 = λ k off. splice_byte 24 (control_bytes control) cleared k fits ∙ ap (λ n. if is_within 24 n k then get_or (control_bytes control) (k - 24) 0 else get_or cleared k 0) (control_eight control) ∙ ap (λ b. if b then get_or (control_bytes control) (k - 24) 0 else get_or cleared k 0) off in
      record {
        len = l3;
        bits = λ c. ap (λ x. has x c) (xstate_bv_splice two bits (omega arith) bits_small) ∙ are c;
        control_is = mxcsr_same three two (omega arith) (omega arith) (λ k low high. outer k (within_below 512 8 k (omega arith))) ∙ mxcsr_splice cleared control (omega arith) small;
        zero_is = λ on k low. outer (160 + k) (within_below 512 8 (160 + k) (omega arith)) ∙ middle (160 + k) (within_above 24 8 (160 + k) (omega arith)) ∙ cleared_zero on k low;
        others = λ k c_off b_off a_off. outer k b_off ∙ middle k c_off ∙ cleared_other k a_off;
      }
