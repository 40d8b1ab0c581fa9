-- Sets of components as numbers, and the standard bytes of a file over zeros.
use Rattle.std.proofs.Common.{◌≡◌, ℕ, ◌+◌, ◌-◌, ◌<◌, ◌≤◌, ◌^◌, Bool, true, false, not, ◌&&◌, List, length, get_or, if◌then◌else◌, bit_and, refl, sym, ap, ◌∙◌, inl, inr, arith}
use Rattle.std.proofs.lemmas.Bool.{eq-eqb}
use Rattle.xs_base.specs.declared.component.Row.{Row}
use Rattle.xs_base.specs.Bytes.{splice, zeros, is_within}
use Rattle.xs_base.specs.Component.{component_numbers}
use Rattle.xs_base.specs.File.{File, IsFile, part, is_own}
use Rattle.xs_base.specs.Header.{mxcsr}
use Rattle.xs_base.specs.HeaderCheck.{has_outside}
use Rattle.xs_base.specs.Layout.{set_of}
use Rattle.xs_base.specs.Sets.{has}
use Rattle.xs_base.specs.Standard.{has_control, standard_bytes, component_byte, saved_byte, control_bytes, has_byte}
use Rattle.xs_base.proofs.ByteLemmas.{length_splice, splice_inside, within_above, within_below, within_in}
use Rattle.xs_base.proofs.ComponentLemmas.{length_zeros, zero_at}
use Rattle.xs_base.proofs.FrameLemmas.{standard_length, standard_at}
use Rattle.xs_base.proofs.HeaderLemmas.{mxcsr_same, mxcsr_splice}
use Rattle.xs_base.proofs.LayoutLemmas.{sound_at}
use Rattle.xs_base.proofs.PlaceLemmas.{own_outside, place_outside, standard_apart}
use Rattle.xs_base.proofs.SetLemmas.{set_within}
use Rattle.xs_base.proofs.StandardLemmas.{component_none, component_one, control_eight}

-- ---- sets

-- a set of components has no bit above 63
pub set_small : (test : ℕ → Bool) → set_of test component_numbers < 2 ^ 64
unfolding set_of
set_small test =
    let b0 = each (test 0) 1 in
    let b1 = each (test 1) 2 in
    let b2 = each (test 2) 4 in
    let b5 = each (test 5) 32 in
    let b6 = each (test 6) 64 in
    let b7 = each (test 7) 128 in
    let b9 = each (test 9) 512 in
    let b17 = each (test 17) 131072 in
    let b18 = each (test 18) 262144 in
    omega (arith, b0, b1, b2, b5, b6, b7, b9, b17, b18)
  where
    each : (b : Bool) (n : ℕ) → (if b then n else 0) ≤ n
    each true n = omega arith
    each false n = omega arith

-- a set whose every component is in another isn't outside it
pub inside : (set allowed : ℕ) → ((c : ℕ) → has set c ≡ true → has allowed c ≡ true) → has_outside set allowed ≡ false
inside set allowed each = ap not (eq-eqb (bit_and set allowed) set (set_within set allowed each))

-- ---- the standard bytes of a file, over zeros

module _ (file : File) (mask : ℕ) (good : IsFile file) where
  unfoldable pub plain : List ℕ
  plain = standard_bytes file mask (zeros 16388)

  pub plain_length : length plain ≡ 16388
  unfolding plain
  plain_length = standard_length file mask (zeros 16388) ∙ length_zeros 16388

  -- byte k of it, by whether it belongs to MXCSR and its mask
  abbrev byte_by : ℕ → Bool → ℕ
  byte_by k b = if b && has_control mask then get_or (control_bytes file.mxcsr) (k - 24) 0 else component_byte (saved_byte file) (λ (r : Row). r.offset) mask k file.rows (get_or (zeros 16388) k 0)

  plain_byte : (k : ℕ) (b : Bool) → k < 16388 → is_within 24 8 k ≡ b → get_or plain k 0 ≡ byte_by k b
  unfolding plain
  plain_byte k b lt is = standard_at file mask (zeros 16388) k (omega (arith, length_zeros 16388)) ∙ ap (byte_by k) is

  -- those of a component of the mask
  pub plain_part : (i : ℕ) (r : Row) → i < length file.rows → r ≡ get_or file.rows i r → has mask r.comp.0 ≡ true → (k : ℕ) → k < r.size → is_own r.comp.0 k ≡ true → get_or plain (r.offset + k) 0 ≡ get_or (part file r.comp.0) k 0
  plain_part i r lt is on k small own =
      let sound = sound_at file.rows good.layout i r lt is in
      let ends = sound.ends in
      let apart : is_within 24 8 (r.offset + k) ≡ false = own_outside file.rows 0 r k sound own in
      let here : has_byte r.offset r (r.offset + k) ≡ true = rw (within_in r.offset r.size (r.offset + k) (omega arith) (omega arith), apart) refl in
      let back : r.offset + k - r.offset ≡ k = omega arith in
      plain_byte (r.offset + k) false (omega arith) apart
      ∙ component_one (saved_byte file) (λ (s : Row). s.offset) mask file.rows i r (r.offset + k) (get_or (zeros 16388) (r.offset + k) 0) lt is on here others
      ∙ ap (saved_byte file r.comp.0) back
      ∙ ap (λ b. if b then get_or (part file r.comp.0) k 0 else 0) own
    where
      others : (j : ℕ) (s : Row) → j < length file.rows → s ≡ get_or file.rows j s → has mask s.comp.0 ≡ true → (j ≡ i → ⊥) → has_byte s.offset s (r.offset + k) ≡ false
      others j s lt_j is_j wanted other =
          ap (λ b. b && not (is_within 24 8 (r.offset + k))) (elim (standard_apart file.rows good.layout i j r s lt lt_j is is_j (λ e. other (sym e))) [
            | inl before ↦ within_below s.offset s.size (r.offset + k) (omega arith)
            | inr behind ↦ within_above s.offset s.size (r.offset + k) (omega arith)
          ])

  -- MXCSR
  pub plain_control : has_control mask ≡ true → mxcsr plain ≡ file.mxcsr
  plain_control on =
      let eight = control_eight file.mxcsr in
      let len = length_zeros 16388 in
      let fits : 24 + length (control_bytes file.mxcsr) ≤ length (zeros 16388) = omega arith in
      mxcsr_same plain (splice 24 (control_bytes file.mxcsr) (zeros 16388)) (omega (arith, plain_length)) (omega (arith, length_splice 24 (control_bytes file.mxcsr) (zeros 16388) fits)) (λ k low high.
      plain_byte k true (omega arith) (within_in 24 8 k low (omega arith))
      ∙ ap (λ b. if b then get_or (control_bytes file.mxcsr) (k - 24) 0 else component_byte (saved_byte file) (λ (r : Row). r.offset) mask k file.rows (get_or (zeros 16388) k 0)) on
      ∙ sym (splice_inside 24 (control_bytes file.mxcsr) (zeros 16388) k fits low (omega arith)))
      ∙ mxcsr_splice (zeros 16388) file.mxcsr (omega arith) good.control

  -- the bytes between the legacy region and the components
  pub plain_zero : (k : ℕ) → 416 ≤ k → k < 576 → get_or plain k 0 ≡ 0
  plain_zero k low high =
      plain_byte k false (omega arith) (within_above 24 8 k (omega arith))
      ∙ component_none (saved_byte file) (λ (r : Row). r.offset) mask file.rows k (get_or (zeros 16388) k 0) none
      ∙ zero_at 16388 k
    where
      none : (i : ℕ) (r : Row) → i < length file.rows → r ≡ get_or file.rows i r → has mask r.comp.0 ≡ true → has_byte r.offset r k ≡ false
      none i r lt is on = ap (λ b. b && not (is_within 24 8 k)) (place_outside file.rows 0 r k (sound_at file.rows good.layout i r lt is) (within_in 416 160 k low (omega arith)))
