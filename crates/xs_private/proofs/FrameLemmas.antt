-- The parts of a frame.
use Rattle.std.proofs.Common.{◌≡◌, ℕ, ◌==◌, Bool, true, false, ◌&&◌, ◌||◌, if◌then◌else◌, refl, sym, ◌∙◌, inl, inr}
use Rattle.std.proofs.lemmas.Bool.{false≢true, ne_eqb, cases_eq}
use Rattle.xs_base.specs.Component.{component_numbers}
use Rattle.xs_base.specs.File.{File, IsFile, in_use}
use Rattle.xs_base.specs.Frame.{frame_bits}
use Rattle.xs_base.specs.Layout.{is_known, has_row}
use Rattle.xs_base.specs.Sets.{has}
use Rattle.xs_base.proofs.LayoutLemmas.{has_row_known}
use Rattle.xs_base.proofs.SetLemmas.{has_set_of, same_set}

and_left : (a b : Bool) → (a && b) ≡ true → a ≡ true
and_left true b on = refl
and_left false b on = absurd (false≢true on)

-- x87 and SSE
x87_on : (other : Bool) → true ≡ ((other || true || false) && true)
x87_on true = refl
x87_on false = refl

sse_on : (other : Bool) → true ≡ ((other || false || true) && true)
sse_on true = refl
sse_on false = refl

-- a component that isn't one of them
framed_other : (used user known : Bool) → (used ≡ true → known ≡ true) → (user && used) ≡ (((used && user) || false || false) && known)
framed_other true true known tells = sym (tells refl)
framed_other true false known tells = refl
framed_other false true known tells = refl
framed_other false false known tells = refl

-- A set with x87 and SSE, and each other component by its use, is XSTATE_BV of a frame.
pub bits_are : (file : File) (user set : ℕ) → IsFile file → ((c : ℕ) → has set c ≡ (if c == 0 then true else if c == 1 then true else has user c && in_use file c))
    → set ≡ frame_bits file user
unfolding frame_bits
bits_are file user set good bits = same_set set (frame_bits file user) (λ c. bits c ∙ each c ∙ sym (has_set_of test component_numbers refl c))
  where
    test : ℕ → Bool
    test c = (in_use file c && has user c) || (c == 0) || (c == 1)

    known : (c : ℕ) → in_use file c ≡ true → is_known c ≡ true
    known c used = has_row_known file.rows good.layout c (and_left (has_row file.rows c) _ used)

    each : (c : ℕ) → (if c == 0 then true else if c == 1 then true else has user c && in_use file c) ≡ (test c && is_known c)
    each c = elim (cases_eq c 0) [
      | inl x87 ↦ rw x87 (x87_on (in_use file 0 && has user 0))
      | inr apart ↦ elim (cases_eq c 1) [
        | inl sse ↦ rw sse (sse_on (in_use file 1 && has user 1))
        | inr others ↦ rw (ne_eqb c 0 apart, ne_eqb c 1 others) (framed_other (in_use file c) (has user c) (is_known c) (known c))
      ]
    ]
