-- The marks of a file.
use Rattle.std.proofs.Common.{◌≡◌, ℕ, ◌==◌, Bool, true, false, not, ◌&&◌, ◌||◌, if◌then◌else◌, refl, sym, ◌∙◌, inl, inr}
use Rattle.std.proofs.lemmas.Bool.{false≢true, ne_eqb, cases_eq}
use Rattle.xs_base.specs.Component.{component_numbers, initial_mxcsr}
use Rattle.xs_base.specs.File.{File, IsFile, pkru_of, in_use, is_saved}
use Rattle.xs_base.specs.Layout.{is_known, has_row}
use Rattle.xs_base.specs.Sets.{has}
use Rattle.xs_base.specs.Task.{mark_by}
use Rattle.xs_base.proofs.LayoutLemmas.{has_row_known}
use Rattle.xs_base.proofs.SetLemmas.{has_set_of, same_set}
use Rattle.xs_private.specs.Marks.{user_of, marks_of}

-- what is saved of SSE, by its registers and by MXCSR
saved_sse : (used user control : Bool) → ((user && used) || (control && user)) ≡ ((used || (true && control)) && user) && true
saved_sse true true control = refl
saved_sse true false true = refl
saved_sse true false false = refl
saved_sse false true true = refl
saved_sse false true false = refl
saved_sse false false true = refl
saved_sse false false false = refl

saved_other : (used user known : Bool) → (used ≡ true → known ≡ true) → (user && used) ≡ ((used || false) && user) && known
saved_other true true known tells = sym (tells refl)
saved_other true false known tells = refl
saved_other false true known tells = refl
saved_other false false known tells = refl

and_left : (a b : Bool) → (a && b) ≡ true → a ≡ true
and_left true b on = refl
and_left false b on = absurd (false≢true on)

-- A set with these bits is the marks: PKRU by its value, SSE by its registers and MXCSR, and each other component by its use.
pub marks_are : (file : File) (large : Bool) (set : ℕ) → IsFile file
    → ((c : ℕ) → has set c ≡ (if c == 9 then not (pkru_of file == 0)
    else if c == 1 then (has (user_of file.rows large) 1 && in_use file 1) || (not (file.mxcsr == initial_mxcsr) && has (user_of file.rows large) 1)
    else has (user_of file.rows large) c && in_use file c))
    → set ≡ marks_of file large
marks_are file large set good bits =
    same_set set (marks_of file large) (λ c. bits c ∙ each c ∙ sym (has_set_of (mark_by file test) component_numbers refl c))
  where
    user : ℕ
    user = user_of file.rows large

    test : ℕ → Bool
    test d = is_saved file d && has user d

    control : Bool
    control = not (file.mxcsr == initial_mxcsr)

    known : (c : ℕ) → in_use file c ≡ true → is_known c ≡ true
    known c used = has_row_known file.rows good.layout c (and_left (has_row file.rows c) _ used)

    and_true : (b : Bool) → b ≡ b && true
    and_true true = refl
    and_true false = refl

    each : (c : ℕ) → (if c == 9 then not (pkru_of file == 0) else if c == 1 then (has user 1 && in_use file 1) || (control && has user 1) else has user c && in_use file c)
        ≡ (mark_by file test c && is_known c)
    each c = elim (cases_eq c 9) [
      | inl nine ↦ rw nine (and_true (not (pkru_of file == 0)))
      | inr apart ↦ elim (cases_eq c 1) [
        | inl one ↦ rw one (saved_sse (in_use file 1) (has user 1) control)
        | inr others ↦ rw (ne_eqb c 9 apart, ne_eqb c 1 others) (saved_other (in_use file c) (has user c) (is_known c) (known c))
      ]
    ]
