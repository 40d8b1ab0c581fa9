-- The marks after a register set.
use Rattle.std.proofs.Common.{◌≡◌, ℕ, ◌==◌, Bool, true, false, not, ◌&&◌, refl, sym, ap, ◌∙◌, List, if◌then◌else◌, bit_and, inl, inr}
use Rattle.std.proofs.lemmas.Bool.{ne_eqb, cases_eq}
use Rattle.xs_base.specs.declared.header.Origin.TheVariants.{Regset}
use Rattle.xs_base.specs.declared.header.Parts.{Parts}
use Rattle.xs_base.specs.declared.words.Set.TheVariants.{Xstate}
use Rattle.xs_base.specs.Component.{component_numbers}
use Rattle.xs_base.specs.File.{File, initial_file, pkru_of}
use Rattle.xs_base.specs.HeaderCheck.{parts_in}
use Rattle.xs_base.specs.Image.{image_file}
use Rattle.xs_base.specs.Layout.{is_known, set_of}
use Rattle.xs_base.specs.RegisterSet.{after_set, is_given, with_file}
use Rattle.xs_base.specs.Sets.{has}
use Rattle.xs_base.specs.Task.{PrivateTask, mark_by}
use Rattle.xs_base.proofs.SetLemmas.{has_and, has_set_of, same_set}

-- every component
known_set : set_of (λ _. true) component_numbers ≡ 393959
unfolding set_of
known_set = refl

known_bit : (c : ℕ) → has 393959 c ≡ is_known c
known_bit c = ap (λ m. has m c) (sym known_set) ∙ has_set_of (λ _. true) component_numbers refl c

-- A set with these bits is that of the marks.
pub marks_of_set : (file : File) (named set : ℕ) → ((c : ℕ) → has set c ≡ (if c == 9 then not (pkru_of file == 0) else has (bit_and named 393959) c))
    → set ≡ set_of (mark_by file (has named)) component_numbers
marks_of_set file named set bits =
    same_set set (set_of (mark_by file (has named)) component_numbers) (λ c. bits c ∙ each c ∙ sym (has_set_of (mark_by file (has named)) component_numbers refl c))
  where
    and_true : (b : Bool) → b ≡ b && true
    and_true true = refl
    and_true false = refl

    each : (c : ℕ) → (if c == 9 then not (pkru_of file == 0) else has (bit_and named 393959) c) ≡ (mark_by file (has named) c && is_known c)
    each c = elim (cases_eq c 9) [
      | inl nine ↦ rw nine (and_true (not (pkru_of file == 0)))
      | inr other ↦ rw (ne_eqb c 9 other) (has_and named 393959 c ∙ ap (λ b. has named c && b) (known_bit c))
    ]

-- Tests that agree make the same marks.
pub same_marks : (file : File) (f h : ℕ → Bool) → ((c : ℕ) → f c ≡ h c) → set_of (mark_by file f) component_numbers ≡ set_of (mark_by file h) component_numbers
same_marks file f h same =
    same_set (set_of (mark_by file f) component_numbers) (set_of (mark_by file h) component_numbers) (λ c.
    has_set_of (mark_by file f) component_numbers refl c ∙ ap (λ b. (if c == 9 then not (pkru_of file == 0) else b) && is_known c) (same c) ∙ sym (has_set_of (mark_by file h) component_numbers refl c))

-- A task with the file and the marks of an image is that after the Xstate set.
pub xstate_is : (p : PrivateTask) (bytes : List ℕ) (parts : Parts) (file : File) (named marks : ℕ) → file ≡ image_file (initial_file p.file.rows) bytes parts → parts ≡ parts_in p.file.rows Regset bytes
    → ((c : ℕ) → has named c ≡ is_given file parts.bits.0 c) → marks ≡ set_of (mark_by file (has named)) component_numbers → record p { file = file; marks = marks } ≡ after_set p Xstate bytes
xstate_is p bytes parts file named marks is parts_are bits marks_are =
    ap (λ (m : ℕ). record p { file = file; marks = m }) (marks_are ∙ same_marks file (has named) (is_given file parts.bits.0) bits)
    ∙ ap (λ (f : File). with_file p f (is_given f parts.bits.0)) is
    ∙ ap (λ (q : Parts). with_file p (image_file (initial_file p.file.rows) bytes q) (is_given (image_file (initial_file p.file.rows) bytes q) q.bits.0)) parts_are
