-- What a reader keeps of a line: mostly the line, and of a row what its test answers.
use Rattle.std.proofs.Common.{◌≡◌, ℕ, ◌+◌, ◌<◌, ◌≤◌, Bool, true, false, ◌&&◌, nat_le, min, List, [], length, Some, None, inl, inr, refl, ap, sym, ◌∙◌, arith}
use Rattle.std.proofs.lemmas.Bool.{cases_lt, lt-leb}
use Rattle.std.proofs.lemmas.Bool.Decides.{nat_tests}
use Rattle.xs_base.specs.declared.component.Row.{Row}
use Rattle.xs_base.specs.declared.layout_error.LayoutError.TheVariants as errors
use Rattle.xs_base.specs.Layout.{row_error, is_known}
use Rattle.xs_base.proofs.LayoutLemmas.{passes, passes_sound}
use Rattle.xs_model.specs.Script.{fits_memory}
use Rattle.xs_script.specs.ScriptLine.{kept_row, kept_bytes}
use Rattle.xs_script.proofs.Spellings.{same_row}

-- a row of a number up to 255 is kept whole
pub kept_same_row : (r : Row) → r.comp.0 ≤ 255 → kept_row r ≡ r
kept_same_row r h = same_row (kept_row r) r (omega arith) refl refl refl

-- as many bytes as a lane has are kept
pub kept_same_bytes : (bytes : List ℕ) → length bytes ≤ 64 → kept_bytes bytes ≡ bytes
kept_same_bytes bytes h = grind (arith, nat_tests)

-- and of more none are
pub kept_long : (bytes : List ℕ) → 64 < length bytes → kept_bytes bytes ≡ []
kept_long bytes h = grind (arith, nat_tests)

-- bytes for a memory lie within it where what is kept of them does
pub kept_fits : (size at : ℕ) (bytes : List ℕ) → fits_memory size at (length (kept_bytes bytes)) ≡ fits_memory size at (length bytes)
kept_fits size at bytes = elim (cases_lt 64 (length bytes)) [
  | inl long ↦
      let many : nat_le (length bytes) 64 ≡ false = lt-leb (length bytes) 64 long in
      ap (λ (bs : List ℕ). fits_memory size at (length bs)) (kept_long bytes long) ∙ sym (too_many (nat_le 1 (length bytes)) (nat_le (length bytes) 64) (nat_le (at + length bytes) size) many)
  | inr short ↦ ap (λ (bs : List ℕ). fits_memory size at (length bs)) (kept_same_bytes bytes short)
]
  where
    too_many : (a b c : Bool) → b ≡ false → ((a && b) && c) ≡ false
    too_many true b c h = rw h refl
    too_many false b c h = refl

-- and they are kept whole
pub kept_whole_bytes : (size at : ℕ) (bytes : List ℕ) → fits_memory size at (length (kept_bytes bytes)) ≡ true → kept_bytes bytes ≡ bytes
kept_whole_bytes size at bytes h = elim (cases_lt 64 (length bytes)) [
  | inl long ↦ let none : fits_memory size at 0 ≡ true = rw (kept_long bytes long) at h in absurd (cc none)
  | inr short ↦ kept_same_bytes bytes short
]

-- a number above those of the components is none
unknown_above : (n : ℕ) → 18 < n → is_known n ≡ false
unknown_above n h = grind (arith, nat_tests)

-- a row of such a number fails the first test
unknown_error : (before : List Row) (r : Row) → is_known r.comp.0 ≡ false → row_error before r ≡ Some errors.UnknownComponent
unfolding row_error
unknown_error before r h = rw h refl

-- what is kept of a row fails the same test
pub kept_row_error : (before : List Row) (r : Row) → row_error before (kept_row r) ≡ row_error before r
kept_row_error before r = elim (cases_lt 255 r.comp.0) [
  | inl above ↦
      unknown_error before (kept_row r) (unknown_above (min r.comp.0 255) (omega arith)) ∙ sym (unknown_error before r (unknown_above r.comp.0 (omega arith)))
  | inr low ↦ ap (row_error before) (kept_same_row r low)
]

-- of a row that passes, the whole is kept
pub kept_row_is : (before : List Row) (r : Row) → row_error before r ≡ None → kept_row r ≡ r
kept_row_is before r h = let number = (passes_sound before r (passes before r h)).number in kept_same_row r (omega arith)
