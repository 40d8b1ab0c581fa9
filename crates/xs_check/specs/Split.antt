-- Where the input of a check is split: at its first line that is exactly `%%` and a line feed. This project's own.
use Rattle.std.specs.Prelude.{◌≡◌, ◌⊎◌, ℕ, ◌+◌, ◌<◌, List, [], take, drop, slice_get, Some}

-- A line begins at this byte: it is the first, or comes after a line feed.
abbrev pub BeginsLine : List ℕ → ℕ → Type 0
BeginsLine text at = (at ≡ 0) ⊎ ((before : ℕ) × (at ≡ before + 1) × (slice_get text before ≡ Some 10))

-- The line that begins at this byte is `%%`, with its line feed.
pub record IsDivider (text : List ℕ) (at : ℕ) : Type 0 where
  pub begins : BeginsLine text at
  pub first : slice_get text at ≡ Some 37
  pub second : slice_get text (at + 1) ≡ Some 37
  pub feed : slice_get text (at + 2) ≡ Some 10

-- The script's text is what stands before the first such line, and the history's what stands after it. Without such a line
-- the whole input is the script's, and the history is empty.
pub data IsSplit (input : List ℕ) : List ℕ → List ℕ → Type 0 where
  Divided : (at : ℕ) → IsDivider input at → ((i : ℕ) → i < at → IsDivider input i → ⊥) → IsSplit input (take at input) (drop (at + 3) input)
  Undivided : ((i : ℕ) → IsDivider input i → ⊥) → IsSplit input input []
