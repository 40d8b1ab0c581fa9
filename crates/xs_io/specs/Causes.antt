-- What counts of faults say of the answers that a source, a sink or a call above them gives. This project's own.
use Rattle.std.specs.Prelude.{ℕ, ◌+◌, ◌-◌, ◌^◌, ◌≤◌, ◌≡◌, min, OnOk, OnErr, Result}

-- The count after one more fault, or one more call: it stops at the largest that a u64 holds.
abbrev pub one_more : ℕ → ℕ
one_more count = min (count + 1) (2 ^ 64 - 1)

-- A fault came between the two counts: the later one is greater, or both stand at the largest.
abbrev pub Rose : ℕ → ℕ → Type 0
Rose before now = one_more before ≤ now

-- An answer has its cause in the counts before and after the call: they never fall, an error comes only where they
-- rose, and an Ok only where they did not.
pub record HasCause {A E : Type 0} (before now : ℕ) (result : Result A E) : Type 0 where
  pub later : before ≤ now
  pub failed : OnErr result (Rose before now)
  pub kept : OnOk result (now ≡ before)
