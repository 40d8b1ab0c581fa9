-- The exit status of each way to end, and what the statuses say of reads and writes. This project's own.
use Rattle.std.specs.Prelude.{◌≡◌, ℕ, List, [], ◌∷◌, ◌++◌, codes, ◌⊎◌}
use Rattle.xs_outside.specs.declared.status.Status.{Status}
use Rattle.xs_outside.specs.declared.status.Status.TheVariants as statuses
use Rattle.xs_outside.specs.Outside.{Output, Outside, Writes, FailsIn}

abbrev pub code_of : Status → ℕ
code_of statuses.Done = 0
code_of statuses.Killed = 1
code_of statuses.Refused = 2
code_of statuses.Illegal = 3
code_of statuses.ReadFault = 4
code_of statuses.WriteFault = 5
code_of statuses.NoMemory = 6
code_of statuses.Usage = 64

-- the line that answers an input which is longer than its limit
abbrev pub too_long_text : List ℕ
too_long_text = codes "refused 0 too-long" ++ 10 ∷ []

-- A text that is told with a status was written whole, or a write failed.
abbrev pub TellEnds : Status → List ℕ → Output → Output → Status → Type 0
TellEnds status text before after result = ((result ≡ status) × Writes before after text) ⊎ ((result ≡ statuses.WriteFault) × FailsIn before after text)

-- No fault is passed over: a read failed only where the status is 4, and a write only where it is 5.
pub record Unfailed (before after : Outside) (result : Status) : Type 0 where
  pub reads : (result ≡ statuses.ReadFault → ⊥) → after.input.faults ≡ before.input.faults
  pub writes : (result ≡ statuses.WriteFault → ⊥) → after.output.faults ≡ before.output.faults
