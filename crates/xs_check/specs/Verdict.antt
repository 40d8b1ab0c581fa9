-- What is told of an input that is checked. The words are this project's own.
use Rattle.std.specs.Prelude.{◌≡◌, ℕ, ◌+◌, ◌<◌, ◌≤◌, false, List, [], ◌∷◌, ◌++◌, length, codes, decimal, slice_get, take, Some}
use Rattle.xs_model.specs.declared.event.Event.{Event}
use Rattle.xs_model.specs.declared.script.Script.{Script}
use Rattle.xs_model.specs.History.{IsLegal, IsWhole, machine_of}
use Rattle.xs_model.specs.Machine.{IsStep}
use Rattle.xs_model.specs.State.{none_lives}
use Rattle.xs_outside.specs.declared.status.Status.{Status}
use Rattle.xs_outside.specs.declared.status.Status.TheVariants as statuses
use Rattle.xs_outside.specs.Outside.{script_limit}
use Rattle.xs_outside.specs.Statuses.{too_long_text}
use Rattle.xs_script.specs.declared.refusal.Kind.{Kind}
use Rattle.xs_script.specs.Grammar.{Spells}
use Rattle.xs_script.specs.Refusal.{Refuses}
use Rattle.xs_script.specs.RefusalText.{refusal_text}
use Rattle.xs_text.specs.Reading.{IsFirstBadLine, IsHistoryOf}
use Rattle.xs_check.specs.declared.following.Finding.{Finding}
use Rattle.xs_check.specs.declared.following.Finding.TheVariants as findings
use Rattle.xs_check.specs.Split.{IsSplit}

-- ---- histories

-- The text is that of a whole history of the script, which has so many lines.
abbrev pub IsWholeText : Script → List ℕ → ℕ → Type 0
IsWholeText script text lines = (history : List Event) × IsHistoryOf script text history × IsWhole script history × (lines ≡ length history)

-- The line of this number, counted from 1, shows that a history isn't whole: the first whose event is no step after those before it;
-- where each is one, the line that would come next, while a block that was born hasn't ended.
pub data BreaksAt (script : Script) (history : List Event) : ℕ → Type 0 where
  NoStep : (before : ℕ) (event : Event) → slice_get history before ≡ Some event → IsLegal script (take before history)
      → (IsStep (machine_of script (take before history)) event → ⊥) → BreaksAt script history (before + 1)
  Unfinished : IsLegal script history → none_lives (machine_of script history) ≡ false → BreaksAt script history (length history + 1)

-- It shows that the text isn't that of a whole history: it is the first that is badly spelled, or, where none is, breaks the history.
pub data IsBroken (script : Script) (text : List ℕ) : ℕ → Type 0 where
  Misspelled : (line : ℕ) → IsFirstBadLine script text line → IsBroken script text line
  Breaks : (history : List Event) (line : ℕ) → IsHistoryOf script text history → BreaksAt script history line → IsBroken script text line

-- what the code finds of a history, and of a text
abbrev pub IsFollowed : Script → List Event → Finding → Type 0
IsFollowed script history (findings.Whole lines) = IsWhole script history × (lines ≡ length history)
IsFollowed script history (findings.Broken line) = BreaksAt script history line

abbrev pub IsFound : Script → List ℕ → Finding → Type 0
IsFound script text (findings.Whole lines) = IsWholeText script text lines
IsFound script text (findings.Broken line) = IsBroken script text line

-- ---- inputs

-- the most bytes of an input
abbrev pub check_limit : ℕ
check_limit = 268435456

-- the line that tells that a history of so many lines is whole, and the one that tells which line breaks it
abbrev pub legal_text : ℕ → List ℕ
legal_text lines = (codes "legal " ++ decimal lines) ++ 10 ∷ []

abbrev pub illegal_text : ℕ → List ℕ
illegal_text line = (codes "illegal " ++ decimal line) ++ 10 ∷ []

-- The input's parts are these, and neither the input nor the script's text is longer than it may be.
pub record HasParts (input script_text text : List ℕ) : Type 0 where
  pub short : length input ≤ check_limit
  pub split : IsSplit input script_text text
  pub small : length script_text ≤ script_limit

-- The status and the line that answer an input.
pub data IsVerdict (input : List ℕ) : Status → List ℕ → Type 0 where
  LongInput : check_limit < length input → IsVerdict input statuses.Refused too_long_text
  LongScript : (script_text text : List ℕ) → length input ≤ check_limit → IsSplit input script_text text → script_limit < length script_text
      → IsVerdict input statuses.Refused too_long_text
  NoScript : (script_text text : List ℕ) (line : ℕ) (kind : Kind) → HasParts input script_text text → Refuses script_text line kind
      → IsVerdict input statuses.Refused (refusal_text line kind)
  IsLegalOne : (script_text text : List ℕ) (script : Script) (lines : ℕ) → HasParts input script_text text → Spells script_text script
      → IsWholeText script text lines → IsVerdict input statuses.Done (legal_text lines)
  IsIllegalOne : (script_text text : List ℕ) (script : Script) (line : ℕ) → HasParts input script_text text → Spells script_text script
      → IsBroken script text line → IsVerdict input statuses.Illegal (illegal_text line)
