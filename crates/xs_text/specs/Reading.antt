-- Reading a text of events: the history that it is the text of, or its first line that is badly spelled. That a text has at
-- most 1,048,576 lines is this project's own.
use Rattle.std.specs.Prelude.{◌≡◌, ℕ, ◌+◌, ◌/◌, ◌%◌, ◌<◌, ◌≤◌, ◌^◌, List, [], ◌∷◌, ◌++◌, length, slice_index}
use Rattle.std.specs.List.{AllByRecursion}
use Rattle.hex.specs.Hex.{lower_digits}
use Rattle.xs_model.specs.declared.script.Script.{Script}
use Rattle.xs_model.specs.declared.event.Event.{Event}
use Rattle.xs_model.specs.declared.event.Reply.{Reply}
use Rattle.xs_model.specs.declared.event.Reply.TheVariants as replies
use Rattle.xs_text.specs.declared.reader.TextError.{TextError}
use Rattle.xs_text.specs.declared.reader.TextError.TheVariants as errors
use Rattle.xs_text.specs.Text.{event_line, history_text, IsEvent, AreEvents}

-- ---- words

-- The bytes begin with the text of a value that fits, and with the byte that ends it.
abbrev pub IsRead : {A : Type 0} → (A → List ℕ) → (A → Type 0) → ℕ → List ℕ → A → List ℕ → Type 0
IsRead text Fits end bytes x rest = Fits x × (bytes ≡ text x ++ end ∷ rest)

-- They begin so with that of no value.
abbrev pub NoneRead : {A : Type 0} → (A → List ℕ) → (A → Type 0) → ℕ → List ℕ → Type 0
NoneRead {A} text Fits end bytes = (x : A) (rest : List ℕ) → Fits x → bytes ≡ text x ++ end ∷ rest → ⊥

-- any value of a type that has words for all its values
abbrev pub Any : {A : Type 0} → A → Type 0
Any x = Unit {0}

abbrev pub IsNumber : ℕ → Type 0
IsNumber n = n < 2 ^ 32

-- A reply has a word of letters, which it has to itself.
abbrev pub IsTold : Reply → Type 0
IsTold replies.Done = ⊥
IsTold (replies.Bytes bytes) = ⊥
IsTold (replies.Count n) = ⊥
IsTold (replies.Error n) = ⊥
IsTold other = Unit {0}

-- a byte's two hex digits before a text
abbrev pub with_byte : ℕ → List ℕ → List ℕ
with_byte byte rest = slice_index lower_digits (byte / 16) ∷ slice_index lower_digits (byte % 16) ∷ rest

-- ---- lines

-- The text's first line is that of this event, and the others are the rest.
abbrev pub IsEventOf : Script → List ℕ → Event → List ℕ → Type 0
IsEventOf script text event rest = IsRead (event_line script) (IsEvent script) 10 text event rest

-- No event's line is the text's first.
abbrev pub NoEvent : Script → List ℕ → Type 0
NoEvent script text = NoneRead (event_line script) (IsEvent script) 10 text

-- The text is that of this history, which has at most 1,048,576 events.
pub record IsHistoryOf (script : Script) (text : List ℕ) (history : List Event) : Type 0 where
  pub events : AreEvents script history
  pub few : length history ≤ 1048576
  pub spelled : text ≡ history_text script history

-- The line of this number, counted from 1, is the first that is badly spelled. Each line before is that of an event. The text
-- goes on after them, and no event's line comes next, unless there are 1,048,576 lines before: then any further one is bad.
pub record IsFirstBadLine (script : Script) (text : List ℕ) (number : ℕ) : Type 0 where
  pub done : List Event
  pub rest : List ℕ
  pub events : AreEvents script done
  pub few : length done ≤ 1048576
  pub parts : text ≡ history_text script done ++ rest
  pub number_is : number ≡ length done + 1
  pub more : rest ≡ [] → ⊥
  pub bad : length done < 1048576 → NoEvent script rest

-- What it says of a text that no history was read. Want of memory says nothing.
abbrev pub Explains : Script → List ℕ → TextError → Type 0
Explains script text (errors.BadLine number) = IsFirstBadLine script text number
Explains script text errors.Memory = Unit {0}
