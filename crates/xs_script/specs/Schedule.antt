-- What a reader keeps of the lines of a schedule.
use Rattle.std.specs.Prelude.{◌≡◌, ℕ, ◌+◌, ◌<◌, ◌≤◌, Bool, true, false, ◌&&◌, nat_lt, List, [], ◌∷◌, ◌++◌, length, decimal}
use Rattle.std.specs.List.{AllByRecursion}
use Rattle.xs_script.specs.declared.line.Line.TheVariants as lines
use Rattle.xs_script.specs.declared.schedule.Schedule.{Schedule}
use Rattle.xs_script.specs.declared.refusal.Kind.{Kind}
use Rattle.xs_script.specs.declared.refusal.Kind.TheVariants.{BadLine, Limit}
use Rattle.xs_script.specs.declared.refusal.LimitName.TheVariants as limits
use Rattle.xs_script.specs.declared.refusal.ScriptError.{ScriptError}
use Rattle.xs_script.specs.declared.refusal.ScriptError.TheVariants as errors
use Rattle.xs_script.specs.ScriptLine.{IsNumber, IsLine, entries_text, line_text}
use Rattle.xs_script.specs.Grammar.{AreGroups, sched_lines}
use Rattle.xs_script.specs.LineOrder.{AtSched, fits_sched}
use Rattle.xs_script.specs.Front.{IsFront}

-- The text's first line is none of a schedule.
abbrev pub NoSched : List ℕ → Type 0
NoSched text = (entries rest : List ℕ) → IsLine (lines.Sched entries) → text ≡ line_text (lines.Sched entries) ++ 10 ∷ rest → ⊥

-- The words are these entries, as they stand after the first word of their line.
pub record AreEntries (words : List ℕ) (entries : List ℕ) : Type 0 where
  pub fits : IsLine (lines.Sched entries)
  pub spelled : 32 ∷ words ≡ entries_text entries

-- It takes the entries that the words are.
pub record TakesWords (schedule : Schedule) (words : List ℕ) (after : Schedule) : Type 0 where
  pub entries : List ℕ
  pub read : AreEntries words entries
  pub within : fits_sched schedule.cpus (length schedule.entries) entries ≡ true
  pub came : after.entries ≡ schedule.entries ++ entries
  pub cpus : after.cpus ≡ schedule.cpus

-- What the words after the first of a line of a schedule are refused with, where so many entries came.
pub data WordsFail (cpus count : ℕ) (words : List ℕ) : Kind → Type 0 where
  NoEntries : ((entries : List ℕ) → AreEntries words entries → ⊥) → WordsFail cpus count words BadLine
  OverLimit : (entries : List ℕ) → AreEntries words entries → fits_sched cpus count entries ≡ false → WordsFail cpus count words (Limit limits.Sched)

abbrev pub ExplainsWords : Schedule → ℕ → List ℕ → ScriptError → Type 0
ExplainsWords schedule number words (errors.Refused line kind) = (line ≡ number) × WordsFail schedule.cpus (length schedule.entries) words kind
ExplainsWords schedule number words errors.Memory = Unit {0}

-- It takes one entry, unless one before it on the line was beyond a limit or it is. Whether all are within is answered.
pub record TakesEntry (schedule : Schedule) (within : Bool) (word : List ℕ) (still : Bool) (after : Schedule) : Type 0 where
  pub entry : ℕ
  pub fits : IsNumber entry
  pub spelled : word ≡ decimal entry
  pub still_is : still ≡ (within && (nat_lt entry schedule.cpus && nat_lt (length schedule.entries) 4096))
  pub came : still ≡ true → after.entries ≡ schedule.entries ++ entry ∷ []
  pub cpus : after.cpus ≡ schedule.cpus
  pub few : length after.entries ≤ 4096

-- what a word that is no entry is refused with
abbrev pub ExplainsWord : ℕ → List ℕ → ScriptError → Type 0
ExplainsWord number word (errors.Refused line kind) = (line ≡ number) × (kind ≡ BadLine) × ((entry : ℕ) → IsNumber entry → word ≡ decimal entry → ⊥)
ExplainsWord number word errors.Memory = Unit {0}

-- It took the entries at the front of the words, and these words are left.
pub record TakesFront (schedule : Schedule) (words : List ℕ) (within : Bool) (after : Schedule) (left : List ℕ) : Type 0 where
  pub entries : List ℕ
  pub fits : AllByRecursion IsNumber entries
  pub cut : 32 ∷ words ≡ entries_text entries ++ 32 ∷ left
  pub within_is : within ≡ fits_sched schedule.cpus (length schedule.entries) entries
  pub came : within ≡ true → after.entries ≡ schedule.entries ++ entries
  pub cpus : after.cpus ≡ schedule.cpus
  pub few : length after.entries ≤ 4096

-- The text begins with the lines of this schedule, of which line `first` is the first and line `number` is next.
pub record AreSchedLines (cpus first : ℕ) (text : List ℕ) (sched : List ℕ) (number : ℕ) (rest : List ℕ) : Type 0 where
  pub groups : List (List ℕ)
  pub grouped : AreGroups groups sched
  pub front : IsFront (AtSched cpus 0) text (sched_lines groups) (AtSched cpus (length sched)) rest
  pub below : AllByRecursion (λ entry. entry < cpus) sched
  pub few : length sched ≤ 4096
  pub next : number ≡ first + length groups

-- These are all its lines: none comes next.
pub record IsScheduleOf (cpus first : ℕ) (text : List ℕ) (sched : List ℕ) (number : ℕ) (rest : List ℕ) : Type 0 where
  pub groups : List (List ℕ)
  pub grouped : AreGroups groups sched
  pub front : IsFront (AtSched cpus 0) text (sched_lines groups) (AtSched cpus (length sched)) rest
  pub below : AllByRecursion (λ entry. entry < cpus) sched
  pub few : length sched ≤ 4096
  pub over : NoSched rest
  pub next : number ≡ first + length groups
