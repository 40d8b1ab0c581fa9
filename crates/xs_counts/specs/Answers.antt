-- How the calls of the program end, by the status. All of it is this project's own.
use Rattle.std.specs.Prelude.{◌≡◌, ℕ, List, ◌++◌, ◌⊎◌}
use Rattle.xs_io.specs.Causes.{Rose}
use Rattle.xs_model.specs.declared.script.Script.{Script}
use Rattle.xs_model.specs.declared.event.Event.{Event}
use Rattle.xs_model.specs.History.{IsWhole}
use Rattle.xs_model.specs.Replay.{IsReplay}
use Rattle.xs_text.specs.Text.{history_text}
use Rattle.xs_outside.specs.declared.status.Status.{Status}
use Rattle.xs_outside.specs.declared.status.Status.TheVariants as statuses
use Rattle.xs_top.specs.Statuses.{status_of}
use Rattle.xs_outside.specs.Outside.{Output, Outside, TakesAtMost, ReadAndEnds, WritesNothing, Writes, FailsIn, script_limit}
use Rattle.xs_top.specs.Answers.{IsAccepted, IsRefused}
use Rattle.xs_counts.specs.Text.{counts_text}

-- The input is a script, and the text is that of the history of its replay and of what this history tells of each processor.
pub record IsCounted (input text : List ℕ) : Type 0 where
  pub script : Script
  pub accepted : IsAccepted input script
  pub history : List Event
  pub whole : IsWhole script history
  pub replay : IsReplay script history
  pub written : text ≡ history_text script history ++ counts_text script history

-- It was written whole, and the status is that of the history.
abbrev pub WroteCounts : List ℕ → Output → Output → Status → Type 0
WroteCounts input before after status = (text : List ℕ) × (counted : IsCounted input text) × (status ≡ status_of counted.history) × Writes before after text

-- the answer to an input: that text, or the line of a refusal; where a write failed, a front of either
abbrev pub InputEnds : List ℕ → Output → Output → Status → Type 0
InputEnds input before after statuses.Done = WroteCounts input before after statuses.Done
InputEnds input before after statuses.Killed = WroteCounts input before after statuses.Killed
InputEnds input before after statuses.Refused = (line : List ℕ) × IsRefused input line × Writes before after line
InputEnds input before after statuses.Illegal = ⊥
InputEnds input before after statuses.ReadFault = ⊥
InputEnds input before after statuses.WriteFault = (text : List ℕ) × (IsCounted input text ⊎ IsRefused input text) × FailsIn before after text
InputEnds input before after statuses.NoMemory = WritesNothing before after
InputEnds input before after statuses.Usage = ⊥

-- The whole call. A read failed exactly at 4, and a write exactly at 5; at 4 and 6 nothing was written, and no more was read than
-- one byte above the limit.
abbrev pub CallEnds : Outside → Outside → Status → Type 0
CallEnds before after statuses.Done = ReadAndEnds script_limit before after (λ input. InputEnds input before.output after.output statuses.Done)
CallEnds before after statuses.Killed = ReadAndEnds script_limit before after (λ input. InputEnds input before.output after.output statuses.Killed)
CallEnds before after statuses.Refused = ReadAndEnds script_limit before after (λ input. InputEnds input before.output after.output statuses.Refused)
CallEnds before after statuses.Illegal = ⊥
CallEnds before after statuses.ReadFault = Rose before.input.faults after.input.faults × TakesAtMost script_limit before.input after.input × WritesNothing before.output after.output
CallEnds before after statuses.WriteFault = ReadAndEnds script_limit before after (λ input. InputEnds input before.output after.output statuses.WriteFault)
CallEnds before after statuses.NoMemory = (after.input.faults ≡ before.input.faults) × TakesAtMost script_limit before.input after.input × WritesNothing before.output after.output
CallEnds before after statuses.Usage = ⊥
