-- The sentence that the program stands for, of every script, number of processors and interleaving of their steps: the bytes written
-- are the text of one whole history of the script that was read, and each processor's bank has counted and still holds what this
-- history says. What is whole is said of a machine where every task owns its registers, so each lane read is that machine's, and a
-- Start is a skip exactly where the bank still holds the task's current state.
use Rattle.std.specs.Prelude.{◌≡◌, ℕ, List, ⊤}
use Rattle.std.specs.Io.KnownBytes.{Appends, Consumes, IsAtEnd}
use Rattle.xs_bank.specs.Bank.{Bank}
use Rattle.xs_machine.specs.declared.proc.Proc.{Proc}
use Rattle.xs_model.specs.declared.script.Script.{Script}
use Rattle.xs_model.specs.declared.event.Event.{Event}
use Rattle.xs_text.specs.Text.{history_text}
use Rattle.xs_top.specs.declared.play.Play.{Play}
use Rattle.xs_outside.specs.declared.status.Status.{Status}
use Rattle.xs_outside.specs.declared.status.Status.TheVariants as statuses
use Rattle.xs_top.specs.Statuses.{status_of}
use Rattle.xs_outside.specs.Outside.{Output, Outside, IsRead, script_limit}
use Rattle.xs_top.specs.Answers.{IsAccepted, IsRefused}
use Rattle.xs_top.specs.Run.{IsRunOf}

-- The input was read to its end, it is the text of a script, and what was written is the text of one history. That is a whole
-- history of this script, one that the command may write, and the processors are as this run leaves them. For `run` that is so
-- whatever the interleaving of its processors' steps was. The status tells whether a task is killed in it.
pub record Headline {B : Type 0} (state : B → Bank) (play : Play) (before after : Outside) (old new : List (Proc B)) (result : Status) : Type 0 where
  pub input : List ℕ
  pub read : Consumes before.input.left after.input.left input
  pub ended : IsAtEnd after.input.left
  pub script : Script
  pub accepted : IsAccepted input script
  pub history : List Event
  pub text : Appends before.output.written after.output.written (history_text script history)
  pub run : IsRunOf state play script history old new
  pub status : result ≡ status_of history

-- The input, or its front of one byte more than the limit, is no script, and what was written is the one line that says
-- why.
pub record Refusal (before after : Outside) : Type 0 where
  pub input : List ℕ
  pub read : IsRead script_limit before.input after.input input
  pub line : List ℕ
  pub refused : IsRefused input line
  pub text : Appends before.output.written after.output.written line

-- What a command may answer for an input that is a script: a fault, want of memory, or its history.
abbrev pub MayRun : Status → Type 0
MayRun statuses.Done = ⊤
MayRun statuses.Killed = ⊤
MayRun statuses.Refused = ⊥
MayRun statuses.Illegal = ⊥
MayRun statuses.ReadFault = ⊤
MayRun statuses.WriteFault = ⊤
MayRun statuses.NoMemory = ⊤
MayRun statuses.Usage = ⊥

-- What it may answer for one that is none: a fault, want of memory, or the line that says why.
abbrev pub MayRefuse : Output → Output → List ℕ → Status → Type 0
MayRefuse before after line statuses.Done = ⊥
MayRefuse before after line statuses.Killed = ⊥
MayRefuse before after line statuses.Refused = Appends before.written after.written line
MayRefuse before after line statuses.Illegal = ⊥
MayRefuse before after line statuses.ReadFault = ⊤
MayRefuse before after line statuses.WriteFault = ⊤
MayRefuse before after line statuses.NoMemory = ⊤
MayRefuse before after line statuses.Usage = ⊥
