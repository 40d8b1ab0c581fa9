-- The answers to inputs.
use Rattle.std.proofs.Common.{◌≡◌, ℕ, Bool, true, false, List, refl, sym, ap, subst, ◌⊎◌, inl, inr, if◌then◌else◌}
use Rattle.std.specs.Io.KnownBytes.{Appends}
use Rattle.xs_bank.specs.Bank.{Bank}
use Rattle.xs_machine.specs.declared.proc.Proc.{Proc}
use Rattle.xs_model.specs.declared.script.Script.{Script}
use Rattle.xs_model.specs.declared.event.Event.{Event}
use Rattle.xs_model.specs.History.{has_kill}
use Rattle.xs_text.specs.Text.{history_text}
use Rattle.xs_top.specs.declared.play.Play.{Play}
use Rattle.xs_outside.specs.declared.status.Status.{Status}
use Rattle.xs_outside.specs.declared.status.Status.TheVariants as statuses
use Rattle.xs_top.specs.Statuses.{status_of}
use Rattle.xs_outside.specs.Outside.{FailsIn, Input, IsRead, Output, Outside, ReadAndEnds, Writes, WritesNothing, script_limit}
use Rattle.xs_outside.specs.Statuses.{TellEnds}
use Rattle.xs_top.specs.Run.{IsRunOf}
use Rattle.xs_top.specs.Answers.{HasScript, IsAccepted, IsRefused, NoScript, NoScriptIn, RunsTo, WroteHistory, AnswersRun, AnswerEnds, WriteEnds, PlayEnds, KeepsProcessors}
use Rattle.xs_top.specs.Headline.{Headline}

-- an input that is refused, once its line was told
pub refused_told : (input line : List ℕ) (before after : Output) (result : Status) → IsRefused input line → TellEnds statuses.Refused line before after result → NoScriptIn input before after result
refused_told input line before after result refused told = elim told [
  | inl told ↦ subst (NoScriptIn input before after) (sym told.0) (line, refused, told.1)
  | inr failed ↦ subst (NoScriptIn input before after) (sym failed.0) (line, refused, failed.1)
]

-- an input that was read and is no script
pub none_read : (before : Outside) (after : Input) (output : Output) (input : List ℕ) (status : Status) → after.faults ≡ before.input.faults → IsRead script_limit before.input after input → NoScriptIn input before.output output status → NoScript before (record { input = after; output = output }) status
none_read before after output input statuses.Done unfailed read none = absurd none
none_read before after output input statuses.Killed unfailed read none = absurd none
none_read before after output input statuses.Refused unfailed read none = record { unfailed = unfailed; input = input; read = read; ends = none }
none_read before after output input statuses.Illegal unfailed read none = absurd none
none_read before after output input statuses.ReadFault unfailed read none = absurd none
none_read before after output input statuses.WriteFault unfailed read none = record { unfailed = unfailed; input = input; read = read; ends = none }
none_read before after output input statuses.NoMemory unfailed read none = (unfailed, record { bytes = input; taken = read.taken; most = read.most }, none)
none_read before after output input statuses.Usage unfailed read none = absurd none

-- where there is no script, the command ends so
pub none_played : {B : Type 0} (state : B → Bank) (play : Play) (before after : Outside) (procs : List (Proc B)) (status : Status) → NoScript before after status → PlayEnds state play before after procs procs status
none_played state play before after procs statuses.Done none = absurd none
none_played state play before after procs statuses.Killed none = absurd none
none_played state play before after procs statuses.Refused none = none
none_played state play before after procs statuses.Illegal none = absurd none
none_played state play before after procs statuses.ReadFault none = none
none_played state play before after procs statuses.WriteFault none = record { unfailed = none.unfailed; input = none.input; read = none.read; ends = (none.ends.0, inr (none.ends.1, refl), none.ends.2) }
none_played state play before after procs statuses.NoMemory none = none
none_played state play before after procs statuses.Usage none = absurd none

pub same_keeps : {B : Type 0} (procs : List (Proc B)) (status : Status) → KeepsProcessors procs procs status
same_keeps procs statuses.Done = tt
same_keeps procs statuses.Killed = tt
same_keeps procs statuses.Refused = refl
same_keeps procs statuses.Illegal = refl
same_keeps procs statuses.ReadFault = refl
same_keeps procs statuses.WriteFault = tt
same_keeps procs statuses.NoMemory = refl
same_keeps procs statuses.Usage = refl

-- a history, once it was told with its status, over the processors that its run left
pub history_told : {B : Type 0} (state : B → Bank) (play : Play) (script : Script) (history : List Event) (before after : Output) (old new : List (Proc B)) (result : Status) → IsRunOf state play script history old new → TellEnds (status_of history) (history_text script history) before after result → WriteEnds state play script before after old new result
history_told state play script history before after old new result run told = elim told [
  | inl wrote ↦ subst (WriteEnds state play script before after old new) (sym wrote.0) (written (has_kill history) refl wrote.1)
  | inr failed ↦ subst (WriteEnds state play script before after old new) (sym failed.0) (history, run, failed.1)
]
  where
    written : (killed : Bool) → has_kill history ≡ killed → Writes before after (history_text script history) → WriteEnds state play script before after old new (if killed then statuses.Killed else statuses.Done)
    written true e text = (history, run, ap (λ b. if b then statuses.Killed else statuses.Done) (sym e), text)
    written false e text = (history, run, ap (λ b. if b then statuses.Killed else statuses.Done) (sym e), text)

pub history_keeps : {B : Type 0} (history : List Event) (text : List ℕ) (before after : Output) (old new : List (Proc B)) (result : Status) → TellEnds (status_of history) text before after result → KeepsProcessors old new result
history_keeps history text before after old new result told = elim told [
  | inl wrote ↦ subst (KeepsProcessors old new) (sym wrote.0) (either (has_kill history))
  | inr failed ↦ subst (KeepsProcessors old new) (sym failed.0) tt
]
  where
    either : (killed : Bool) → KeepsProcessors old new (if killed then statuses.Killed else statuses.Done)
    either true = tt
    either false = tt

-- the text of a script's history that was written
wrote_run : {B : Type 0} (state : B → Bank) (play : Play) (input : List ℕ) (script : Script) (before after : Output) (old new : List (Proc B)) (status : Status) → IsAccepted input script → WroteHistory state play script before after old new status → AnswersRun state play input before after old new status
wrote_run state play input script before after old new status accepted wrote =
    let ran : RunsTo state play input (history_text script wrote.0) old new = record { script = script; accepted = accepted; history = wrote.0; run = wrote.1; written = refl } in
    (history_text script wrote.0, ran, wrote.2, wrote.3)

fails_run : {B : Type 0} (state : B → Bank) (play : Play) (input : List ℕ) (script : Script) (history : List Event) (before after : Output) (old new : List (Proc B)) → IsAccepted input script → IsRunOf state play script history old new → FailsIn before after (history_text script history) → AnswerEnds state play input before after old new statuses.WriteFault
fails_run state play input script history before after old new accepted run fails =
    let ran : RunsTo state play input (history_text script history) old new = record { script = script; accepted = accepted; history = history; run = run; written = refl } in
    (history_text script history, inl ran, fails)

-- a script that was read, once its history was written
module _ {B : Type 0} (state : B → Bank) (play : Play) (script : Script) (before : Outside) (input : Input) (between after : Output) (old new : List (Proc B)) (has : HasScript script before (record { input = input; output = between })) where
  from : (P : Output → Type 0) → P between → P before.output
  from P is = subst P has.unwritten is

  pub played : (status : Status) → WriteEnds state play script between after old new status → PlayEnds state play before (record { input = input; output = after }) old new status
  played statuses.Done ends = record { unfailed = has.unfailed; input = has.input; read = has.read; ends = from (λ (output : Output). AnswersRun state play has.input output after old new statuses.Done) (wrote_run state play has.input script between after old new statuses.Done has.accepted ends) }
  played statuses.Killed ends = record { unfailed = has.unfailed; input = has.input; read = has.read; ends = from (λ (output : Output). AnswersRun state play has.input output after old new statuses.Killed) (wrote_run state play has.input script between after old new statuses.Killed has.accepted ends) }
  played statuses.Refused ends = absurd ends
  played statuses.Illegal ends = absurd ends
  played statuses.ReadFault ends = absurd ends
  played statuses.WriteFault ends = record { unfailed = has.unfailed; input = has.input; read = has.read; ends = from (λ (output : Output). AnswerEnds state play has.input output after old new statuses.WriteFault) (fails_run state play has.input script ends.0 between after old new has.accepted ends.1 ends.2) }
  played statuses.NoMemory ends = (has.unfailed, record { bytes = has.input; taken = has.read.taken; most = has.read.most }, from (λ (output : Output). WritesNothing output after) ends)
  played statuses.Usage ends = absurd ends

-- a script's history was written
run_headline : {B : Type 0} (state : B → Bank) (play : Play) (before after : Outside) (old new : List (Proc B)) (status : Status) → ReadAndEnds script_limit before after (λ input. AnswersRun state play input before.output after.output old new status) → Headline state play before after old new status
run_headline state play before after old new status ends =
    let ran = ends.ends.1 in
    record {
      input = ends.input;
      read = ends.read.taken;
      ended = ends.read.whole ran.accepted.short;
      script = ran.script;
      accepted = ran.accepted;
      history = ran.history;
      text = subst (λ (text : List ℕ). Appends before.output.written after.output.written text) ran.written ends.ends.3.whole;
      run = ran.run;
      status = ends.ends.2;
    }

pub headline_told : {B : Type 0} (state : B → Bank) (play : Play) (before after : Outside) (old new : List (Proc B)) (result : Status) → (result ≡ statuses.Done) ⊎ (result ≡ statuses.Killed) → PlayEnds state play before after old new result → Headline state play before after old new result
headline_told state play before after old new result written ends = elim written [
  | inl done ↦ rw done (run_headline state play before after old new statuses.Done (rw done at ends))
  | inr killed ↦ rw killed (run_headline state play before after old new statuses.Killed (rw killed at ends))
]
