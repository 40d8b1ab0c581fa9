-- What the program answers: which inputs it accepts, and what it writes for them. All of it is this project's own.
use Rattle.std.specs.Prelude.{◌≡◌, ℕ, ◌<◌, ◌^◌, ◌≤◌, ⊤, List, [], ◌∷◌, ◌++◌, length, codes, ◌⊎◌}
use Rattle.xs_bank.specs.Bank.{Bank}
use Rattle.xs_check.specs.Call.{CheckEnds}
use Rattle.xs_gen.specs.Call.{GenEnds}
use Rattle.xs_io.specs.Causes.{Rose}
use Rattle.xs_machine.specs.declared.proc.Proc.{Proc}
use Rattle.xs_model.specs.declared.script.Script.{Script}
use Rattle.xs_model.specs.declared.event.Event.{Event}
use Rattle.xs_script.specs.declared.refusal.Kind.{Kind}
use Rattle.xs_script.specs.Grammar.{Spells}
use Rattle.xs_script.specs.Refusal.{Refuses}
use Rattle.xs_script.specs.RefusalText.{refusal_text}
use Rattle.xs_text.specs.Text.{history_text}
use Rattle.xs_top.specs.declared.play.Play.{Play}
use Rattle.xs_outside.specs.declared.status.Status.{Status}
use Rattle.xs_outside.specs.declared.status.Status.TheVariants as statuses
use Rattle.xs_outside.specs.Statuses.{too_long_text}
use Rattle.xs_top.specs.Statuses.{status_of}
use Rattle.xs_outside.specs.Outside.{Output, Outside, IsRead, TakesAtMost, ReadAndEnds, WritesNothing, Writes, FailsIn, script_limit}
use Rattle.xs_top.specs.Run.{IsCheckLine, IsCommandLine, IsRunOf, demo_words, gen_words, play_words}
use Rattle.xs_top.specs.Demo.{DemoEnds}

abbrev pub usage_text : List ℕ
usage_text = codes "usage: xstate run [--tasks] | replay | check | gen N | demo N" ++ 10 ∷ []

-- ---- inputs

-- The input is the text of this script, and no longer than a script may be.
pub record IsAccepted (input : List ℕ) (script : Script) : Type 0 where
  pub short : length input ≤ script_limit
  pub spelled : Spells input script

-- The input is no script, and this line says why: it is longer than a script may be, or one of its lines is refused.
pub data IsRefused (input : List ℕ) : List ℕ → Type 0 where
  TooLong : script_limit < length input → IsRefused input too_long_text
  ByLine : (number : ℕ) (kind : Kind) → length input ≤ script_limit → Refuses input number kind → IsRefused input (refusal_text number kind)

-- The input is a script, and the text is that of a history of it, which the command ran on the processors.
pub record RunsTo {B : Type 0} (state : B → Bank) (play : Play) (input text : List ℕ) (old new : List (Proc B)) : Type 0 where
  pub script : Script
  pub accepted : IsAccepted input script
  pub history : List Event
  pub run : IsRunOf state play script history old new
  pub written : text ≡ history_text script history

-- The right output for an input: the text of a run, or the line of a refusal, which leaves the processors as they were.
abbrev pub IsOutput : {B : Type 0} → (B → Bank) → Play → List ℕ → List ℕ → List (Proc B) → List (Proc B) → Type 0
IsOutput state play input text old new = RunsTo state play input text old new ⊎ (IsRefused input text × (new ≡ old))

-- ---- how calls end, by the status

-- A script was read, and nothing was written.
pub record HasScript (script : Script) (before after : Outside) : Type 0 where
  pub unfailed : after.input.faults ≡ before.input.faults
  pub input : List ℕ
  pub read : IsRead script_limit before.input after.input input
  pub accepted : IsAccepted input script
  pub unwritten : after.output ≡ before.output

-- The input is no script, and the line that says why was written, or a front of it; or there was no memory to read it in.
abbrev pub NoScriptIn : List ℕ → Output → Output → Status → Type 0
NoScriptIn input before after statuses.Done = ⊥
NoScriptIn input before after statuses.Killed = ⊥
NoScriptIn input before after statuses.Refused = (text : List ℕ) × IsRefused input text × Writes before after text
NoScriptIn input before after statuses.Illegal = ⊥
NoScriptIn input before after statuses.ReadFault = ⊥
NoScriptIn input before after statuses.WriteFault = (text : List ℕ) × IsRefused input text × FailsIn before after text
NoScriptIn input before after statuses.NoMemory = WritesNothing before after
NoScriptIn input before after statuses.Usage = ⊥

-- So it was with what was read, or reading failed.
abbrev pub NoScript : Outside → Outside → Status → Type 0
NoScript before after statuses.Done = ⊥
NoScript before after statuses.Killed = ⊥
NoScript before after statuses.Refused = ReadAndEnds script_limit before after (λ input. NoScriptIn input before.output after.output statuses.Refused)
NoScript before after statuses.Illegal = ⊥
NoScript before after statuses.ReadFault = Rose before.input.faults after.input.faults × TakesAtMost script_limit before.input after.input × WritesNothing before.output after.output
NoScript before after statuses.WriteFault = ReadAndEnds script_limit before after (λ input. NoScriptIn input before.output after.output statuses.WriteFault)
NoScript before after statuses.NoMemory = (after.input.faults ≡ before.input.faults) × TakesAtMost script_limit before.input after.input × WritesNothing before.output after.output
NoScript before after statuses.Usage = ⊥

-- The history of a run was written whole, and the status is that of this history.
abbrev pub WroteHistory : {B : Type 0} → (B → Bank) → Play → Script → Output → Output → List (Proc B) → List (Proc B) → Status → Type 0
WroteHistory state play script before after old new status = (history : List Event) × IsRunOf state play script history old new × (status ≡ status_of history) × Writes before after (history_text script history)

-- the run of a script
abbrev pub WriteEnds : {B : Type 0} → (B → Bank) → Play → Script → Output → Output → List (Proc B) → List (Proc B) → Status → Type 0
WriteEnds state play script before after old new statuses.Done = WroteHistory state play script before after old new statuses.Done
WriteEnds state play script before after old new statuses.Killed = WroteHistory state play script before after old new statuses.Killed
WriteEnds state play script before after old new statuses.Refused = ⊥
WriteEnds state play script before after old new statuses.Illegal = ⊥
WriteEnds state play script before after old new statuses.ReadFault = ⊥
WriteEnds state play script before after old new statuses.WriteFault = (history : List Event) × IsRunOf state play script history old new × FailsIn before after (history_text script history)
WriteEnds state play script before after old new statuses.NoMemory = WritesNothing before after
WriteEnds state play script before after old new statuses.Usage = ⊥

-- The text of a run was written whole, and the status is that of its history.
abbrev pub AnswersRun : {B : Type 0} → (B → Bank) → Play → List ℕ → Output → Output → List (Proc B) → List (Proc B) → Status → Type 0
AnswersRun state play input before after old new status = (text : List ℕ) × (ran : RunsTo state play input text old new) × (status ≡ status_of ran.history) × Writes before after text

-- the answer to an input, with the processors before and after
abbrev pub AnswerEnds : {B : Type 0} → (B → Bank) → Play → List ℕ → Output → Output → List (Proc B) → List (Proc B) → Status → Type 0
AnswerEnds state play input before after old new statuses.Done = AnswersRun state play input before after old new statuses.Done
AnswerEnds state play input before after old new statuses.Killed = AnswersRun state play input before after old new statuses.Killed
AnswerEnds state play input before after old new statuses.Refused = (text : List ℕ) × IsRefused input text × Writes before after text
AnswerEnds state play input before after old new statuses.Illegal = ⊥
AnswerEnds state play input before after old new statuses.ReadFault = ⊥
AnswerEnds state play input before after old new statuses.WriteFault = (text : List ℕ) × IsOutput state play input text old new × FailsIn before after text
AnswerEnds state play input before after old new statuses.NoMemory = WritesNothing before after
AnswerEnds state play input before after old new statuses.Usage = ⊥

-- a command that plays a script
abbrev pub PlayEnds : {B : Type 0} → (B → Bank) → Play → Outside → Outside → List (Proc B) → List (Proc B) → Status → Type 0
PlayEnds state play before after old new statuses.Done = ReadAndEnds script_limit before after (λ input. AnswerEnds state play input before.output after.output old new statuses.Done)
PlayEnds state play before after old new statuses.Killed = ReadAndEnds script_limit before after (λ input. AnswerEnds state play input before.output after.output old new statuses.Killed)
PlayEnds state play before after old new statuses.Refused = ReadAndEnds script_limit before after (λ input. AnswerEnds state play input before.output after.output old new statuses.Refused)
PlayEnds state play before after old new statuses.Illegal = ⊥
PlayEnds state play before after old new statuses.ReadFault = Rose before.input.faults after.input.faults × TakesAtMost script_limit before.input after.input × WritesNothing before.output after.output
PlayEnds state play before after old new statuses.WriteFault = ReadAndEnds script_limit before after (λ input. AnswerEnds state play input before.output after.output old new statuses.WriteFault)
PlayEnds state play before after old new statuses.NoMemory = (after.input.faults ≡ before.input.faults) × TakesAtMost script_limit before.input after.input × WritesNothing before.output after.output
PlayEnds state play before after old new statuses.Usage = ⊥

-- The output of a command is cut short: a write failed within what the input asks for.
abbrev pub IsPlayCutShort : {B : Type 0} → (B → Bank) → Play → Outside → Outside → List (Proc B) → List (Proc B) → Type 0
IsPlayCutShort state play before after old new = (input text : List ℕ) × IsRead script_limit before.input after.input input × IsOutput state play input text old new × FailsIn before.output after.output text

-- The words name a number, whose script was written, or a front of it, or nothing for want of memory. Nothing was read, and no
-- processor changed.
pub record GenCall {B : Type 0} (words : List (List ℕ)) (before after : Outside) (old new : List (Proc B)) (result : Status) : Type 0 where
  pub number : ℕ
  pub few : number < 2 ^ 32
  pub words_are : words ≡ gen_words number
  pub unread : after.input ≡ before.input
  pub kept : new ≡ old
  pub ends : GenEnds number before.output after.output result

-- The words name a number, whose script was run, and the line of its summary was written, or a front of it; or nothing was done for
-- want of memory. Nothing was read.
pub record DemoCall {B : Type 0} (state : B → Bank) (words : List (List ℕ)) (before after : Outside) (old new : List (Proc B)) (result : Status) : Type 0 where
  pub number : ℕ
  pub few : number < 2 ^ 32
  pub words_are : words ≡ demo_words number
  pub unread : after.input ≡ before.input
  pub ends : DemoEnds state number before.output after.output old new result

-- An input of the checker was read, and the line of its verdict was written, or a front of it; or nothing for want of memory or a
-- fault of reading. No processor changed.
pub record CheckCall {B : Type 0} (before after : Outside) (old new : List (Proc B)) (result : Status) : Type 0 where
  pub kept : new ≡ old
  pub ends : CheckEnds before after result

-- The output is cut short: a write failed within what the words and the input ask for. Of wrong words nothing was read, and
-- no processor changed.
abbrev pub IsCutShort : {B : Type 0} → (B → Bank) → List (List ℕ) → Outside → Outside → List (Proc B) → List (Proc B) → Type 0
IsCutShort state words before after old new =
    ((IsCommandLine words → ⊥) × (after.input ≡ before.input) × (new ≡ old) × FailsIn before.output after.output usage_text)
    ⊎ ((play : Play) × (words ≡ play_words play) × IsPlayCutShort state play before after old new)
    ⊎ GenCall words before after old new statuses.WriteFault
    ⊎ DemoCall state words before after old new statuses.WriteFault
    ⊎ (IsCheckLine words × CheckCall before after old new statuses.WriteFault)

-- No processor changed, where no script was run to its end: at 64, 2, 3, 4 and 6. What 0, 1 and 5 leave is said with the script
-- that ran.
abbrev pub KeepsProcessors : {B : Type 0} → List (Proc B) → List (Proc B) → Status → Type 0
KeepsProcessors before after statuses.Done = ⊤
KeepsProcessors before after statuses.Killed = ⊤
KeepsProcessors before after statuses.Refused = after ≡ before
KeepsProcessors before after statuses.Illegal = after ≡ before
KeepsProcessors before after statuses.ReadFault = after ≡ before
KeepsProcessors before after statuses.WriteFault = ⊤
KeepsProcessors before after statuses.NoMemory = after ≡ before
KeepsProcessors before after statuses.Usage = after ≡ before
