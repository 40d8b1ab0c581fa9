-- How a command that runs a generated script ends, by its status. This project's own.
use Rattle.std.specs.Prelude.{◌≡◌, ℕ, List}
use Rattle.xs_bank.specs.Bank.{Bank}
use Rattle.xs_gen.specs.Generated.{generated_text}
use Rattle.xs_machine.specs.declared.proc.Proc.{Proc}
use Rattle.xs_model.specs.declared.script.Script.{Script}
use Rattle.xs_model.specs.declared.event.Event.{Event}
use Rattle.xs_outside.specs.declared.status.Status.{Status}
use Rattle.xs_outside.specs.declared.status.Status.TheVariants as statuses
use Rattle.xs_outside.specs.Outside.{Output, FailsIn, Writes, WritesNothing}
use Rattle.xs_script.specs.Grammar.{Spells}
use Rattle.xs_top.specs.declared.play.Play.TheVariants.{Run}
use Rattle.xs_top.specs.Run.{IsRunOf}
use Rattle.xs_top.specs.Summary.{summary_text}

-- The text is the summary of a run of the script, and the processors are as this run leaves them.
abbrev pub IsSummary : {B : Type 0} → (B → Bank) → Script → List ℕ → List (Proc B) → List (Proc B) → Type 0
IsSummary state script text old new = (history : List Event) × IsRunOf state Run script history old new × (text ≡ summary_text script history)

-- A script was run, and its summary was written, or a front of it; or nothing was done for want of memory.
abbrev pub SummaryEnds : {B : Type 0} → (B → Bank) → Script → Output → Output → List (Proc B) → List (Proc B) → Status → Type 0
SummaryEnds state script before after old new statuses.Done = (text : List ℕ) × IsSummary state script text old new × Writes before after text
SummaryEnds state script before after old new statuses.Killed = ⊥
SummaryEnds state script before after old new statuses.Refused = ⊥
SummaryEnds state script before after old new statuses.Illegal = ⊥
SummaryEnds state script before after old new statuses.ReadFault = ⊥
SummaryEnds state script before after old new statuses.WriteFault = (text : List ℕ) × IsSummary state script text old new × FailsIn before after text
SummaryEnds state script before after old new statuses.NoMemory = WritesNothing before after × (new ≡ old)
SummaryEnds state script before after old new statuses.Usage = ⊥

-- So it was with the generator's script of the number.
abbrev pub DemoEnds : {B : Type 0} → (B → Bank) → ℕ → Output → Output → List (Proc B) → List (Proc B) → Status → Type 0
DemoEnds state number before after old new statuses.NoMemory = WritesNothing before after × (new ≡ old)
DemoEnds state number before after old new status = (script : Script) × Spells (generated_text number) script × SummaryEnds state script before after old new status
