-- The processors before a run and after it.
use Rattle.std.specs.Prelude.{◌≡◌, ℕ, ◌<◌, List, reverse, slice_get, Some, None}
use Rattle.xs_base.specs.declared.component.Row.{Row}
use Rattle.xs_base.specs.File.{File, AreSameButPkru}
use Rattle.xs_bank.specs.declared.cpu.Cpu.{Cpu}
use Rattle.xs_bank.specs.Bank as banks
use Rattle.xs_bank.specs.Bank.{counts_of}
use Rattle.xs_bank.specs.SetUp.{WasSetUp}
use Rattle.xs_model.specs.declared.event.Event.{Event}
use Rattle.xs_model.specs.declared.script.Script.{Script}
use Rattle.xs_model.specs.Counts as told
use Rattle.xs_model.specs.Note.{mark}
use Rattle.xs_machine.specs.declared.proc.Proc.{Proc}

-- ---- before a run

-- The processor of this number and this bank was set up for the machine with these rows, and its owner mark is none.
pub record IsSetUpProc {B : Type 0} (rows : List Row) (number : ℕ) (cpu : Cpu B) (bank : banks.Bank) : Type 0 where
  pub number_is : cpu.number ≡ number
  pub layout : cpu.layout ≡ rows
  pub set_up : WasSetUp rows bank cpu.initial
  pub unmarked : cpu.mark ≡ None

-- The processors are those of the script in the order of their numbers, each set up for its machine; others may follow. No bank
-- has counted anything.
pub record AreSetUp {B : Type 0} (state : B → banks.Bank) (script : Script) (procs : List (Proc B)) : Type 0 where
  pub set_up : (i : ℕ) (proc : Proc B) → i < script.cpus → slice_get procs i ≡ Some proc → IsSetUpProc script.layout i proc.cpu (state proc.cpu.bank)
  pub counts : (i : ℕ) (proc : Proc B) → slice_get procs i ≡ Some proc → banks.HasCountedNothing (state proc.cpu.bank)

-- ---- after a run

-- Processor i's bank has counted what the history tells of it, and where the history leaves a file in it, it holds that one, PKRU
-- aside. A processor of the script has the owner mark that the history gives it.
pub record HasRun {B : Type 0} (script : Script) (history : List Event) (i : ℕ) (cpu : Cpu B) (bank : banks.Bank) : Type 0 where
  pub counts : counts_of bank ≡ told.counts_of script (reverse history) i
  pub file : (file : File) → told.remains script (reverse history) i ≡ Some file → AreSameButPkru file bank.file
  pub mark_is : i < script.cpus → cpu.mark ≡ mark script (reverse history) i

-- This is so of each processor by its number.
abbrev pub HaveRun : {B : Type 0} → (B → banks.Bank) → Script → List Event → List (Proc B) → Type 0
HaveRun {B} state script history procs = (i : ℕ) (proc : Proc B) → slice_get procs i ≡ Some proc → HasRun script history i proc.cpu (state proc.cpu.bank)

-- The processor keeps its number, its machine and its initial area.
pub record KeepsProcessor {B : Type 0} (old new : Cpu B) : Type 0 where
  pub number : new.number ≡ old.number
  pub layout : new.layout ≡ old.layout
  pub initial : new.initial ≡ old.initial

abbrev pub KeepProcessors : {B : Type 0} → List (Proc B) → List (Proc B) → Type 0
KeepProcessors {B} old new = (i : ℕ) (before after : Proc B) → slice_get old i ≡ Some before → slice_get new i ≡ Some after → KeepsProcessor before.cpu after.cpu
