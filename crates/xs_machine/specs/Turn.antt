-- The turn of a task on its processor, event by event. A past has its latest event first.
use Rattle.std.specs.Prelude.{◌≡◌, ℕ, Bool, true, false, not, ◌&&◌, List, ◌++◌, length, reverse, slice_get, ◌<◌, Option, Some, None, if◌then◌else◌}
use Rattle.xs_base.specs.Counts.{save_if}
use Rattle.xs_base.specs.Task.{PrivateTask, parked}
use Rattle.xs_bank.specs.declared.cpu.Cpu.{Cpu}
use Rattle.xs_bank.specs.Bank as banks
use Rattle.xs_bank.specs.Bank.{counts_of}
use Rattle.xs_bank.specs.Holds.{Holds}
use Rattle.xs_bank.specs.SetUp.{WasSetUp}
use Rattle.xs_model.specs.declared.event.Event.{Event}
use Rattle.xs_model.specs.declared.event.Why.{Why}
use Rattle.xs_model.specs.declared.script.Script.{Script}
use Rattle.xs_model.specs.declared.stage.Stage.TheVariants as stages
use Rattle.xs_model.specs.Counts as told
use Rattle.xs_model.specs.Counts.{in_section}
use Rattle.xs_model.specs.Line.{is_frame_cause}
use Rattle.xs_model.specs.Machine.{machine}
use Rattle.xs_model.specs.Note.{cpu_of, notes_of, mark}
use Rattle.xs_model.specs.Script.{is_user}
use Rattle.xs_model.specs.State.{stage_at}
use Rattle.xs_task.specs.declared.task.Task.{Task}
use Rattle.xs_board.specs.declared.turn.Entry.{Entry}
use Rattle.xs_board.specs.declared.turn.Close.{Close}
use Rattle.xs_board.specs.Home.{IsHome}
use Rattle.xs_board.specs.Turn.{Answer, AreLines, HaveRun, line_of, past_with, task_after, task_handed, turn_events}
use Rattle.xs_machine.specs.Line.{IsOn}

-- The new past is the old one and events of block t on processor c. By them nothing is told of another block's file. Block t had its
-- latest Start there.
pub record Continues (script : Script) (t c : ℕ) (old new : List Event) : Type 0 where
  pub others : (d u : ℕ) → (u ≡ t → ⊥) → told.file_after script new d u ≡ told.file_after script old d u
  pub here : cpu_of (notes_of script new) t ≡ Some c

-- Block t is in a turn on processor c, and the past went on from `first`, when the bank was `before`. The task is that private task.
-- Where the turn is over, its registers wait for their save. The processor has the mark and the bank the counts that the past gives
-- them.
pub record IsTurning {B : Type 0} (script : Script) (t c : ℕ) (first past : List Event) (before : banks.Bank) (over : Bool) (ran : ℕ) (private : PrivateTask) (task : Task) (cpu : Cpu B) (bank : banks.Bank) : Type 0 where
  pub follows : Continues script t c first past
  pub stage : over ≡ false → stage_at (machine script past).blocks t ≡ stages.Turn c ran
  pub number : cpu.number ≡ c
  pub layout : cpu.layout ≡ script.layout
  pub set_up : WasSetUp script.layout bank cpu.initial
  pub name : task.name ≡ t
  pub on : IsOn (is_user script t) script.layout task bank private
  pub flag : is_user script t ≡ true → task.need_load ≡ in_section script past t
  pub mark_is : cpu.mark ≡ mark script past c
  pub own : is_user script t ≡ true → mark script past c ≡ (if in_section script past t then None else Some t)
  pub holds : is_user script t ≡ true → in_section script past t ≡ false → Holds bank private
  pub alien : is_user script t ≡ false → (u : ℕ) → mark script past c ≡ Some u → (mark script first c ≡ Some u) × (bank.file ≡ before.file) × (bank.armed ≡ before.armed)
  pub latest : told.file_after script past c t ≡ told.file_of (slice_get (machine script past).blocks t)
  pub counts : told.counts_of script past c ≡ save_if (over && is_user script t && not task.need_load) (counts_of bank)

-- the past after the events of a turn, to whose close the board answers this
abbrev pub past_after : ℕ → List Entry → Close → Answer → List Event → List Event
past_after t entries close answer past = reverse (turn_events t entries close answer) ++ past

-- A line that traps isn't killed by a frame.
abbrev pub may_be_fate : Option Why → Bool
may_be_fate None = true
may_be_fate (Some why) = not (is_frame_cause why)

-- So many lines ran from the Start on, and the turn goes on. While a handler runs, a line of it is left.
pub record AreRunning {B : Type 0} (script : Script) (t c : ℕ) (first : List Event) (before : banks.Bank) (start : PrivateTask) (entries : List Entry) (private : PrivateTask) (task : Task) (cpu : Cpu B) (bank : banks.Bank) : Type 0 where
  pub run : HaveRun script t start entries private (length entries)
  pub few : length entries < script.quantum
  pub inside : private.handling ≡ true → line_of script t private ≡ None → ⊥
  pub turning : IsTurning script t c first (past_with t entries first) before false (length entries) private task cpu bank

-- The turn is over by its lines and this close. An outer line is still before the task, and so is one that trapped: they have their
-- answer from the board.
pub record AreOver {B : Type 0} (script : Script) (t c : ℕ) (first : List Event) (before : banks.Bank) (start : PrivateTask) (entries : List Entry) (close : Close) (task : Task) (cpu : Cpu B) (bank : banks.Bank) : Type 0 where
  pub lines : AreLines script t start 0 entries close
  pub turning : (answer : Answer) → may_be_fate answer.fate ≡ true → IsTurning script t c first (past_after t entries close answer first) before true 0 (task_handed close (task_after script t start entries)) task cpu bank

-- After a line the turn goes on, or it is over.
abbrev pub AfterLine : {B : Type 0} → Script → ℕ → ℕ → List Event → banks.Bank → PrivateTask → List Entry → Option Close → Task → Cpu B → banks.Bank → Type 0
AfterLine script t c first before start entries None task cpu bank = (private : PrivateTask) × AreRunning script t c first before start entries private task cpu bank
AfterLine script t c first before start entries (Some close) task cpu bank = AreOver script t c first before start entries close task cpu bank

-- The turn is over and the task is home: what the bank counts and holds is told by the past, and so is the mark.
pub record HasLeft {B : Type 0} (script : Script) (t c : ℕ) (first past : List Event) (before : banks.Bank) (private : PrivateTask) (task : Task) (cpu : Cpu B) (bank : banks.Bank) : Type 0 where
  pub follows : Continues script t c first past
  pub number : cpu.number ≡ c
  pub layout : cpu.layout ≡ script.layout
  pub set_up : WasSetUp script.layout bank cpu.initial
  pub name : task.name ≡ t
  pub home : IsHome (is_user script t) script.layout task (parked private)
  pub last_is : is_user script t ≡ true → task.last ≡ Some c
  pub mark_is : cpu.mark ≡ mark script past c
  pub own : is_user script t ≡ true → (u : ℕ) → mark script past c ≡ Some u → (u ≡ t) × Holds bank private
  pub alien : is_user script t ≡ false → (u : ℕ) → mark script past c ≡ Some u → (mark script first c ≡ Some u) × (bank.file ≡ before.file) × (bank.armed ≡ before.armed)
  pub latest : told.file_after script past c t ≡ told.file_of (slice_get (machine script past).blocks t)
  pub counts : told.counts_of script past c ≡ counts_of bank

-- ---- what a call may rely on

-- Some turn of the task is running, after the lines of these entries.
pub record SomeRunning {B : Type 0} (script : Script) (entries : List Entry) (task : Task) (cpu : Cpu B) (bank : banks.Bank) : Type 0 where
  pub t : ℕ
  pub c : ℕ
  pub first : List Event
  pub before : banks.Bank
  pub start : PrivateTask
  pub private : PrivateTask
  pub running : AreRunning script t c first before start entries private task cpu bank

-- Some turn of the task is over.
pub record SomeOver {B : Type 0} (script : Script) (task : Task) (cpu : Cpu B) (bank : banks.Bank) : Type 0 where
  pub t : ℕ
  pub c : ℕ
  pub first : List Event
  pub past : List Event
  pub before : banks.Bank
  pub private : PrivateTask
  pub turning : IsTurning script t c first past before true 0 private task cpu bank
