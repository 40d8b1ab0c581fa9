-- A run between two entries of its schedule.
use Rattle.std.specs.Prelude.{get_or, length, ◌≡◌, ℕ, ◌<◌, ◌≤◌, true, false, List, [], slice_get, slice_index_or, ◌⊎◌, Option, Some, None, if◌then◌else◌}
use Rattle.xs_base.specs.declared.component.Row.{Row}
use Rattle.xs_base.specs.declared.words.How.TheVariants as hows
use Rattle.xs_base.specs.Counts.{after_start}
use Rattle.xs_base.specs.File.{File, AreSameButPkru}
use Rattle.xs_base.specs.Task.{PrivateTask, start_pkru}
use Rattle.xs_bank.specs.declared.cpu.Cpu.{Cpu}
use Rattle.xs_bank.specs.Bank as banks
use Rattle.xs_bank.specs.Bank.{counts_of}
use Rattle.xs_bank.specs.Holds.{Holds}
use Rattle.xs_bank.specs.SetUp.{WasSetUp}
use Rattle.xs_model.specs.declared.script.Script.{Script}
use Rattle.xs_model.specs.declared.stage.Stage.TheVariants as stages
use Rattle.xs_model.specs.Counts as told
use Rattle.xs_model.specs.Counts.{in_section}
use Rattle.xs_model.specs.History.{IsLegal}
use Rattle.xs_model.specs.Note.{cpu_of, notes_of, mark, last}
use Rattle.xs_model.specs.Replay.{schedule_of}
use Rattle.xs_model.specs.Script.{IsValid, is_user}
use Rattle.xs_model.specs.State.{none_lives}
use Rattle.xs_switch.specs.Pkru.{given_pkru}
use Rattle.xs_board.specs.declared.turn.Turn.{Turn}
use Rattle.xs_board.specs.Board.{Board, past_of, machine_in, ready_of, stage_in, private_in, begun, turn_on}
use Rattle.xs_board.specs.Home.{IsHome}
use Rattle.xs_board.specs.Taken.{is_user_how}
use Rattle.xs_machine.specs.declared.proc.Proc.{Proc}
use Rattle.xs_machine.specs.Line.{IsOn, KeepsCpu}

-- The board's script and history are those of a run.
pub record IsRun (script : Script) (board : Board) : Type 0 where
  pub valid : IsValid script
  pub script_is : board.script ≡ script
  pub legal : IsLegal script board.history

-- What holds of each processor, also of one past those of the script: what its bank has counted and holds is told by the history.
pub record IsTold (script : Script) (board : Board) (i : ℕ) (bank : banks.Bank) : Type 0 where
  pub counts : told.counts_of script (past_of board) i ≡ counts_of bank
  pub file : (file : File) → told.remains script (past_of board) i ≡ Some file → AreSameButPkru file bank.file

-- A processor of the script. Where its mark is a task whose last processor it is, the bank holds that task.
pub record IsProcessor {B : Type 0} (script : Script) (board : Board) (i : ℕ) (cpu : Cpu B) (bank : banks.Bank) : Type 0 where
  pub number : cpu.number ≡ i
  pub layout : cpu.layout ≡ script.layout
  pub set_up : WasSetUp script.layout bank cpu.initial
  pub mark_is : cpu.mark ≡ mark script (past_of board) i
  pub holds : (u : ℕ) → mark script (past_of board) i ≡ Some u → last script (past_of board) u ≡ Some i → Holds bank (private_in board u)

-- The turn is one on the processor, and none of its lines has run.
pub record IsTurnHeld {B : Type 0} (script : Script) (board : Board) (i : ℕ) (turn : Turn) (cpu : Cpu B) (bank : banks.Bank) : Type 0 where
  pub cpu_is : turn.cpu ≡ i
  pub stage : stage_in board turn.task.name ≡ stages.Turn i 0
  pub busy : turn_on board i ≡ Some turn.task.name
  pub here : cpu_of (notes_of script (past_of board)) turn.task.name ≡ Some i
  pub home : last script (past_of board) turn.task.name ≡ Some i
  pub latest : told.file_after script (past_of board) i turn.task.name ≡ told.file_of (slice_get (machine_in board).blocks turn.task.name)
  pub fresh : in_section script (past_of board) turn.task.name ≡ false
  pub on : IsOn (is_user script turn.task.name) script.layout turn.task bank (private_in board turn.task.name)
  pub flag : is_user script turn.task.name ≡ true → turn.task.need_load ≡ false
  pub own : is_user script turn.task.name ≡ true → mark script (past_of board) i ≡ Some turn.task.name

-- The processor has the turn that is kept for it, or none.
abbrev pub HasTurn : {B : Type 0} → Script → Board → ℕ → Option Turn → Cpu B → banks.Bank → Type 0
HasTurn script board i None cpu bank = turn_on board i ≡ None
HasTurn script board i (Some turn) cpu bank = IsTurnHeld script board i turn cpu bank

-- A processor of the script, with the turn that is kept for it.
pub record IsAt {B : Type 0} (script : Script) (board : Board) (i : ℕ) (slot : Option Turn) (cpu : Cpu B) (bank : banks.Bank) : Type 0 where
  pub told_is : IsTold script board i bank
  pub processor : IsProcessor script board i cpu bank
  pub turn : HasTurn script board i slot cpu bank

-- All processors, the script's and those past them.
pub record AreAt {B : Type 0} (state : B → banks.Bank) (script : Script) (board : Board) (turns : List (Option Turn)) (procs : List (Proc B)) : Type 0 where
  pub script_has : (i : ℕ) (proc : Proc B) → i < script.cpus → slice_get procs i ≡ Some proc → IsAt script board i (slice_index_or turns i None) proc.cpu (state proc.cpu.bank)
  pub beyond : (i : ℕ) (proc : Proc B) → script.cpus ≤ i → slice_get procs i ≡ Some proc → IsTold script board i (state proc.cpu.bank)

-- What an entry on one processor leaves of the others.
pub record LeavesOthers (B : Type 0) (script : Script) (i : ℕ) (old new : Board) : Type 0 where
  pub at : (d : ℕ) (slot : Option Turn) (cpu : Cpu B) (bank : banks.Bank) → (d ≡ i → ⊥) → IsAt script old d slot cpu bank → IsAt script new d slot cpu bank
  pub told_is : (d : ℕ) (bank : banks.Bank) → (d ≡ i → ⊥) → IsTold script old d bank → IsTold script new d bank

-- A processor without an entry in the schedule has no turn.
abbrev pub KeepsToSchedule : Script → Board → Type 0
KeepsToSchedule script board = (c : ℕ) → ((at : ℕ) → at < length (schedule_of script.cpus script.sched) → get_or (schedule_of script.cpus script.sched) at 0 ≡ c → ⊥) → turn_on board c ≡ None

-- An entry made no event: no turn was there, and no block is ready or none lives.
pub record IsIdle (script : Script) (i : ℕ) (old new : Board) : Type 0 where
  pub same : new ≡ old
  pub free : turn_on old i ≡ None
  pub none : (ready_of old ≡ []) ⊎ (none_lives (machine_in old) ≡ true)

-- ---- the start of a turn

-- The task of a turn that the board handed out stands for the private task, and where its registers are to be in the bank they are.
-- A kernel thread has no handler.
pub record MayBegin (rows : List Row) (turn : Turn) (bank : banks.Bank) (private : PrivateTask) : Type 0 where
  pub home : IsHome (is_user_how turn.how) rows turn.task private
  pub outside : is_user_how turn.how ≡ false → private.handling ≡ false
  pub held : turn.how ≡ hows.Skip → Holds bank private

-- The turn's registers came to the bank, if it is a user task's, and its signal was delivered. A kernel thread has its PKRU alone,
-- which is that of a task's start.
pub record Begun {B : Type 0} (old new : Turn) (before after : Cpu B) (bank_before bank_after : banks.Bank) : Type 0 where
  pub set_up : WasSetUp before.layout bank_after after.initial
  pub cpu : KeepsCpu before after
  pub mark : after.mark ≡ (if is_user_how old.how then Some old.task.name else before.mark)
  pub name : new.task.name ≡ old.task.name
  pub cpu_is : new.cpu ≡ old.cpu
  pub loaded : is_user_how old.how ≡ true → new.task.need_load ≡ false
  pub on : (p : PrivateTask) → MayBegin before.layout old bank_before p → IsOn (is_user_how old.how) before.layout new.task bank_after (begun old.signal p)
  pub holds : is_user_how old.how ≡ true → (p : PrivateTask) → MayBegin before.layout old bank_before p → Holds bank_after (begun old.signal p)
  pub counts : counts_of bank_after ≡ told.delivery old.signal (after_start old.how (counts_of bank_before))
  pub kernel : is_user_how old.how ≡ false → bank_after ≡ given_pkru bank_before start_pkru
