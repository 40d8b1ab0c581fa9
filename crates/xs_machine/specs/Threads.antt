-- A run on threads: each processor's worker holds a pass, and knows the board that it last took or gave.
use Rattle.std.specs.Prelude.{◌≡◌, ℕ, zero, suc, ◌<◌, ◌≤◌, List, [], length, slice_index_or, true, Option, Some, None, MatchOption}
use Rattle.atomic_table.specs.Seated.{TableId}
use Rattle.xs_bank.specs.declared.cpu.Cpu.{Cpu}
use Rattle.xs_bank.specs.Bank as banks
use Rattle.xs_share.specs.declared.pass.Pass.{Pass}
use Rattle.xs_share.specs.Passes.{view, mark_word, IsIdle}
use Rattle.xs_model.specs.declared.event.Event.{Event}
use Rattle.xs_model.specs.declared.script.Script.{Script}
use Rattle.xs_model.specs.History.{IsWhole}
use Rattle.xs_model.specs.Replay.{IsReplay, entry}
use Rattle.xs_model.specs.State.{none_lives}
use Rattle.xs_task.specs.declared.task.Task.{Task}
use Rattle.xs_board.specs.declared.turn.Turn.{Turn}
use Rattle.xs_board.specs.declared.turn.Close.{Close}
use Rattle.xs_board.specs.declared.turn.Entry.{Entry}
use Rattle.xs_board.specs.Board.{Board, answer_in, machine_in, past_of, private_in}
use Rattle.xs_board.specs.Turn.{AreLines, task_after, task_handed}
use Rattle.xs_machine.specs.declared.proc.Proc.{Proc}
use Rattle.xs_machine.specs.Processors.{HasRun, HaveRun, KeepProcessors, KeepsProcessor}
use Rattle.xs_machine.specs.Running.{IsAt, IsRun}
use Rattle.xs_machine.specs.Turn.{HasLeft, past_after}

-- ---- a turn whose lines ran away from the board

-- The turn that the board has on this processor is over by these lines and this close, and its task has left the processor. By the
-- board as it is, the bank has counted and holds what its history will tell once the turn's events join it.
pub record HasRunTurn {B : Type 0} (script : Script) (board : Board) (turn : Turn) (before : banks.Bank) (items : List Entry) (close : Close) (task : Task) (cpu : Cpu B) (bank : banks.Bank) : Type 0 where
  pub lines : AreLines script turn.task.name (private_in board turn.task.name) 0 items close
  pub left : HasLeft script turn.task.name turn.cpu (past_of board) (past_after turn.task.name items close (answer_in board turn.task.name items close) (past_of board)) before (task_handed close (task_after script turn.task.name (private_in board turn.task.name) items)) task cpu bank

-- Some board of the run has a turn of this task on the processor.
pub record SomeTurn {B : Type 0} (script : Script) (task : Task) (cpu : Cpu B) (bank : banks.Bank) : Type 0 where
  pub board : Board
  pub turn : Turn
  pub task_is : turn.task ≡ task
  pub run : IsRun script board
  pub at : IsAt script board turn.cpu (Some turn) cpu bank

-- ---- passes and marks

-- The pass of processor c, without the turn, that last took or gave this board. Its mark word is this mark.
pub record HasPass (name : TableId) (c : ℕ) (board : Board) (mark : Option ℕ) (pass : Pass Board) : Type 0 where
  pub idle : IsIdle name c pass
  pub last : (view pass).last ≡ board
  pub word : (view pass).mark ≡ mark_word mark

-- ---- on one processor

-- the past after so many entries of processor 0, and of no other
abbrev pub entered : Script → ℕ → List Event
entered script zero = []
entered script (suc n) = entry script (entered script n) 0

-- Where the script has one processor, the past is such a one.
abbrev pub IsEntered : Script → List Event → Type 0
IsEntered script past = script.cpus ≡ 1 → (n : ℕ) × (past ≡ entered script n)

-- ---- workers

-- A worker between two of its steps, with this turn or with none. Its pass last gave a board of the run, by whose history its bank has
-- counted and holds what it should; what others do since leaves that so. Its mark word is its processor's owner mark.
pub record Stands {B : Type 0} (name : TableId) (script : Script) (slot : Option Turn) (pass : Pass Board) (cpu : Cpu B) (bank : banks.Bank) : Type 0 where
  pub pass_is : HasPass name cpu.number (view pass).last cpu.mark pass
  pub known : cpu.number < script.cpus
  pub run : IsRun script (view pass).last
  pub at : IsAt script (view pass).last cpu.number slot cpu bank
  pub entered_is : IsEntered script (past_of (view pass).last)

-- A worker that has no turn and needs none: by the board that it last gave nobody lives.
pub record IsOver {B : Type 0} (name : TableId) (script : Script) (pass : Pass Board) (cpu : Cpu B) (bank : banks.Bank) : Type 0 where
  pub stands : Stands name script None pass cpu bank
  pub none : none_lives (machine_in (view pass).last) ≡ true

abbrev pub IsReady : {B : Type 0} → TableId → Script → (B → banks.Bank) → Proc B → Type 0
IsReady name script state proc = MatchOption proc.pass ⊥ (λ pass. Stands name script None pass proc.cpu (state proc.cpu.bank))

abbrev pub IsDone : {B : Type 0} → TableId → Script → (B → banks.Bank) → Proc B → Type 0
IsDone name script state proc = MatchOption proc.pass ⊥ (λ pass. IsOver name script pass proc.cpu (state proc.cpu.bank))

-- P holds of each processor and its place.
abbrev pub EachProc : {B : Type 0} → (ℕ → Proc B → Type 0) → List (Proc B) → Type 0
EachProc {B = B} P procs = (i : ℕ) (d : Proc B) → i < length procs → P i (slice_index_or procs i d)

-- Each processor keeps what it has but for its bank and its mark; the lists are as long.
abbrev pub KeepEach : {B : Type 0} → List (Proc B) → List (Proc B) → Type 0
KeepEach {B = B} old new = (i : ℕ) (d : Proc B) → i < length old → KeepsProcessor (slice_index_or old i d).cpu (slice_index_or new i d).cpu

-- ---- a run of all that a script has

-- The history is whole. Of these processors, which are the script's, each has counted and holds what it says, and so has any that the
-- script doesn't have and that counted nothing. With one processor it is the replay.
pub record HasRunAll {B : Type 0} (state : B → banks.Bank) (script : Script) (history : List Event) (old new : List (Proc B)) : Type 0 where
  pub whole : IsWhole script history
  pub each : HaveRun state script history new
  pub beyond : (c : ℕ) (cpu : Cpu B) (bank : banks.Bank) → script.cpus ≤ c → banks.HasCountedNothing bank → HasRun script history c cpu bank
  pub alone : script.cpus ≡ 1 → IsReplay script history
  pub kept : KeepProcessors old new
  pub many : length new ≡ length old
