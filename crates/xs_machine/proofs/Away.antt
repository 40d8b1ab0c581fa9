-- A turn whose lines ran away from the board, by each board that has the turn.
use Rattle.std.proofs.Common.{◌≡◌, ℕ, ◌<◌, true, List, [], length, Some, subst}
use Rattle.xs_base.specs.Task.{PrivateTask}
use Rattle.xs_bank.specs.declared.cpu.Cpu.{Cpu}
use Rattle.xs_bank.specs.Bank as banks
use Rattle.xs_model.specs.declared.event.Event.{Event}
use Rattle.xs_model.specs.declared.script.Script.{Script}
use Rattle.xs_model.specs.Laws.{MachineKnown}
use Rattle.xs_model.specs.Runs.{NeverIdle}
use Rattle.xs_task.specs.declared.task.Task.{Task}
use Rattle.xs_board.specs.declared.turn.Turn.{Turn}
use Rattle.xs_board.specs.declared.turn.Close.{Close}
use Rattle.xs_board.specs.declared.turn.Entry.{Entry}
use Rattle.xs_board.specs.Board.{Board, answer_in, blocks_with, past_of, private_in, private_with}
use Rattle.xs_board.specs.Turn.{task_after, task_handed}
use Rattle.xs_machine.specs.Running.{IsAt, IsRun}
use Rattle.xs_machine.specs.Threads.{HasRunTurn, SomeTurn}
use Rattle.xs_machine.specs.Turn.{AreOver, AreRunning, HasLeft, IsTurning, SomeOver, SomeRunning, past_after}
use Rattle.xs_machine.proofs.BoardLemmas.{start_running}
use Rattle.xs_machine.proofs.EntryLemmas.{fate_fits, known_home, some_running}

-- what the lines may rely on
pub turn_running : {B : Type 0} (script : Script) (task : Task) (cpu : Cpu B) (bank : banks.Bank) → NeverIdle → SomeTurn script task cpu bank → SomeRunning script [] task cpu bank
turn_running script task cpu bank next some =
    subst (λ (x : Task). SomeRunning script [] x cpu bank) some.task_is (some_running script some.board some.turn cpu bank some.run next some.at)

module _ {B : Type 0} (script : Script) (task task1 : Task) (cpu cpu1 : Cpu B) (bank bank1 : banks.Bank) (items : List Entry) (close : Close) (next : NeverIdle)
    (runs : (t c : ℕ) (past : List Event) (before : banks.Bank) (start : PrivateTask) → AreRunning script t c past before start [] start task cpu bank → AreOver script t c past before start items close task1 cpu1 bank1) where
  module _ (board : Board) (turn : Turn) (is : turn.task ≡ task) (run : IsRun script board) (at : IsAt script board turn.cpu (Some turn) cpu bank) where
    over : AreOver script turn.task.name turn.cpu (past_of board) bank (private_in board turn.task.name) items close task1 cpu1 bank1
    over =
        let running = start_running script board turn.cpu turn cpu bank run next at in
        runs turn.task.name turn.cpu (past_of board) bank (private_in board turn.task.name)
        (subst (λ (x : Task). AreRunning script turn.task.name turn.cpu (past_of board) bank (private_in board turn.task.name) [] (private_in board turn.task.name) x cpu bank) is running)

    turning : IsTurning script turn.task.name turn.cpu (past_of board) (past_after turn.task.name items close (answer_in board turn.task.name items close) (past_of board)) bank true 0 (task_handed close (task_after script turn.task.name (private_in board turn.task.name) items)) task1 cpu1 bank1
    turning = over.turning (answer_in board turn.task.name items close) (fate_fits board.script (blocks_with board turn.task.name items) (private_with board turn.task.name items))

    -- it has left its processor
    pub turn_ran : (task2 : Task) (cpu2 : Cpu B) (bank2 : banks.Bank)
        → ((t c : ℕ) (first past : List Event) (before : banks.Bank) (private : PrivateTask) → IsTurning script t c first past before true 0 private task1 cpu1 bank1 → HasLeft script t c first past before private task2 cpu2 bank2)
        → HasRunTurn script board turn bank items close task2 cpu2 bank2
    turn_ran task2 cpu2 bank2 leaves = record { lines = over.lines; left = leaves _ _ _ _ _ _ turning }

    some_left : SomeOver script task1 cpu1 bank1
    some_left = record {
      t = turn.task.name;
      c = turn.cpu;
      first = past_of board;
      past = past_after turn.task.name items close (answer_in board turn.task.name items close) (past_of board);
      before = bank;
      private = task_handed close (task_after script turn.task.name (private_in board turn.task.name) items);
      turning = turning;
    }

    known_left : MachineKnown → task1.name < length script.blocks
    known_left known = known_home script board turn cpu bank run at (known script (past_of board)).2 task1.name turning.name

  -- what leaving may rely on
  pub some_over : SomeTurn script task cpu bank → SomeOver script task1 cpu1 bank1
  some_over some = some_left some.board some.turn some.task_is some.run some.at

  pub known_over : MachineKnown → SomeTurn script task cpu bank → task1.name < length script.blocks
  known_over known some = known_left some.board some.turn some.task_is some.run some.at known
