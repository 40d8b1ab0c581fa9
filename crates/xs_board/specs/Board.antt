-- The board: what callers see of it, and what holds of it between calls. Everything that its history tells is told by the private
-- machine: the stages of the blocks, their private tasks and the ready list.
use Rattle.std.specs.Prelude.{◌≡◌, ℕ, ◌+◌, ◌<◌, ◌≤◌, Bool, true, false, ◌&&◌, List, [], ◌∷◌, length, reverse, slice_get, slice_index_or, Option, Some, None}
use Rattle.xs_base.specs.declared.words.Signo.{Signo}
use Rattle.xs_base.specs.Frame.{delivered}
use Rattle.xs_base.specs.Task.{PrivateTask, parked}
use Rattle.xs_model.specs.declared.event.Event.{Event}
use Rattle.xs_model.specs.declared.script.Script.{Script}
use Rattle.xs_model.specs.declared.stage.Stage.{Stage}
use Rattle.xs_model.specs.declared.stage.Stage.TheVariants.{Unborn, Ready, Turn, Stopped, Waiting, Ended}
use Rattle.xs_model.specs.Bound.{most_events}
use Rattle.xs_model.specs.Due.{large_count, signal_of}
use Rattle.xs_model.specs.History.{IsLegal, machine_of}
use Rattle.xs_model.specs.Laws.{KeepsBlock}
use Rattle.xs_model.specs.Machine.{machine}
use Rattle.xs_model.specs.Note.{last}
use Rattle.xs_model.specs.Ready.{ready_list}
use Rattle.xs_model.specs.Replay.{runner}
use Rattle.xs_model.specs.Script.{IsValid, is_user}
use Rattle.xs_model.specs.State.{BlockState, Machine, stage_at, task_at, lives}
use Rattle.xs_pool.specs.Pool.{Pool}
use Rattle.xs_task.specs.declared.task.Task.{Task}
use Rattle.xs_board.specs.declared.turn.Close.{Close}
use Rattle.xs_board.specs.declared.turn.Entry.{Entry}
use Rattle.xs_board.specs.Home.{IsClear, IsHome, is_resting}
use Rattle.xs_board.specs.Member.{Member, AreMembers}
use Rattle.xs_board.specs.Starts.{AreInOrder}
use Rattle.xs_board.specs.Turn.{Answer, past_with, task_after, task_handed, task_closed, close_answer}

-- A board: its script, the events so far, the task of each block that is home, the pool of areas, and how many events it has
-- room for in all.
pub record Board : Type 0 where
  pub script : Script
  pub history : List Event
  pub home : List (Option Task)
  pub pool : Pool
  pub room : ℕ

-- ---- what the history tells

-- the history, the latest event first
abbrev pub past_of : Board → List Event
past_of board = reverse board.history

-- the private machine after the history
abbrev pub machine_in : Board → Machine
machine_in board = machine_of board.script board.history

abbrev pub ready_of : Board → List ℕ
ready_of board = ready_list board.script (past_of board)

abbrev pub stage_in : Board → ℕ → Stage
stage_in board t = stage_at (machine_in board).blocks t

-- the private task of a block
abbrev pub private_in : Board → ℕ → PrivateTask
private_in board t = task_at (machine_in board).blocks t

-- the blocks after these lines of the turn of block t, and its private task then
abbrev pub blocks_with : Board → ℕ → List Entry → List BlockState
blocks_with board t entries = (machine board.script (past_with t entries (past_of board))).blocks

abbrev pub private_with : Board → ℕ → List Entry → PrivateTask
private_with board t entries = task_after board.script t (private_in board t) entries

-- what the board answers to the close of block t after these lines
abbrev pub answer_in : Board → ℕ → List Entry → Close → Answer
answer_in board t entries close = close_answer board.script (blocks_with board t entries) t close (private_with board t entries)

-- the same task when it was switched out there for this close, and when its turn is closed
abbrev pub private_after : Board → ℕ → List Entry → Close → PrivateTask
private_after board t entries close = parked (task_handed close (private_with board t entries))

abbrev pub private_closed : Board → ℕ → List Entry → Close → PrivateTask
private_closed board t entries close = parked (task_closed board.script (blocks_with board t entries) t close (answer_in board t entries close) (private_with board t entries))

-- the signal that a Start of the block carries
abbrev pub signal_at : Option BlockState → Option Signo
signal_at None = None
signal_at (Some block) = signal_of block

abbrev pub signal_in : Board → ℕ → Option Signo
signal_in board t = signal_at (slice_get (machine_in board).blocks t)

-- the private task at its Start: a signal is delivered
abbrev pub begun : Option Signo → PrivateTask → PrivateTask
begun None task = task
begun (Some signo) task = delivered task

-- the block that is in a turn on the processor
abbrev pub turn_on : Board → ℕ → Option ℕ
turn_on board cpu = runner cpu 0 (machine_in board).blocks

-- Every other block is in the state in which it was.
abbrev pub KeepsOthers : ℕ → Board → Board → Type 0
KeepsOthers t old new = (u : ℕ) → (u ≡ t → ⊥) → slice_get (machine_in new).blocks u ≡ slice_get (machine_in old).blocks u

-- Every other block stays in its turn, and a last processor that it has it had before, with the same private task.
abbrev pub OthersKept : ℕ → Board → Board → Type 0
OthersKept t old new = (u : ℕ) → (u ≡ t → ⊥) → KeepsBlock old.script (past_of old) (past_of new) u

-- Every other processor has the turn that it had, or none.
abbrev pub KeepsTurns : ℕ → Board → Board → Type 0
KeepsTurns cpu old new = (c : ℕ) → (c ≡ cpu → ⊥) → turn_on new c ≡ turn_on old c

-- ---- what holds between calls

-- The task stands for the block's private task, and a user task has the last processor that the history gives it. Before the block
-- is born its memories are zero.
pub record IsTaskOf (board : Board) (t : ℕ) (task : Task) : Type 0 where
  pub name : task.name ≡ t
  pub stands : IsHome (is_user board.script t) board.script.layout task (private_in board t)
  pub last : is_user board.script t ≡ true → task.last ≡ last board.script (past_of board) t
  pub clear : stage_in board t ≡ Unborn → IsClear task

-- The block's task is home.
abbrev pub HasHome : Board → ℕ → Type 0
HasHome board t = (task : Task) × (slice_index_or board.home t None ≡ Some task) × IsTaskOf board t task

abbrev pub one : Bool → ℕ
one true = 1
one false = 0

-- how many blocks, from number i on, are such
abbrev pub tally : (ℕ → Stage → Bool) → ℕ → List BlockState → ℕ
tally such i [] = 0
tally such i (block ∷ blocks) = one (such i block.stage) + tally such (i + 1) blocks

abbrev pub living : Board → ℕ
living board = tally (λ t stage. lives stage) 0 (machine_in board).blocks

-- A user task has its area until it has ended, also before it is born.
abbrev pub holds_area : Stage → Bool
holds_area Unborn = true
holds_area Ready = true
holds_area (Turn cpu ran) = true
holds_area Stopped = true
holds_area (Waiting child) = true
holds_area Ended = false

abbrev pub areas : Board → ℕ
areas board = tally (λ t stage. is_user board.script t && holds_area stage) 0 (machine_in board).blocks

-- These are the areas of the pool that are out, of which those of the living blocks with room for TILEDATA are Large ones. The pool has
-- as many Large ones in all as the script says.
pub record IsPoolOf (board : Board) : Type 0 where
  pub rows : board.pool.rows ≡ board.script.layout
  pub large : board.pool.large.out ≡ large_count (machine_in board).blocks
  pub all : board.pool.small.out + board.pool.large.out ≡ areas board
  pub capacity : board.pool.large.capacity ≡ board.script.large
  pub given : board.pool.given ≤ length board.script.blocks + length board.history

-- A board between calls: its history is legal, and each turn of it was that of the first ready block.
pub record IsBoard (board : Board) : Type 0 where
  pub valid : IsValid board.script
  pub legal : IsLegal board.script board.history
  pub order : AreInOrder board.script (past_of board)
  pub closed : (machine_in board).committing ≡ None
  pub count : length board.home ≡ length board.script.blocks
  pub home : (t : ℕ) → is_resting (stage_in board t) ≡ true → t < length board.script.blocks → HasHome board t
  pub pool : IsPoolOf board
  pub room : most_events board.script ≤ board.room

-- What the code keeps beside: a queue that is the ready list, with room for every block, how many blocks live, and what each block
-- does, its parent and its signals.
pub record IsKeptBeside (board : Board) (list : List ℕ) (capacity count : ℕ) (members : List Member) : Type 0 where
  pub queue : list ≡ ready_of board
  pub fits : length board.script.blocks ≤ capacity
  pub alive : count ≡ living board
  pub each : length members ≡ length board.script.blocks
  pub member : AreMembers (machine_in board).blocks members
