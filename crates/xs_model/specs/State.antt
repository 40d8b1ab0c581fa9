-- The state of the machine: of each block what it does, its private task, its parent and its pending signals; and which
-- block's commit is open. This project's own.
use Rattle.std.specs.Prelude.{ℕ, zero, suc, Bool, true, false, not, ◌==◌, List, [], ◌∷◌, map, slice_get, Option, Some, None}
use Rattle.std.specs.List.{list_any}
use Rattle.xs_base.specs.declared.component.Row.{Row}
use Rattle.xs_base.specs.declared.words.Signo.{Signo}
use Rattle.xs_base.specs.Task.{PrivateTask, root_task}
use Rattle.xs_model.specs.declared.script.BlockKind.{BlockKind}
use Rattle.xs_model.specs.declared.script.BlockKind.TheVariants.{Task, Child, Kthread}
use Rattle.xs_model.specs.declared.script.Block.{Block}
use Rattle.xs_model.specs.declared.script.Script.{Script}
use Rattle.xs_model.specs.declared.event.Event.{Event}
use Rattle.xs_model.specs.declared.stage.Stage.{Stage}
use Rattle.xs_model.specs.declared.stage.Stage.TheVariants.{Unborn, Ready, Turn, Stopped, Waiting, Ended}

-- The state of one block. The pending signals are in the order of their numbers. A kernel thread uses the place of its
-- private task alone.
pub record BlockState : Type 0 where
  pub stage : Stage
  pub task : PrivateTask
  pub parent : Option ℕ
  pub pending : List Signo

-- The state of the machine: `committing` is the block whose commit is open, `past` the events so far, the latest first.
pub record Machine : Type 0 where
  pub script : Script
  pub blocks : List BlockState
  pub committing : Option ℕ
  pub past : List Event

-- ---- the opening

abbrev pub opening_stage : BlockKind → Stage
opening_stage Task = Ready
opening_stage Child = Unborn
opening_stage Kthread = Ready

abbrev pub opening_block : List Row → Block → BlockState
opening_block rows block = record { stage = opening_stage block.kind; task = root_task rows; parent = None; pending = [] }

-- the machine before the first event
abbrev pub opening : Script → Machine
opening script = record { script = script; blocks = map (opening_block script.layout) script.blocks; committing = None; past = [] }

-- ---- stages

abbrev pub is_ready : Stage → Bool
is_ready Unborn = false
is_ready Ready = true
is_ready (Turn cpu ran) = false
is_ready Stopped = false
is_ready (Waiting child) = false
is_ready Ended = false

abbrev pub is_stopped : Stage → Bool
is_stopped Unborn = false
is_stopped Ready = false
is_stopped (Turn cpu ran) = false
is_stopped Stopped = true
is_stopped (Waiting child) = false
is_stopped Ended = false

-- the block was born and hasn't ended
abbrev pub lives : Stage → Bool
lives Unborn = false
lives Ready = true
lives (Turn cpu ran) = true
lives Stopped = true
lives (Waiting child) = true
lives Ended = false

-- ready or in a turn
abbrev pub is_active : Stage → Bool
is_active Unborn = false
is_active Ready = true
is_active (Turn cpu ran) = true
is_active Stopped = false
is_active (Waiting child) = false
is_active Ended = false

-- the processor of the turn
abbrev pub turn_cpu : Stage → Option ℕ
turn_cpu Unborn = None
turn_cpu Ready = None
turn_cpu (Turn cpu ran) = Some cpu
turn_cpu Stopped = None
turn_cpu (Waiting child) = None
turn_cpu Ended = None

abbrev pub is_on_cpu : ℕ → Option ℕ → Bool
is_on_cpu cpu None = false
is_on_cpu cpu (Some c) = c == cpu

-- ---- the blocks by their numbers

abbrev pub stage_of : Option BlockState → Stage
stage_of None = Unborn
stage_of (Some block) = block.stage

abbrev pub stage_at : List BlockState → ℕ → Stage
stage_at blocks t = stage_of (slice_get blocks t)

-- the processor of the block's turn, if it is in one
abbrev pub turn_of : List BlockState → ℕ → Option ℕ
turn_of blocks t = turn_cpu (stage_at blocks t)

-- the processor has a turn
abbrev pub has_turn : List BlockState → ℕ → Bool
has_turn blocks cpu = list_any (λ (block : BlockState). is_on_cpu cpu (turn_cpu block.stage)) blocks

-- the private task of a block, and one that nobody has where there is no such block
abbrev pub task_of_state : Option BlockState → PrivateTask
task_of_state None = root_task []
task_of_state (Some block) = block.task

abbrev pub task_at : List BlockState → ℕ → PrivateTask
task_at blocks t = task_of_state (slice_get blocks t)

abbrev pub parent_of : Option BlockState → Option ℕ
parent_of None = None
parent_of (Some block) = block.parent

abbrev pub is_parent : Option ℕ → ℕ → Bool
is_parent None t = false
is_parent (Some p) t = p == t

-- every block that was born has ended
abbrev pub none_lives : Machine → Bool
none_lives m = not (list_any (λ (block : BlockState). lives block.stage) m.blocks)

-- the list with its i-th element changed
abbrev pub changed : {A : Type 0} → ℕ → (A → A) → List A → List A
changed i f [] = []
changed zero f (x ∷ xs) = f x ∷ xs
changed (suc i) f (x ∷ xs) = x ∷ changed i f xs
