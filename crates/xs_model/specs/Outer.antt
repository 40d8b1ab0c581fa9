-- Outer commands: what a line that reaches another block answers, and what it does to the blocks. Tracing and signals
-- follow Linux 6.6 in outline (kernel/fork.c, kernel_clone; kernel/signal.c, do_send_sig_info and ptrace_stop;
-- kernel/exit.c, kernel_wait4; kernel/ptrace.c, ptrace_request); which block may do what is this project's own.
use Rattle.std.specs.Prelude.{ℕ, Bool, true, false, ◌==◌, nat_lt, List, [], ◌∷◌, length, map, take, slice_get, Option, Some, None, if◌then◌else◌}
use Rattle.xs_base.specs.declared.words.Set.{Set}
use Rattle.xs_base.specs.declared.words.Signo.{Signo}
use Rattle.xs_base.specs.Bytes.{splice}
use Rattle.xs_base.specs.Task.{PrivateTask, parked, child_of}
use Rattle.xs_base.specs.RegisterSet.{set_reply, SetResult, Accepted, Fault, Count, Header, set_result, set_errno}
use Rattle.xs_model.specs.declared.script.Command.{Command}
use Rattle.xs_model.specs.declared.script.Command.TheVariants as commands
use Rattle.xs_model.specs.declared.script.Script.{Script}
use Rattle.xs_model.specs.declared.event.Reply.{Reply}
use Rattle.xs_model.specs.declared.event.Reply.TheVariants as replies
use Rattle.xs_model.specs.declared.stage.Stage.{Stage}
use Rattle.xs_model.specs.declared.stage.Stage.TheVariants.{Unborn, Ready, Turn, Stopped, Waiting, Ended}
use Rattle.xs_model.specs.Script.{block_named}
use Rattle.xs_model.specs.Line.{next_line, count_or_error}
use Rattle.xs_model.specs.Note.{is_count}
use Rattle.xs_model.specs.State.{BlockState, is_stopped, lives, stage_at, parent_of, is_parent, changed}

-- ---- replies

-- no such block: it isn't born or has ended
abbrev pub no_block : Reply
no_block = replies.Error 3

abbrev pub stage_reply : Stage → Reply
stage_reply Unborn = replies.Ended
stage_reply Ready = replies.Blocked
stage_reply (Turn cpu ran) = replies.Blocked
stage_reply Stopped = replies.Stopped
stage_reply (Waiting child) = replies.Blocked
stage_reply Ended = replies.Ended

-- A wait of t: a script has it for a child of t alone.
abbrev pub wait_reply : ℕ → Option BlockState → Reply
wait_reply t None = replies.Ended
wait_reply t (Some child) = if is_parent child.parent t then stage_reply child.stage else replies.Ended

abbrev pub parent_lives : List BlockState → Option ℕ → Bool
parent_lives blocks None = false
parent_lives blocks (Some p) = lives (stage_at blocks p)

abbrev pub buffer_of : Option BlockState → List ℕ
buffer_of None = []
buffer_of (Some block) = block.task.buffer

-- how many bytes a set of the task's registers has
abbrev pub get_reply : Set → PrivateTask → Reply
get_reply set task = replies.Count (length (set_reply task set))

-- what setting the task's registers from the first bytes of a buffer answers
abbrev pub put_reply : Set → ℕ → List ℕ → PrivateTask → Reply
put_reply set count buffer task = count_or_error count (set_errno (set_result task set (take count buffer)))

-- The reply of a command for a stopped child. A script has such a line only after a wait of the child, so that it has
-- ended where it isn't stopped.
abbrev pub child_reply : (PrivateTask → Reply) → Option BlockState → Reply
child_reply reply None = no_block
child_reply reply (Some block) = if is_stopped block.stage then reply block.task else no_block

-- what an outer command of block t answers
abbrev pub outer_reply : Script → List BlockState → ℕ → Command → Reply
outer_reply script blocks t (commands.Fork name) = replies.Done
outer_reply script blocks t (commands.Kill name signo) = if lives (stage_at blocks (block_named script name)) then replies.Count 0 else no_block
outer_reply script blocks t commands.Stop = if parent_lives blocks (parent_of (slice_get blocks t)) then replies.Held else replies.Done
outer_reply script blocks t (commands.Wait name) = wait_reply t (slice_get blocks (block_named script name))
outer_reply script blocks t (commands.Getregs name set) = child_reply (get_reply set) (slice_get blocks (block_named script name))
outer_reply script blocks t (commands.Setregs name set count) = child_reply (put_reply set count (buffer_of (slice_get blocks t))) (slice_get blocks (block_named script name))
outer_reply script blocks t (commands.Cont name) = child_reply (λ task. replies.Count 0) (slice_get blocks (block_named script name))
outer_reply script blocks t other = replies.Done

abbrev pub is_held : Reply → Bool
is_held replies.Held = true
is_held other = false

abbrev pub is_blocked : Reply → Bool
is_blocked replies.Blocked = true
is_blocked other = false

-- ---- what becomes of one block

-- a block that waits for t is ready again
abbrev pub wake : ℕ → Stage → Stage
wake t Unborn = Unborn
wake t Ready = Ready
wake t (Turn cpu ran) = Turn cpu ran
wake t Stopped = Stopped
wake t (Waiting child) = if child == t then Ready else Waiting child
wake t Ended = Ended

abbrev pub woken : ℕ → BlockState → BlockState
woken t block = record block { stage = wake t block.stage }

-- a stopped block is ready again, where it may
abbrev pub let_go : Bool → Stage → Stage
let_go may Unborn = Unborn
let_go may Ready = Ready
let_go may (Turn cpu ran) = Turn cpu ran
let_go may Stopped = if may then Ready else Stopped
let_go may (Waiting child) = Waiting child
let_go may Ended = Ended

abbrev pub continued : BlockState → BlockState
continued block = record block { stage = let_go true block.stage }

-- Block t has ended, as another block sees it: its parent waits no more, and its stopped children go on.
abbrev pub freed : ℕ → BlockState → BlockState
freed t block = record block { stage = let_go (is_parent block.parent t) (wake t block.stage) }

-- an unborn block is born of t
abbrev pub bear : ℕ → PrivateTask → Stage → BlockState → BlockState
bear t parent Unborn block = record { stage = Ready; task = child_of parent; parent = Some t; pending = [] }
bear t parent Ready block = block
bear t parent (Turn cpu ran) block = block
bear t parent Stopped block = block
bear t parent (Waiting child) block = block
bear t parent Ended block = block

abbrev pub born : ℕ → Option BlockState → BlockState → BlockState
born t None block = block
born t (Some parent) block = bear t parent.task block.stage block

-- A signal joins the pending ones, which stand in the order of their numbers, each once.
abbrev pub insert : Signo → List Signo → List Signo
insert signo [] = signo ∷ []
insert signo (other ∷ pending) =
    if nat_lt signo.number other.number then signo ∷ other ∷ pending
    else (if signo.number == other.number then other ∷ pending else other ∷ insert signo pending)

abbrev pub signalled : Signo → BlockState → BlockState
signalled signo block = record block { pending = insert signo block.pending }

-- the task that a set leaves
abbrev pub set_task : SetResult → PrivateTask → PrivateTask
set_task (Accepted new) task = new
set_task Fault task = task
set_task Count task = task
set_task (Header error) task = task

-- the block with its registers set from the first bytes of a buffer
abbrev pub registers_set : Set → ℕ → List ℕ → BlockState → BlockState
registers_set set count buffer block = record block { task = set_task (set_result block.task set (take count buffer)) block.task }

-- the task with a register set of another block in the first bytes of its buffer
abbrev pub with_registers : Set → Option BlockState → PrivateTask → PrivateTask
with_registers set None task = task
with_registers set (Some child) task = record task { buffer = splice 0 (set_reply child.task set) task.buffer }

abbrev pub buffer_filled : Set → Option BlockState → BlockState → BlockState
buffer_filled set child block = record block { task = with_registers set child block.task }

-- ---- what becomes of the blocks

-- What an outer command of block t does beside its own turn: to another block, and with `getregs` to the buffer of t.
abbrev pub reach_of : Script → ℕ → Command → Reply → List BlockState → List BlockState
reach_of script t (commands.Fork name) reply blocks = changed (block_named script name) (born t (slice_get blocks t)) blocks
reach_of script t (commands.Kill name signo) reply blocks = if is_count reply then changed (block_named script name) (signalled signo) blocks else blocks
reach_of script t commands.Stop reply blocks = if is_held reply then map (woken t) blocks else blocks
reach_of script t (commands.Getregs name set) reply blocks = if is_count reply then changed t (buffer_filled set (slice_get blocks (block_named script name))) blocks else blocks
reach_of script t (commands.Setregs name set count) reply blocks = if is_count reply then changed (block_named script name) (registers_set set count (buffer_of (slice_get blocks t))) blocks else blocks
reach_of script t (commands.Cont name) reply blocks = if is_count reply then changed (block_named script name) continued blocks else blocks
reach_of script t other reply blocks = blocks

abbrev pub outer_reach : Script → ℕ → Option Command → Reply → List BlockState → List BlockState
outer_reach script t None reply blocks = blocks
outer_reach script t (Some command) reply blocks = reach_of script t command reply blocks

-- the stage in which an outer command leaves its own block
abbrev pub stage_left : Script → Command → Reply → Stage
stage_left script commands.Stop reply = if is_held reply then Stopped else Ready
stage_left script (commands.Wait name) reply = if is_blocked reply then Waiting (block_named script name) else Ready
stage_left script other reply = Ready

-- the private task after an outer command: a wait that blocks runs again
abbrev pub task_left : Command → Reply → PrivateTask → PrivateTask
task_left (commands.Wait name) reply task = if is_blocked reply then task else next_line task
task_left other reply task = next_line task

-- the block's turn ends with an outer command
abbrev pub outer_own : Script → Option Command → Reply → BlockState → BlockState
outer_own script None reply block = record block { stage = Ready }
outer_own script (Some command) reply block = record block { stage = stage_left script command reply; task = parked (task_left command reply block.task) }
