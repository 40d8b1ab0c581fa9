-- A turn as a worker brings it back: the lines that ran and how it came to its end. The rules are those of the private machine.
use Rattle.std.specs.Prelude.{◌≡◌, ℕ, ◌+◌, Bool, true, false, not, nat_lt, List, [], ◌∷◌, ◌++◌, map, reverse, slice_get, Option, Some, None, if◌then◌else◌}
use Rattle.xs_base.specs.declared.header.HeaderError.{HeaderError}
use Rattle.xs_base.specs.declared.words.Signo.{Signo}
use Rattle.xs_base.specs.Frame.{refused_file}
use Rattle.xs_base.specs.Tile.{grown}
use Rattle.xs_base.specs.Task.{PrivateTask}
use Rattle.xs_model.specs.declared.event.Event.{Event}
use Rattle.xs_model.specs.declared.event.Event.TheVariants.{Local}
use Rattle.xs_model.specs.declared.event.Event.TheVariants as events
use Rattle.xs_model.specs.declared.event.Why.{Why}
use Rattle.xs_model.specs.declared.event.Why.TheVariants.{Permission, Area}
use Rattle.xs_model.specs.declared.event.Reply.{Reply}
use Rattle.xs_model.specs.declared.event.Reply.TheVariants as replies
use Rattle.xs_model.specs.declared.script.Block.{Block}
use Rattle.xs_model.specs.declared.script.Command.{Command}
use Rattle.xs_model.specs.declared.script.Command.TheVariants.{Getregs}
use Rattle.xs_model.specs.declared.script.Order.{Order}
use Rattle.xs_model.specs.declared.script.Script.{Script}
use Rattle.xs_model.specs.declared.stage.Stage.{Stage}
use Rattle.xs_model.specs.declared.stage.Stage.TheVariants.{Ready, Ended}
use Rattle.xs_model.specs.Script.{block_named, command_at, command_of, is_outer, is_yield}
use Rattle.xs_model.specs.Line.{line_at, local_reply, local_after, traps, refusal, frame_cause}
use Rattle.xs_model.specs.Note.{is_count}
use Rattle.xs_model.specs.Outer.{outer_reply, with_registers, stage_left, task_left}
use Rattle.xs_model.specs.Due.{illegal, violation, large_count}
use Rattle.xs_model.specs.Machine.{goes_on}
use Rattle.xs_model.specs.State.{BlockState}
use Rattle.xs_board.specs.declared.turn.Entry.{Entry}
use Rattle.xs_board.specs.declared.turn.Close.{Close}
use Rattle.xs_board.specs.declared.turn.Close.TheVariants.{Quantum, Yield, Outer, Refused, Trap, End}

-- ---- the events of a turn after its Start

abbrev pub entry_event : ℕ → Entry → Event
entry_event t entry = Local t entry.line entry.reply

-- What the board answers to a close: what the outer line replies, and where a line traps, why that kills the task. Where it doesn't
-- kill it, the task grows.
pub record Answer : Type 0 where
  pub reply : Reply
  pub fate : Option Why

-- SIGILL where the task may not use tiles, and SIGSEGV where no area is free (Linux 6.6, arch/x86/kernel/fpu/xstate.c,
-- __xfd_enable_feature, and arch/x86/kernel/traps.c, handle_xfd_event)
abbrev pub trap_signal : Why → Signo
trap_signal Permission = illegal
trap_signal other = violation

abbrev pub trap_end : ℕ → Option Why → Event
trap_end t None = events.Grow t
trap_end t (Some why) = events.Kill t (trap_signal why) why

-- A close may have an event of its own: that of an outer line with its reply, the kill by a refused return, a Grow or a kill by a
-- line that traps, or the end.
abbrev pub close_events : ℕ → Close → Answer → List Event
close_events t Quantum answer = []
close_events t Yield answer = []
close_events t (Outer line) answer = events.Outer t line answer.reply ∷ []
close_events t (Refused error) answer = events.Kill t violation (frame_cause error) ∷ []
close_events t Trap answer = trap_end t answer.fate ∷ []
close_events t End answer = events.End t ∷ []

abbrev pub turn_events : ℕ → List Entry → Close → Answer → List Event
turn_events t entries close answer = map (entry_event t) entries ++ close_events t close answer

-- the past after the lines of these entries, the latest event first
abbrev pub past_with : ℕ → List Entry → List Event → List Event
past_with t entries past = reverse (map (entry_event t) entries) ++ past

-- ---- what a close leaves

-- the command of the outer line with which block t closes its turn, if it closes it so
abbrev pub close_command : Script → ℕ → Close → Option Command
close_command script t Quantum = None
close_command script t Yield = None
close_command script t (Outer line) = command_at script t line
close_command script t (Refused error) = None
close_command script t Trap = None
close_command script t End = None

-- the stage in which an outer line with this reply leaves its block
abbrev pub line_stage : Script → Option Command → Reply → Stage
line_stage script None reply = Ready
line_stage script (Some command) reply = stage_left script command reply

abbrev pub trap_stage : Option Why → Stage
trap_stage None = Ready
trap_stage (Some why) = Ended

-- the stage in which a turn leaves its block, where the board answers this
abbrev pub stage_closed : Script → ℕ → Close → Answer → Stage
stage_closed script t Quantum answer = Ready
stage_closed script t Yield answer = Ready
stage_closed script t (Outer line) answer = line_stage script (command_at script t line) answer.reply
stage_closed script t (Refused error) answer = Ended
stage_closed script t Trap answer = trap_stage answer.fate
stage_closed script t End answer = Ended

-- the task that its processor hands back at the close: a refused return left it no registers
abbrev pub task_handed : Close → PrivateTask → PrivateTask
task_handed Quantum task = task
task_handed Yield task = task
task_handed (Outer line) task = task
task_handed (Refused error) task = record task { file = refused_file task }
task_handed Trap task = task
task_handed End task = task

-- the task with what its outer line put into its buffer
abbrev pub filled_by : Script → List BlockState → Command → Reply → PrivateTask → PrivateTask
filled_by script blocks (Getregs name set) reply task = if is_count reply then with_registers set (slice_get blocks (block_named script name)) task else task
filled_by script blocks other reply task = task

-- the task after its outer line, where the blocks were in these states: it is behind the line, unless it waits there
abbrev pub line_closed : Script → List BlockState → Option Command → Reply → PrivateTask → PrivateTask
line_closed script blocks None reply task = task
line_closed script blocks (Some command) reply task = task_left command reply (filled_by script blocks command reply task)

abbrev pub trap_closed : Option Why → PrivateTask → PrivateTask
trap_closed None task = grown task
trap_closed (Some why) task = task

-- the task after the close
abbrev pub task_closed : Script → List BlockState → ℕ → Close → Answer → PrivateTask → PrivateTask
task_closed script blocks t Quantum answer task = task
task_closed script blocks t Yield answer task = task
task_closed script blocks t (Outer line) answer task = line_closed script blocks (command_at script t line) answer.reply task
task_closed script blocks t (Refused error) answer task = record task { file = refused_file task }
task_closed script blocks t Trap answer task = trap_closed answer.fate task
task_closed script blocks t End answer task = task

-- what an outer line answers, where the blocks are in these states
abbrev pub line_answer : Script → List BlockState → ℕ → Option Command → Reply
line_answer script blocks t None = replies.Done
line_answer script blocks t (Some command) = outer_reply script blocks t command

-- what the outer line replies with which block t closes its turn, if it closes it so
abbrev pub close_reply : Script → List BlockState → ℕ → Close → Reply
close_reply script blocks t close = line_answer script blocks t (close_command script t close)

-- why a line that traps kills this task, if it does: it may not use tiles, or no Large area is free
abbrev pub trap_fate : Script → List BlockState → PrivateTask → Option Why
trap_fate script blocks task = if not task.permitted then Some Permission else if nat_lt (large_count blocks) script.large then None else Some Area

-- what the board answers to the close of block t, which has this task and where the blocks are in these states
abbrev pub close_answer : Script → List BlockState → ℕ → Close → PrivateTask → Answer
close_answer script blocks t close task = record { reply = close_reply script blocks t close; fate = trap_fate script blocks task }

-- ---- the lines of a turn

abbrev pub line_in : Option Block → PrivateTask → Option Order
line_in None task = None
line_in (Some lines) task = line_at lines task

-- the line at the task's place
abbrev pub line_of : Script → ℕ → PrivateTask → Option Order
line_of script t task = line_in (slice_get script.blocks t) task

abbrev pub body_order : Option Block → ℕ → Option Order
body_order None place = None
body_order (Some lines) place = slice_get lines.body place

-- the command at this place of the body of block t
abbrev pub body_command : Script → ℕ → ℕ → Option Command
body_command script t place = command_of (body_order (slice_get script.blocks t) place)

-- how a Local event that ends its turn closes it
abbrev pub closed_by : Command → Close
closed_by command = if is_yield command then Yield else Quantum

-- The entry is that of the line at the task's place, which runs in its own task: it isn't outer, doesn't trap, and is no refused
-- return from a handler.
pub record IsEntry (script : Script) (t : ℕ) (task : PrivateTask) (entry : Entry) (order : Order) : Type 0 where
  pub at : line_of script t task ≡ Some order
  pub inner : is_outer order.command ≡ false
  pub free : traps task order.command ≡ false
  pub whole : refusal task order.command ≡ None
  pub line : entry.line ≡ order.number
  pub reply : entry.reply ≡ local_reply task order.command

-- The line of this number is at the task's place, and it's outer.
pub record IsOuterLine (script : Script) (t : ℕ) (task : PrivateTask) (line : ℕ) (order : Order) : Type 0 where
  pub at : line_of script t task ≡ Some order
  pub number : order.number ≡ line
  pub outer : is_outer order.command ≡ true

-- The line at the task's place is a return from a handler, and the task's frame is refused with this error.
pub record IsRefusedReturn (script : Script) (t : ℕ) (task : PrivateTask) (error : HeaderError) (order : Order) : Type 0 where
  pub at : line_of script t task ≡ Some order
  pub why : refusal task order.command ≡ Some (frame_cause error)

-- The line at the task's place traps: it uses tiles for which the task has no room.
pub record IsTrapLine (script : Script) (t : ℕ) (task : PrivateTask) (order : Order) : Type 0 where
  pub at : line_of script t task ≡ Some order
  pub trap : traps task order.command ≡ true

-- Four closes come in a turn in which more Local events could come: an outer line at the task's place, a refused return or a line
-- that traps there, and the end, where no line stands there and no handler runs.
abbrev pub IsOpenClose : Script → ℕ → PrivateTask → Close → Type 0
IsOpenClose script t task Quantum = ⊥
IsOpenClose script t task Yield = ⊥
IsOpenClose script t task (Outer line) = (order : Order) × IsOuterLine script t task line order
IsOpenClose script t task (Refused error) = (order : Order) × IsRefusedReturn script t task error order
IsOpenClose script t task Trap = (order : Order) × IsTrapLine script t task order
IsOpenClose script t task End = (line_of script t task ≡ None) × (task.handling ≡ false)

-- What follows an entry: these lines where the turn goes on, and else nothing.
abbrev pub AreAfter : Bool → Command → List Entry → Close → Type 0 → Type 0
AreAfter true command entries close Lines = Lines
AreAfter false command entries close Lines = (entries ≡ []) × (close ≡ closed_by command)

-- The entries and the close are those of the script's lines from the task's place on, in a turn that made `ran` Local events.
abbrev pub AreLines : Script → ℕ → PrivateTask → ℕ → List Entry → Close → Type 0
AreLines script t task ran [] close = IsOpenClose script t task close
AreLines script t task ran (entry ∷ entries) close = (order : Order) × IsEntry script t task entry order × AreAfter (goes_on script order.command ran) order.command entries close (AreLines script t (local_after task order.command) (ran + 1) entries close)

abbrev pub after_line : PrivateTask → Option Order → PrivateTask
after_line task None = task
after_line task (Some order) = local_after task order.command

-- the private task after so many lines as there are entries
abbrev pub task_after : Script → ℕ → PrivateTask → List Entry → PrivateTask
task_after script t task [] = task
task_after script t task (entry ∷ entries) = task_after script t (after_line task (line_of script t task)) entries

-- From the first task of a turn these entries led to this task: what the script's lines are from here on follows them.
pub record HaveRun (script : Script) (t : ℕ) (first : PrivateTask) (entries : List Entry) (task : PrivateTask) (ran : ℕ) : Type 0 where
  pub task_is : task_after script t first entries ≡ task
  pub follow : (more : List Entry) (close : Close) → AreLines script t task ran more close → AreLines script t first 0 (entries ++ more) close
