-- The laws of the machine, as statements. Those of whole runs are in Runs.antt.
use Rattle.std.specs.Prelude.{◌≡◌, ℕ, ◌+◌, ◌<◌, ◌≤◌, Bool, true, false, ◌&&◌, ◌==◌, List, [], ◌∷◌, ◌++◌, length, slice_get, Some, None}
use Rattle.xs_base.specs.declared.words.Signo.{Signo}
use Rattle.xs_base.specs.declared.component.Row.{Row}
use Rattle.xs_base.specs.Layout.{IsLayout}
use Rattle.xs_base.specs.Task.{PrivateTask, IsPrivateTask}
use Rattle.xs_model.specs.declared.script.Command.{Command}
use Rattle.xs_model.specs.declared.script.Command.TheVariants as commands
use Rattle.xs_model.specs.declared.script.Order.{Order}
use Rattle.xs_model.specs.declared.script.Block.{Block}
use Rattle.xs_model.specs.declared.script.Script.{Script}
use Rattle.xs_model.specs.declared.event.Reply.{Reply}
use Rattle.xs_model.specs.declared.event.Why.{Why}
use Rattle.xs_model.specs.declared.event.Event.{Event}
use Rattle.xs_model.specs.declared.event.Event.TheVariants.{Start, Local, Outer, Grow, Kill, End}
use Rattle.xs_model.specs.Names.{named_block}
use Rattle.xs_model.specs.Script.{IsValid, IsCommand, is_outer, is_return, block_named, command_at, is_user}
use Rattle.xs_model.specs.Line.{line_at, local_reply, local_after, traps, refusal}
use Rattle.xs_model.specs.Note.{Sets, task_of, act_of, notes_of, is_at, cpu_of, mark, last}
use Rattle.xs_model.specs.Held.{sets_block, held}
use Rattle.xs_model.specs.declared.stage.Stage.TheVariants.{Unborn, Ready, Turn, Waiting}
use Rattle.xs_model.specs.State.{BlockState, is_ready, lives, is_active, stage_at, task_at, turn_of, has_turn, parent_of, none_lives}
use Rattle.xs_model.specs.Outer.{outer_reply}
use Rattle.xs_model.specs.Due.{violation, large_count, trap_event, how_of, signal_of}
use Rattle.xs_model.specs.Machine.{may_act, IsStep, machine, IsLegalPast, IsMachineOf}
use Rattle.xs_model.specs.Ready.{one_if, occurs, ready_list}
use Rattle.xs_model.specs.Counts.{is_event_on, counts_of, remains}
use Rattle.xs_model.specs.Bound.{most_events}

-- A line is found by its number.
abbrev pub LinesFound : Type 0
LinesFound = (script : Script) (t : ℕ) (lines : Block) (task : PrivateTask) (order : Order) → IsValid script
    → slice_get script.blocks t ≡ Some lines → line_at lines task ≡ Some order → command_at script t order.number ≡ Some order.command

-- The processor of a turn is the one of the block's latest Start, and its last processor.
abbrev pub TurnsKnown : Type 0
TurnsKnown = (script : Script) (past : List Event) (cpu task : ℕ) → IsValid script → IsLegalPast script past
    → turn_of (machine script past).blocks task ≡ Some cpu → (cpu_of (notes_of script past) task ≡ Some cpu) × (last script past task ≡ Some cpu)

-- A processor has one turn at most.
abbrev pub TurnsApart : Type 0
TurnsApart = (script : Script) (past : List Event) (cpu one other : ℕ) → IsValid script → IsLegalPast script past
    → turn_of (machine script past).blocks one ≡ Some cpu → turn_of (machine script past).blocks other ≡ Some cpu → one ≡ other

-- While a user task is in a turn, the processor's mark is no other task.
abbrev pub TurnsMarked : Type 0
TurnsMarked = (script : Script) (past : List Event) (cpu task other : ℕ) → IsValid script → IsLegalPast script past → is_user script task ≡ true
    → turn_of (machine script past).blocks task ≡ Some cpu → is_at (mark script past cpu) other ≡ true → other ≡ task

-- A task is held exactly where the processor's mark is the task and the task's last processor is this one.
abbrev pub TwoNumbers : Type 0
TwoNumbers = (script : Script) (past : List Event) (cpu task : ℕ) → IsValid script → IsLegalPast script past → is_user script task ≡ true
    → held script past cpu task ≡ (is_at (mark script past cpu) task && is_at (last script past task) cpu)

-- The ready list has each ready block once, and no other.
abbrev pub ReadyOnce : Type 0
ReadyOnce = (script : Script) (past : List Event) (t : ℕ) → IsLegalPast script past
    → occurs t (ready_list script past) ≡ one_if (is_ready (stage_at (machine script past).blocks t))

-- The first of the ready list is ready.
abbrev pub FirstReady : Type 0
FirstReady = (script : Script) (past : List Event) (t : ℕ) (list : List ℕ) → IsLegalPast script past → ready_list script past ≡ t ∷ list
    → stage_at (machine script past).blocks t ≡ Ready

-- Where the ready list is empty, no block is ready.
abbrev pub NobodyReady : Type 0
NobodyReady = (script : Script) (past : List Event) (t : ℕ) → IsLegalPast script past → ready_list script past ≡ []
    → is_ready (stage_at (machine script past).blocks t) ≡ false

-- Block t is in a turn on the processor, where it made so many Local events, in this state and with these lines.
pub record IsInTurn (script : Script) (past : List Event) (t cpu ran : ℕ) (block : BlockState) (lines : Block) : Type 0 where
  pub state : slice_get (machine script past).blocks t ≡ Some block
  pub lines_are : slice_get script.blocks t ≡ Some lines
  pub stage : block.stage ≡ Turn cpu ran

-- Block t is in a turn, at a line that forks the child of this name.
pub record IsAtFork (script : Script) (past : List Event) (t : ℕ) (name : List ℕ) (block : BlockState) (order : Order) : Type 0 where
  pub cpu : ℕ
  pub ran : ℕ
  pub lines : Block
  pub turn : IsInTurn script past t cpu ran block lines
  pub at : line_at lines block.task ≡ Some order
  pub is : order.command ≡ commands.Fork name

-- Block t may bear the child: both are user tasks, and the child isn't born.
pub record IsBirth (script : Script) (past : List Event) (t child : ℕ) (state : BlockState) : Type 0 where
  pub here : slice_get (machine script past).blocks child ≡ Some state
  pub unborn : state.stage ≡ Unborn
  pub apart : t ≡ child → ⊥
  pub parent_user : is_user script t ≡ true
  pub child_user : is_user script child ≡ true

-- A fork bears: its child isn't born yet, since no other line forks it.
abbrev pub ForkBears : Type 0
ForkBears = (script : Script) (past : List Event) (t : ℕ) (name : List ℕ) (block : BlockState) (order : Order) → IsValid script → IsLegalPast script past
    → IsAtFork script past t name block order → (state : BlockState) × IsBirth script past t (block_named script name) state

-- The event is a fork of block v.
pub record IsForkOf (script : Script) (event : Event) (v : ℕ) : Type 0 where
  pub parent : ℕ
  pub line : ℕ
  pub reply : Reply
  pub name : List ℕ
  pub is : event ≡ Outer parent line reply
  pub command : command_at script parent line ≡ Some (commands.Fork name)
  pub child : block_named script name ≡ v

-- A block is born by a fork alone.
abbrev pub BornByFork : Type 0
BornByFork = (script : Script) (past : List Event) (event : Event) (v : ℕ) → IsValid script → IsLegalPast script (event ∷ past)
    → stage_at (machine script past).blocks v ≡ Unborn
    → (stage_at (machine script (event ∷ past)).blocks v ≡ Unborn → ⊥) → IsForkOf script event v

-- The block had no turn: it has no last processor, and is no processor's mark.
pub record HadNoTurn (script : Script) (past : List Event) (t : ℕ) : Type 0 where
  pub cpu : cpu_of (notes_of script past) t ≡ None
  pub last : last script past t ≡ None
  pub unmarked : (cpu : ℕ) → is_at (mark script past cpu) t ≡ false

-- A block that isn't born had no turn.
abbrev pub UnbornUnseen : Type 0
UnbornUnseen = (script : Script) (past : List Event) (t : ℕ) → IsValid script → IsLegalPast script past → stage_at (machine script past).blocks t ≡ Unborn → HadNoTurn script past t

-- ---- events that a processor or a block doesn't see

-- the newer events are all on other processors than c
abbrev pub AreElsewhere : Script → List Event → List Event → ℕ → Type 0
AreElsewhere script [] past c = Unit {0}
AreElsewhere script (event ∷ newer) past c = AreElsewhere script newer past c × (is_event_on script (newer ++ past) event c ≡ false)

-- the newer events are all of other blocks than t, and set none of its registers
abbrev pub AreOthers : Script → List Event → ℕ → Type 0
AreOthers script [] t = Unit {0}
AreOthers script (event ∷ newer) t = AreOthers script newer t × ((task_of event == t) ≡ false) × (sets_block (act_of script event) t ≡ false)

-- Events on other processors leave a processor's mark.
abbrev pub MarkUnseen : Type 0
MarkUnseen = (script : Script) (newer past : List Event) (cpu : ℕ) → AreElsewhere script newer past cpu → mark script (newer ++ past) cpu ≡ mark script past cpu

-- They leave its counts.
abbrev pub CountsUnseen : Type 0
CountsUnseen = (script : Script) (newer past : List Event) (cpu : ℕ) → AreElsewhere script newer past cpu → counts_of script (newer ++ past) cpu ≡ counts_of script past cpu

-- They leave what remains in its bank.
abbrev pub RemainsUnseen : Type 0
RemainsUnseen = (script : Script) (newer past : List Event) (cpu : ℕ) → AreElsewhere script newer past cpu → remains script (newer ++ past) cpu ≡ remains script past cpu

-- Events of other blocks leave a block's last processor, and the one of its latest Start.
abbrev pub LastUnseen : Type 0
LastUnseen = (script : Script) (newer past : List Event) (task : ℕ) → AreOthers script newer task
    → (last script (newer ++ past) task ≡ last script past task) × (cpu_of (notes_of script (newer ++ past)) task ≡ cpu_of (notes_of script past) task)

-- Where all are both, a task is held as before.
abbrev pub HeldUnseen : Type 0
HeldUnseen = (script : Script) (newer past : List Event) (cpu task : ℕ) → AreElsewhere script newer past cpu → AreOthers script newer task
    → held script (newer ++ past) cpu task ≡ held script past cpu task

-- ---- the machine of a past, and its steps

-- The machine of a past has this script and this past, and as many blocks as the script.
abbrev pub MachineKnown : Type 0
MachineKnown = (script : Script) (past : List Event)
    → ((machine script past).script ≡ script) × ((machine script past).past ≡ past) × (length (machine script past).blocks ≡ length script.blocks)

-- In a legal past of a valid script each block has a valid private task.
abbrev pub TasksValid : Type 0
TasksValid = (script : Script) (past : List Event) → IsValid script → IsLegalPast script past → IsMachineOf script (machine script past)

-- A local line that doesn't trap leaves a valid private task.
abbrev pub LinesValid : Type 0
LinesValid = (rows : List Row) (task : PrivateTask) (command : Command) → IsLayout rows → IsPrivateTask rows task → IsCommand rows command
    → traps task command ≡ false → IsPrivateTask rows (local_after task command)

-- The Start of a ready block on a free processor is a step.
abbrev pub StartIsStep : Type 0
StartIsStep = (script : Script) (past : List Event) (t cpu : ℕ) (block : BlockState)
    → may_act (machine script past).committing t ≡ true → slice_get (machine script past).blocks t ≡ Some block → block.stage ≡ Ready
    → cpu < script.cpus → has_turn (machine script past).blocks cpu ≡ false
    → IsStep (machine script past) (Start t cpu (how_of (is_user script t) (held script past cpu t)) (signal_of block))

-- The event of a local line within the quantum is a step.
abbrev pub LocalIsStep : Type 0
LocalIsStep = (script : Script) (past : List Event) (t cpu ran : ℕ) (block : BlockState) (lines : Block) (order : Order)
    → may_act (machine script past).committing t ≡ true → IsInTurn script past t cpu ran block lines → ran < script.quantum
    → line_at lines block.task ≡ Some order → is_outer order.command ≡ false → traps block.task order.command ≡ false → refusal block.task order.command ≡ None
    → IsStep (machine script past) (Local t order.number (local_reply block.task order.command))

-- The event of an outer line is a step, however many Local events the turn has made.
abbrev pub OuterIsStep : Type 0
OuterIsStep = (script : Script) (past : List Event) (t cpu ran : ℕ) (block : BlockState) (lines : Block) (order : Order)
    → may_act (machine script past).committing t ≡ true → IsInTurn script past t cpu ran block lines
    → line_at lines block.task ≡ Some order → is_outer order.command ≡ true
    → IsStep (machine script past) (Outer t order.number (outer_reply script (machine script past).blocks t order.command))

-- The kill by a return that is refused is a step, however many Local events the turn has made.
abbrev pub RefusalIsStep : Type 0
RefusalIsStep = (script : Script) (past : List Event) (t cpu ran : ℕ) (block : BlockState) (lines : Block) (order : Order) (why : Why)
    → may_act (machine script past).committing t ≡ true → IsInTurn script past t cpu ran block lines
    → line_at lines block.task ≡ Some order → refusal block.task order.command ≡ Some why
    → IsStep (machine script past) (Kill t violation why)

-- The event of a line that traps is a step, however many Local events the turn has made: the task grows, or is killed.
abbrev pub TrapIsStep : Type 0
TrapIsStep = (script : Script) (past : List Event) (t cpu ran : ℕ) (block : BlockState) (lines : Block) (order : Order)
    → may_act (machine script past).committing t ≡ true → IsInTurn script past t cpu ran block lines
    → line_at lines block.task ≡ Some order → traps block.task order.command ≡ true
    → IsStep (machine script past) (trap_event (machine script past) t block.task)

-- The end of a body within the quantum is a step.
abbrev pub EndIsStep : Type 0
EndIsStep = (script : Script) (past : List Event) (t cpu ran : ℕ) (block : BlockState) (lines : Block)
    → may_act (machine script past).committing t ≡ true → IsInTurn script past t cpu ran block lines → ran < script.quantum
    → line_at lines block.task ≡ None → block.task.handling ≡ false → IsStep (machine script past) (End t)

-- A processor without a turn is that of no block's turn, and one of no block's turn has none.
abbrev pub FreeTells : Type 0
FreeTells = (blocks : List BlockState) (cpu t : ℕ) → has_turn blocks cpu ≡ false → turn_of blocks t ≡ Some cpu → ⊥

abbrev pub FreeFound : Type 0
FreeFound = (blocks : List BlockState) (cpu : ℕ) → ((t : ℕ) → turn_of blocks t ≡ Some cpu → ⊥) → has_turn blocks cpu ≡ false

-- The block is still there, with the private task that it had.
pub record HasTask (blocks : List BlockState) (t : ℕ) (task : PrivateTask) : Type 0 where
  pub block : BlockState
  pub here : slice_get blocks t ≡ Some block
  pub task_is : block.task ≡ task

-- Another block's event leaves the private task of a block that was born, unless it sets its registers.
abbrev pub TaskStays : Type 0
TaskStays = (script : Script) (past : List Event) (event : Event) (t : ℕ) (block : BlockState)
    → (task_of event ≡ t → ⊥) → (act_of script event ≡ Sets t → ⊥) → slice_get (machine script past).blocks t ≡ Some block → (block.stage ≡ Unborn → ⊥)
    → HasTask (machine script (event ∷ past)).blocks t block.task

-- What a block keeps from one past to a later one: it stays in its turn, and a last processor that it has it had before, with
-- the same private task.
pub record KeepsBlock (script : Script) (before after : List Event) (t : ℕ) : Type 0 where
  pub turn : (cpu ran : ℕ) → stage_at (machine script before).blocks t ≡ Turn cpu ran → stage_at (machine script after).blocks t ≡ Turn cpu ran
  pub held : (cpu : ℕ) → last script after t ≡ Some cpu → (last script before t ≡ Some cpu) × (task_at (machine script after).blocks t ≡ task_at (machine script before).blocks t)

-- So does every block but the one whose event it is.
abbrev pub OthersKeep : Type 0
OthersKeep = (script : Script) (past : List Event) (event : Event) (t : ℕ) → IsValid script → IsLegalPast script (event ∷ past)
    → (task_of event ≡ t → ⊥) → KeepsBlock script past (event ∷ past) t

-- A block waits for a child of its own alone.
abbrev pub WaitsForChild : Type 0
WaitsForChild = (script : Script) (past : List Event) (u child : ℕ) → IsValid script → IsLegalPast script past
    → stage_at (machine script past).blocks u ≡ Waiting child → parent_of (slice_get (machine script past).blocks child) ≡ Some u

-- ---- Large areas

-- the event makes a task grow, or ends it
abbrev pub is_of_areas : Event → Bool
is_of_areas (Start t cpu how signal) = false
is_of_areas (Local t line reply) = false
is_of_areas (Outer t line reply) = false
is_of_areas (Grow t) = true
is_of_areas (Kill t signo why) = true
is_of_areas (End t) = true

-- No other event changes how many living blocks have room for TILEDATA. A Grow makes them one more, and the end of such a block
-- one fewer.
abbrev pub LargeStays : Type 0
LargeStays = (script : Script) (past : List Event) (event : Event) → IsLegalPast script (event ∷ past) → is_of_areas event ≡ false
    → large_count (machine script (event ∷ past)).blocks ≡ large_count (machine script past).blocks

abbrev pub LargeGrows : Type 0
LargeGrows = (script : Script) (past : List Event) (t : ℕ) → IsLegalPast script (Grow t ∷ past)
    → large_count (machine script (Grow t ∷ past)).blocks ≡ large_count (machine script past).blocks + 1

abbrev pub LargeEnds : Type 0
LargeEnds = (script : Script) (past : List Event) (t : ℕ) (block : BlockState) → IsLegalPast script (End t ∷ past) → slice_get (machine script past).blocks t ≡ Some block
    → large_count (machine script (End t ∷ past)).blocks + one_if block.task.large ≡ large_count (machine script past).blocks

abbrev pub LargeKilled : Type 0
LargeKilled = (script : Script) (past : List Event) (t : ℕ) (signo : Signo) (why : Why) (block : BlockState) → IsLegalPast script (Kill t signo why ∷ past) → slice_get (machine script past).blocks t ≡ Some block
    → large_count (machine script (Kill t signo why ∷ past)).blocks + one_if block.task.large ≡ large_count (machine script past).blocks

-- A line that traps is one of a user task.
abbrev pub TrapOfUser : Type 0
TrapOfUser = (script : Script) (t : ℕ) (lines : Block) (task : PrivateTask) (order : Order) → IsValid script → slice_get script.blocks t ≡ Some lines
    → line_at lines task ≡ Some order → traps task order.command ≡ true → is_user script t ≡ true

-- A block with room for TILEDATA is a user task that was born.
abbrev pub LargeKnown : Type 0
LargeKnown = (script : Script) (past : List Event) (t : ℕ) (block : BlockState) → IsValid script → IsLegalPast script past
    → slice_get (machine script past).blocks t ≡ Some block → block.task.large ≡ true → (is_user script t ≡ true) × (block.stage ≡ Unborn → ⊥)

-- There are never more such living blocks than Large areas of the script.
abbrev pub FewLarge : Type 0
FewLarge = (script : Script) (past : List Event) → IsLegalPast script past → large_count (machine script past).blocks ≤ script.large

-- ---- signals and lines

-- An outer line stands in a body: no handler runs at it. A return stands in a handler, which runs.
abbrev pub OuterOutside : Type 0
OuterOutside = (script : Script) (t : ℕ) (lines : Block) (task : PrivateTask) (order : Order) → IsValid script → slice_get script.blocks t ≡ Some lines
    → line_at lines task ≡ Some order → is_outer order.command ≡ true → task.handling ≡ false

abbrev pub ReturnInside : Type 0
ReturnInside = (script : Script) (t : ℕ) (lines : Block) (task : PrivateTask) (order : Order) → IsValid script → slice_get script.blocks t ≡ Some lines
    → line_at lines task ≡ Some order → is_return order.command ≡ true → task.handling ≡ true

-- An outer line is one of a user task, and the block that it names is a user task.
abbrev pub OuterOfUser : Type 0
OuterOfUser = (script : Script) (t : ℕ) (lines : Block) (task : PrivateTask) (order : Order) → IsValid script → slice_get script.blocks t ≡ Some lines
    → line_at lines task ≡ Some order → is_outer order.command ≡ true → is_user script t ≡ true

abbrev pub NamedUser : Type 0
NamedUser = (script : Script) (t : ℕ) (lines : Block) (task : PrivateTask) (order : Order) (name : List ℕ) → IsValid script → slice_get script.blocks t ≡ Some lines
    → line_at lines task ≡ Some order → named_block order.command ≡ Some name
    → (block_named script name < length script.blocks) × (is_user script (block_named script name) ≡ true)

-- A kernel thread has no signal, and no handler runs.
abbrev pub ThreadsQuiet : Type 0
ThreadsQuiet = (script : Script) (past : List Event) (t : ℕ) (block : BlockState) → IsValid script → IsLegalPast script past → is_user script t ≡ false
    → slice_get (machine script past).blocks t ≡ Some block → (block.pending ≡ []) × (block.task.handling ≡ false)

-- Pending signals stand in the order of their numbers, each once.
abbrev pub ArePending : ℕ → List Signo → Type 0
ArePending last [] = Unit {0}
ArePending last (signo ∷ pending) = (last < signo.number) × ArePending signo.number pending

abbrev pub PendingRise : Type 0
PendingRise = (script : Script) (past : List Event) (t : ℕ) (block : BlockState) → slice_get (machine script past).blocks t ≡ Some block → ArePending 0 block.pending

-- A block that isn't born, or has ended, has no pending signal.
abbrev pub QuietUnlessAlive : Type 0
QuietUnlessAlive = (script : Script) (past : List Event) (t : ℕ) (block : BlockState) → IsValid script → IsLegalPast script past
    → slice_get (machine script past).blocks t ≡ Some block → lives block.stage ≡ false → block.pending ≡ []

-- ---- runs

-- While a block lives, one is ready or in a turn.
abbrev pub NeverStuck : Type 0
NeverStuck = (script : Script) (past : List Event) → IsValid script → IsLegalPast script past → none_lives (machine script past) ≡ false
    → (t : ℕ) × (is_active (stage_at (machine script past).blocks t) ≡ true)

-- No history has more events than the bound of its script.
abbrev pub FewEvents : Type 0
FewEvents = (script : Script) (past : List Event) → IsValid script → IsLegalPast script past → length past ≤ most_events script
