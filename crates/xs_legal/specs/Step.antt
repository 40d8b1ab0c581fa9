-- What the code knows of an event that is a step. This project's own.
use Rattle.std.specs.Prelude.{◌≡◌, ℕ, ◌+◌, ◌<◌, ◌^◌, true, List, length, slice_get, Some, None}
use Rattle.std.specs.List.{AllByRecursion}
use Rattle.xs_base.specs.Task.{IsPrivateTask}
use Rattle.xs_model.specs.declared.event.Event.{Event}
use Rattle.xs_model.specs.declared.event.Event.TheVariants as events
use Rattle.xs_model.specs.declared.event.Reply.{Reply}
use Rattle.xs_model.specs.declared.script.Block.{Block}
use Rattle.xs_model.specs.declared.script.Command.{Command}
use Rattle.xs_model.specs.declared.script.Command.TheVariants as commands
use Rattle.xs_model.specs.declared.script.Order.{Order}
use Rattle.xs_model.specs.declared.script.Script.{Script}
use Rattle.xs_model.specs.declared.stage.Stage.TheVariants.{Turn}
use Rattle.xs_model.specs.Line.{line_at}
use Rattle.xs_model.specs.Machine.{IsLegalPast, IsStep, machine}
use Rattle.xs_model.specs.Note.{is_count, task_of}
use Rattle.xs_model.specs.Script.{IsCommand, IsValid, block_named, command_at}
use Rattle.xs_model.specs.State.{BlockState, turn_of}
use Rattle.xs_legal.specs.declared.giving.Gift.TheVariants as gifts
use Rattle.xs_legal.specs.Gift.{ArePair}
use Rattle.xs_legal.specs.Wrong.{how_in}

-- The blocks are those of a legal past of the script, of whose machine the event is a step.
pub record IsNext (script : Script) (blocks : List BlockState) (event : Event) : Type 0 where
  pub valid : IsValid script
  pub past : List Event
  pub legal : IsLegalPast script past
  pub blocks_are : blocks ≡ (machine script past).blocks
  pub step : IsStep (machine script past) event

-- Block t is in a turn and stands at this line.
pub record IsAtLine (script : Script) (blocks : List BlockState) (t line : ℕ) : Type 0 where
  pub block : BlockState
  pub lines : Block
  pub order : Order
  pub cpu : ℕ
  pub ran : ℕ
  pub state : slice_get blocks t ≡ Some block
  pub lines_are : slice_get script.blocks t ≡ Some lines
  pub stage : block.stage ≡ Turn cpu ran
  pub at : line_at lines block.task ≡ Some order
  pub number : order.number ≡ line
  pub command : command_at script t line ≡ Some order.command
  pub known : IsCommand script.layout order.command
  pub valid : IsPrivateTask script.layout block.task
  pub place : block.task.place + 1 < 2 ^ 32

-- The line is a local one, within the quantum.
pub record IsLocalLine (script : Script) (blocks : List BlockState) (t line : ℕ) : Type 0 where
  pub here : IsAtLine script blocks t line
  pub short : here.ran < script.quantum

-- The blocks that an outer command of block t reaches are there.
abbrev pub CanReach : Script → List BlockState → ℕ → Command → Reply → Type 0
CanReach script blocks t (commands.Fork name) reply = ArePair (gifts.Birth t) blocks t (block_named script name)
CanReach script blocks t (commands.Kill name signo) reply = is_count reply ≡ true → block_named script name < length blocks
CanReach script blocks t (commands.Getregs name set) reply = is_count reply ≡ true → ArePair (gifts.Registers set) blocks (block_named script name) t
CanReach script blocks t (commands.Setregs name set count) reply = is_count reply ≡ true → ArePair (gifts.Bytes set count) blocks t (block_named script name)
CanReach script blocks t (commands.Cont name) reply = is_count reply ≡ true → block_named script name < length blocks
CanReach script blocks t other reply = Unit {0}

-- The line is an outer one, which answers this.
pub record IsOuterLine (script : Script) (blocks : List BlockState) (t line : ℕ) (reply : Reply) : Type 0 where
  pub here : IsAtLine script blocks t line
  pub reach : CanReach script blocks t here.order.command reply

-- ---- laws

-- The block of a step is there, and the private tasks are valid.
abbrev pub StepWithin : Type 0
StepWithin = (script : Script) (blocks : List BlockState) (event : Event) → IsNext script blocks event → task_of event < length blocks

abbrev pub StepValid : Type 0
StepValid = (script : Script) (blocks : List BlockState) (event : Event) → IsNext script blocks event → AllByRecursion (λ (block : BlockState). IsPrivateTask script.layout block.task) blocks

-- The block of a local or outer line stands at it.
abbrev pub LocalTold : Type 0
LocalTold = (script : Script) (blocks : List BlockState) (t line : ℕ) (reply : Reply) → IsNext script blocks (events.Local t line reply) → IsLocalLine script blocks t line

abbrev pub OuterTold : Type 0
OuterTold = (script : Script) (blocks : List BlockState) (t line : ℕ) (reply : Reply) → IsNext script blocks (events.Outer t line reply) → IsOuterLine script blocks t line reply

-- The block of a step that is no Start is in a turn.
abbrev pub StepTurns : Type 0
StepTurns = (script : Script) (blocks : List BlockState) (event : Event) → IsNext script blocks event → how_in event ≡ None → (cpu : ℕ) × (turn_of blocks (task_of event) ≡ Some cpu)
