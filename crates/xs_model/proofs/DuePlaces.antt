-- What an event that is due tells: the block's state and lines, and the event at its place.
use Rattle.std.proofs.Common.{◌≡◌, ℕ, Bool, true, false, not, ◌&&◌, refl}
use Rattle.std.specs.Prelude.{Option, Some, None, slice_get, nat_lt, if◌then◌else◌}
use Rattle.xs_base.specs.declared.words.How.{How}
use Rattle.xs_base.specs.declared.words.Signo.{Signo}
use Rattle.xs_model.specs.declared.script.Block.{Block}
use Rattle.xs_model.specs.declared.event.Event.{Event}
use Rattle.xs_model.specs.declared.event.Event.TheVariants.{Start}
use Rattle.xs_model.specs.declared.stage.Stage.{Stage}
use Rattle.xs_model.specs.declared.stage.Stage.TheVariants.{Unborn, Ready, Turn, Stopped, Waiting, Ended}
use Rattle.xs_model.specs.Script.{is_user}
use Rattle.xs_model.specs.Line.{line_at}
use Rattle.xs_model.specs.Held.{held}
use Rattle.xs_model.specs.State.{BlockState, Machine, is_ready, has_turn}
use Rattle.xs_model.specs.Due.{place_event, turn_event, block_event, due, how_of, signal_of, block_start}

-- An event of block t that is due is the one at the block's place.
pub record InTurnDue (m : Machine) (t : ℕ) (event : Event) : Type 0 where
  pub state : BlockState
  pub lines : Block
  pub cpu : ℕ
  pub ran : ℕ
  pub at : slice_get m.blocks t ≡ Some state
  pub known : slice_get m.script.blocks t ≡ Some lines
  pub stage : state.stage ≡ Turn cpu ran
  pub is : place_event m t ran state.task (line_at lines state.task) ≡ Some event

-- the event of a block by its stage
turn_inverse : (m : Machine) (t : ℕ) (event : Event) (state : BlockState) (lines : Block) (s : Stage) → slice_get m.blocks t ≡ Some state → slice_get m.script.blocks t ≡ Some lines → state.stage ≡ s → turn_event m t lines state.task s ≡ Some event → InTurnDue m t event
turn_inverse m t event state lines (Turn cpu ran) at known stage is = record { state = state; lines = lines; cpu = cpu; ran = ran; at = at; known = known; stage = stage; is = is }
turn_inverse m t event state lines Unborn at known stage is = absurd (cc)
turn_inverse m t event state lines Ready at known stage is = absurd (cc)
turn_inverse m t event state lines Stopped at known stage is = absurd (cc)
turn_inverse m t event state lines (Waiting child) at known stage is = absurd (cc)
turn_inverse m t event state lines Ended at known stage is = absurd (cc)

-- the event of a block that may not be there
block_inverse : (m : Machine) (t : ℕ) (event : Event) (block : Option BlockState) (lines : Option Block) → slice_get m.blocks t ≡ block → slice_get m.script.blocks t ≡ lines → block_event m t block lines ≡ Some event → InTurnDue m t event
block_inverse m t event None lines at known is = absurd (cc)
block_inverse m t event (Some state) None at known is = absurd (cc)
block_inverse m t event (Some state) (Some lines) at known is = turn_inverse m t event state lines state.stage at known refl is

-- an event that is due
pub due_inverse : (m : Machine) (t : ℕ) (event : Event) → due m t ≡ Some event → InTurnDue m t event
due_inverse m t event is = block_inverse m t event (slice_get m.blocks t) (slice_get m.script.blocks t) refl refl is

-- A Start that is due: what it carries.
pub record StartDue (m : Machine) (t cpu : ℕ) (how : How) (signal : Option Signo) (block : Option BlockState) : Type 0 where
  pub state : BlockState
  pub here : block ≡ Some state
  pub how_is : how ≡ how_of (is_user m.script t) (held m.script m.past cpu t)
  pub signal_is : signal ≡ signal_of state

-- the same by a test
start_by : (m : Machine) (t cpu : ℕ) (how : How) (signal : Option Signo) (state : BlockState) (test : Bool) → (if test then Some (Start t cpu (how_of (is_user m.script t) (held m.script m.past cpu t)) (signal_of state)) else None) ≡ Some (Start t cpu how signal) → StartDue m t cpu how signal (Some state)
start_by m t cpu how signal state true is = record { state = state; here = refl; how_is = cc; signal_is = cc }
start_by m t cpu how signal state false is = absurd (cc)

-- what a Start that is due carries
pub start_inverse : (m : Machine) (t cpu : ℕ) (how : How) (signal : Option Signo) (block : Option BlockState) → block_start m t cpu block ≡ Some (Start t cpu how signal) → StartDue m t cpu how signal block
start_inverse m t cpu how signal None is = absurd (cc)
start_inverse m t cpu how signal (Some state) is = start_by m t cpu how signal state (is_ready state.stage && nat_lt cpu m.script.cpus && not (has_turn m.blocks cpu)) is
