-- What an event that is due tells of its block: it is in a turn, and an outer event is that of the line at its place.
use Rattle.std.proofs.Common.{◌≡◌, ℕ, Bool, true, false, not, ◌&&◌, refl, sym, ap, ◌∙◌, subst}
use Rattle.std.proofs.lemmas.Bool.{and_parts, not-true}
use Rattle.std.specs.Prelude.{Option, Some, None, if◌then◌else◌, slice_get, nat_lt}
use Rattle.xs_base.specs.Task.{PrivateTask}
use Rattle.xs_model.specs.declared.script.Command.{Command}
use Rattle.xs_model.specs.declared.script.Command.TheVariants as commands
use Rattle.xs_model.specs.declared.script.Block.{Block}
use Rattle.xs_model.specs.declared.script.Order.{Order}
use Rattle.xs_model.specs.declared.event.Reply.{Reply}
use Rattle.xs_model.specs.declared.event.Reply.TheVariants as replies
use Rattle.xs_model.specs.declared.event.Why.{Why}
use Rattle.xs_model.specs.declared.event.Why.TheVariants as whys
use Rattle.xs_model.specs.declared.event.Event.{Event}
use Rattle.xs_model.specs.declared.event.Event.TheVariants.{Local, Outer, Grow, Kill, End}
use Rattle.xs_model.specs.declared.stage.Stage.{Stage}
use Rattle.xs_model.specs.declared.stage.Stage.TheVariants.{Unborn, Ready, Turn, Stopped, Waiting, Ended}
use Rattle.xs_model.specs.Script.{block_named, command_at, is_outer}
use Rattle.xs_model.specs.Line.{line_at, local_reply, traps, refusal}
use Rattle.xs_model.specs.Note.{Plain, Sets, set_target, is_count, set_act, act_of}
use Rattle.xs_model.specs.State.{BlockState, Machine, is_ready, is_stopped, turn_cpu, stage_of, turn_of, has_turn}
use Rattle.xs_model.specs.Outer.{buffer_of, put_reply, child_reply, outer_reply}
use Rattle.xs_model.specs.Due.{illegal, violation, large_count, trap_event, local_event, place_event, turn_event, block_event, due, block_start}
use Rattle.xs_model.proofs.LineNumbers.{AreLinesFound}

-- ---- what is due tells of the turn

-- an event of a block is due in a turn alone
turning : (m : Machine) (t : ℕ) (lines : Block) (task : PrivateTask) (stage : Stage) (event : Event) → turn_event m t lines task stage ≡ Some event → (cpu : ℕ) × (turn_cpu stage ≡ Some cpu)
turning m t lines task Unborn event is = absurd (cc)
turning m t lines task Ready event is = absurd (cc)
turning m t lines task (Turn cpu ran) event is = (cpu, refl)
turning m t lines task Stopped event is = absurd (cc)
turning m t lines task (Waiting child) event is = absurd (cc)
turning m t lines task Ended event is = absurd (cc)

-- the same of a block that may not be there
block_turning : (m : Machine) (t : ℕ) (block : Option BlockState) (lines : Option Block) (event : Event) → block_event m t block lines ≡ Some event → (cpu : ℕ) × (turn_cpu (stage_of block) ≡ Some cpu)
block_turning m t None lines event is = absurd (cc)
block_turning m t (Some block) None event is = absurd (cc)
block_turning m t (Some block) (Some lines) event is = turning m t lines block.task block.stage event is

-- a block whose event is due is in a turn
pub due_turning : (m : Machine) (t : ℕ) (event : Event) → due m t ≡ Some event → (cpu : ℕ) × (turn_of m.blocks t ≡ Some cpu)
due_turning m t event is = block_turning m t (slice_get m.blocks t) (slice_get m.script.blocks t) event is

-- ---- an outer line

-- An outer event of block t is that of the line at its place.
pub record OuterLine (m : Machine) (t line : ℕ) (reply : Reply) (lines : Option Block) : Type 0 where
  pub block : Block
  pub task : PrivateTask
  pub order : Order
  pub known : lines ≡ Some block
  pub here : line_at block task ≡ Some order
  pub number : line ≡ order.number
  pub replied : reply ≡ outer_reply m.script m.blocks t order.command
  pub outer : is_outer order.command ≡ true

-- an End is no outer event
end_not : {A : Type 0} (b : Bool) (t : ℕ) (u line : ℕ) (reply : Reply) → (if b then Some (End t) else None) ≡ Some (Outer u line reply) → A
end_not true t u line reply is = absurd (cc)
end_not false t u line reply is = absurd (cc)

-- the event of a local line is none
local_not : {A : Type 0} (m : Machine) (t ran : ℕ) (task : PrivateTask) (order : Order) (why : Option Why) (u line : ℕ) (reply : Reply) → local_event m t ran task order why ≡ Some (Outer u line reply) → A
local_not m t ran task order (Some why) u line reply is = absurd (cc)
local_not {A = A} m t ran task order None u line reply is = within (nat_lt ran m.script.quantum) is
  where
    within : (b : Bool) → (if b then Some (Local t order.number (local_reply task order.command)) else None) ≡ Some (Outer u line reply) → A
    within true is = absurd (cc)
    within false is = absurd (cc)

-- the event of a line that traps is none
trap_not : {A : Type 0} (may free : Bool) (t : ℕ) (u line : ℕ) (reply : Reply) → Some (if not may then Kill t illegal whys.Permission else (if free then Grow t else Kill t violation whys.Area)) ≡ Some (Outer u line reply) → A
trap_not false free t u line reply is = absurd (cc)
trap_not true true t u line reply is = absurd (cc)
trap_not true false t u line reply is = absurd (cc)

-- an outer event of a line, by the kind of the line
line_outer : (m : Machine) (t u line ran : ℕ) (reply : Reply) (lines : Option Block) (block : Block) (task : PrivateTask) (order : Order) → lines ≡ Some block → line_at block task ≡ Some order → (outer trap : Bool) → is_outer order.command ≡ outer
    → (if outer then Some (Outer t order.number (outer_reply m.script m.blocks t order.command)) else (if trap then Some (trap_event m t task) else local_event m t ran task order (refusal task order.command))) ≡ Some (Outer u line reply) → OuterLine m t line reply lines
line_outer m t u line ran reply lines block task order known here true trap outer is = record { block = block; task = task; order = order; known = known; here = here; number = cc; replied = cc; outer = outer }
line_outer m t u line ran reply lines block task order known here false true outer is = trap_not task.permitted (nat_lt (large_count m.blocks) m.script.large) t u line reply is
line_outer m t u line ran reply lines block task order known here false false outer is = local_not m t ran task order (refusal task order.command) u line reply is

-- an outer event at the block's place
place_outer : (m : Machine) (t u line ran : ℕ) (reply : Reply) (lines : Option Block) (block : Block) (task : PrivateTask) (order : Option Order) → lines ≡ Some block → line_at block task ≡ order → place_event m t ran task order ≡ Some (Outer u line reply) → OuterLine m t line reply lines
place_outer m t u line ran reply lines block task None known here is = end_not (nat_lt ran m.script.quantum && not task.handling) t u line reply is
place_outer m t u line ran reply lines block task (Some order) known here is = line_outer m t u line ran reply lines block task order known here (is_outer order.command) (traps task order.command) refl is

-- an outer event of a block
turn_outer : (m : Machine) (t u line : ℕ) (reply : Reply) (lines : Option Block) (block : Block) (task : PrivateTask) (stage : Stage) → lines ≡ Some block → turn_event m t block task stage ≡ Some (Outer u line reply) → OuterLine m t line reply lines
turn_outer m t u line reply lines block task (Turn cpu ran) known is = place_outer m t u line ran reply lines block task (line_at block task) known refl is
turn_outer m t u line reply lines block task Unborn known is = absurd (cc)
turn_outer m t u line reply lines block task Ready known is = absurd (cc)
turn_outer m t u line reply lines block task Stopped known is = absurd (cc)
turn_outer m t u line reply lines block task (Waiting child) known is = absurd (cc)
turn_outer m t u line reply lines block task Ended known is = absurd (cc)

-- an outer event of a block that may not be there
pub block_outer : (m : Machine) (t u line : ℕ) (reply : Reply) (block : Option BlockState) (lines : Option Block) → block_event m t block lines ≡ Some (Outer u line reply) → OuterLine m t line reply lines
block_outer m t u line reply None lines is = absurd (cc)
block_outer m t u line reply (Some block) None is = absurd (cc)
block_outer m t u line reply (Some block) (Some lines) is = turn_outer m t u line reply (Some lines) lines block.task block.stage refl is

-- ---- registers are set of a stopped block alone

-- a stopped block is in no turn
stopped_turn : (stage : Stage) → is_stopped stage ≡ true → turn_cpu stage ≡ None
stopped_turn Unborn is = refl
stopped_turn Ready is = refl
stopped_turn (Turn cpu ran) is = absurd (cc)
stopped_turn Stopped is = refl
stopped_turn (Waiting child) is = refl
stopped_turn Ended is = refl

-- a plain act sets nothing
plain_not : {A : Type 0} (u : ℕ) → Plain ≡ Sets u → A
plain_not u is = absurd (cc)

-- an accepted set is of this block
set_same : (target u : ℕ) (accepted : Bool) → set_act (Some target) accepted ≡ Sets u → target ≡ u
set_same target u true is = cc
set_same target u false is = plain_not u is

-- a set that is accepted is of a stopped block
set_stopped : (target u : ℕ) (reply : PrivateTask → Reply) (block : BlockState) (stopped : Bool) → is_stopped block.stage ≡ stopped → set_act (Some target) (is_count (if stopped then reply block.task else replies.Error 3)) ≡ Sets u → turn_cpu block.stage ≡ None
set_stopped target u reply block true stopped is = stopped_turn block.stage stopped
set_stopped target u reply block false stopped is = plain_not u is

-- the same of a block that may not be there
set_no_turn : (target u : ℕ) (reply : PrivateTask → Reply) (block : Option BlockState) → set_act (Some target) (is_count (child_reply reply block)) ≡ Sets u → turn_cpu (stage_of block) ≡ None
set_no_turn target u reply None is = refl
set_no_turn target u reply (Some block) is = set_stopped target u reply block (is_stopped block.stage) refl is

-- the block whose registers a command sets is in no turn
set_none : (m : Machine) (t u : ℕ) (command : Command) → set_act (set_target m.script (Some command)) (is_count (outer_reply m.script m.blocks t command)) ≡ Sets u → turn_of m.blocks u ≡ None
set_none m t u (commands.Setregs name set count) is =
    let target = block_named m.script name in
    subst (λ (x : ℕ). turn_of m.blocks x ≡ None) (set_same target u (is_count (child_reply (put_reply set count (buffer_of (slice_get m.blocks t))) (slice_get m.blocks target))) is)
    (set_no_turn target u (put_reply set count (buffer_of (slice_get m.blocks t))) (slice_get m.blocks target) is)
set_none m t u other is = plain_not u is

-- the block whose registers an event sets is in no turn
pub outer_set_none : (m : Machine) (t line u : ℕ) (reply : Reply) → AreLinesFound m.script → due m t ≡ Some (Outer t line reply) → act_of m.script (Outer t line reply) ≡ Sets u → turn_of m.blocks u ≡ None
outer_set_none m t line u reply found is acts =
    let o = block_outer m t t line reply (slice_get m.blocks t) (slice_get m.script.blocks t) is in
    let command = found t o.block o.task o.order o.known o.here in
    let at : command_at m.script t line ≡ Some o.order.command = ap (command_at m.script t) o.number ∙ command in
    let by_command = ap (λ (command : Option Command). set_act (set_target m.script command) (is_count reply)) at in
    let by_reply = ap (λ (reply : Reply). set_act (set_target m.script (Some o.order.command)) (is_count reply)) o.replied in
    set_none m t u o.order.command (sym (by_command ∙ by_reply) ∙ acts)

-- ---- what is due at a Start

-- The block that may start is ready, and the processor has no turn.
pub record Starting (m : Machine) (cpu : ℕ) (block : Option BlockState) : Type 0 where
  pub state : BlockState
  pub here : block ≡ Some state
  pub ready : is_ready state.stage ≡ true
  pub within : nat_lt cpu m.script.cpus ≡ true
  pub free : has_turn m.blocks cpu ≡ false

-- a test that lets something through holds
if_some : {A : Type 0} (b : Bool) (x y : A) → (if b then Some x else None) ≡ Some y → b ≡ true
if_some true x y is = refl
if_some false x y is = absurd (cc)

-- what a Start that is due tells
pub starting_of : (m : Machine) (t cpu : ℕ) (block : Option BlockState) (event : Event) → block_start m t cpu block ≡ Some event → Starting m cpu block
starting_of m t cpu None event is = absurd (cc)
starting_of m t cpu (Some block) event is =
    let may = if_some (is_ready block.stage && nat_lt cpu m.script.cpus && not (has_turn m.blocks cpu)) _ event is in
    let parts = and_parts (is_ready block.stage && nat_lt cpu m.script.cpus) (not (has_turn m.blocks cpu)) may in
    let first = and_parts (is_ready block.stage) (nat_lt cpu m.script.cpus) parts.0 in
    record { state = block; here = refl; ready = first.0; within = first.1; free = not-true (has_turn m.blocks cpu) parts.1 }
