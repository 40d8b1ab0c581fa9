-- What an event tells of its block that is due.
use Rattle.std.proofs.Common.{◌≡◌, ℕ, ◌<◌, Bool, true, false, not, ◌&&◌, nat_lt, Some, None, if◌then◌else◌, slice_get, refl, sym, ap, ◌∙◌}
use Rattle.std.proofs.lemmas.Bool.{ltb-true}
use Rattle.std.specs.Prelude.{Option}
use Rattle.xs_base.specs.Task.{PrivateTask}
use Rattle.xs_model.specs.declared.event.Event.{Event}
use Rattle.xs_model.specs.declared.event.Event.TheVariants as events
use Rattle.xs_model.specs.declared.event.Reply.{Reply}
use Rattle.xs_model.specs.declared.event.Why.{Why}
use Rattle.xs_model.specs.declared.event.Why.TheVariants as whys
use Rattle.xs_model.specs.declared.script.Block.{Block}
use Rattle.xs_model.specs.declared.script.Order.{Order}
use Rattle.xs_model.specs.declared.stage.Stage.{Stage}
use Rattle.xs_model.specs.declared.stage.Stage.TheVariants.{Unborn, Ready, Turn, Stopped, Waiting, Ended}
use Rattle.xs_model.specs.Due.{block_event, due, illegal, large_count, local_event, place_event, trap_event, turn_event, violation}
use Rattle.xs_model.specs.Line.{line_at, local_reply, refusal, traps}
use Rattle.xs_model.specs.Outer.{outer_reply}
use Rattle.xs_model.specs.Script.{is_outer}
use Rattle.xs_model.specs.State.{BlockState, Machine}

-- The block is in a turn, in which the event comes at its place.
pub record IsInPlace (m : Machine) (t : ℕ) (event : Event) : Type 0 where
  pub block : BlockState
  pub lines : Block
  pub cpu : ℕ
  pub ran : ℕ
  pub state : slice_get m.blocks t ≡ Some block
  pub lines_are : slice_get m.script.blocks t ≡ Some lines
  pub stage : block.stage ≡ Turn cpu ran
  pub event_is : place_event m t ran block.task (line_at lines block.task) ≡ Some event

pub due_in_place : (m : Machine) (t : ℕ) (event : Event) → due m t ≡ Some event → IsInPlace m t event
due_in_place m t event is = by_block (slice_get m.blocks t) (slice_get m.script.blocks t) refl refl is
  where
    by_stage : (block : BlockState) (lines : Block) (stage : Stage) → slice_get m.blocks t ≡ Some block → slice_get m.script.blocks t ≡ Some lines → block.stage ≡ stage → turn_event m t lines block.task stage ≡ Some event → IsInPlace m t event
    by_stage block lines Unborn state known stage is = absurd (cc is)
    by_stage block lines Ready state known stage is = absurd (cc is)
    by_stage block lines (Turn cpu ran) state known stage is = record { block = block; lines = lines; cpu = cpu; ran = ran; state = state; lines_are = known; stage = stage; event_is = is }
    by_stage block lines Stopped state known stage is = absurd (cc is)
    by_stage block lines (Waiting child) state known stage is = absurd (cc is)
    by_stage block lines Ended state known stage is = absurd (cc is)

    by_block : (here : Option BlockState) (there : Option Block) → slice_get m.blocks t ≡ here → slice_get m.script.blocks t ≡ there → block_event m t here there ≡ Some event → IsInPlace m t event
    by_block None there state known is = absurd (cc is)
    by_block (Some block) None state known is = absurd (cc is)
    by_block (Some block) (Some lines) state known is = by_stage block lines block.stage state known refl is

-- ---- the event of a line

-- an event with a line
abbrev has_line : Event → Bool
has_line (events.Start t cpu how signal) = false
has_line (events.Local t line reply) = true
has_line (events.Outer t line reply) = true
has_line (events.Grow t) = false
has_line (events.Kill t signo why) = false
has_line (events.End t) = false

-- a line that traps has no such event
trap_silent : (m : Machine) (t : ℕ) (task : PrivateTask) → has_line (trap_event m t task) ≡ false
trap_silent m t task = by_test (not task.permitted) (nat_lt (large_count m.blocks) m.script.large)
  where
    by_test : (one other : Bool) → has_line (if one then events.Kill t illegal whys.Permission else if other then events.Grow t else events.Kill t violation whys.Area) ≡ false
    by_test true other = refl
    by_test false true = refl
    by_test false false = refl

trap_apart : (m : Machine) (t : ℕ) (task : PrivateTask) (event : Event) → has_line event ≡ true → Some (trap_event m t task) ≡ Some event → ⊥
trap_apart m t task event told is =
    let same : trap_event m t task ≡ event = cc in
    let clash : false ≡ true = sym (trap_silent m t task) ∙ ap has_line same ∙ told in
    cc

-- the end of a body has none
end_apart : (b : Bool) (t : ℕ) (event : Event) → has_line event ≡ true → (if b then Some (events.End t) else None) ≡ Some event → ⊥
end_apart true t event told is =
    let same : events.End t ≡ event = cc in
    let clash : false ≡ true = ap has_line same ∙ told in
    cc
end_apart false t event told is = cc

-- what the event of a local line tells
pub record IsLocalAt (m : Machine) (ran line : ℕ) (there : Option Order) : Type 0 where
  pub order : Order
  pub at : there ≡ Some order
  pub number : order.number ≡ line
  pub short : ran < m.script.quantum

pub local_at : (m : Machine) (t u ran line : ℕ) (task : PrivateTask) (there : Option Order) (reply : Reply) → place_event m t ran task there ≡ Some (events.Local u line reply) → IsLocalAt m ran line there
local_at m t u ran line task None reply is = absurd (end_apart (nat_lt ran m.script.quantum && not task.handling) t (events.Local u line reply) refl is)
local_at m t u ran line task (Some order) reply is = by_outer (is_outer order.command) is
  where
    by_quantum : (b : Bool) → nat_lt ran m.script.quantum ≡ b → (if b then Some (events.Local t order.number (local_reply task order.command)) else None) ≡ Some (events.Local u line reply) → IsLocalAt m ran line (Some order)
    by_quantum true short is = record { order = order; at = refl; number = cc; short = ltb-true ran m.script.quantum short }
    by_quantum false short is = absurd (cc is)

    by_refusal : (why : Option Why) → local_event m t ran task order why ≡ Some (events.Local u line reply) → IsLocalAt m ran line (Some order)
    by_refusal (Some why) is = absurd (cc is)
    by_refusal None is = by_quantum (nat_lt ran m.script.quantum) refl is

    by_trap : (b : Bool) → (if b then Some (trap_event m t task) else local_event m t ran task order (refusal task order.command)) ≡ Some (events.Local u line reply) → IsLocalAt m ran line (Some order)
    by_trap true is = absurd (trap_apart m t task (events.Local u line reply) refl is)
    by_trap false is = by_refusal (refusal task order.command) is

    by_outer : (b : Bool) → (if b then Some (events.Outer t order.number (outer_reply m.script m.blocks t order.command)) else if traps task order.command then Some (trap_event m t task) else local_event m t ran task order (refusal task order.command)) ≡ Some (events.Local u line reply) → IsLocalAt m ran line (Some order)
    by_outer true is = absurd (cc is)
    by_outer false is = by_trap (traps task order.command) is

-- what the event of an outer line tells
pub record IsOuterAt (m : Machine) (t line : ℕ) (reply : Reply) (there : Option Order) : Type 0 where
  pub order : Order
  pub at : there ≡ Some order
  pub number : order.number ≡ line
  pub outer : is_outer order.command ≡ true
  pub reply_is : reply ≡ outer_reply m.script m.blocks t order.command

pub outer_at : (m : Machine) (t u ran line : ℕ) (task : PrivateTask) (there : Option Order) (reply : Reply) → place_event m t ran task there ≡ Some (events.Outer u line reply) → IsOuterAt m t line reply there
outer_at m t u ran line task None reply is = absurd (end_apart (nat_lt ran m.script.quantum && not task.handling) t (events.Outer u line reply) refl is)
outer_at m t u ran line task (Some order) reply is = by_outer (is_outer order.command) refl is
  where
    by_quantum : (b : Bool) → (if b then Some (events.Local t order.number (local_reply task order.command)) else None) ≡ Some (events.Outer u line reply) → ⊥
    by_quantum true is = cc
    by_quantum false is = cc

    by_refusal : (why : Option Why) → local_event m t ran task order why ≡ Some (events.Outer u line reply) → ⊥
    by_refusal (Some why) is = cc
    by_refusal None is = by_quantum (nat_lt ran m.script.quantum) is

    by_trap : (b : Bool) → (if b then Some (trap_event m t task) else local_event m t ran task order (refusal task order.command)) ≡ Some (events.Outer u line reply) → ⊥
    by_trap true is = trap_apart m t task (events.Outer u line reply) refl is
    by_trap false is = by_refusal (refusal task order.command) is

    by_outer : (b : Bool) → is_outer order.command ≡ b → (if b then Some (events.Outer t order.number (outer_reply m.script m.blocks t order.command)) else if traps task order.command then Some (trap_event m t task) else local_event m t ran task order (refusal task order.command)) ≡ Some (events.Outer u line reply) → IsOuterAt m t line reply (Some order)
    by_outer true outer is = record { order = order; at = refl; number = cc; outer = outer; reply_is = cc }
    by_outer false outer is = absurd (by_trap (traps task order.command) is)
