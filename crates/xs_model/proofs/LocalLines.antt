-- A local event that is due is that of the line at its block's place, which doesn't trap.
use Rattle.std.proofs.Common.{◌≡◌, ℕ, Bool, true, false, not, ◌&&◌, refl}
use Rattle.std.specs.Prelude.{Option, Some, None, slice_get, nat_lt, if◌then◌else◌}
use Rattle.xs_base.specs.Task.{PrivateTask}
use Rattle.xs_model.specs.declared.script.Block.{Block}
use Rattle.xs_model.specs.declared.script.Order.{Order}
use Rattle.xs_model.specs.declared.script.Script.{Script}
use Rattle.xs_model.specs.declared.event.Reply.{Reply}
use Rattle.xs_model.specs.declared.event.Why.{Why}
use Rattle.xs_model.specs.declared.event.Why.TheVariants as whys
use Rattle.xs_model.specs.declared.event.Event.TheVariants.{Local, Outer, Grow, Kill, End}
use Rattle.xs_model.specs.Script.{IsCommand, IsBody, IsValid, is_outer}
use Rattle.xs_model.specs.Line.{line_at, local_reply, traps, refusal}
use Rattle.xs_model.specs.State.{BlockState, Machine}
use Rattle.xs_model.specs.Outer.{outer_reply}
use Rattle.xs_model.specs.Due.{illegal, violation, large_count, trap_event, local_event, place_event, due}
use Rattle.xs_model.proofs.DuePlaces.{due_inverse}
use Rattle.xs_model.proofs.EachBlock.{all_at}

-- The order at a place, of a local event of this number.
pub record LocalOrder (block : Block) (task : PrivateTask) (line : ℕ) : Type 0 where
  pub order : Order
  pub here : line_at block task ≡ Some order
  pub number : line ≡ order.number
  pub quiet : traps task order.command ≡ false

-- The state and the lines of the block with it.
pub record LocalLine (m : Machine) (t line : ℕ) : Type 0 where
  pub state : BlockState
  pub block : Block
  pub at : slice_get m.blocks t ≡ Some state
  pub known : slice_get m.script.blocks t ≡ Some block
  pub at_place : LocalOrder block state.task line

-- an End is no local event
end_not : {A : Type 0} (b : Bool) (t u line : ℕ) (reply : Reply) → (if b then Some (End t) else None) ≡ Some (Local u line reply) → A
end_not true t u line reply is = absurd (cc)
end_not false t u line reply is = absurd (cc)

-- the event of a line that traps is none
trap_not : {A : Type 0} (may free : Bool) (t u line : ℕ) (reply : Reply) → Some (if not may then Kill t illegal whys.Permission else (if free then Grow t else Kill t violation whys.Area)) ≡ Some (Local u line reply) → A
trap_not false free t u line reply is = absurd (cc)
trap_not true true t u line reply is = absurd (cc)
trap_not true false t u line reply is = absurd (cc)

-- the event of a local line has its number
number_of : (m : Machine) (t ran : ℕ) (task : PrivateTask) (order : Order) (why : Option Why) (u line : ℕ) (reply : Reply) → local_event m t ran task order why ≡ Some (Local u line reply) → line ≡ order.number
number_of m t ran task order (Some why) u line reply is = absurd (cc)
number_of m t ran task order None u line reply is = within (nat_lt ran m.script.quantum) is
  where
    within : (b : Bool) → (if b then Some (Local t order.number (local_reply task order.command)) else None) ≡ Some (Local u line reply) → line ≡ order.number
    within true is = cc
    within false is = absurd (cc)

-- a local event of a line, by the kind of the line
line_local : (m : Machine) (t u line ran : ℕ) (reply : Reply) (block : Block) (task : PrivateTask) (order : Order) → line_at block task ≡ Some order → (outer trap : Bool) → traps task order.command ≡ trap
    → (if outer then Some (Outer t order.number (outer_reply m.script m.blocks t order.command)) else (if trap then Some (trap_event m t task) else local_event m t ran task order (refusal task order.command))) ≡ Some (Local u line reply) → LocalOrder block task line
line_local m t u line ran reply block task order here true trap traps_is is = absurd (cc)
line_local m t u line ran reply block task order here false true traps_is is = trap_not task.permitted (nat_lt (large_count m.blocks) m.script.large) t u line reply is
line_local m t u line ran reply block task order here false false traps_is is = record { order = order; here = here; number = number_of m t ran task order (refusal task order.command) u line reply is; quiet = traps_is }

-- a local event at a place
place_local : (m : Machine) (t u line ran : ℕ) (reply : Reply) (block : Block) (task : PrivateTask) (order : Option Order) → line_at block task ≡ order → place_event m t ran task order ≡ Some (Local u line reply) → LocalOrder block task line
place_local m t u line ran reply block task None here is = end_not (nat_lt ran m.script.quantum && not task.handling) t u line reply is
place_local m t u line ran reply block task (Some order) here is = line_local m t u line ran reply block task order here (is_outer order.command) (traps task order.command) refl is

-- a local event that is due
pub due_local : (m : Machine) (t line : ℕ) (reply : Reply) → due m t ≡ Some (Local t line reply) → LocalLine m t line
due_local m t line reply is =
    let d = due_inverse m t (Local t line reply) is in
    record { state = d.state; block = d.lines; at = d.at; known = d.known; at_place = place_local m t t line d.ran reply d.lines d.state.task (line_at d.lines d.state.task) refl d.is }

-- the order at a place of a valid script is one of its machine
pub order_valid : (script : Script) (t : ℕ) (block : Block) (task : PrivateTask) (order : Order) → IsValid script → slice_get script.blocks t ≡ Some block → line_at block task ≡ Some order → IsCommand script.layout order.command
order_valid script t block task order valid known here =
    let body = all_at (λ (block : Block). IsBody script.layout block) script.blocks t block valid.bodies known in
    by_handling body task.handling here
  where
    by_handling : IsBody script.layout block → (handling : Bool) → slice_get (if handling then block.handler else block.body) task.place ≡ Some order → IsCommand script.layout order.command
    by_handling body true at = all_at (λ (order : Order). IsCommand script.layout order.command) block.handler task.place order body.handler at
    by_handling body false at = all_at (λ (order : Order). IsCommand script.layout order.command) block.body task.place order body.body at
