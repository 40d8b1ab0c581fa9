-- What an event that is due tells of the place of its block, and of the line there.
use Rattle.std.proofs.Common.{◌≡◌, ℕ, Bool, true, false, not, ◌&&◌, refl}
use Rattle.std.proofs.lemmas.Bool.{and_parts, not-true}
use Rattle.std.specs.Prelude.{Option, Some, None, if◌then◌else◌, nat_lt}
use Rattle.xs_base.specs.declared.component.Place.{Place}
use Rattle.xs_base.specs.Layout.{has_row}
use Rattle.xs_base.specs.Component.{tiledata_number}
use Rattle.xs_base.specs.Register.{place_of}
use Rattle.xs_base.specs.Task.{PrivateTask}
use Rattle.xs_base.specs.Tile.{is_of_tiles, raises_nm}
use Rattle.xs_model.specs.declared.script.Command.{Command}
use Rattle.xs_model.specs.declared.script.Command.TheVariants as commands
use Rattle.xs_model.specs.declared.script.Block.{Block}
use Rattle.xs_model.specs.declared.script.Order.{Order}
use Rattle.xs_model.specs.declared.event.Reply.{Reply}
use Rattle.xs_model.specs.declared.event.Why.{Why}
use Rattle.xs_model.specs.declared.event.Why.TheVariants as whys
use Rattle.xs_model.specs.declared.event.Event.TheVariants.{Local, Outer, Grow, Kill, End}
use Rattle.xs_model.specs.Script.{is_outer}
use Rattle.xs_model.specs.Line.{line_at, local_reply, traps, refusal}
use Rattle.xs_model.specs.State.{Machine}
use Rattle.xs_model.specs.Outer.{outer_reply}
use Rattle.xs_model.specs.Due.{illegal, violation, large_count, trap_event, local_event, place_event}

-- ---- a line of the task's own

-- A local event is that of the line at the place, which isn't refused.
pub record LocalLine (line : ℕ) (lines : Block) (task : PrivateTask) : Type 0 where
  pub order : Order
  pub here : line_at lines task ≡ Some order
  pub number : line ≡ order.number
  pub whole : refusal task order.command ≡ None
  pub inner : is_outer order.command ≡ false

-- an End is no local event
end_no : {A : Type 0} (b : Bool) (t u line : ℕ) (reply : Reply) → (if b then Some (End t) else None) ≡ Some (Local u line reply) → A
end_no true t u line reply is = absurd (cc)
end_no false t u line reply is = absurd (cc)

-- the event of a line that traps is none
trap_no : {A : Type 0} (may free : Bool) (t : ℕ) (u line : ℕ) (reply : Reply) → Some (if not may then Kill t illegal whys.Permission else (if free then Grow t else Kill t violation whys.Area)) ≡ Some (Local u line reply) → A
trap_no false free t u line reply is = absurd (cc)
trap_no true true t u line reply is = absurd (cc)
trap_no true false t u line reply is = absurd (cc)

-- a local event of a line that isn't outer and doesn't trap
local_of : (m : Machine) (t ran u line : ℕ) (reply : Reply) (lines : Block) (task : PrivateTask) (order : Order) → line_at lines task ≡ Some order → is_outer order.command ≡ false → (why : Option Why) → refusal task order.command ≡ why → local_event m t ran task order why ≡ Some (Local u line reply) → LocalLine line lines task
local_of m t ran u line reply lines task order here inner (Some why) whole is = absurd (cc)
local_of m t ran u line reply lines task order here inner None whole is = within (nat_lt ran m.script.quantum) is
  where
    within : (b : Bool) → (if b then Some (Local t order.number (local_reply task order.command)) else None) ≡ Some (Local u line reply) → LocalLine line lines task
    within true is = record { order = order; here = here; number = cc; whole = whole; inner = inner }
    within false is = absurd (cc)

-- a local event of a line
line_of : (m : Machine) (t ran u line : ℕ) (reply : Reply) (lines : Block) (task : PrivateTask) (order : Order) → line_at lines task ≡ Some order → (outer trap : Bool) → is_outer order.command ≡ outer
    → (if outer then Some (Outer t order.number (outer_reply m.script m.blocks t order.command)) else (if trap then Some (trap_event m t task) else local_event m t ran task order (refusal task order.command))) ≡ Some (Local u line reply) → LocalLine line lines task
line_of m t ran u line reply lines task order here true trap inner is = absurd (cc)
line_of m t ran u line reply lines task order here false true inner is = trap_no task.permitted (nat_lt (large_count m.blocks) m.script.large) t u line reply is
line_of m t ran u line reply lines task order here false false inner is = local_of m t ran u line reply lines task order here inner (refusal task order.command) refl is

-- a local event of a block at its place
pub local_line : (m : Machine) (t ran u line : ℕ) (reply : Reply) (lines : Block) (task : PrivateTask) (order : Option Order) → line_at lines task ≡ order → place_event m t ran task order ≡ Some (Local u line reply) → LocalLine line lines task
local_line m t ran u line reply lines task None here is = end_no (nat_lt ran m.script.quantum && not task.handling) t u line reply is
local_line m t ran u line reply lines task (Some order) here is = line_of m t ran u line reply lines task order here (is_outer order.command) (traps task order.command) refl is

-- ---- a line that makes the task grow

-- an instruction that raises #NM
nm_small : (task : PrivateTask) (place : Place) (is_write : Bool) → raises_nm task place is_write ≡ true → task.large ≡ false
nm_small task place is_write test = first (has_row task.file.rows tiledata_number) task.large (is_of_tiles place is_write) test
  where
    first : (a b c : Bool) → (a && not b && c) ≡ true → b ≡ false
    first a b c is = not-true b (and_parts a (not b) (and_parts (a && not b) c is).0).1

-- a line that traps has no room for tiles
small : (task : PrivateTask) (command : Command) → traps task command ≡ true → task.large ≡ false
small task (commands.Get reg) test = nm_small task (place_of reg) false test
small task (commands.Set reg bytes) test = nm_small task (place_of reg) true test
small task other test = absurd (cc)

-- the event of a local line is no Grow
local_no_grow : (m : Machine) (t ran u : ℕ) (task : PrivateTask) (order : Order) (why : Option Why) → local_event m t ran task order why ≡ Some (Grow u) → ⊥
local_no_grow m t ran u task order (Some why) is = cc
local_no_grow m t ran u task order None is = within (nat_lt ran m.script.quantum) is
  where
    within : (b : Bool) → (if b then Some (Local t order.number (local_reply task order.command)) else None) ≡ Some (Grow u) → ⊥
    within true is = cc
    within false is = cc

-- a Grow is the event of a line that traps
pub grow_line : (m : Machine) (t ran u : ℕ) (task : PrivateTask) (order : Option Order) → place_event m t ran task order ≡ Some (Grow u) → (at : Order) × (order ≡ Some at) × (traps task at.command ≡ true)
grow_line m t ran u task None is = within (nat_lt ran m.script.quantum && not task.handling) is
  where
    within : (b : Bool) → (if b then Some (End t) else None) ≡ Some (Grow u) → (at : Order) × (None ≡ Some at) × (traps task at.command ≡ true)
    within true is = absurd (cc)
    within false is = absurd (cc)
grow_line m t ran u task (Some order) is = by_tests (is_outer order.command) (traps task order.command) refl is
  where
    by_tests : (outer trap : Bool) → traps task order.command ≡ trap → (if outer then Some (Outer t order.number (outer_reply m.script m.blocks t order.command)) else (if trap then Some (trap_event m t task) else local_event m t ran task order (refusal task order.command))) ≡ Some (Grow u)
        → (at : Order) × (Some order ≡ Some at) × (traps task at.command ≡ true)
    by_tests true trap test is = absurd (cc)
    by_tests false true test is = (order, refl, test)
    by_tests false false test is = absurd (local_no_grow m t ran u task order (refusal task order.command) is)

-- a task that grows had no room for tiles
pub grow_small : (m : Machine) (t ran u : ℕ) (task : PrivateTask) (order : Option Order) → place_event m t ran task order ≡ Some (Grow u) → task.large ≡ false
grow_small m t ran u task order is = let line = grow_line m t ran u task order is in small task line.0.command line.2

-- a Grow of a line that traps tells that an area is free
trap_free : (may free : Bool) (t u : ℕ) → Some (if not may then Kill t illegal whys.Permission else (if free then Grow t else Kill t violation whys.Area)) ≡ Some (Grow u) → free ≡ true
trap_free false free t u is = absurd (cc)
trap_free true true t u is = refl
trap_free true false t u is = absurd (cc)

-- so does each Grow
pub grow_free : (m : Machine) (t ran u : ℕ) (task : PrivateTask) (order : Option Order) → place_event m t ran task order ≡ Some (Grow u) → nat_lt (large_count m.blocks) m.script.large ≡ true
grow_free m t ran u task None is = within (nat_lt ran m.script.quantum && not task.handling) is
  where
    within : (b : Bool) → (if b then Some (End t) else None) ≡ Some (Grow u) → nat_lt (large_count m.blocks) m.script.large ≡ true
    within true is = absurd (cc)
    within false is = absurd (cc)
grow_free m t ran u task (Some order) is = by_tests (is_outer order.command) (traps task order.command) is
  where
    by_tests : (outer trap : Bool) → (if outer then Some (Outer t order.number (outer_reply m.script m.blocks t order.command)) else (if trap then Some (trap_event m t task) else local_event m t ran task order (refusal task order.command))) ≡ Some (Grow u)
        → nat_lt (large_count m.blocks) m.script.large ≡ true
    by_tests true trap is = absurd (cc)
    by_tests false true is = trap_free task.permitted (nat_lt (large_count m.blocks) m.script.large) t u is
    by_tests false false is = absurd (local_no_grow m t ran u task order (refusal task order.command) is)

-- ---- an outer line

-- An outer event is that of the line at the place.
pub record OuterAt (m : Machine) (t line : ℕ) (reply : Reply) (lines : Block) (task : PrivateTask) : Type 0 where
  pub order : Order
  pub here : line_at lines task ≡ Some order
  pub number : line ≡ order.number
  pub outer : is_outer order.command ≡ true
  pub replied : reply ≡ outer_reply m.script m.blocks t order.command

-- the event of a local line is no outer one
local_no_outer : (m : Machine) (t ran u line : ℕ) (reply : Reply) (task : PrivateTask) (order : Order) (why : Option Why) → local_event m t ran task order why ≡ Some (Outer u line reply) → ⊥
local_no_outer m t ran u line reply task order (Some why) is = cc
local_no_outer m t ran u line reply task order None is = within (nat_lt ran m.script.quantum) is
  where
    within : (b : Bool) → (if b then Some (Local t order.number (local_reply task order.command)) else None) ≡ Some (Outer u line reply) → ⊥
    within true is = cc
    within false is = cc

-- nor that of a line that traps
trap_no_outer : (may free : Bool) (t u line : ℕ) (reply : Reply) → Some (if not may then Kill t illegal whys.Permission else (if free then Grow t else Kill t violation whys.Area)) ≡ Some (Outer u line reply) → ⊥
trap_no_outer false free t u line reply is = cc
trap_no_outer true true t u line reply is = cc
trap_no_outer true false t u line reply is = cc

-- an outer event of a block at its place
pub outer_at : (m : Machine) (t ran u line : ℕ) (reply : Reply) (lines : Block) (task : PrivateTask) (order : Option Order) → line_at lines task ≡ order → place_event m t ran task order ≡ Some (Outer u line reply) → OuterAt m t line reply lines task
outer_at m t ran u line reply lines task None here is = within (nat_lt ran m.script.quantum && not task.handling) is
  where
    within : (b : Bool) → (if b then Some (End t) else None) ≡ Some (Outer u line reply) → OuterAt m t line reply lines task
    within true is = absurd (cc)
    within false is = absurd (cc)
outer_at m t ran u line reply lines task (Some order) here is = by_tests (is_outer order.command) (traps task order.command) refl is
  where
    by_tests : (outer trap : Bool) → is_outer order.command ≡ outer → (if outer then Some (Outer t order.number (outer_reply m.script m.blocks t order.command)) else (if trap then Some (trap_event m t task) else local_event m t ran task order (refusal task order.command))) ≡ Some (Outer u line reply) → OuterAt m t line reply lines task
    by_tests true trap test is = record { order = order; here = here; number = cc; outer = test; replied = cc }
    by_tests false true test is = absurd (trap_no_outer task.permitted (nat_lt (large_count m.blocks) m.script.large) t u line reply is)
    by_tests false false test is = absurd (local_no_outer m t ran u line reply task order (refusal task order.command) is)
