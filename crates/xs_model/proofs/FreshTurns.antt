-- Starts are few: each begins a fresh turn, and another event follows in the turn before the block starts again.
use Rattle.std.proofs.Common.{◌≡◌, ℕ, ◌+◌, ◌*◌, ◌≤◌, ◌==◌, Bool, true, false, List, [], ◌∷◌, length, refl, ap, ◌∙◌, arith}
use Rattle.std.specs.Prelude.{Option, Some, None, if◌then◌else◌, slice_get}
use Rattle.xs_base.specs.Task.{PrivateTask}
use Rattle.xs_model.specs.declared.script.Script.{Script}
use Rattle.xs_model.specs.declared.event.Event.{Event}
use Rattle.xs_model.specs.declared.event.Event.TheVariants.{Start, Local, Outer, Grow, Kill, End}
use Rattle.xs_model.specs.declared.stage.Stage.{Stage}
use Rattle.xs_model.specs.declared.stage.Stage.TheVariants.{Unborn, Ready, Turn, Stopped, Waiting, Ended}
use Rattle.xs_model.specs.Note.{task_of}
use Rattle.xs_model.specs.State.{BlockState, Machine, is_parent}
use Rattle.xs_model.specs.Outer.{wake, let_go, bear, born}
use Rattle.xs_model.specs.Machine.{started, own, reach, blocks_after, IsStep, machine, IsLegalPast}
use Rattle.xs_model.proofs.Bookkeeping.{is_fresh, fresh, is_deed, deeds}
use Rattle.xs_model.proofs.Touched.{Touched, Stays, Wakes, Frees, Continues, Signals, Takes, Fills, Bears, reach_touches}
use Rattle.xs_model.proofs.EventTurns.{filled_stage}
use Rattle.xs_model.proofs.DueTurns.{starting_of}
use Rattle.xs_model.proofs.BlockSums.{fresh_own, fresh_changed, fresh_alike}
use Rattle.xs_model.proofs.StepCosts.{ready_is, started_stage}

-- ready or as before, a block that isn't fresh is none
if_ready : (b : Bool) (s : Stage) → is_fresh s ≡ 0 → is_fresh (if b then Ready else s) ≡ 0
if_ready true s is = refl
if_ready false s is = is

-- to wake
wake_fresh : (t : ℕ) (s : Stage) → is_fresh (wake t s) ≡ is_fresh s
wake_fresh t Unborn = refl
wake_fresh t Ready = refl
wake_fresh t (Turn cpu ran) = refl
wake_fresh t Stopped = refl
wake_fresh t (Waiting child) = if_ready (child == t) (Waiting child) refl
wake_fresh t Ended = refl

-- to let go
let_go_fresh : (may : Bool) (s : Stage) → is_fresh (let_go may s) ≡ is_fresh s
let_go_fresh may Unborn = refl
let_go_fresh may Ready = refl
let_go_fresh may (Turn cpu ran) = refl
let_go_fresh may Stopped = if_ready may Stopped refl
let_go_fresh may (Waiting child) = refl
let_go_fresh may Ended = refl

-- a birth by the stage
bear_fresh : (t : ℕ) (parent : PrivateTask) (s : Stage) (block : BlockState) → block.stage ≡ s → is_fresh (bear t parent s block).stage ≡ is_fresh s
bear_fresh t parent Unborn block is = refl
bear_fresh t parent Ready block is = ap is_fresh is
bear_fresh t parent (Turn cpu ran) block is = ap is_fresh is
bear_fresh t parent Stopped block is = ap is_fresh is
bear_fresh t parent (Waiting child) block is = ap is_fresh is
bear_fresh t parent Ended block is = ap is_fresh is

-- a birth
born_fresh : (t : ℕ) (parent : Option BlockState) (block : BlockState) → is_fresh (born t parent block).stage ≡ is_fresh block.stage
born_fresh t None block = refl
born_fresh t (Some parent) block = bear_fresh t parent.task block.stage block refl

-- a block that is touched is as fresh
touched_fresh : (blocks : List BlockState) (old new : BlockState) → Touched blocks old new → is_fresh new.stage ≡ is_fresh old.stage
touched_fresh blocks old new (Stays is) = ap (λ (b : BlockState). is_fresh b.stage) is
touched_fresh blocks old new (Wakes t is) = ap (λ (b : BlockState). is_fresh b.stage) is ∙ wake_fresh t old.stage
touched_fresh blocks old new (Frees t is) = ap (λ (b : BlockState). is_fresh b.stage) is ∙ let_go_fresh (is_parent old.parent t) (wake t old.stage) ∙ wake_fresh t old.stage
touched_fresh blocks old new (Continues is) = ap (λ (b : BlockState). is_fresh b.stage) is ∙ let_go_fresh true old.stage
touched_fresh blocks old new (Signals signo is) = ap (λ (b : BlockState). is_fresh b.stage) is
touched_fresh blocks old new (Takes set count t is) = ap (λ (b : BlockState). is_fresh b.stage) is
touched_fresh blocks old new (Fills set child is) = ap (λ (b : BlockState). is_fresh b.stage) is ∙ ap is_fresh (filled_stage set (slice_get blocks child) old)
touched_fresh blocks old new (Bears t is) = ap (λ (b : BlockState). is_fresh b.stage) is ∙ born_fresh t (slice_get blocks t) old

-- an event ends one fresh turn at most
fresh_left : (script : Script) (event : Event) (blocks : List BlockState) → fresh blocks ≤ fresh (blocks_after script event blocks) + 1
fresh_left script event blocks =
    let less = fresh_own (task_of event) (own script event) (reach script event blocks) in
    let same = fresh_alike (Touched blocks) (touched_fresh blocks) blocks (reach script event blocks) (reach_touches script event blocks) in
    omega arith

-- a Start adds one, and another step takes one at most
fresh_step : (m : Machine) (event : Event) → IsStep m event → 1 + fresh m.blocks ≤ 2 * is_deed event + fresh (blocks_after m.script event m.blocks)
fresh_step m (Start t cpu how signal) step =
    let s = starting_of m t cpu (slice_get m.blocks t) (Start t cpu how signal) step.is_due in
    let sum = fresh_changed t (started cpu signal) m.blocks s.state s.here in
    let was : is_fresh s.state.stage ≡ 0 = ap is_fresh (ready_is s.state.stage s.ready) in
    let now : is_fresh (started cpu signal s.state).stage ≡ 1 = ap is_fresh (started_stage cpu signal s.state) in
    omega arith
fresh_step m (Local t line reply) step = let less = fresh_left m.script (Local t line reply) m.blocks in omega arith
fresh_step m (Outer t line reply) step = let less = fresh_left m.script (Outer t line reply) m.blocks in omega arith
fresh_step m (Grow t) step = let less = fresh_left m.script (Grow t) m.blocks in omega arith
fresh_step m (Kill t signo why) step = let less = fresh_left m.script (Kill t signo why) m.blocks in omega arith
fresh_step m (End t) step = let less = fresh_left m.script (End t) m.blocks in omega arith

-- a legal past has two events at most for each that is no Start, and one for each fresh turn
pub starts_few : (script : Script) (past : List Event) → IsLegalPast script past → length past ≤ 2 * deeds past + fresh (machine script past).blocks
starts_few script [] legal = omega arith
starts_few script (event ∷ past) legal =
    let before = starts_few script past legal.0 in
    let step = fresh_step (machine script past) event legal.1 in
    omega arith
