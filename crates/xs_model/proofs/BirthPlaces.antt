-- A block that was born stays so, and goes on in its body.
use Rattle.std.proofs.Common.{◌≡◌, ℕ, ◌+◌, ◌≤◌, ◌==◌, Bool, true, false, List, refl, sym, ap, ◌∙◌, subst, arith, ⊎_elim}
use Rattle.std.proofs.lemmas.Bool.{cases_eq}
use Rattle.std.specs.Prelude.{Option, Some, None, if◌then◌else◌, slice_get, take}
use Rattle.std.specs.Option.{option_map}
use Rattle.xs_base.specs.declared.words.Signo.{Signo}
use Rattle.xs_base.specs.Task.{PrivateTask}
use Rattle.xs_base.specs.Tile.{feature_error}
use Rattle.xs_base.specs.Frame.{Return, Full, LegacyOnly, Refused, return_of, after_return, refused_file}
use Rattle.xs_model.specs.declared.script.Command.{Command}
use Rattle.xs_model.specs.declared.script.Command.TheVariants as commands
use Rattle.xs_model.specs.declared.script.Script.{Script}
use Rattle.xs_model.specs.declared.event.Reply.{Reply}
use Rattle.xs_model.specs.declared.event.Why.{Why}
use Rattle.xs_model.specs.declared.event.Event.{Event}
use Rattle.xs_model.specs.declared.event.Event.TheVariants.{Start, Local, Outer, Grow, Kill, End}
use Rattle.xs_model.specs.declared.stage.Stage.{Stage}
use Rattle.xs_model.specs.declared.stage.Stage.TheVariants.{Unborn, Ready, Turn, Stopped, Waiting, Ended}
use Rattle.xs_model.specs.Script.{block_named, command_at}
use Rattle.xs_model.specs.Line.{line_at, next_line, asked, local_after, return_cause, refusal, is_frame_cause, killed}
use Rattle.xs_model.specs.Note.{task_of}
use Rattle.xs_model.specs.State.{BlockState, Machine, is_parent, changed}
use Rattle.xs_model.specs.Outer.{is_held, is_blocked, wake, let_go, buffer_of, stage_left, task_left, outer_own}
use Rattle.xs_model.specs.Due.{first_signal, signal_of}
use Rattle.xs_model.specs.Machine.{started, goes_on, ran_in, ran_line, own, reach, blocks_after, IsStep}
use Rattle.xs_model.proofs.LineNumbers.{AreLinesFound}
use Rattle.xs_model.proofs.Touched.{Touched, Stays, Wakes, Frees, Continues, Signals, Takes, Fills, Bears, Both, alike_at, reach_touches}
use Rattle.xs_model.proofs.EventTurns.{changed_same, changed_other, filled_stage}
use Rattle.xs_model.proofs.DuePlaces.{due_inverse, start_inverse}
use Rattle.xs_model.proofs.DueOrders.{local_line}
use Rattle.xs_model.proofs.ReachCosts.{SamePlace, place_same, set_keeps_place, filled_place}
use Rattle.xs_model.proofs.TurnFits.{asked_same}
use Rattle.xs_model.proofs.Family.{is_born}
use Rattle.xs_model.proofs.FamilySteps.{born_old}

-- the place in the body: while a handler runs, the one to go back to
abbrev pub body_place : PrivateTask → ℕ
body_place task = if task.handling then task.back else task.place

-- Who was born stays so, at its place.
pub record StaysBorn (old new : BlockState) : Type 0 where
  pub stage : is_born new.stage ≡ true
  pub place : SamePlace old.task new.task

-- Who was born stays so, at its place in the body or further on.
pub record Onward (old new : BlockState) : Type 0 where
  pub stage : is_born new.stage ≡ true
  pub place : body_place old.task ≤ body_place new.task

-- ---- what an event does beside its own turn

-- whichever way a test goes
one_born : (b : Bool) (s : Stage) → is_born s ≡ true → is_born (if b then Ready else s) ≡ true
one_born true s born = refl
one_born false s born = born

-- a wake
wake_born : (t : ℕ) (s : Stage) → is_born s ≡ true → is_born (wake t s) ≡ true
wake_born t Unborn born = absurd (cc)
wake_born t Ready born = refl
wake_born t (Turn cpu ran) born = refl
wake_born t Stopped born = refl
wake_born t (Waiting child) born = one_born (child == t) (Waiting child) refl
wake_born t Ended born = refl

-- to go on
let_go_born : (may : Bool) (s : Stage) → is_born s ≡ true → is_born (let_go may s) ≡ true
let_go_born may Unborn born = absurd (cc)
let_go_born may Ready born = refl
let_go_born may (Turn cpu ran) born = refl
let_go_born may Stopped born = one_born may Stopped refl
let_go_born may (Waiting child) born = refl
let_go_born may Ended born = refl

-- who was born isn't unborn
pub not_unborn : (s : Stage) → is_born s ≡ true → s ≡ Unborn → ⊥
not_unborn s born is = let off : is_born s ≡ false = ap is_born is in cc

-- who isn't born is unborn
pub unborn_is : (s : Stage) → is_born s ≡ false → s ≡ Unborn
unborn_is Unborn off = refl
unborn_is Ready off = absurd (cc)
unborn_is (Turn cpu ran) off = absurd (cc)
unborn_is Stopped off = absurd (cc)
unborn_is (Waiting child) off = absurd (cc)
unborn_is Ended off = absurd (cc)

-- a block that is touched
touched_born : (blocks : List BlockState) (old new : BlockState) → is_born old.stage ≡ true → Touched blocks old new → StaysBorn old new
touched_born blocks old new born (Stays is) = subst (λ (b : BlockState). StaysBorn old b) (sym is) (record { stage = born; place = place_same old.task })
touched_born blocks old new born (Wakes t is) = subst (λ (b : BlockState). StaysBorn old b) (sym is) (record { stage = wake_born t old.stage born; place = place_same old.task })
touched_born blocks old new born (Frees t is) = subst (λ (b : BlockState). StaysBorn old b) (sym is) (record { stage = let_go_born (is_parent old.parent t) (wake t old.stage) (wake_born t old.stage born); place = place_same old.task })
touched_born blocks old new born (Continues is) = subst (λ (b : BlockState). StaysBorn old b) (sym is) (record { stage = let_go_born true old.stage born; place = place_same old.task })
touched_born blocks old new born (Signals signo is) = subst (λ (b : BlockState). StaysBorn old b) (sym is) (record { stage = born; place = place_same old.task })
touched_born blocks old new born (Takes set count t is) = subst (λ (b : BlockState). StaysBorn old b) (sym is) (record { stage = born; place = set_keeps_place set (take count (buffer_of (slice_get blocks t))) old.task })
touched_born blocks old new born (Fills set child is) = subst (λ (b : BlockState). StaysBorn old b) (sym is) (record { stage = ap is_born (filled_stage set (slice_get blocks child) old) ∙ born; place = filled_place set (slice_get blocks child) old })
touched_born blocks old new born (Bears t is) =
    let same = born_old t (slice_get blocks t) old.stage old refl (not_unborn old.stage born) in
    subst (λ (b : BlockState). StaysBorn old b) (sym (is ∙ same)) (record { stage = born; place = place_same old.task })

-- A block is there, and the other was born before it.
abbrev BornThere : Option BlockState → BlockState → Type 0
BornThere now old = (new : BlockState) × (now ≡ Some new) × StaysBorn old new

-- one that may not be there
both_born : (blocks : List BlockState) (old : BlockState) (now : Option BlockState) → is_born old.stage ≡ true → Both (Touched blocks) (Some old) now → BornThere now old
both_born blocks old None born both = absurd both
both_born blocks old (Some new) born both = (new, refl, touched_born blocks old new born both)

-- at its place
pub reach_born : (script : Script) (event : Event) (blocks : List BlockState) (v : ℕ) (old : BlockState) → slice_get blocks v ≡ Some old → is_born old.stage ≡ true → BornThere (slice_get (reach script event blocks) v) old
reach_born script event blocks v old at born =
    let all = alike_at (Touched blocks) blocks (reach script event blocks) (reach_touches script event blocks) v in
    both_born blocks old (slice_get (reach script event blocks) v) born (subst (λ (b : Option BlockState). Both (Touched blocks) b (slice_get (reach script event blocks) v)) at all)

-- ---- what an event does to its own block

-- the same place
same_body : (old new : PrivateTask) → SamePlace old new → body_place new ≡ body_place old
same_body old new same = rw (same.handling, same.place, same.back) refl

-- the next line
pub next_on : (task : PrivateTask) → body_place task ≤ body_place (next_line task)
next_on task = by_handling task.handling task.place task.back
  where
    by_handling : (handling : Bool) (place back : ℕ) → (if handling then back else place) ≤ (if handling then back else place + 1)
    by_handling true place back = omega arith
    by_handling false place back = omega arith

-- a return that isn't refused
returned_on : (task : PrivateTask) (taken : Return) → return_cause taken ≡ None → task.handling ≡ true → body_place task ≤ body_place (after_return task taken)
returned_on task (Full file) whole is = let e : body_place task ≡ task.back = ap (λ (b : Bool). if b then task.back else task.place) is in omega arith
returned_on task (LegacyOnly file) whole is = let e : body_place task ≡ task.back = ap (λ (b : Bool). if b then task.back else task.place) is in omega arith
returned_on task (Refused error) whole is = absurd (cc)

-- a local line
local_on : (task : PrivateTask) (command : Command) → refusal task command ≡ None → body_place task ≤ body_place (local_after task command)
local_on task commands.Sigreturn whole = by_handling task.handling refl
  where
    by_handling : (handling : Bool) → task.handling ≡ handling → body_place task ≤ body_place (if handling then after_return task (return_of task) else next_line task)
    by_handling true is = returned_on task (return_of task) whole is
    by_handling false is = next_on task
local_on task (commands.Perm feature) whole =
    let asked_task = asked (feature_error task.file.rows feature) task in
    let same = same_body task asked_task (asked_same (feature_error task.file.rows feature) task) in
    let next = next_on asked_task in
    omega arith
local_on task other whole = next_on task

-- whichever way a test goes
either_on : (old : BlockState) (b : Bool) (x y : BlockState) → Onward old x → Onward old y → Onward old (if b then x else y)
either_on old true x y one two = one
either_on old false x y one two = two

-- a Start
started_on : (cpu : ℕ) (state : BlockState) (signal : Option Signo) → signal ≡ signal_of state → Onward state (started cpu signal state)
started_on cpu state None from = record { stage = refl; place = omega arith }
started_on cpu state (Some signo) from =
    let off = outside state.task.handling state.pending (sym from) in
    let e : body_place state.task ≡ state.task.place = ap (λ (b : Bool). if b then state.task.back else state.task.place) off in
    record { stage = refl; place = omega arith }
  where
    outside : (handling : Bool) (pending : List Signo) → (if handling then None else first_signal pending) ≡ Some signo → handling ≡ false
    outside true pending is = absurd (cc)
    outside false pending is = refl

-- the stage in which an outer command leaves its block
left_born : (script : Script) (command : Command) (reply : Reply) → is_born (stage_left script command reply) ≡ true
left_born script commands.Stop reply = by_test (is_held reply)
  where
    by_test : (b : Bool) → is_born (if b then Stopped else Ready) ≡ true
    by_test true = refl
    by_test false = refl
left_born script (commands.Wait name) reply = by_test (is_blocked reply)
  where
    by_test : (b : Bool) → is_born (if b then Waiting (block_named script name) else Ready) ≡ true
    by_test true = refl
    by_test false = refl
left_born script other reply = refl

-- its task
left_on : (command : Command) (reply : Reply) (task : PrivateTask) → body_place task ≤ body_place (task_left command reply task)
left_on (commands.Wait name) reply task = by_test (is_blocked reply)
  where
    by_test : (b : Bool) → body_place task ≤ body_place (if b then task else next_line task)
    by_test true = omega arith
    by_test false = next_on task
left_on other reply task = next_on task

-- an outer line
outer_on : (script : Script) (command : Option Command) (reply : Reply) (state : BlockState) → Onward state (outer_own script command reply state)
outer_on script None reply state = record { stage = refl; place = omega arith }
outer_on script (Some command) reply state = record { stage = left_born script command reply; place = left_on command reply state.task }

-- a kill
killed_on : (why : Why) (task : PrivateTask) → body_place task ≤ body_place (killed why task)
killed_on why task = by_test (is_frame_cause why)
  where
    by_test : (b : Bool) → body_place task ≤ body_place (if b then record task { file = refused_file task } else task)
    by_test true = omega arith
    by_test false = omega arith

-- an event that is a step
own_on : (m : Machine) (event : Event) (state : BlockState) → AreLinesFound m.script → IsStep m event → slice_get (reach m.script event m.blocks) (task_of event) ≡ Some state → Onward state (own m.script event state)
own_on m (Start t cpu how signal) state found step at =
    let s = start_inverse m t cpu how signal (slice_get m.blocks t) step.is_due in
    let here : slice_get m.blocks t ≡ Some s.state = s.here in
    let same : s.state ≡ state = cc in
    started_on cpu state signal (s.signal_is ∙ ap signal_of same)
own_on m (Local t line reply) state found step at =
    let d = due_inverse m t (Local t line reply) step.is_due in
    let o = local_line m t d.ran t line reply d.lines d.state.task (line_at d.lines d.state.task) refl d.is in
    let here : slice_get m.blocks t ≡ Some d.state = d.at in
    let same : d.state ≡ state = cc in
    let command : command_at m.script t line ≡ Some o.order.command = ap (command_at m.script t) o.number ∙ found t d.lines d.state.task o.order d.known o.here in
    let effect : ran_line m.script (command_at m.script t line) d.state ≡ ran_in m.script o.order.command (Turn d.cpu d.ran) d.state =
    ap (λ (c : Option Command). ran_line m.script c d.state) command ∙ ap (λ (x : Stage). ran_in m.script o.order.command x d.state) d.stage in
    let next = local_on d.state.task o.order.command o.whole in
    let good : Onward d.state (ran_in m.script o.order.command (Turn d.cpu d.ran) d.state) =
    either_on d.state (goes_on m.script o.order.command d.ran) _ _ (record { stage = refl; place = next }) (record { stage = refl; place = next }) in
    subst (λ (b : BlockState). Onward b (ran_line m.script (command_at m.script t line) b)) same (subst (λ (b : BlockState). Onward d.state b) (sym effect) good)
own_on m (Outer t line reply) state found step at = outer_on m.script (command_at m.script t line) reply state
own_on m (Grow t) state found step at = record { stage = refl; place = omega arith }
own_on m (Kill t signo why) state found step at = record { stage = refl; place = killed_on why state.task }
own_on m (End t) state found step at = record { stage = refl; place = omega arith }

-- ---- a step

-- The block is still there, and went on.
abbrev pub GoesOn : Option BlockState → BlockState → Type 0
GoesOn now old = (new : BlockState) × (now ≡ Some new) × Onward old new

-- who was born goes on
pub step_onward : (m : Machine) (event : Event) (v : ℕ) (old : BlockState) → AreLinesFound m.script → IsStep m event → slice_get m.blocks v ≡ Some old → is_born old.stage ≡ true → GoesOn (slice_get (blocks_after m.script event m.blocks) v) old
step_onward m event v old found step at born =
    let mid = reach m.script event m.blocks in
    let f = own m.script event in
    let there = reach_born m.script event m.blocks v old at born in
    let place = same_body old.task there.0.task there.2.place in
    ⊎_elim
    (λ (same : task_of event ≡ v).
    let here : slice_get mid (task_of event) ≡ Some there.0 = ap (slice_get mid) same ∙ there.1 in
    let on = own_on m event there.0 found step here in
    let further = on.place in
    let now : slice_get (changed (task_of event) f mid) v ≡ Some (f there.0) = ap (λ (x : ℕ). slice_get (changed x f mid) v) same ∙ changed_same v f mid ∙ ap (option_map f) there.1 in
    (f there.0, now, record { stage = on.stage; place = omega arith }))
    (λ (other : task_of event ≡ v → ⊥). (there.0, changed_other (task_of event) v f mid other ∙ there.1, record { stage = there.2.stage; place = omega arith }))
    (cases_eq (task_of event) v)
