-- The ready list has each ready block once, and no other.
use Rattle.std.proofs.Common.{◌≡◌, ℕ, ◌+◌, Bool, true, false, List, [], ◌∷◌, ◌++◌, length, refl, sym, ap, ◌∙◌, subst, ⊎_elim, arith, eq-eqb}
use Rattle.std.proofs.lemmas.Bool.{cases_eq}
use Rattle.std.specs.Prelude.{Option, Some, None, slice_get}
use Rattle.std.specs.Option.{option_map}
use Rattle.xs_base.specs.Task.{PrivateTask}
use Rattle.xs_base.specs.declared.words.How.{How}
use Rattle.xs_base.specs.declared.words.Signo.{Signo}
use Rattle.xs_model.specs.declared.script.Script.{Script}
use Rattle.xs_model.specs.declared.event.Event.{Event}
use Rattle.xs_model.specs.declared.event.Event.TheVariants.{Start, Local, Outer, Grow, Kill, End}
use Rattle.xs_model.specs.declared.stage.Stage.{Stage}
use Rattle.xs_model.specs.declared.stage.Stage.TheVariants.{Unborn, Ready, Turn, Stopped, Waiting, Ended}
use Rattle.xs_model.specs.Note.{task_of}
use Rattle.xs_model.specs.State.{BlockState, Machine, opening, is_ready, turn_cpu, stage_of, stage_at, turn_of, is_parent}
use Rattle.xs_model.specs.Outer.{wake, let_go, bear, born}
use Rattle.xs_model.specs.Due.{due}
use Rattle.xs_model.specs.Machine.{started, own, reach, blocks_after, IsStep, machine, IsLegalPast}
use Rattle.xs_model.specs.Ready.{one_if, occurs, without, risers, ready_list}
use Rattle.xs_model.specs.Laws.{ReadyOnce, FirstReady, NobodyReady}
use Rattle.xs_model.proofs.Touched.{Touched, Stays, Wakes, Frees, Continues, Signals, Takes, Fills, Bears, Both, alike_at, reach_touches}
use Rattle.xs_model.proofs.EventTurns.{changed_same, changed_other, filled_stage, started_stage}
use Rattle.xs_model.proofs.DueTurns.{due_turning, starting_of}
use Rattle.xs_model.proofs.ReadyCounts.{occurs_append, Onward, risers_there, without_other, without_same, ready_there}
use Rattle.xs_model.proofs.MachineShape.{many_blocks}

-- a stage that stays leads onward
still_on : (s : Stage) → Onward s s
still_on s = record { ready = λ is. is; ended = λ is. ap is_ready is }

-- who waits may wake
wake_on : (t : ℕ) (s : Stage) → Onward s (wake t s)
wake_on t Unborn = still_on Unborn
wake_on t Ready = still_on Ready
wake_on t (Turn cpu ran) = still_on (Turn cpu ran)
wake_on t Stopped = still_on Stopped
wake_on t (Waiting child) = record { ready = λ is. absurd (cc); ended = λ is. absurd (cc) }
wake_on t Ended = still_on Ended

-- who is stopped may go on
let_go_on : (may : Bool) (s : Stage) → Onward s (let_go may s)
let_go_on may Unborn = still_on Unborn
let_go_on may Ready = still_on Ready
let_go_on may (Turn cpu ran) = still_on (Turn cpu ran)
let_go_on may Stopped = record { ready = λ is. absurd (cc); ended = λ is. absurd (cc) }
let_go_on may (Waiting child) = still_on (Waiting child)
let_go_on may Ended = still_on Ended

-- an end wakes and lets go
freed_on : (may : Bool) (t : ℕ) (s : Stage) → Onward s (let_go may (wake t s))
freed_on may t Unborn = still_on Unborn
freed_on may t Ready = still_on Ready
freed_on may t (Turn cpu ran) = still_on (Turn cpu ran)
freed_on may t Stopped = record { ready = λ is. absurd (cc); ended = λ is. absurd (cc) }
freed_on may t (Waiting child) = record { ready = λ is. absurd (cc); ended = λ is. absurd (cc) }
freed_on may t Ended = still_on Ended

-- who is unborn may be born
bear_on : (t : ℕ) (parent : PrivateTask) (s : Stage) (block : BlockState) → block.stage ≡ s → Onward s (bear t parent s block).stage
bear_on t parent Unborn block is = record { ready = λ e. absurd (cc); ended = λ e. absurd (cc) }
bear_on t parent Ready block is = subst (λ (x : Stage). Onward Ready x) (sym is) (still_on Ready)
bear_on t parent (Turn cpu ran) block is = subst (λ (x : Stage). Onward (Turn cpu ran) x) (sym is) (still_on (Turn cpu ran))
bear_on t parent Stopped block is = subst (λ (x : Stage). Onward Stopped x) (sym is) (still_on Stopped)
bear_on t parent (Waiting child) block is = subst (λ (x : Stage). Onward (Waiting child) x) (sym is) (still_on (Waiting child))
bear_on t parent Ended block is = subst (λ (x : Stage). Onward Ended x) (sym is) (still_on Ended)

-- a birth of a parent that may not be there
born_on : (t : ℕ) (parent : Option BlockState) (block : BlockState) → Onward block.stage (born t parent block).stage
born_on t None block = still_on block.stage
born_on t (Some parent) block = bear_on t parent.task block.stage block refl

-- the stage of a block that is some function of the old one
onto : (old new given : BlockState) → new ≡ given → Onward old.stage given.stage → Onward old.stage new.stage
onto old new given is on = subst (λ (b : BlockState). Onward old.stage b.stage) (sym is) on

-- a block that is touched goes onward
touched_on : (blocks : List BlockState) (old new : BlockState) → Touched blocks old new → Onward old.stage new.stage
touched_on blocks old new (Stays is) = onto old new _ is (still_on old.stage)
touched_on blocks old new (Wakes t is) = onto old new _ is (wake_on t old.stage)
touched_on blocks old new (Frees t is) = onto old new _ is (freed_on (is_parent old.parent t) t old.stage)
touched_on blocks old new (Continues is) = onto old new _ is (let_go_on true old.stage)
touched_on blocks old new (Signals signo is) = onto old new _ is (still_on old.stage)
touched_on blocks old new (Takes set count t is) = onto old new _ is (still_on old.stage)
touched_on blocks old new (Fills set child is) = onto old new _ is (subst (λ (s : Stage). Onward old.stage s) (sym (filled_stage set (slice_get blocks child) old)) (still_on old.stage))
touched_on blocks old new (Bears t is) = onto old new _ is (born_on t (slice_get blocks t) old)

-- so do two blocks that may not be there
both_on : (blocks : List BlockState) (old new : Option BlockState) → Both (Touched blocks) old new → Onward (stage_of old) (stage_of new)
both_on blocks None None both = still_on Unborn
both_on blocks (Some x) None both = absurd both
both_on blocks None (Some y) both = absurd both
both_on blocks (Some x) (Some y) both = touched_on blocks x y both

-- an event leads each block onward, but for what it does to its own
on_reach : (script : Script) (event : Event) (blocks : List BlockState) (v : ℕ) → Onward (stage_at blocks v) (stage_at (reach script event blocks) v)
on_reach script event blocks v = both_on blocks (slice_get blocks v) (slice_get (reach script event blocks) v) (alike_at (Touched blocks) blocks (reach script event blocks) (reach_touches script event blocks) v)

-- from a turn each stage is onward
turn_on : (s new : Stage) (cpu : ℕ) → turn_cpu s ≡ Some cpu → Onward s new
turn_on s new cpu is = record {
  ready = λ e. absurd (let clash : None ≡ Some cpu = sym (ap turn_cpu e) ∙ is in cc);
  ended = λ e. absurd (let clash : None ≡ Some cpu = sym (ap turn_cpu e) ∙ is in cc);
}

-- a step besides a Start leads each block onward
step_on : (m : Machine) (event : Event) → due m (task_of event) ≡ Some event → (v : ℕ) → Onward (stage_at m.blocks v) (stage_at (blocks_after m.script event m.blocks) v)
step_on m event is v = ⊎_elim
    (λ (same : task_of event ≡ v). let turn = due_turning m (task_of event) event is in turn_on _ _ turn.0 (ap (turn_of m.blocks) (sym same) ∙ turn.1))
    (λ (other : task_of event ≡ v → ⊥). subst (λ (b : Option BlockState). Onward (stage_at m.blocks v) (stage_of b)) (sym (changed_other (task_of event) v (own m.script event) (reach m.script event m.blocks) other)) (on_reach m.script event m.blocks v))
    (cases_eq (task_of event) v)

-- ---- the list after an event

-- the list has each ready block once, and no other
abbrev Exact : Script → List Event → List ℕ → Type 0
Exact script past list = (t : ℕ) → occurs t list ≡ one_if (is_ready (stage_at (machine script past).blocks t))

-- an event besides a Start appends those whom it makes ready
more_exact : (script : Script) (past : List Event) (event : Event) → due (machine script past) (task_of event) ≡ Some event → Exact script past (ready_list script past) → Exact script (event ∷ past) (ready_list script past ++ risers (machine script past).blocks (machine script (event ∷ past)).blocks)
more_exact script past event is exact t =
    let m = machine script past in
    let now = blocks_after m.script event m.blocks in
    let many : length m.blocks ≡ length now = many_blocks script past ∙ sym (many_blocks script (event ∷ past)) in
    let rise = risers_there t m.blocks now many (step_on m event is t) in
    let split = occurs_append t (ready_list script past) (risers m.blocks now) in
    let before = exact t in
    omega arith

-- a Start takes its block out
start_exact : (script : Script) (past : List Event) (t cpu : ℕ) (how : How) (signal : Option Signo) → IsStep (machine script past) (Start t cpu how signal) → Exact script past (ready_list script past) → Exact script (Start t cpu how signal ∷ past) (without t (ready_list script past))
start_exact script past t cpu how signal step exact u =
    let m = machine script past in
    let s = starting_of m t cpu (slice_get m.blocks t) (Start t cpu how signal) step.is_due in
    let now = blocks_after m.script (Start t cpu how signal) m.blocks in
    ⊎_elim
    (λ (same : t ≡ u).
    let stage : stage_at now t ≡ Turn cpu 0 = ap stage_of (changed_same t (started cpu signal) m.blocks ∙ ap (option_map (started cpu signal)) s.here) ∙ started_stage cpu signal s.state in
    let ready : one_if (is_ready (stage_at m.blocks t)) ≡ 1 = ap (λ (b : Option BlockState). one_if (is_ready (stage_of b))) s.here ∙ ap one_if s.ready in
    let gone = without_same t (ready_list script past) (exact t ∙ ready) in
    let off : one_if (is_ready (stage_at now t)) ≡ 0 = ap (λ (x : Stage). one_if (is_ready x)) stage in
    subst (λ (x : ℕ). occurs x (without t (ready_list script past)) ≡ one_if (is_ready (stage_at now x))) same (gone ∙ sym off))
    (λ (other : t ≡ u → ⊥).
    let stays : stage_at now u ≡ stage_at m.blocks u = ap stage_of (changed_other t u (started cpu signal) m.blocks other) in
    without_other t u (ready_list script past) other ∙ exact u ∙ sym (ap (λ (x : Stage). one_if (is_ready x)) stays))
    (cases_eq t u)

-- each ready block stands in the list once, and no other does
pub ready_exact : (script : Script) (past : List Event) → IsLegalPast script past → Exact script past (ready_list script past)
ready_exact script [] legal t = ready_there 0 t t (opening script).blocks (omega arith)
ready_exact script (Start t cpu how signal ∷ past) legal u = start_exact script past t cpu how signal legal.1 (ready_exact script past legal.0) u
ready_exact script (Local t line reply ∷ past) legal u = more_exact script past (Local t line reply) legal.1.is_due (ready_exact script past legal.0) u
ready_exact script (Outer t line reply ∷ past) legal u = more_exact script past (Outer t line reply) legal.1.is_due (ready_exact script past legal.0) u
ready_exact script (Grow t ∷ past) legal u = more_exact script past (Grow t) legal.1.is_due (ready_exact script past legal.0) u
ready_exact script (Kill t signo why ∷ past) legal u = more_exact script past (Kill t signo why) legal.1.is_due (ready_exact script past legal.0) u
ready_exact script (End t ∷ past) legal u = more_exact script past (End t) legal.1.is_due (ready_exact script past legal.0) u

-- ---- what follows of the list

-- the ready list has each ready block once
pub ready_once : ReadyOnce
ready_once script past t legal = ready_exact script past legal t

-- a stage that counts is ready
is_stage_ready : (n : ℕ) (s : Stage) → one_if true + n ≡ one_if (is_ready s) → s ≡ Ready
is_stage_ready n Unborn once = absurd (omega arith)
is_stage_ready n Ready once = refl
is_stage_ready n (Turn cpu ran) once = absurd (omega arith)
is_stage_ready n Stopped once = absurd (omega arith)
is_stage_ready n (Waiting child) once = absurd (omega arith)
is_stage_ready n Ended once = absurd (omega arith)

-- the first of the list is ready
pub first_ready : FirstReady
first_ready script past t list legal is =
    is_stage_ready (occurs t list) (stage_at (machine script past).blocks t)
    (ap (λ (b : Bool). one_if b + occurs t list) (sym (eq-eqb t t refl)) ∙ ap (occurs t) (sym is) ∙ ready_exact script past legal t)

-- a stage that counts nothing isn't ready
no_stage_ready : (s : Stage) → 0 ≡ one_if (is_ready s) → is_ready s ≡ false
no_stage_ready Unborn none_is = refl
no_stage_ready Ready none_is = absurd (omega arith)
no_stage_ready (Turn cpu ran) none_is = refl
no_stage_ready Stopped none_is = refl
no_stage_ready (Waiting child) none_is = refl
no_stage_ready Ended none_is = refl

-- where the list is empty nobody is ready
pub nobody_ready : NobodyReady
nobody_ready script past t legal is = no_stage_ready (stage_at (machine script past).blocks t) (ap (occurs t) (sym is) ∙ ready_exact script past legal t)
