-- What an event does to the turns of the blocks.
use Rattle.std.proofs.Common.{◌≡◌, ℕ, zero, suc, ◌==◌, Bool, true, false, List, [], ◌∷◌, refl, ap, ◌∙◌}
use Rattle.std.proofs.lemmas.Bool.{eqb-false}
use Rattle.std.specs.Prelude.{Option, Some, None, if◌then◌else◌, slice_get}
use Rattle.std.specs.Option.{option_map}
use Rattle.xs_base.specs.Task.{PrivateTask}
use Rattle.xs_base.specs.declared.words.Set.{Set}
use Rattle.xs_base.specs.declared.words.Signo.{Signo}
use Rattle.xs_model.specs.declared.script.Command.{Command}
use Rattle.xs_model.specs.declared.script.Command.TheVariants as commands
use Rattle.xs_model.specs.declared.script.Script.{Script}
use Rattle.xs_model.specs.declared.event.Reply.{Reply}
use Rattle.xs_model.specs.declared.event.Why.{Why}
use Rattle.xs_model.specs.declared.event.Event.{Event}
use Rattle.xs_model.specs.declared.event.Event.TheVariants.{Outer, Grow, Kill, End}
use Rattle.xs_model.specs.declared.stage.Stage.{Stage}
use Rattle.xs_model.specs.declared.stage.Stage.TheVariants.{Unborn, Ready, Turn, Stopped, Waiting, Ended}
use Rattle.xs_model.specs.Script.{block_named}
use Rattle.xs_model.specs.Note.{task_of}
use Rattle.xs_model.specs.State.{BlockState, stage_of, turn_cpu, turn_of, is_parent, changed}
use Rattle.xs_model.specs.Outer.{is_held, is_blocked, wake, let_go, bear, born, buffer_filled, stage_left, outer_own}
use Rattle.xs_model.specs.Machine.{started, goes_on, ran_in, ran_line, own, reach, blocks_after}
use Rattle.xs_model.proofs.Touched.{Touched, Stays, Wakes, Frees, Continues, Signals, Takes, Fills, Bears, Both, alike_at, reach_touches}

-- ---- an element changed

-- the element itself
pub changed_same : {A : Type 0} (t : ℕ) (f : A → A) (xs : List A) → slice_get (changed t f xs) t ≡ option_map f (slice_get xs t)
changed_same t f [] = refl
changed_same zero f (x ∷ xs) = refl
changed_same (suc t) f (x ∷ xs) = changed_same t f xs

-- another element
pub changed_other : {A : Type 0} (t v : ℕ) (f : A → A) (xs : List A) → (t ≡ v → ⊥) → slice_get (changed t f xs) v ≡ slice_get xs v
changed_other t v f [] other = refl
changed_other zero zero f (x ∷ xs) other = absurd (other refl)
changed_other zero (suc v) f (x ∷ xs) other = refl
changed_other (suc t) zero f (x ∷ xs) other = refl
changed_other (suc t) (suc v) f (x ∷ xs) other = changed_other t v f xs (λ (same : t ≡ v). other (ap suc same))

-- ---- what spares the turns

-- who waits is in no turn, woken or not
if_waiting : (b : Bool) (child : ℕ) → turn_cpu (if b then Ready else Waiting child) ≡ None
if_waiting true child = refl
if_waiting false child = refl

-- who is stopped is in no turn, let go or not
if_stopped : (b : Bool) → turn_cpu (if b then Ready else Stopped) ≡ None
if_stopped true = refl
if_stopped false = refl

-- a wake spares the turns
pub wake_spares : (t : ℕ) (stage : Stage) → turn_cpu (wake t stage) ≡ turn_cpu stage
wake_spares t Unborn = refl
wake_spares t Ready = refl
wake_spares t (Turn cpu ran) = refl
wake_spares t Stopped = refl
wake_spares t (Waiting child) = if_waiting (child == t) child
wake_spares t Ended = refl

-- so does what lets a stopped block go on
pub let_go_spares : (may : Bool) (stage : Stage) → turn_cpu (let_go may stage) ≡ turn_cpu stage
let_go_spares may Unborn = refl
let_go_spares may Ready = refl
let_go_spares may (Turn cpu ran) = refl
let_go_spares may Stopped = if_stopped may
let_go_spares may (Waiting child) = refl
let_go_spares may Ended = refl

-- a birth spares them, by the stage
bear_spares : (t : ℕ) (parent : PrivateTask) (stage : Stage) (block : BlockState) → block.stage ≡ stage → turn_cpu (bear t parent stage block).stage ≡ turn_cpu stage
bear_spares t parent Unborn block is = refl
bear_spares t parent Ready block is = ap turn_cpu is
bear_spares t parent (Turn cpu ran) block is = ap turn_cpu is
bear_spares t parent Stopped block is = ap turn_cpu is
bear_spares t parent (Waiting child) block is = ap turn_cpu is
bear_spares t parent Ended block is = ap turn_cpu is

-- so does a birth of a parent that may not be there
pub born_spares : (t : ℕ) (parent : Option BlockState) → (block : BlockState) → turn_cpu (born t parent block).stage ≡ turn_cpu block.stage
born_spares t None block = refl
born_spares t (Some parent) block = bear_spares t parent.task block.stage block refl

-- a block keeps its stage while its buffer is filled
pub filled_stage : (set : Set) (child : Option BlockState) (block : BlockState) → (buffer_filled set child block).stage ≡ block.stage
filled_stage set None block = refl
filled_stage set (Some child) block = refl

-- a block that is touched keeps its turn
touched_turn : (blocks : List BlockState) (old new : BlockState) → Touched blocks old new → turn_cpu new.stage ≡ turn_cpu old.stage
touched_turn blocks old new (Stays is) = ap (λ (b : BlockState). turn_cpu b.stage) is
touched_turn blocks old new (Wakes t is) = ap (λ (b : BlockState). turn_cpu b.stage) is ∙ wake_spares t old.stage
touched_turn blocks old new (Frees t is) = ap (λ (b : BlockState). turn_cpu b.stage) is ∙ let_go_spares (is_parent old.parent t) (wake t old.stage) ∙ wake_spares t old.stage
touched_turn blocks old new (Continues is) = ap (λ (b : BlockState). turn_cpu b.stage) is ∙ let_go_spares true old.stage
touched_turn blocks old new (Signals signo is) = ap (λ (b : BlockState). turn_cpu b.stage) is
touched_turn blocks old new (Takes set count t is) = ap (λ (b : BlockState). turn_cpu b.stage) is
touched_turn blocks old new (Fills set child is) = ap (λ (b : BlockState). turn_cpu b.stage) is ∙ ap turn_cpu (filled_stage set (slice_get blocks child) old)
touched_turn blocks old new (Bears t is) = ap (λ (b : BlockState). turn_cpu b.stage) is ∙ born_spares t (slice_get blocks t) old

-- so do two blocks that may not be there
both_turn : (blocks : List BlockState) (old new : Option BlockState) → Both (Touched blocks) old new → turn_cpu (stage_of new) ≡ turn_cpu (stage_of old)
both_turn blocks None None both = refl
both_turn blocks (Some x) None both = absurd both
both_turn blocks None (Some y) both = absurd both
both_turn blocks (Some x) (Some y) both = touched_turn blocks x y both

-- an event leaves the turns, but for what it does to its own block
reach_spares : (script : Script) (event : Event) (blocks : List BlockState) (v : ℕ) → turn_of (reach script event blocks) v ≡ turn_of blocks v
reach_spares script event blocks v = both_turn blocks (slice_get blocks v) (slice_get (reach script event blocks) v) (alike_at (Touched blocks) blocks (reach script event blocks) (reach_touches script event blocks) v)

-- an event leaves the turns of other blocks
pub turn_of_other : (script : Script) (event : Event) (blocks : List BlockState) (v : ℕ) → (task_of event == v) ≡ false → turn_of (blocks_after script event blocks) v ≡ turn_of blocks v
turn_of_other script event blocks v other =
    ap (λ (block : Option BlockState). turn_cpu (stage_of block)) (changed_other (task_of event) v (own script event) (reach script event blocks) (eqb-false (task_of event) v other))
    ∙ reach_spares script event blocks v

-- the turn of the block itself
pub turn_of_own : (script : Script) (event : Event) (blocks : List BlockState) → turn_of (blocks_after script event blocks) (task_of event) ≡ turn_cpu (stage_of (option_map (own script event) (slice_get (reach script event blocks) (task_of event))))
turn_of_own script event blocks = ap (λ (block : Option BlockState). turn_cpu (stage_of block)) (changed_same (task_of event) (own script event) (reach script event blocks))

-- ---- the block's own turn after its event

-- an outer command leaves its block in no turn
stage_left_none : (script : Script) (command : Command) (reply : Reply) → turn_cpu (stage_left script command reply) ≡ None
stage_left_none script commands.Stop reply = cases (is_held reply)
  where
    cases : (b : Bool) → turn_cpu (if b then Stopped else Ready) ≡ None
    cases true = refl
    cases false = refl
stage_left_none script (commands.Wait name) reply = cases (is_blocked reply)
  where
    cases : (b : Bool) → turn_cpu (if b then Waiting (block_named script name) else Ready) ≡ None
    cases true = refl
    cases false = refl
stage_left_none script other reply = refl

-- so does an outer event
outer_own_none : (script : Script) (command : Option Command) (reply : Reply) (block : Option BlockState) → turn_cpu (stage_of (option_map (outer_own script command reply) block)) ≡ None
outer_own_none script command reply None = refl
outer_own_none script None reply (Some block) = refl
outer_own_none script (Some command) reply (Some block) = stage_left_none script command reply

-- an outer event ends its turn
pub turn_over_outer : (script : Script) (t line : ℕ) (reply : Reply) (blocks : List BlockState) → turn_of (blocks_after script (Outer t line reply) blocks) t ≡ None
turn_over_outer script t line reply blocks = turn_of_own script (Outer t line reply) blocks ∙ outer_own_none script _ reply _

-- what leaves no block in a turn
constant_none : (f : BlockState → BlockState) → ((block : BlockState) → turn_cpu (f block).stage ≡ None) → (block : Option BlockState) → turn_cpu (stage_of (option_map f block)) ≡ None
constant_none f ends None = refl
constant_none f ends (Some block) = ends block

-- Grow ends its turn
pub turn_over_grow : (script : Script) (t : ℕ) (blocks : List BlockState) → turn_of (blocks_after script (Grow t) blocks) t ≡ None
turn_over_grow script t blocks = turn_of_own script (Grow t) blocks ∙ constant_none (own script (Grow t)) (λ block. refl) _

-- Kill ends its turn
pub turn_over_kill : (script : Script) (t : ℕ) (signo : Signo) (why : Why) (blocks : List BlockState) → turn_of (blocks_after script (Kill t signo why) blocks) t ≡ None
turn_over_kill script t signo why blocks = turn_of_own script (Kill t signo why) blocks ∙ constant_none (own script (Kill t signo why)) (λ block. refl) _

-- End ends its turn
pub turn_over_end : (script : Script) (t : ℕ) (blocks : List BlockState) → turn_of (blocks_after script (End t) blocks) t ≡ None
turn_over_end script t blocks = turn_of_own script (End t) blocks ∙ constant_none (own script (End t)) (λ block. refl) _

-- a Start begins the turn, where there is such a block
pub started_turn : (cpu : ℕ) (signal : Option Signo) (block : BlockState) → turn_cpu (started cpu signal block).stage ≡ Some cpu
started_turn cpu None block = refl
started_turn cpu (Some signo) block = refl

-- with no Local event yet
pub started_stage : (cpu : ℕ) (signal : Option Signo) (block : BlockState) → (started cpu signal block).stage ≡ Turn cpu 0
started_stage cpu None block = refl
started_stage cpu (Some signo) block = refl

-- a test leaves the turn on its processor, or ends it
either : (b : Bool) (x y : BlockState) (c d : ℕ) → turn_cpu x.stage ≡ Some c → turn_cpu y.stage ≡ None → turn_cpu (if b then x else y).stage ≡ Some d → d ≡ c
either true x y c d on off later = cc
either false x y c d on off later = absurd (cc)

-- a local line leaves the turn on its processor, or ends it
goes_on_there : (script : Script) (command : Command) (stage : Stage) (block : BlockState) (cpu d : ℕ) → block.stage ≡ stage → turn_cpu stage ≡ Some cpu → turn_cpu (ran_in script command stage block).stage ≡ Some d → d ≡ cpu
goes_on_there script command (Turn c ran) block cpu d is now later = either (goes_on script command ran) _ _ cpu d now refl later
goes_on_there script command Unborn block cpu d is now later = absurd (cc)
goes_on_there script command Ready block cpu d is now later = absurd (cc)
goes_on_there script command Stopped block cpu d is now later = absurd (cc)
goes_on_there script command (Waiting child) block cpu d is now later = absurd (cc)
goes_on_there script command Ended block cpu d is now later = absurd (cc)

-- so does the line that a block has at a number, where it has one
pub ran_there : (script : Script) (command : Option Command) (block : BlockState) (cpu d : ℕ) → turn_cpu block.stage ≡ Some cpu → turn_cpu (ran_line script command block).stage ≡ Some d → d ≡ cpu
ran_there script None block cpu d now later = cc
ran_there script (Some command) block cpu d now later = goes_on_there script command block.stage block cpu d refl now later
