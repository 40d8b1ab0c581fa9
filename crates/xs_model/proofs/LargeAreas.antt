-- The living blocks with room for TILEDATA: how many they are after each event, and that the Large areas suffice for them.
use Rattle.std.proofs.Common.{◌≡◌, ℕ, zero, suc, ◌+◌, ◌<◌, ◌≤◌, true, false, List, [], ◌∷◌, map, refl, ap, ◌∙◌, subst, arith}
use Rattle.std.proofs.lemmas.Bool.{ltb-true}
use Rattle.std.specs.Prelude.{Option, Some, None, slice_get}
use Rattle.xs_base.specs.declared.component.Row.{Row}
use Rattle.xs_base.specs.Task.{root_task}
use Rattle.xs_model.specs.declared.script.Block.{Block}
use Rattle.xs_model.specs.declared.script.Script.{Script}
use Rattle.xs_model.specs.declared.event.Event.{Event}
use Rattle.xs_model.specs.declared.event.Event.TheVariants.{Start, Local, Outer, Grow, Kill, End}
use Rattle.xs_model.specs.declared.stage.Stage.{Stage}
use Rattle.xs_model.specs.declared.stage.Stage.TheVariants.{Ready, Ended}
use Rattle.xs_model.specs.Script.{command_at}
use Rattle.xs_model.specs.Line.{line_at}
use Rattle.xs_model.specs.Note.{task_of}
use Rattle.xs_model.specs.State.{BlockState, Machine, opening_block, is_ready, lives, changed}
use Rattle.xs_model.specs.Due.{large_count, due}
use Rattle.xs_model.specs.Machine.{grew, own, reach, blocks_after, IsStep, machine}
use Rattle.xs_model.specs.Ready.{one_if}
use Rattle.xs_model.specs.Laws.{is_of_areas, LargeStays, LargeGrows, LargeEnds, LargeKilled, FewLarge}
use Rattle.xs_model.proofs.LegalTurns.{machine_script}
use Rattle.xs_model.proofs.DuePlaces.{due_inverse}
use Rattle.xs_model.proofs.DueOrders.{grow_small, grow_free}
use Rattle.xs_model.proofs.DueTurns.{starting_of}
use Rattle.xs_model.proofs.Touched.{Touched, Alike, Both, alike_at, reach_touches}
use Rattle.xs_model.proofs.LargeTasks.{counts, Keeps, touched_keeps, OwnKeeps, started_keeps, line_keeps, outer_keeps, alive_counts, ended_counts}

-- ---- sums over the blocks

-- what touches the blocks leaves their number
touched_count : (blocks old new : List BlockState) → Alike (Touched blocks) old new → large_count new ≡ large_count old
touched_count blocks [] [] alike = refl
touched_count blocks (x ∷ old) [] alike = absurd alike
touched_count blocks [] (y ∷ new) alike = absurd alike
touched_count blocks (x ∷ old) (y ∷ new) alike = let here = (touched_keeps blocks x y alike.0).counts_same in let tail = touched_count blocks old new alike.1 in omega arith

-- one block changed
changed_count : (t : ℕ) (f : BlockState → BlockState) (blocks : List BlockState) (block : BlockState) → slice_get blocks t ≡ Some block → large_count (changed t f blocks) + counts block ≡ large_count blocks + counts (f block)
changed_count t f [] block at = absurd (cc)
changed_count zero f (b ∷ blocks) block at =
    let too : b ≡ block = cc in
    let one : counts b ≡ counts block = ap counts too in
    let two : counts (f b) ≡ counts (f block) = ap (λ (x : BlockState). counts (f x)) too in
    omega arith
changed_count (suc t) f (b ∷ blocks) block at = let tail = changed_count t f blocks block at in omega arith

-- The block as the event finds it, when what it does to the others is done.
record Found (blocks mid : List BlockState) (t : ℕ) (old : BlockState) : Type 0 where
  block : BlockState
  here : slice_get mid t ≡ Some block
  keeps : Keeps old block

-- two blocks that may not be there
found_of : (blocks mid : List BlockState) (t : ℕ) (old : BlockState) (before after : Option BlockState) → before ≡ Some old → slice_get mid t ≡ after → Both (Touched blocks) before after → Found blocks mid t old
found_of blocks mid t old None after was now both = absurd (cc)
found_of blocks mid t old (Some x) None was now both = absurd both
found_of blocks mid t old (Some x) (Some y) was now both = record { block = y; here = now; keeps = subst (λ (b : BlockState). Keeps b y) (cc) (touched_keeps blocks x y both) }

-- the block of an event
found : (script : Script) (event : Event) (blocks : List BlockState) (old : BlockState) → slice_get blocks (task_of event) ≡ Some old → Found blocks (reach script event blocks) (task_of event) old
found script event blocks old at =
    let mid = reach script event blocks in
    let t = task_of event in
    found_of blocks mid t old (slice_get blocks t) (slice_get mid t) at refl (alike_at (Touched blocks) blocks mid (reach_touches script event blocks) t)

-- what an event leaves that keeps its own block
kept_count : (script : Script) (event : Event) (blocks : List BlockState) (old : BlockState) → slice_get blocks (task_of event) ≡ Some old → lives old.stage ≡ true → OwnKeeps (own script event)
    → large_count (blocks_after script event blocks) ≡ large_count blocks
kept_count script event blocks old at life keeps =
    let mid = reach script event blocks in
    let f = own script event in
    let there = found script event blocks old at in
    let alive = there.keeps.alive life in
    let after = keeps there.block alive in
    let same = touched_count blocks blocks mid (reach_touches script event blocks) in
    let sum = changed_count (task_of event) f mid there.block there.here in
    let one = alive_counts there.block alive in
    let two = alive_counts (f there.block) after.0 ∙ ap one_if after.1 in
    omega arith

-- what one leaves that ends it
ended_count : (script : Script) (event : Event) (blocks : List BlockState) (old : BlockState) → slice_get blocks (task_of event) ≡ Some old → lives old.stage ≡ true → ((block : BlockState) → (own script event block).stage ≡ Ended)
    → large_count (blocks_after script event blocks) + one_if old.task.large ≡ large_count blocks
ended_count script event blocks old at life ends =
    let mid = reach script event blocks in
    let f = own script event in
    let there = found script event blocks old at in
    let same = touched_count blocks blocks mid (reach_touches script event blocks) in
    let sum = changed_count (task_of event) f mid there.block there.here in
    let one = alive_counts there.block (there.keeps.alive life) ∙ ap one_if (there.keeps.room life) in
    let two = ended_counts (f there.block) (ends there.block) in
    omega arith

-- ---- after a step

-- who is ready lives
ready_lives : (s : Stage) → is_ready s ≡ true → lives s ≡ true
ready_lives Ready is = refl
ready_lives other is = absurd (cc)

-- a line of a block that is due
line_count : (m : Machine) (t : ℕ) (event : Event) → task_of event ≡ t → due m t ≡ Some event → OwnKeeps (own m.script event) → large_count (blocks_after m.script event m.blocks) ≡ large_count m.blocks
line_count m t event of is keeps =
    let d = due_inverse m t event is in
    kept_count m.script event m.blocks d.state (ap (slice_get m.blocks) of ∙ d.at) (ap lives d.stage) keeps

-- a Start or a line
step_stays : (m : Machine) (event : Event) → IsStep m event → is_of_areas event ≡ false → large_count (blocks_after m.script event m.blocks) ≡ large_count m.blocks
step_stays m (Start t cpu how signal) step plain =
    let s = starting_of m t cpu (slice_get m.blocks t) (Start t cpu how signal) step.is_due in
    kept_count m.script (Start t cpu how signal) m.blocks s.state s.here (ready_lives s.state.stage s.ready) (started_keeps cpu signal)
step_stays m (Local t line reply) step plain = line_count m t (Local t line reply) refl step.is_due (line_keeps m.script (command_at m.script t line))
step_stays m (Outer t line reply) step plain = line_count m t (Outer t line reply) refl step.is_due (outer_keeps m.script (command_at m.script t line) reply)
step_stays m (Grow t) step plain = absurd (cc)
step_stays m (Kill t signo why) step plain = absurd (cc)
step_stays m (End t) step plain = absurd (cc)

-- a Grow
step_grows : (m : Machine) (t : ℕ) → due m t ≡ Some (Grow t) → large_count (blocks_after m.script (Grow t) m.blocks) ≡ large_count m.blocks + 1
step_grows m t is =
    let d = due_inverse m t (Grow t) is in
    let small : d.state.task.large ≡ false = grow_small m t d.ran t d.state.task (line_at d.lines d.state.task) d.is in
    let sum = changed_count t (own m.script (Grow t)) m.blocks d.state d.at in
    let before = alive_counts d.state (ap lives d.stage) ∙ ap one_if small in
    let after : counts (grew d.state) ≡ 1 = refl in
    omega arith

-- an event that ends a given block
step_ends : (m : Machine) (t : ℕ) (event : Event) (block : BlockState) → task_of event ≡ t → due m t ≡ Some event → slice_get m.blocks t ≡ Some block → ((b : BlockState) → (own m.script event b).stage ≡ Ended)
    → large_count (blocks_after m.script event m.blocks) + one_if block.task.large ≡ large_count m.blocks
step_ends m t event block of is here ends =
    let d = due_inverse m t event is in
    let same : d.state ≡ block = cc (d.at, here) in
    let life : lives block.stage ≡ true = subst (λ (b : BlockState). lives b.stage ≡ true) same (ap lives d.stage) in
    ended_count m.script event m.blocks block (ap (slice_get m.blocks) of ∙ here) life ends

-- ---- the laws

-- no other event changes their number
pub large_stays : LargeStays
large_stays script past event legal plain = step_stays (machine script past) event legal.1 plain

-- a Grow makes one more
pub large_grows : LargeGrows
large_grows script past t legal = step_grows (machine script past) t legal.1.is_due

-- an end makes one fewer
pub large_ends : LargeEnds
large_ends script past t block legal here = step_ends (machine script past) t (End t) block refl legal.1.is_due here (λ b. refl)

-- so does a kill
pub large_killed : LargeKilled
large_killed script past t signo why block legal here = step_ends (machine script past) t (Kill t signo why) block refl legal.1.is_due here (λ b. refl)

-- an end leaves as many at most
ends_fewer : (m : Machine) (t : ℕ) (event : Event) → task_of event ≡ t → due m t ≡ Some event → ((b : BlockState) → (own m.script event b).stage ≡ Ended) → large_count (blocks_after m.script event m.blocks) ≤ large_count m.blocks
ends_fewer m t event of is ends =
    let d = due_inverse m t event is in
    let sum = step_ends m t event d.state of is d.at ends in
    omega arith

-- where a Grow is due an area is free
free_area : (m : Machine) (t : ℕ) → due m t ≡ Some (Grow t) → large_count m.blocks < m.script.large
free_area m t is =
    let d = due_inverse m t (Grow t) is in
    ltb-true (large_count m.blocks) m.script.large (grow_free m t d.ran t d.state.task (line_at d.lines d.state.task) d.is)

-- a step leaves them within the areas
step_few : (m : Machine) (event : Event) → IsStep m event → large_count m.blocks ≤ m.script.large → large_count (blocks_after m.script event m.blocks) ≤ m.script.large
step_few m (Grow t) step few = let more = step_grows m t step.is_due in let free = free_area m t step.is_due in omega arith
step_few m (Kill t signo why) step few = let less = ends_fewer m t (Kill t signo why) refl step.is_due (λ b. refl) in omega arith
step_few m (End t) step few = let less = ends_fewer m t (End t) refl step.is_due (λ b. refl) in omega arith
step_few m (Start t cpu how signal) step few = let same = step_stays m (Start t cpu how signal) step refl in omega arith
step_few m (Local t line reply) step few = let same = step_stays m (Local t line reply) step refl in omega arith
step_few m (Outer t line reply) step few = let same = step_stays m (Outer t line reply) step refl in omega arith

-- at the opening there is none
opening_few : (rows : List Row) (blocks : List Block) → large_count (map (opening_block rows) blocks) ≡ 0
unfolding root_task
opening_few rows [] = refl
opening_few rows (block ∷ blocks) = let rest = opening_few rows blocks in omega arith

-- they are never more than the areas
pub few_large : FewLarge
few_large script [] legal = let none = opening_few script.layout script.blocks in omega arith
few_large script (event ∷ past) legal =
    let m = machine script past in
    let same : m.script.large ≡ script.large = ap (λ (s : Script). s.large) (machine_script script past) in
    let before = few_large script past legal.0 in
    let after = step_few m event legal.1 (omega arith) in
    omega arith
