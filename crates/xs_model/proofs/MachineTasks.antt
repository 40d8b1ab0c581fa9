-- In a legal past of a valid script each block has a valid private task.
use Rattle.std.proofs.Common.{◌≡◌, ℕ, zero, suc, Bool, true, false, List, [], ◌∷◌, map, take, refl, sym, ap, ◌∙◌, subst, arith, lit<}
use Rattle.std.specs.Prelude.{Option, Some, None, slice_get, if◌then◌else◌}
use Rattle.std.specs.List.{AllByRecursion}
use Rattle.xs_base.specs.declared.component.Row.{Row}
use Rattle.xs_base.specs.declared.words.Set.{Set}
use Rattle.xs_base.specs.declared.words.Signo.{Signo}
use Rattle.xs_base.specs.Layout.{IsLayout}
use Rattle.xs_base.specs.RegisterSet.{set_reply}
use Rattle.xs_base.specs.Task.{PrivateTask, IsPrivateTask}
use Rattle.xs_base.proofs.ByteRangeLemmas.{AreBytes, take_are}
use Rattle.xs_base.proofs.TaskLemmas.{root_is_private}
use Rattle.xs_base.proofs.ValidLemmas.{parked_is_private, grown_is_private, child_is_private, delivered_is_private, buffer_poked_is_private}
use Rattle.xs_base.proofs.ReplyLemmas.{reply_length, size_fits, reply_are}
use Rattle.xs_model.specs.declared.script.Command.{Command}
use Rattle.xs_model.specs.declared.script.Block.{Block}
use Rattle.xs_model.specs.declared.script.Script.{Script}
use Rattle.xs_model.specs.declared.event.Reply.{Reply}
use Rattle.xs_model.specs.declared.event.Event.{Event}
use Rattle.xs_model.specs.declared.event.Event.TheVariants.{Start, Local, Outer, Grow, Kill, End}
use Rattle.xs_model.specs.declared.stage.Stage.{Stage}
use Rattle.xs_model.specs.declared.stage.Stage.TheVariants.{Unborn, Ready, Turn, Stopped, Waiting, Ended}
use Rattle.xs_model.specs.Script.{IsValid, command_at}
use Rattle.xs_model.specs.Line.{local_after}
use Rattle.xs_model.specs.State.{BlockState, Machine, opening_block, changed}
use Rattle.xs_model.specs.Outer.{bear, born, buffer_of, buffer_filled, outer_own}
use Rattle.xs_model.specs.Machine.{started, goes_on, ran_in, ran_line, own, reach, blocks_after, IsStep, machine, IsLegalPast}
use Rattle.xs_model.specs.Laws.{TasksValid}
use Rattle.xs_model.proofs.LineNumbers.{lines_found}
use Rattle.xs_model.proofs.Touched.{Touched, Stays, Wakes, Frees, Continues, Signals, Takes, Fills, Bears, Alike, reach_touches}
use Rattle.xs_model.proofs.LegalTurns.{machine_script}
use Rattle.xs_model.proofs.MachineShape.{many_blocks}
use Rattle.xs_model.proofs.EachBlock.{all_at, all_changed}
use Rattle.xs_model.proofs.LocalLines.{due_local, order_valid}
use Rattle.xs_model.proofs.TaskSets.{set_valid}
use Rattle.xs_model.proofs.TaskLines.{local_valid, left_valid, killed_valid}

-- the block's private task is valid
abbrev HasValid : List Row → BlockState → Type 0
HasValid rows block = IsPrivateTask rows block.task

-- ---- other blocks

-- a birth, by the stage
bear_valid : (rows : List Row) (t : ℕ) (parent : PrivateTask) (s : Stage) (block : BlockState) → IsPrivateTask rows parent → HasValid rows block → HasValid rows (bear t parent s block)
bear_valid rows t parent Unborn block mine h = child_is_private rows parent mine
bear_valid rows t parent Ready block mine h = h
bear_valid rows t parent (Turn cpu ran) block mine h = h
bear_valid rows t parent Stopped block mine h = h
bear_valid rows t parent (Waiting child) block mine h = h
bear_valid rows t parent Ended block mine h = h

-- a birth of a parent that may not be there
born_valid : (rows : List Row) (blocks : List BlockState) (t : ℕ) (parent : Option BlockState) (block : BlockState) → slice_get blocks t ≡ parent → AllByRecursion (HasValid rows) blocks → HasValid rows block → HasValid rows (born t parent block)
born_valid rows blocks t None block at all h = h
born_valid rows blocks t (Some parent) block at all h = bear_valid rows t parent.task block.stage block (all_at (HasValid rows) blocks t parent all at) h

-- the bytes of a block's buffer
buffer_are : (rows : List Row) (blocks : List BlockState) (t : ℕ) (block : Option BlockState) → slice_get blocks t ≡ block → AllByRecursion (HasValid rows) blocks → AreBytes (buffer_of block)
buffer_are rows blocks t None at all k = lit< tt
buffer_are rows blocks t (Some block) at all k = (all_at (HasValid rows) blocks t block all at).buffer_bytes k

-- a buffer that another block's registers fill
filled_valid : (rows : List Row) (blocks : List BlockState) (set : Set) (child : ℕ) (other : Option BlockState) (block : BlockState) → slice_get blocks child ≡ other → AllByRecursion (HasValid rows) blocks → HasValid rows block → HasValid rows (buffer_filled set other block)
filled_valid rows blocks set child None block at all h = h
filled_valid rows blocks set child (Some other) block at all h =
    let mine = all_at (HasValid rows) blocks child other all at in
    let long = reply_length other.task set in
    let fits = size_fits other.task set mine.file.is_file.layout in
    buffer_poked_is_private rows block.task 0 (set_reply other.task set) (omega arith) (reply_are rows other.task mine set) h

-- a block that is touched has a valid task
touched_valid : (rows : List Row) (blocks : List BlockState) (old new : BlockState) → AllByRecursion (HasValid rows) blocks → Touched blocks old new → HasValid rows old → HasValid rows new
touched_valid rows blocks old new all (Stays is) h = subst (HasValid rows) (sym is) h
touched_valid rows blocks old new all (Wakes t is) h = subst (HasValid rows) (sym is) h
touched_valid rows blocks old new all (Frees t is) h = subst (HasValid rows) (sym is) h
touched_valid rows blocks old new all (Continues is) h = subst (HasValid rows) (sym is) h
touched_valid rows blocks old new all (Signals signo is) h = subst (HasValid rows) (sym is) h
touched_valid rows blocks old new all (Takes set count t is) h =
    subst (HasValid rows) (sym is) (set_valid rows old.task set (take count (buffer_of (slice_get blocks t))) h (take_are count (buffer_of (slice_get blocks t)) (buffer_are rows blocks t (slice_get blocks t) refl all)))
touched_valid rows blocks old new all (Fills set child is) h = subst (HasValid rows) (sym is) (filled_valid rows blocks set child (slice_get blocks child) old refl all h)
touched_valid rows blocks old new all (Bears t is) h = subst (HasValid rows) (sym is) (born_valid rows blocks t (slice_get blocks t) old refl all h)

-- so has each of them
alike_valid : (rows : List Row) (blocks xs ys : List BlockState) → AllByRecursion (HasValid rows) blocks → Alike (Touched blocks) xs ys → AllByRecursion (HasValid rows) xs → AllByRecursion (HasValid rows) ys
alike_valid rows blocks [] [] all alike h = tt
alike_valid rows blocks (x ∷ xs) [] all alike h = absurd alike
alike_valid rows blocks [] (y ∷ ys) all alike h = absurd alike
alike_valid rows blocks (x ∷ xs) (y ∷ ys) all alike h = (touched_valid rows blocks x y all alike.0 h.0, alike_valid rows blocks xs ys all alike.1 h.1)

-- after what an event does beside its own turn
reach_valid : (rows : List Row) (script : Script) (event : Event) (blocks : List BlockState) → AllByRecursion (HasValid rows) blocks → AllByRecursion (HasValid rows) (reach script event blocks)
reach_valid rows script event blocks all = alike_valid rows blocks blocks (reach script event blocks) all (reach_touches script event blocks) all

-- ---- the block itself

-- after a Start
started_valid : (rows : List Row) (cpu : ℕ) (signal : Option Signo) (block : BlockState) → IsLayout rows → HasValid rows block → HasValid rows (started cpu signal block)
started_valid rows cpu None block table h = h
started_valid rows cpu (Some signo) block table h = delivered_is_private rows block.task table h

-- after an outer line
outer_valid : (rows : List Row) (script : Script) (command : Option Command) (reply : Reply) (block : BlockState) → HasValid rows block → HasValid rows (outer_own script command reply block)
outer_valid rows script None reply block h = h
outer_valid rows script (Some command) reply block h = parked_is_private rows _ (left_valid rows block.task command reply h)

-- one of two blocks
either_valid : (rows : List Row) (test : Bool) (one other : BlockState) → HasValid rows one → HasValid rows other → HasValid rows (if test then one else other)
either_valid rows true one other a b = a
either_valid rows false one other a b = b

-- after a local line, by the stage
ran_valid : (rows : List Row) (script : Script) (command : Command) (s : Stage) (block : BlockState) → HasValid rows block → IsPrivateTask rows (local_after block.task command) → HasValid rows (ran_in script command s block)
ran_valid rows script command (Turn cpu ran) block h new = either_valid rows (goes_on script command ran) _ _ new (parked_is_private rows (local_after block.task command) new)
ran_valid rows script command Unborn block h new = h
ran_valid rows script command Ready block h new = h
ran_valid rows script command Stopped block h new = h
ran_valid rows script command (Waiting child) block h new = h
ran_valid rows script command Ended block h new = h

-- it holds of all, where the block at the place is known
changed_at : {A : Type 0} (P : A → Type 0) (f : A → A) (i : ℕ) (xs : List A) (x : A) → slice_get xs i ≡ Some x → P (f x) → AllByRecursion P xs → AllByRecursion P (changed i f xs)
changed_at P f i [] x at new all = tt
changed_at P f zero (y ∷ xs) x at new all = let same : x ≡ y = cc in (subst (λ z. P (f z)) same new, all.1)
changed_at P f (suc i) (y ∷ xs) x at new all = (all.0, changed_at P f i xs x at new all.1)

-- after a local line of a valid script
line_valid : (m : Machine) (t line : ℕ) (reply : Reply) → IsValid m.script → IsStep m (Local t line reply) → AllByRecursion (HasValid m.script.layout) m.blocks → AllByRecursion (HasValid m.script.layout) (blocks_after m.script (Local t line reply) m.blocks)
line_valid m t line reply valid step all =
    let rows = m.script.layout in
    let l = due_local m t line reply step.is_due in
    let o = l.at_place in
    let found : command_at m.script t line ≡ Some o.order.command = ap (command_at m.script t) o.number ∙ lines_found m.script valid t l.block l.state.task o.order l.known o.here in
    let mine = all_at (HasValid rows) m.blocks t l.state all l.at in
    let new : IsPrivateTask rows (local_after l.state.task o.order.command) = local_valid rows l.state.task o.order.command valid.layout mine (order_valid m.script t l.block l.state.task o.order valid l.known o.here) o.quiet in
    let ran : HasValid rows (ran_line m.script (Some o.order.command) l.state) = ran_valid rows m.script o.order.command l.state.stage l.state mine new in
    changed_at (HasValid rows) (own m.script (Local t line reply)) t m.blocks l.state l.at (subst (λ (c : Option Command). HasValid rows (ran_line m.script c l.state)) (sym found) ran) all

-- ---- each step

-- after a step
step_valid : (m : Machine) (event : Event) → IsValid m.script → IsStep m event → AllByRecursion (HasValid m.script.layout) m.blocks → AllByRecursion (HasValid m.script.layout) (blocks_after m.script event m.blocks)
step_valid m (Start t cpu how signal) valid step all = all_changed (HasValid m.script.layout) (started cpu signal) (λ block. started_valid m.script.layout cpu signal block valid.layout) t m.blocks all
step_valid m (Local t line reply) valid step all = line_valid m t line reply valid step all
step_valid m (Outer t line reply) valid step all =
    all_changed (HasValid m.script.layout) (own m.script (Outer t line reply)) (λ block. outer_valid m.script.layout m.script (command_at m.script t line) reply block) t
    (reach m.script (Outer t line reply) m.blocks) (reach_valid m.script.layout m.script (Outer t line reply) m.blocks all)
step_valid m (Grow t) valid step all =
    all_changed (HasValid m.script.layout) (own m.script (Grow t)) (λ block h. parked_is_private m.script.layout _ (grown_is_private m.script.layout block.task h)) t m.blocks all
step_valid m (Kill t signo why) valid step all =
    all_changed (HasValid m.script.layout) (own m.script (Kill t signo why)) (λ block h. parked_is_private m.script.layout _ (killed_valid m.script.layout block.task why valid.layout h)) t
    (reach m.script (Kill t signo why) m.blocks) (reach_valid m.script.layout m.script (Kill t signo why) m.blocks all)
step_valid m (End t) valid step all =
    all_changed (HasValid m.script.layout) (own m.script (End t)) (λ block h. parked_is_private m.script.layout block.task h) t
    (reach m.script (End t) m.blocks) (reach_valid m.script.layout m.script (End t) m.blocks all)

-- before the first event
opening_valid : (rows : List Row) (blocks : List Block) → IsLayout rows → AllByRecursion (HasValid rows) (map (opening_block rows) blocks)
opening_valid rows [] table = tt
opening_valid rows (block ∷ blocks) table = (root_is_private rows table, opening_valid rows blocks table)

-- in a legal past
legal_valid : (script : Script) (past : List Event) → IsValid script → IsLegalPast script past → AllByRecursion (HasValid script.layout) (machine script past).blocks
legal_valid script [] valid legal = opening_valid script.layout script.blocks valid.layout
legal_valid script (event ∷ past) valid legal =
    let m = machine script past in
    let same : m.script ≡ script = machine_script script past in
    let before = legal_valid script past valid legal.0 in
    let before_there : AllByRecursion (HasValid m.script.layout) m.blocks = subst (λ (s : Script). AllByRecursion (HasValid s.layout) m.blocks) (sym same) before in
    let now = step_valid m event (subst IsValid (sym same) valid) legal.1 before_there in
    subst (λ (s : Script). AllByRecursion (HasValid s.layout) (blocks_after m.script event m.blocks)) same now

-- the machine of a legal past
pub tasks_valid : TasksValid
tasks_valid script past valid legal = record { script_is = machine_script script past; count = many_blocks script past; tasks = legal_valid script past valid legal }
