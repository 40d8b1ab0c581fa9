-- Whose a line that traps is, and whose the room for TILEDATA: that of user tasks that were born.
use Rattle.std.proofs.Common.{◌≡◌, ℕ, zero, suc, ◌==◌, Bool, true, false, List, [], ◌∷◌, map, length, refl, sym, ap, ◌∙◌, subst, arith, ⊎_elim}
use Rattle.std.proofs.lemmas.Bool.{and_parts, both_ways, eqb-true, cases_eq}
use Rattle.std.proofs.lemmas.Option.{slice_get_within}
use Rattle.std.specs.Prelude.{Option, Some, None, slice_get, take, if◌then◌else◌}
use Rattle.std.specs.Option.{option_map}
use Rattle.std.specs.List.{list_all}
use Rattle.xs_base.specs.declared.component.Row.{Row}
use Rattle.xs_base.specs.declared.words.Errno.{Errno}
use Rattle.xs_base.specs.declared.words.Signo.{Signo}
use Rattle.xs_base.specs.Frame.{Return, Full, LegacyOnly, Refused, return_of, after_return, refused_file}
use Rattle.xs_base.specs.Task.{PrivateTask, root_task, child_of}
use Rattle.xs_base.specs.Tile.{feature_error}
use Rattle.xs_model.specs.declared.script.BlockKind.{BlockKind}
use Rattle.xs_model.specs.declared.script.BlockKind.TheVariants.{Task, Child, Kthread}
use Rattle.xs_model.specs.declared.script.Command.{Command}
use Rattle.xs_model.specs.declared.script.Command.TheVariants as commands
use Rattle.xs_model.specs.declared.script.Block.{Block}
use Rattle.xs_model.specs.declared.script.Order.{Order}
use Rattle.xs_model.specs.declared.script.Script.{Script}
use Rattle.xs_model.specs.declared.event.Reply.{Reply}
use Rattle.xs_model.specs.declared.event.Why.{Why}
use Rattle.xs_model.specs.declared.event.Event.{Event}
use Rattle.xs_model.specs.declared.event.Event.TheVariants.{Start, Local, Outer, Grow, Kill, End}
use Rattle.xs_model.specs.declared.stage.Stage.{Stage}
use Rattle.xs_model.specs.declared.stage.Stage.TheVariants.{Unborn, Ready, Turn, Stopped, Waiting, Ended}
use Rattle.xs_model.specs.Script.{IsValid, is_kernel_command, is_user, is_user_block, is_user_kind, fits_kind, IsBody, block_named, command_at}
use Rattle.xs_model.specs.Line.{line_at, next_line, asked, local_after, traps, is_frame_cause, killed}
use Rattle.xs_model.specs.Note.{task_of}
use Rattle.xs_model.specs.State.{BlockState, Machine, opening_block, is_parent, changed}
use Rattle.xs_model.specs.Outer.{is_held, is_blocked, wake, woken, let_go, continued, freed, bear, born, signalled, buffer_of, registers_set, buffer_filled, stage_left, task_left, outer_own}
use Rattle.xs_model.specs.Machine.{started, goes_on, ran_in, ran_line, own, reach, blocks_after, IsStep, machine, IsLegalPast}
use Rattle.xs_model.specs.Laws.{TrapOfUser, LargeKnown, LinesValid}
use Rattle.xs_model.proofs.LegalTurns.{machine_script}
use Rattle.xs_model.proofs.DuePlaces.{due_inverse}
use Rattle.xs_model.proofs.DueOrders.{grow_line}
use Rattle.xs_model.proofs.Touched.{Touched, Stays, Wakes, Frees, Continues, Signals, Takes, Fills, Bears, Both, alike_at, reach_touches}
use Rattle.xs_model.proofs.EventTurns.{changed_same, changed_other}
use Rattle.xs_model.proofs.EventBound.{body_at}
use Rattle.xs_model.proofs.Births.{user_by_line}
use Rattle.xs_model.proofs.ReachCosts.{set_keeps_place, filled_place}
use Rattle.xs_model.proofs.TaskLines.{local_valid}

-- ---- whose line it is

-- a kernel thread has no such line
trap_kernel : (task : PrivateTask) (command : Command) → traps task command ≡ true → is_kernel_command command ≡ false
trap_kernel task (commands.Get reg) test = refl
trap_kernel task (commands.Set reg bytes) test = refl
trap_kernel task other test = absurd (cc)

-- nor a handler
user_by_handler : (kind : BlockKind) (body handler : List Order) (i : ℕ) (order : Order) → fits_kind kind body handler ≡ true → slice_get handler i ≡ Some order → is_user_kind kind ≡ true
user_by_handler Task body handler i order fits at = refl
user_by_handler Child body handler i order fits at = refl
user_by_handler Kthread body handler i order fits at =
    let none = eqb-true (length handler) 0 (and_parts (list_all (λ (order : Order). is_kernel_command order.command) body) (length handler == 0) fits).1 in
    let within = slice_get_within handler i order at in
    absurd (omega (arith, none, within))

-- so a line that traps is one of a user task
pub trap_of_user : TrapOfUser
trap_of_user script t lines task order valid known at test = ap is_user_block known ∙ by_place task.handling at
  where
    body : IsBody script.layout lines
    body = body_at script.layout script.blocks valid.bodies t lines known

    by_place : (handling : Bool) → slice_get (if handling then lines.handler else lines.body) task.place ≡ Some order → is_user_kind lines.kind ≡ true
    by_place true there = user_by_handler lines.kind lines.body lines.handler task.place order body.kind there
    by_place false there = user_by_line lines.kind lines.body lines.handler task.place order body.kind there (trap_kernel task order.command test)

-- ---- the room of a task

-- a return leaves it
returned_room : (task : PrivateTask) (taken : Return) → (after_return task taken).large ≡ task.large
returned_room task (Full file) = refl
returned_room task (LegacyOnly file) = refl
returned_room task (Refused error) = refl

-- one of two tasks that have as much
either_room : (test : Bool) (one other task : PrivateTask) → one.large ≡ task.large → other.large ≡ task.large → (if test then one else other).large ≡ task.large
either_room true one other task a b = a
either_room false one other task a b = b

-- so does a request
asked_room : (error : Option Errno) (task : PrivateTask) → (asked error task).large ≡ task.large
asked_room None task = refl
asked_room (Some error) task = refl

-- so does each local line
lines_keep_room : (task : PrivateTask) (command : Command) → (local_after task command).large ≡ task.large
lines_keep_room task (commands.Perm feature) = asked_room (feature_error task.file.rows feature) task
lines_keep_room task commands.Sigreturn = either_room task.handling (after_return task (return_of task)) (next_line task) task (returned_room task (return_of task)) refl
lines_keep_room task other = refl

-- a valid task stays one
pub lines_valid : LinesValid
lines_valid rows task command table valid fits quiet = local_valid rows task command table valid fits quiet

-- a kill leaves it
killed_room : (why : Why) (task : PrivateTask) → (killed why task).large ≡ task.large
killed_room why task = either_room (is_frame_cause why) (record task { file = refused_file task }) task task refl refl

-- an outer command leaves it
left_room : (command : Command) (reply : Reply) (task : PrivateTask) → (task_left command reply task).large ≡ task.large
left_room (commands.Wait name) reply task = either_room (is_blocked reply) task (next_line task) task refl refl
left_room other reply task = refl

-- ---- what an event leaves of a block

-- No block gets room, and none is unborn again.
record Keeps (old new : BlockState) : Type 0 where
  room : new.task.large ≡ true → old.task.large ≡ true
  unborn : new.stage ≡ Unborn → old.stage ≡ Unborn

-- as much room as before
same_room : (old new : BlockState) → new.task.large ≡ old.task.large → (new.stage ≡ Unborn → old.stage ≡ Unborn) → Keeps old new
same_room old new room unborn = record { room = λ is. sym room ∙ is; unborn = unborn }

-- ready or waiting, and ready or stopped
not_unborn : (b : Bool) (s : Stage) → (s ≡ Unborn → ⊥) → (if b then Ready else s) ≡ Unborn → ⊥
not_unborn true s never is = cc
not_unborn false s never is = never is

wake_unborn : (t : ℕ) (s : Stage) → wake t s ≡ Unborn → s ≡ Unborn
wake_unborn t Unborn is = refl
wake_unborn t Ready is = is
wake_unborn t (Turn cpu ran) is = is
wake_unborn t Stopped is = is
wake_unborn t (Waiting child) is = absurd (not_unborn (child == t) (Waiting child) (λ (e : Waiting child ≡ Unborn). cc) is)
wake_unborn t Ended is = is

let_go_unborn : (may : Bool) (s : Stage) → let_go may s ≡ Unborn → s ≡ Unborn
let_go_unborn may Unborn is = refl
let_go_unborn may Ready is = is
let_go_unborn may (Turn cpu ran) is = is
let_go_unborn may Stopped is = absurd (not_unborn may Stopped (λ (e : Stopped ≡ Unborn). cc) is)
let_go_unborn may (Waiting child) is = is
let_go_unborn may Ended is = is

-- a birth, by the stage
bear_keeps : (t : ℕ) (parent : PrivateTask) (s : Stage) (block : BlockState) → Keeps block (bear t parent s block)
unfolding child_of
bear_keeps t parent Unborn block = record { room = λ is. absurd (cc); unborn = λ is. absurd (cc) }
bear_keeps t parent Ready block = same_room block block refl (λ is. is)
bear_keeps t parent (Turn cpu ran) block = same_room block block refl (λ is. is)
bear_keeps t parent Stopped block = same_room block block refl (λ is. is)
bear_keeps t parent (Waiting child) block = same_room block block refl (λ is. is)
bear_keeps t parent Ended block = same_room block block refl (λ is. is)

-- a birth of a parent that may not be there
born_keeps : (t : ℕ) (parent : Option BlockState) (block : BlockState) → Keeps block (born t parent block)
born_keeps t None block = same_room block block refl (λ is. is)
born_keeps t (Some parent) block = bear_keeps t parent.task block.stage block

-- another block's event
touched_keeps : (blocks : List BlockState) (old new : BlockState) → Touched blocks old new → Keeps old new
touched_keeps blocks old new (Stays is) = subst (Keeps old) (sym is) (same_room old old refl (λ s. s))
touched_keeps blocks old new (Wakes t is) = subst (Keeps old) (sym is) (same_room old (woken t old) refl (wake_unborn t old.stage))
touched_keeps blocks old new (Frees t is) = subst (Keeps old) (sym is) (same_room old (freed t old) refl (λ s. wake_unborn t old.stage (let_go_unborn (is_parent old.parent t) (wake t old.stage) s)))
touched_keeps blocks old new (Continues is) = subst (Keeps old) (sym is) (same_room old (continued old) refl (let_go_unborn true old.stage))
touched_keeps blocks old new (Signals signo is) = subst (Keeps old) (sym is) (same_room old (signalled signo old) refl (λ s. s))
touched_keeps blocks old new (Takes set count t is) = subst (Keeps old) (sym is) (same_room old (registers_set set count (buffer_of (slice_get blocks t)) old) (set_keeps_place set (take count (buffer_of (slice_get blocks t))) old.task).large (λ s. s))
touched_keeps blocks old new (Fills set child is) = subst (Keeps old) (sym is) (same_room old (buffer_filled set (slice_get blocks child) old) (filled_place set (slice_get blocks child) old).large (λ s. s))
touched_keeps blocks old new (Bears t is) = subst (Keeps old) (sym is) (born_keeps t (slice_get blocks t) old)

-- its own event

started_keeps : (cpu : ℕ) (signal : Option Signo) (block : BlockState) → Keeps block (started cpu signal block)
started_keeps cpu None block = record { room = λ is. is; unborn = λ is. absurd (cc) }
started_keeps cpu (Some signo) block = record { room = λ is. is; unborn = λ is. absurd (cc) }

either_keeps : (test : Bool) (block one other : BlockState) → Keeps block one → Keeps block other → Keeps block (if test then one else other)
either_keeps true block one other a b = a
either_keeps false block one other a b = b

ran_keeps : (script : Script) (command : Command) (s : Stage) (block : BlockState) → Keeps block (ran_in script command s block)
ran_keeps script command (Turn cpu ran) block =
    let same = lines_keep_room block.task command in
    either_keeps (goes_on script command ran) block _ _ (record { room = λ is. sym same ∙ is; unborn = λ is. absurd (cc) }) (record { room = λ is. sym same ∙ is; unborn = λ is. absurd (cc) })
ran_keeps script command Unborn block = same_room block block refl (λ is. is)
ran_keeps script command Ready block = same_room block block refl (λ is. is)
ran_keeps script command Stopped block = same_room block block refl (λ is. is)
ran_keeps script command (Waiting child) block = same_room block block refl (λ is. is)
ran_keeps script command Ended block = same_room block block refl (λ is. is)

line_keeps : (script : Script) (command : Option Command) (block : BlockState) → Keeps block (ran_line script command block)
line_keeps script None block = same_room block block refl (λ is. is)
line_keeps script (Some command) block = ran_keeps script command block.stage block

left_unborn : (script : Script) (command : Command) (reply : Reply) → stage_left script command reply ≡ Unborn → ⊥
left_unborn script commands.Stop reply is = by_test (is_held reply) is
  where
    by_test : (b : Bool) → (if b then Stopped else Ready) ≡ Unborn → ⊥
    by_test true is = cc
    by_test false is = cc
left_unborn script (commands.Wait name) reply is = by_test (is_blocked reply) is
  where
    by_test : (b : Bool) → (if b then Waiting (block_named script name) else Ready) ≡ Unborn → ⊥
    by_test true is = cc
    by_test false is = cc
left_unborn script other reply is = cc

outer_keeps : (script : Script) (command : Option Command) (reply : Reply) (block : BlockState) → Keeps block (outer_own script command reply block)
outer_keeps script None reply block = record { room = λ is. is; unborn = λ is. absurd (cc) }
outer_keeps script (Some command) reply block = record { room = λ is. sym (left_room command reply block.task) ∙ is; unborn = λ is. absurd (left_unborn script command reply is) }

-- every event but a Grow
own_keeps : (script : Script) (event : Event) (block : BlockState) → (event ≡ Grow (task_of event) → ⊥) → Keeps block (own script event block)
own_keeps script (Start t cpu how signal) block other = started_keeps cpu signal block
own_keeps script (Local t line reply) block other = line_keeps script (command_at script t line) block
own_keeps script (Outer t line reply) block other = outer_keeps script (command_at script t line) reply block
own_keeps script (Grow t) block other = absurd (other refl)
own_keeps script (Kill t signo why) block other = record { room = λ is. sym (killed_room why block.task) ∙ is; unborn = λ is. absurd (cc) }
own_keeps script (End t) block other = record { room = λ is. is; unborn = λ is. absurd (cc) }

-- ---- legal pasts

-- A block with room is a user task that was born.
abbrev IsLarge : Script → ℕ → BlockState → Type 0
IsLarge script t block = block.task.large ≡ true → (is_user script t ≡ true) × (block.stage ≡ Unborn → ⊥)

-- what a block keeps
large_kept : (script : Script) (t : ℕ) (old new : BlockState) → Keeps old new → IsLarge script t old → IsLarge script t new
large_kept script t old new keeps was room = let before = was (keeps.room room) in (before.0, λ is. before.1 (keeps.unborn is))

-- all blocks
abbrev AreLarge : Script → List BlockState → Type 0
AreLarge script blocks = (t : ℕ) (block : BlockState) → slice_get blocks t ≡ Some block → IsLarge script t block

-- after another block's event
reach_large : (script real : Script) (event : Event) (blocks : List BlockState) → AreLarge script blocks → AreLarge script (reach real event blocks)
reach_large script real event blocks all t block here = by_old (slice_get blocks t) refl (alike_at (Touched blocks) blocks (reach real event blocks) (reach_touches real event blocks) t)
  where
    by_old : (old : Option BlockState) → slice_get blocks t ≡ old → Both (Touched blocks) (slice_get blocks t) (slice_get (reach real event blocks) t) → IsLarge script t block
    by_old None was both = absurd (subst (λ (n : Option BlockState). Both (Touched blocks) None n) here (subst (λ (o : Option BlockState). Both (Touched blocks) o (slice_get (reach real event blocks) t)) was both))
    by_old (Some old) was both =
        let touched = subst (λ (n : Option BlockState). Both (Touched blocks) (Some old) n) here (subst (λ (o : Option BlockState). Both (Touched blocks) o (slice_get (reach real event blocks) t)) was both) in
        large_kept script t old block (touched_keeps blocks old block touched) (all t old was)

-- who grows is a user task
grow_user : (script : Script) (m : Machine) (t : ℕ) → IsValid script → m.script ≡ script → IsStep m (Grow t) → is_user script t ≡ true
grow_user script m t valid same step =
    let d = due_inverse m t (Grow t) step.is_due in
    let line = grow_line m t d.ran t d.state.task (line_at d.lines d.state.task) d.is in
    trap_of_user script t d.lines d.state.task line.0 valid (ap (λ (s : Script). slice_get s.blocks t) (sym same) ∙ d.known) line.1 line.2

-- after an event of its own
own_large : (script : Script) (m : Machine) (event : Event) (old : BlockState) → IsValid script → m.script ≡ script → IsStep m event → IsLarge script (task_of event) old → IsLarge script (task_of event) (own m.script event old)
own_large script m (Start t cpu how signal) old valid same step was = large_kept script t old _ (own_keeps m.script (Start t cpu how signal) old (λ e. cc)) was
own_large script m (Local t line reply) old valid same step was = large_kept script t old _ (own_keeps m.script (Local t line reply) old (λ e. cc)) was
own_large script m (Outer t line reply) old valid same step was = large_kept script t old _ (own_keeps m.script (Outer t line reply) old (λ e. cc)) was
own_large script m (Grow t) old valid same step was = λ room. (grow_user script m t valid same step, λ is. cc)
own_large script m (Kill t signo why) old valid same step was = large_kept script t old _ (own_keeps m.script (Kill t signo why) old (λ e. cc)) was
own_large script m (End t) old valid same step was = large_kept script t old _ (own_keeps m.script (End t) old (λ e. cc)) was

-- what is changed is what it becomes
one_changed : (f : BlockState → BlockState) (t : ℕ) (blocks : List BlockState) (block : BlockState) → slice_get (changed t f blocks) t ≡ Some block → (old : BlockState) × (slice_get blocks t ≡ Some old) × (block ≡ f old)
one_changed f t blocks block here = by_old (slice_get blocks t) refl (sym (changed_same t f blocks) ∙ here)
  where
    by_old : (old : Option BlockState) → slice_get blocks t ≡ old → option_map f (slice_get blocks t) ≡ Some block → (old : BlockState) × (slice_get blocks t ≡ Some old) × (block ≡ f old)
    by_old None was is = let no : None ≡ Some block = sym (ap (option_map f) was) ∙ is in absurd (cc)
    by_old (Some old) was is = let e : Some (f old) ≡ Some block = sym (ap (option_map f) was) ∙ is in (old, was, cc)

-- after a step
step_large : (script : Script) (m : Machine) (event : Event) → IsValid script → m.script ≡ script → IsStep m event → AreLarge script m.blocks → AreLarge script (blocks_after m.script event m.blocks)
step_large script m event valid same step all v block here = ⊎_elim
    (λ (own_one : task_of event ≡ v).
    let there : slice_get (changed (task_of event) (own m.script event) (reach m.script event m.blocks)) (task_of event) ≡ Some block = ap (λ (u : ℕ). slice_get (changed (task_of event) (own m.script event) (reach m.script event m.blocks)) u) own_one ∙ here in
    let was = one_changed (own m.script event) (task_of event) (reach m.script event m.blocks) block there in
    let before = reach_large script m.script event m.blocks all (task_of event) was.0 was.1 in
    subst (λ (u : ℕ). IsLarge script u block) own_one (subst (IsLarge script (task_of event)) (sym was.2) (own_large script m event was.0 valid same step before)))
    (λ (other : task_of event ≡ v → ⊥).
    reach_large script m.script event m.blocks all v block (sym (changed_other (task_of event) v (own m.script event) (reach m.script event m.blocks) other) ∙ here))
    (cases_eq (task_of event) v)

-- no block has room before the first event
opening_room : (rows : List Row) (blocks : List Block) (v : ℕ) (block : BlockState) → slice_get (map (opening_block rows) blocks) v ≡ Some block → block.task.large ≡ false
unfolding root_task
opening_room rows [] v block here = absurd (cc)
opening_room rows (b ∷ blocks) zero block here = let e : opening_block rows b ≡ block = cc in sym (ap (λ (s : BlockState). s.task.large) e)
opening_room rows (b ∷ blocks) (suc v) block here = opening_room rows blocks v block here

all_large : (script : Script) (past : List Event) → IsValid script → IsLegalPast script past → AreLarge script (machine script past).blocks
all_large script [] valid legal = λ v block here room. absurd (both_ways block.task.large (opening_room script.layout script.blocks v block here) room)
all_large script (event ∷ past) valid legal =
    step_large script (machine script past) event valid (machine_script script past) legal.1 (all_large script past valid legal.0)

-- the law
pub large_known : LargeKnown
large_known script past t block valid legal here room = all_large script past valid legal t block here room
