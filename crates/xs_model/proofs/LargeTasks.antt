-- What an event makes of a block's room for TILEDATA, and of its life: only a Grow makes room, and only an end or a kill ends it.
use Rattle.std.proofs.Common.{◌≡◌, ℕ, ◌==◌, Bool, true, false, ◌&&◌, List, refl, ap, ◌∙◌, subst, sym}
use Rattle.std.specs.Prelude.{Option, Some, None, slice_get, take, if◌then◌else◌}
use Rattle.xs_base.specs.declared.words.Signo.{Signo}
use Rattle.xs_base.specs.Task.{PrivateTask, child_of}
use Rattle.xs_base.specs.Frame.{Return, Full, LegacyOnly, Refused, return_of, after_return}
use Rattle.xs_base.specs.Tile.{feature_error}
use Rattle.xs_model.specs.declared.script.Command.{Command}
use Rattle.xs_model.specs.declared.script.Command.TheVariants as commands
use Rattle.xs_model.specs.declared.script.Script.{Script}
use Rattle.xs_model.specs.declared.event.Reply.{Reply}
use Rattle.xs_model.specs.declared.stage.Stage.{Stage}
use Rattle.xs_model.specs.declared.stage.Stage.TheVariants.{Unborn, Ready, Turn, Stopped, Waiting, Ended}
use Rattle.xs_model.specs.Script.{block_named}
use Rattle.xs_model.specs.Line.{next_line, local_after}
use Rattle.xs_model.specs.State.{BlockState, lives, is_parent}
use Rattle.xs_model.specs.Outer.{is_held, is_blocked, wake, let_go, bear, born, buffer_of, stage_left, task_left, outer_own}
use Rattle.xs_model.specs.Machine.{started, goes_on, ran_in, ran_line}
use Rattle.xs_model.specs.Ready.{one_if}
use Rattle.xs_model.proofs.Touched.{Touched, Stays, Wakes, Frees, Continues, Signals, Takes, Fills, Bears}
use Rattle.xs_model.proofs.EventTurns.{filled_stage}
use Rattle.xs_model.proofs.ReachCosts.{set_keeps_place, filled_place}
use Rattle.xs_model.proofs.TurnFits.{asked_same}

-- one for a living block with room for TILEDATA
abbrev counts_by : Bool → Bool → ℕ
counts_by large life = if large && life then 1 else 0

abbrev pub counts : BlockState → ℕ
counts block = counts_by block.task.large (lives block.stage)

-- The block counts as much, and one that lives lives on, with the same room.
pub record Keeps (old new : BlockState) : Type 0 where
  pub counts_same : counts new ≡ counts old
  pub alive : lives old.stage ≡ true → lives new.stage ≡ true
  pub room : lives old.stage ≡ true → new.task.large ≡ old.task.large

-- a block that lives as before, with the same room
same_keeps : (old new : BlockState) → lives new.stage ≡ lives old.stage → new.task.large ≡ old.task.large → Keeps old new
same_keeps old new life room = record {
  counts_same = ap (λ (large : Bool). counts_by large (lives new.stage)) room ∙ ap (counts_by old.task.large) life;
  alive = λ is. life ∙ is;
  room = λ is. room;
}

-- ---- beside its own turn

-- who waits lives, woken or not
waiting_lives : (woke : Bool) (child : ℕ) → lives (if woke then Ready else Waiting child) ≡ true
waiting_lives true child = refl
waiting_lives false child = refl

-- who is stopped lives, let go or not
stopped_lives : (may : Bool) → lives (if may then Ready else Stopped) ≡ true
stopped_lives true = refl
stopped_lives false = refl

-- to wake ends nobody, and bears nobody
wake_lives : (t : ℕ) (s : Stage) → lives (wake t s) ≡ lives s
wake_lives t Unborn = refl
wake_lives t Ready = refl
wake_lives t (Turn cpu ran) = refl
wake_lives t Stopped = refl
wake_lives t (Waiting child) = waiting_lives (child == t) child
wake_lives t Ended = refl

-- nor does to let go
let_go_lives : (may : Bool) (s : Stage) → lives (let_go may s) ≡ lives s
let_go_lives may Unborn = refl
let_go_lives may Ready = refl
let_go_lives may (Turn cpu ran) = refl
let_go_lives may Stopped = stopped_lives may
let_go_lives may (Waiting child) = refl
let_go_lives may Ended = refl

-- no block that isn't alive counts
gone_counts : (large : Bool) → counts_by large false ≡ 0
gone_counts true = refl
gone_counts false = refl

-- a child is born without room, by its stage
bear_keeps : (t : ℕ) (parent : PrivateTask) (s : Stage) (block : BlockState) → block.stage ≡ s → Keeps block (bear t parent s block)
unfolding child_of
bear_keeps t parent Unborn block at =
    let dead : lives block.stage ≡ false = ap lives at in
    record {
      counts_same = sym (ap (counts_by block.task.large) dead ∙ gone_counts block.task.large);
      alive = λ is. absurd (cc);
      room = λ is. absurd (cc);
    }
bear_keeps t parent Ready block at = same_keeps block block refl refl
bear_keeps t parent (Turn cpu ran) block at = same_keeps block block refl refl
bear_keeps t parent Stopped block at = same_keeps block block refl refl
bear_keeps t parent (Waiting child) block at = same_keeps block block refl refl
bear_keeps t parent Ended block at = same_keeps block block refl refl

-- of a parent that may not be there
born_keeps : (t : ℕ) (parent : Option BlockState) (block : BlockState) → Keeps block (born t parent block)
born_keeps t None block = same_keeps block block refl refl
born_keeps t (Some parent) block = bear_keeps t parent.task block.stage block refl

-- a block that another block's event touches
pub touched_keeps : (blocks : List BlockState) (old new : BlockState) → Touched blocks old new → Keeps old new
touched_keeps blocks old new (Stays is) = subst (Keeps old) (sym is) (same_keeps old old refl refl)
touched_keeps blocks old new (Wakes t is) = subst (Keeps old) (sym is) (same_keeps old _ (wake_lives t old.stage) refl)
touched_keeps blocks old new (Frees t is) = subst (Keeps old) (sym is) (same_keeps old _ (let_go_lives (is_parent old.parent t) (wake t old.stage) ∙ wake_lives t old.stage) refl)
touched_keeps blocks old new (Continues is) = subst (Keeps old) (sym is) (same_keeps old _ (let_go_lives true old.stage) refl)
touched_keeps blocks old new (Signals signo is) = subst (Keeps old) (sym is) (same_keeps old _ refl refl)
touched_keeps blocks old new (Takes set count t is) = subst (Keeps old) (sym is) (same_keeps old _ refl (set_keeps_place set (take count (buffer_of (slice_get blocks t))) old.task).large)
touched_keeps blocks old new (Fills set child is) = subst (Keeps old) (sym is) (same_keeps old _ (ap lives (filled_stage set (slice_get blocks child) old)) (filled_place set (slice_get blocks child) old).large)
touched_keeps blocks old new (Bears t is) = subst (Keeps old) (sym is) (born_keeps t (slice_get blocks t) old)

-- ---- in its own turn

-- The effect leaves a living block its room and its life.
abbrev pub OwnKeeps : (BlockState → BlockState) → Type 0
OwnKeeps f = (block : BlockState) → lives block.stage ≡ true → (lives (f block).stage ≡ true) × ((f block).task.large ≡ block.task.large)

-- a Start
pub started_keeps : (cpu : ℕ) (signal : Option Signo) → OwnKeeps (started cpu signal)
started_keeps cpu None block life = (refl, refl)
started_keeps cpu (Some signo) block life = (refl, refl)

-- a return
returned_room : (task : PrivateTask) (taken : Return) → (after_return task taken).large ≡ task.large
returned_room task (Full file) = refl
returned_room task (LegacyOnly file) = refl
returned_room task (Refused error) = refl

-- one that may be outside of a handler
return_room : (task : PrivateTask) (handling : Bool) → (if handling then after_return task (return_of task) else next_line task).large ≡ task.large
return_room task true = returned_room task (return_of task)
return_room task false = refl

-- a local command
local_room : (task : PrivateTask) (command : Command) → (local_after task command).large ≡ task.large
local_room task (commands.Perm feature) = (asked_same (feature_error task.file.rows feature) task).large
local_room task commands.Sigreturn = return_room task task.handling
local_room task other = refl

-- the turn goes on or ends
either_keeps : (test : Bool) (one other : BlockState) (large : Bool) → (lives one.stage ≡ true) × (one.task.large ≡ large) → (lives other.stage ≡ true) × (other.task.large ≡ large)
    → (lives (if test then one else other).stage ≡ true) × ((if test then one else other).task.large ≡ large)
either_keeps true one other large a b = a
either_keeps false one other large a b = b

-- a local line, by the stage
ran_keeps : (script : Script) (command : Command) (s : Stage) (block : BlockState) → lives block.stage ≡ true → (lives (ran_in script command s block).stage ≡ true) × ((ran_in script command s block).task.large ≡ block.task.large)
ran_keeps script command (Turn cpu ran) block life = let same = local_room block.task command in either_keeps (goes_on script command ran) _ _ block.task.large (refl, same) (refl, same)
ran_keeps script command Unborn block life = (life, refl)
ran_keeps script command Ready block life = (life, refl)
ran_keeps script command Stopped block life = (life, refl)
ran_keeps script command (Waiting child) block life = (life, refl)
ran_keeps script command Ended block life = (life, refl)

-- a local line
pub line_keeps : (script : Script) (command : Option Command) → OwnKeeps (ran_line script command)
line_keeps script None block life = (life, refl)
line_keeps script (Some command) block life = ran_keeps script command block.stage block life

-- an outer command leaves its block alive
left_lives : (script : Script) (command : Command) (reply : Reply) → lives (stage_left script command reply) ≡ true
left_lives script commands.Stop reply = by_test (is_held reply)
  where
    by_test : (held : Bool) → lives (if held then Stopped else Ready) ≡ true
    by_test true = refl
    by_test false = refl
left_lives script (commands.Wait name) reply = by_test (is_blocked reply)
  where
    by_test : (blocked : Bool) → lives (if blocked then Waiting (block_named script name) else Ready) ≡ true
    by_test true = refl
    by_test false = refl
left_lives script other reply = refl

-- with its room
left_room : (command : Command) (reply : Reply) (task : PrivateTask) → (task_left command reply task).large ≡ task.large
left_room (commands.Wait name) reply task = by_test (is_blocked reply)
  where
    by_test : (blocked : Bool) → (if blocked then task else next_line task).large ≡ task.large
    by_test true = refl
    by_test false = refl
left_room other reply task = refl

-- an outer line
pub outer_keeps : (script : Script) (command : Option Command) (reply : Reply) → OwnKeeps (outer_own script command reply)
outer_keeps script None reply block life = (refl, refl)
outer_keeps script (Some command) reply block life = (left_lives script command reply, left_room command reply block.task)

-- ---- how much a block counts

-- a living block counts for its room
pub alive_counts : (block : BlockState) → lives block.stage ≡ true → counts block ≡ one_if block.task.large
alive_counts block life = ap (counts_by block.task.large) life ∙ by_room block.task.large
  where
    by_room : (large : Bool) → counts_by large true ≡ one_if large
    by_room true = refl
    by_room false = refl

-- one that has ended doesn't count
pub ended_counts : (block : BlockState) → block.stage ≡ Ended → counts block ≡ 0
ended_counts block at = ap (λ (s : Stage). counts_by block.task.large (lives s)) at ∙ gone_counts block.task.large
