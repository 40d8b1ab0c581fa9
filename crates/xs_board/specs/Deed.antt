-- What an outer line does, by the blocks' numbers, as the board sees it: to the members, to whom it makes ready, to the tasks that
-- are home, and what it answers. The rules are those of the private machine.
use Rattle.std.specs.Prelude.{◌≡◌, ℕ, ◌+◌, ◌≤◌, Bool, true, false, ◌&&◌, List, [], ◌∷◌, length, take, slice_index_or, slice_set, Option, Some, None, if◌then◌else◌}
use Rattle.xs_base.specs.declared.component.Row.{Row}
use Rattle.xs_base.specs.declared.words.Set.{Set}
use Rattle.xs_base.specs.Bytes.{splice}
use Rattle.xs_base.specs.RegisterSet.{set_errno, set_reply, set_result}
use Rattle.xs_base.specs.Task.{PrivateTask, buffer_length}
use Rattle.xs_model.specs.declared.event.Reply.{Reply}
use Rattle.xs_model.specs.declared.event.Reply.TheVariants as replies
use Rattle.xs_model.specs.declared.script.Command.{Command}
use Rattle.xs_model.specs.declared.script.Command.TheVariants as commands
use Rattle.xs_model.specs.declared.script.Script.{Script}
use Rattle.xs_model.specs.Note.{is_count}
use Rattle.xs_model.specs.Line.{count_or_error}
use Rattle.xs_model.specs.Outer.{get_reply, no_block, set_task}
use Rattle.xs_model.specs.Script.{block_named}
use Rattle.xs_model.specs.State.{is_parent}
use Rattle.xs_task.specs.declared.task.Task.{Task}
use Rattle.xs_task.specs.Parked.{IsParked}
use Rattle.xs_task.specs.TaskArea.{IsTask}
use Rattle.xs_board.specs.declared.deed.Deed.{Deed}
use Rattle.xs_board.specs.declared.deed.Deed.TheVariants.{Fork, Send, Stop, Wait, Get, Put, Cont}
use Rattle.xs_board.specs.declared.member.Life.{Life}
use Rattle.xs_board.specs.declared.member.Life.TheVariants as lives
use Rattle.xs_board.specs.Birth.{BecameChild, CanBeBorn}
use Rattle.xs_board.specs.Member.{Member, born_of, is_alive, is_stopped_life, lives_at, listed, member_at, received, waiter_in, with_going, with_life}

-- what a command does, if it is an outer one
abbrev pub deed_of : Script → Command → Option Deed
deed_of script (commands.Fork name) = Some (Fork (block_named script name))
deed_of script (commands.Kill name signo) = Some (Send (block_named script name) signo)
deed_of script commands.Stop = Some Stop
deed_of script (commands.Wait name) = Some (Wait (block_named script name))
deed_of script (commands.Getregs name set) = Some (Get (block_named script name) set)
deed_of script (commands.Setregs name set count) = Some (Put (block_named script name) set count)
deed_of script (commands.Cont name) = Some (Cont (block_named script name))
deed_of script other = None

abbrev pub deed_by : Script → Option Command → Option Deed
deed_by script None = None
deed_by script (Some command) = deed_of script command

-- the block that it names
abbrev pub named_in : Deed → Option ℕ
named_in (Fork child) = Some child
named_in (Send target signo) = Some target
named_in Stop = None
named_in (Wait child) = Some child
named_in (Get target set) = Some target
named_in (Put target set count) = Some target
named_in (Cont child) = Some child

-- ---- the members

-- the tracer of block t lives, which stops then
abbrev pub is_traced : List Member → ℕ → Bool
is_traced members t = lives_at members (member_at members t).parent

-- what a wait of block t answers
abbrev pub life_reply : Life → Reply
life_reply lives.Unborn = replies.Ended
life_reply lives.Going = replies.Blocked
life_reply lives.Stopped = replies.Stopped
life_reply (lives.Waiting child) = replies.Blocked
life_reply lives.Ended = replies.Ended

abbrev pub wait_answer : ℕ → Member → Reply
wait_answer t child = if is_parent child.parent t then life_reply child.life else replies.Ended

-- such a child goes on, and the wait blocks
abbrev pub goes_on : Life → Bool
goes_on lives.Unborn = false
goes_on lives.Going = true
goes_on lives.Stopped = false
goes_on (lives.Waiting child) = true
goes_on lives.Ended = false

abbrev pub blocks_at : ℕ → Member → Bool
blocks_at t child = is_parent child.parent t && goes_on child.life

-- the members after a deed of block t
abbrev pub members_done : ℕ → Deed → List Member → List Member
members_done t (Fork child) members = slice_set members child (born_of t (member_at members child))
members_done t (Send target signo) members = slice_set members target (received signo (member_at members target))
members_done t Stop members = if is_traced members t then with_life t lives.Stopped (with_going (waiter_in members t) members) else members
members_done t (Wait child) members = if blocks_at t (member_at members child) then with_life t (lives.Waiting child) members else members
members_done t (Get target set) members = members
members_done t (Put target set count) members = members
members_done t (Cont child) members = if is_stopped_life (member_at members child).life then with_life child lives.Going members else members

-- whom it makes ready
abbrev pub ready_done : ℕ → Deed → List Member → List ℕ
ready_done t (Fork child) members = child ∷ []
ready_done t (Send target signo) members = []
ready_done t Stop members = if is_traced members t then listed (waiter_in members t) else []
ready_done t (Wait child) members = []
ready_done t (Get target set) members = []
ready_done t (Put target set count) members = []
ready_done t (Cont child) members = if is_stopped_life (member_at members child).life then child ∷ [] else []

-- the child that it bears
abbrev pub born_by : Deed → Option ℕ
born_by (Fork child) = Some child
born_by (Send target signo) = None
born_by Stop = None
born_by (Wait child) = None
born_by (Get target set) = None
born_by (Put target set count) = None
born_by (Cont child) = None

-- how many blocks live with a child that is born
abbrev pub living_born : Option ℕ → ℕ → ℕ
living_born None living = living
living_born (Some child) living = living + 1

-- ---- the tasks

-- the task of this block is home
abbrev pub task_home : List (Option Task) → ℕ → Option Task
task_home home t = slice_index_or home t None

-- The slot of a target, whose registers a deed reaches: its block is stopped, and its task whole and switched out.
pub record IsReached (rows : List Row) (home : List (Option Task)) (target : ℕ) : Type 0 where
  pub task : Task
  pub there : task_home home target ≡ Some task
  pub whole : IsTask rows task
  pub away : task.need_load ≡ true

-- A read answers how many bytes the set of the stopped target has, which stand at the front of the buffer then.
pub record WasRead (rows : List Row) (set : Set) (target : Task) (reply : Reply) (before after : Task) : Type 0 where
  pub reply_is : (p : PrivateTask) → IsParked rows target p → reply ≡ get_reply set p
  pub bytes : (p : PrivateTask) → IsParked rows target p → after.buffer.items ≡ splice 0 (set_reply p set) before.buffer.items
  pub rest : after ≡ record before { buffer = after.buffer }

-- the last processor after a write that was answered so
abbrev pub last_set : Reply → Option ℕ → Option ℕ
last_set reply last = if is_count reply then None else last

-- A write of so many bytes gives the stopped target their registers, which no processor has then, or it is refused and changes
-- nothing.
pub record WasWritten (rows : List Row) (set : Set) (count : ℕ) (bytes : List ℕ) (reply : Reply) (before after : Task) : Type 0 where
  pub reply_is : (p : PrivateTask) → IsParked rows before p → reply ≡ count_or_error count (set_errno (set_result p set bytes))
  pub whole : IsTask rows after
  pub stands : (p : PrivateTask) → IsParked rows before p → IsParked rows after (set_task (set_result p set bytes) p)
  pub name : after.name ≡ before.name
  pub last : after.last ≡ last_set reply before.last

-- what a deed asks for
abbrev pub CanDo : List Row → List (Option Task) → List Member → Task → Deed → Type 0
CanDo rows home members task (Fork child) = IsTask rows task × ((before : Task) × (task_home home child ≡ Some before) × CanBeBorn rows before)
CanDo rows home members task (Send target signo) = Unit {0}
CanDo rows home members task Stop = Unit {0}
CanDo rows home members task (Wait child) = Unit {0}
CanDo rows home members task (Get target set) = (length task.buffer.items ≡ buffer_length) × (is_stopped_life (member_at members target).life ≡ true → IsReached rows home target)
CanDo rows home members task (Put target set count) = (count ≤ length task.buffer.items) × (is_stopped_life (member_at members target).life ≡ true → IsReached rows home target)
CanDo rows home members task (Cont child) = Unit {0}

-- The tasks that are home, of which a fork makes one the child.
abbrev pub HasBorn : List Row → Task → ℕ → List (Option Task) → List (Option Task) → Type 0
HasBorn rows parent child old new =
    (before : Task) × (after : Task) × (task_home old child ≡ Some before) × (new ≡ slice_set old child (Some after)) × BecameChild rows parent before after

abbrev pub HasRead : List Row → Set → ℕ → List (Option Task) → Reply → Task → Task → Type 0
HasRead rows set target home reply before after = (child : Task) × (task_home home target ≡ Some child) × WasRead rows set child reply before after

abbrev pub HasWritten : List Row → Set → ℕ → List ℕ → ℕ → Reply → List (Option Task) → List (Option Task) → Type 0
HasWritten rows set count bytes target reply old new =
    (before : Task) × (after : Task) × (task_home old target ≡ Some before) × (new ≡ slice_set old target (Some after)) × WasWritten rows set count bytes reply before after

-- A block that isn't stopped has no registers to reach.
abbrev pub IfStopped : Bool → Type 0 → Type 0 → Type 0
IfStopped true Reaches Refuses = Reaches
IfStopped false Reaches Refuses = Refuses

-- what a deed of block t answers, and what it makes of the tasks that are home and of its own
abbrev pub IsDone : List Row → List Member → ℕ → Deed → Reply → List (Option Task) → List (Option Task) → Task → Task → Type 0
IsDone rows members t (Fork child) reply old new before after = (reply ≡ replies.Done) × HasBorn rows before child old new × (after ≡ before)
IsDone rows members t (Send target signo) reply old new before after =
    (reply ≡ (if is_alive (member_at members target).life then replies.Count 0 else no_block)) × (new ≡ old) × (after ≡ before)
IsDone rows members t Stop reply old new before after =
    (reply ≡ (if is_traced members t then replies.Held else replies.Done)) × (new ≡ old) × (after ≡ before)
IsDone rows members t (Wait child) reply old new before after =
    (reply ≡ wait_answer t (member_at members child)) × (new ≡ old) × (after ≡ before)
IsDone rows members t (Get target set) reply old new before after =
    (new ≡ old) × IfStopped (is_stopped_life (member_at members target).life) (HasRead rows set target old reply before after) ((reply ≡ no_block) × (after ≡ before))
IsDone rows members t (Put target set count) reply old new before after =
    (after ≡ before) × IfStopped (is_stopped_life (member_at members target).life) (HasWritten rows set count (take count before.buffer.items) target reply old new) ((reply ≡ no_block) × (new ≡ old))
IsDone rows members t (Cont child) reply old new before after =
    (reply ≡ (if is_stopped_life (member_at members child).life then replies.Count 0 else no_block)) × (new ≡ old) × (after ≡ before)

-- ---- the same, where there may be none

abbrev pub IfDeed : Option Deed → (Deed → Type 0) → Type 0
IfDeed None Holds = Unit {0}
IfDeed (Some deed) Holds = Holds deed

abbrev pub members_by : ℕ → Option Deed → List Member → List Member
members_by t None members = members
members_by t (Some deed) members = members_done t deed members

abbrev pub ready_by : ℕ → Option Deed → List Member → List ℕ
ready_by t None members = []
ready_by t (Some deed) members = ready_done t deed members

abbrev pub newborn : Option Deed → Option ℕ
newborn None = None
newborn (Some deed) = born_by deed

abbrev pub IsDoneBy : List Row → List Member → ℕ → Option Deed → Reply → List (Option Task) → List (Option Task) → Task → Task → Type 0
IsDoneBy rows members t None reply old new before after = (reply ≡ replies.Done) × (new ≡ old) × (after ≡ before)
IsDoneBy rows members t (Some deed) reply old new before after = IsDone rows members t deed reply old new before after
