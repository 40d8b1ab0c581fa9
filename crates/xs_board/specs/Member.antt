-- What the board keeps of a block beside its task: what it does (Linux 6.6, include/linux/sched.h, struct task_struct: __state and
-- exit_state), the block that forked it (real_parent), and the signals that are pending of it (kernel/signal.c, struct sigpending;
-- its next_signal takes the lowest number first).
use Rattle.std.specs.Prelude.{◌≡◌, ℕ, Bool, true, false, ◌&&◌, ◌==◌, List, [], ◌∷◌, slice_get, slice_index_or, slice_set, Option, Some, None, if◌then◌else◌}
use Rattle.xs_base.specs.declared.words.Signo.{Signo}
use Rattle.xs_model.specs.declared.stage.Stage.{Stage}
use Rattle.xs_model.specs.declared.stage.Stage.TheVariants as stages
use Rattle.xs_model.specs.Due.{first_signal}
use Rattle.xs_model.specs.Machine.{later_signals}
use Rattle.xs_model.specs.Outer.{insert}
use Rattle.xs_model.specs.State.{BlockState, is_parent}
use Rattle.xs_board.specs.declared.member.Life.{Life}
use Rattle.xs_board.specs.declared.member.Life.TheVariants.{Unborn, Going, Stopped, Waiting, Ended}

pub record Member : Type 0 where
  pub life : Life
  pub parent : Option ℕ
  pub pending : List Signo

-- ---- what it stands for

-- what a block does at this stage
abbrev pub life_of : Stage → Life
life_of stages.Unborn = Unborn
life_of stages.Ready = Going
life_of (stages.Turn cpu ran) = Going
life_of stages.Stopped = Stopped
life_of (stages.Waiting child) = Waiting child
life_of stages.Ended = Ended

-- a block that isn't there
abbrev pub absent : Member
absent = record { life = Unborn; parent = None; pending = [] }

-- that of a block in this state
abbrev pub member_of : Option BlockState → Member
member_of None = absent
member_of (Some block) = record { life = life_of block.stage; parent = block.parent; pending = block.pending }

abbrev pub member_at : List Member → ℕ → Member
member_at members t = slice_index_or members t absent

-- Each block has its own.
abbrev pub AreMembers : List BlockState → List Member → Type 0
AreMembers blocks members = (t : ℕ) → member_at members t ≡ member_of (slice_get blocks t)

-- ---- what is asked of it

abbrev pub is_alive : Life → Bool
is_alive Unborn = false
is_alive Going = true
is_alive Stopped = true
is_alive (Waiting child) = true
is_alive Ended = false

abbrev pub is_going : Life → Bool
is_going Unborn = false
is_going Going = true
is_going Stopped = false
is_going (Waiting child) = false
is_going Ended = false

abbrev pub is_stopped_life : Life → Bool
is_stopped_life Unborn = false
is_stopped_life Going = false
is_stopped_life Stopped = true
is_stopped_life (Waiting child) = false
is_stopped_life Ended = false

abbrev pub is_waiting : Life → Bool
is_waiting Unborn = false
is_waiting Going = false
is_waiting Stopped = false
is_waiting (Waiting child) = true
is_waiting Ended = false

-- it waits for block t
abbrev pub waits_for : ℕ → Life → Bool
waits_for t Unborn = false
waits_for t Going = false
waits_for t Stopped = false
waits_for t (Waiting child) = child == t
waits_for t Ended = false

-- it is stopped, and a child of block t
abbrev pub is_stopped_child : ℕ → Member → Bool
is_stopped_child t member = is_stopped_life member.life && is_parent member.parent t

-- ---- a signal leaves it

-- the signal that a Start takes from it, while no handler runs
abbrev pub next_signal : Bool → Member → Option Signo
next_signal handling member = if handling then None else first_signal member.pending

-- the member after that
abbrev pub emptied : Bool → Member → Member
emptied handling member = if handling then member else record member { pending = later_signals member.pending }

-- ---- what becomes of it

-- a signal is sent to it
abbrev pub received : Signo → Member → Member
received signo member = if is_alive member.life then record member { pending = insert signo member.pending } else member

-- it is ready
abbrev pub going : Member → Member
going member = record member { life = Going }

-- it is born of block t
abbrev pub born_of : ℕ → Member → Member
born_of t member = record member { life = Going; parent = Some t }

-- it has ended
abbrev pub ended : Member → Member
ended member = record member { life = Ended; pending = [] }

-- block t has ended, which holds it no more
abbrev pub released : ℕ → Member → Member
released t member = if is_stopped_child t member then going member else member

-- ---- the members together

-- a block does this from now on
abbrev pub with_life : ℕ → Life → List Member → List Member
with_life t life members = slice_set members t (record (member_at members t) { life = life })

abbrev pub lives_at : List Member → Option ℕ → Bool
lives_at members None = false
lives_at members (Some p) = is_alive (member_at members p).life

-- the parent of block t, where it waits for t
abbrev pub waiter_among : List Member → ℕ → Option ℕ → Option ℕ
waiter_among members t None = None
waiter_among members t (Some p) = if waits_for t (member_at members p).life then Some p else None

abbrev pub waiter_in : List Member → ℕ → Option ℕ
waiter_in members t = waiter_among members t (member_at members t).parent

-- the block, if there is one, is ready
abbrev pub with_going : Option ℕ → List Member → List Member
with_going None members = members
with_going (Some u) members = with_life u Going members

abbrev pub listed : Option ℕ → List ℕ
listed None = []
listed (Some u) = u ∷ []

-- the number of a stopped child of block t
abbrev pub child_if : ℕ → ℕ → Member → List ℕ
child_if t i member = if is_stopped_child t member then i ∷ [] else []
