-- What the board keeps after a task came back, by the close of its turn.
use Rattle.std.specs.Prelude.{◌≡◌, ℕ, ◌+◌, ◌-◌, Bool, true, false, not, ◌&&◌, List, [], ◌∷◌, ◌++◌, slice_set, Option, Some, None, if◌then◌else◌}
use Rattle.xs_area.specs.declared.area.Lease.{Lease}
use Rattle.xs_model.specs.declared.event.Why.{Why}
use Rattle.xs_pool.specs.Pool.{Pool, returned}
use Rattle.xs_task.specs.declared.task.Task.{Task}
use Rattle.xs_board.specs.declared.member.Life.{Life}
use Rattle.xs_board.specs.declared.turn.Close.{Close}
use Rattle.xs_board.specs.declared.turn.Close.TheVariants.{Quantum, Yield, Outer, Refused, Trap, End}
use Rattle.xs_board.specs.Member.{Member, child_if, ended, is_going, is_waiting, listed, member_at, released, waiter_in, with_going}

-- there is a cause to kill it
abbrev pub kills : Option Why → Bool
kills None = false
kills (Some why) = true

-- The task ends with its turn: a line that traps may kill it.
abbrev pub ends : Close → Option Why → Bool
ends Quantum fate = false
ends Yield fate = false
ends (Outer line) fate = false
ends (Refused error) fate = true
ends Trap fate = kills fate
ends End fate = true

abbrev pub is_outer : Close → Bool
is_outer Quantum = false
is_outer Yield = false
is_outer (Outer line) = true
is_outer (Refused error) = false
is_outer Trap = false
is_outer End = false

-- what the line at the task's place does, where that line closes the turn
abbrev pub at_outer : {A : Type 0} → Close → Option A → Option A
at_outer Quantum deed = None
at_outer Yield deed = None
at_outer (Outer line) deed = deed
at_outer (Refused error) deed = None
at_outer Trap deed = None
at_outer End deed = None

-- ---- the task

-- The task goes behind the outer line with which its turn closes, unless it waits there.
abbrev pub moves_on : Close → Life → Bool
moves_on close life = is_outer close && not (is_waiting life)

abbrev pub moved_on : Bool → Task → Task
moved_on moves task = if moves then record task { place = task.place + 1 } else task

-- what holds where a test does
abbrev pub Where : Bool → Type 0 → Type 0
Where test Holds = test ≡ true → Holds

-- the tasks that are home: one that has ended isn't
abbrev pub home_after : Bool → Task → List (Option Task) → List (Option Task)
home_after ends task home = if ends then home else slice_set home task.name (Some task)

-- how many blocks live
abbrev pub living_after : Bool → ℕ → ℕ
living_after ends living = if ends then living - 1 else living

-- ---- whom it makes ready

-- the members when the parent of block t waits no more
abbrev pub members_woken : ℕ → List Member → List Member
members_woken t members = with_going (waiter_in members t) members

-- and when block t has ended, but for its stopped children
abbrev pub members_ended : ℕ → List Member → List Member
members_ended t members = slice_set (members_woken t members) t (ended (member_at (members_woken t members) t))

-- the stopped children of block t, from number i on
abbrev pub children_in : ℕ → ℕ → List Member → List ℕ
children_in t i [] = []
children_in t i (member ∷ members) = child_if t i member ++ children_in t (i + 1) members

-- the parent that waits, and then the stopped children
abbrev pub freed_in : ℕ → List Member → List ℕ
freed_in t members = listed (waiter_in members t) ++ children_in t 0 (members_ended t members)

-- the block itself, if it goes on
abbrev pub self_ready : ℕ → Life → List ℕ
self_ready t life = if is_going life then t ∷ [] else []

abbrev pub ready_after : Bool → ℕ → List Member → List ℕ
ready_after ends t members = if ends then freed_in t members else self_ready t (member_at members t).life

-- Of each member after the end of block t and the release of its children.
abbrev pub AreReleased : ℕ → List Member → List Member → Type 0
AreReleased t before after = (u : ℕ) → member_at after u ≡ released t (member_at before u)

abbrev pub AreLeft : Bool → ℕ → List Member → List Member → Type 0
AreLeft true t before after = AreReleased t (members_ended t before) after
AreLeft false t before after = after ≡ before

-- ---- the pool

-- the pool after an area came back, if there was one
abbrev pub pool_without : Option Lease → Pool → Pool
pool_without None pool = pool
pool_without (Some lease) pool = returned pool lease.class

abbrev pub pool_after : Bool → Option Lease → Pool → Pool
pool_after ends lease pool = if ends then pool_without lease pool else pool
