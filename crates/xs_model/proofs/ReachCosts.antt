-- What the effects of an event on other blocks cost: nothing, but a signal costs the lines of a handler.
use Rattle.std.proofs.Common.{◌≡◌, ℕ, ◌+◌, ◌≤◌, ◌==◌, Bool, true, false, List, [], ◌∷◌, refl, ap, arith, ne_eqb}
use Rattle.std.specs.Prelude.{Option, Some, None, if◌then◌else◌, nat_lt, take}
use Rattle.xs_base.specs.declared.header.HeaderError.{HeaderError}
use Rattle.xs_base.specs.declared.words.Set.{Set}
use Rattle.xs_base.specs.declared.words.Set.TheVariants.{Xstate, Fx}
use Rattle.xs_base.specs.declared.words.Signo.{Signo}
use Rattle.xs_base.specs.Task.{PrivateTask, child_of}
use Rattle.xs_base.specs.RegisterSet.{after_set, set_error, wrong_count, set_by, set_result}
use Rattle.xs_model.specs.declared.script.Block.{Block}
use Rattle.xs_model.specs.declared.stage.Stage.{Stage}
use Rattle.xs_model.specs.declared.stage.Stage.TheVariants.{Unborn, Ready, Turn, Stopped, Waiting, Ended}
use Rattle.xs_model.specs.State.{BlockState, is_parent}
use Rattle.xs_model.specs.Outer.{wake, woken, let_go, continued, freed, bear, born, insert, signalled, set_task, registers_set, buffer_filled}
use Rattle.xs_model.proofs.Bookkeeping.{weights, times, running, work_by, work, is_waiting}
use Rattle.xs_model.proofs.BlockSums.{WakesOnly}

-- ---- stages

-- to wake a block costs it nothing
wake_cost : (h t : ℕ) (lines : Block) (task : PrivateTask) (pending : List Signo) (s : Stage) → work_by h lines task pending (wake t s) ≡ work_by h lines task pending s
wake_cost h t lines task pending Unborn = refl
wake_cost h t lines task pending Ready = refl
wake_cost h t lines task pending (Turn cpu ran) = refl
wake_cost h t lines task pending Stopped = refl
wake_cost h t lines task pending (Waiting child) = woke (child == t)
  where
    woke : (b : Bool) → work_by h lines task pending (if b then Ready else Waiting child) ≡ running h lines task pending
    woke true = refl
    woke false = refl
wake_cost h t lines task pending Ended = refl

-- nor to let it go
let_go_cost : (h : ℕ) (may : Bool) (lines : Block) (task : PrivateTask) (pending : List Signo) (s : Stage) → work_by h lines task pending (let_go may s) ≡ work_by h lines task pending s
let_go_cost h may lines task pending Unborn = refl
let_go_cost h may lines task pending Ready = refl
let_go_cost h may lines task pending (Turn cpu ran) = refl
let_go_cost h true lines task pending Stopped = refl
let_go_cost h false lines task pending Stopped = refl
let_go_cost h may lines task pending (Waiting child) = refl
let_go_cost h may lines task pending Ended = refl

-- a block that is woken
pub woken_cost : (h t : ℕ) (lines : Block) (block : BlockState) → work h lines (woken t block) ≤ work h lines block
woken_cost h t lines block = let same = wake_cost h t lines block.task block.pending block.stage in omega arith

-- one that is freed
pub freed_cost : (h t : ℕ) (lines : Block) (block : BlockState) → work h lines (freed t block) ≤ work h lines block
freed_cost h t lines block =
    let same = wake_cost h t lines block.task block.pending block.stage in
    let too = let_go_cost h (is_parent block.parent t) lines block.task block.pending (wake t block.stage) in
    omega arith

-- one that goes on
pub continued_cost : (h : ℕ) (lines : Block) (block : BlockState) → work h lines (continued block) ≤ work h lines block + 0
continued_cost h lines block = let same = let_go_cost h true lines block.task block.pending block.stage in omega arith

-- ---- signals

-- by the place where the signal joins
times_if : (h : ℕ) (signo other : Signo) (pending : List Signo) (below same : Bool) → times h (insert signo pending) ≤ times h pending + h → times h (if below then signo ∷ other ∷ pending else (if same then other ∷ pending else other ∷ insert signo pending)) ≤ times h (other ∷ pending) + h
times_if h signo other pending true same tail = omega arith
times_if h signo other pending false true tail = omega arith
times_if h signo other pending false false tail = omega arith

-- one pending signal more at most
times_insert : (h : ℕ) (signo : Signo) (pending : List Signo) → times h (insert signo pending) ≤ times h pending + h
times_insert h signo [] = omega arith
times_insert h signo (other ∷ pending) = times_if h signo other pending (nat_lt signo.number other.number) (signo.number == other.number) (times_insert h signo pending)

-- by the stage
signal_cost : (h : ℕ) (signo : Signo) (lines : Block) (task : PrivateTask) (pending : List Signo) (s : Stage) → work_by h lines task (insert signo pending) s ≤ work_by h lines task pending s + h
signal_cost h signo lines task pending Unborn = omega arith
signal_cost h signo lines task pending Ready = let more = times_insert h signo pending in omega arith
signal_cost h signo lines task pending (Turn cpu ran) = let more = times_insert h signo pending in omega arith
signal_cost h signo lines task pending Stopped = let more = times_insert h signo pending in omega arith
signal_cost h signo lines task pending (Waiting child) = let more = times_insert h signo pending in omega arith
signal_cost h signo lines task pending Ended = omega arith

-- one that is signalled
pub signalled_cost : (h : ℕ) (signo : Signo) (lines : Block) (block : BlockState) → work h lines (signalled signo block) ≤ work h lines block + h
signalled_cost h signo lines block = signal_cost h signo lines block.task block.pending block.stage

-- ---- a birth

-- a child has its whole body before it
child_cost : (h : ℕ) (lines : Block) (parent : PrivateTask) → running h lines (child_of parent) [] ≤ weights h lines.body + 3
unfolding child_of
child_cost h lines parent = omega arith

-- by the stage
bear_cost : (h t : ℕ) (parent : PrivateTask) (lines : Block) (block : BlockState) (s : Stage) → block.stage ≡ s → work h lines (bear t parent s block) ≤ work_by h lines block.task block.pending s + 0
bear_cost h t parent lines block Unborn at = let fresh = child_cost h lines parent in omega arith
bear_cost h t parent lines block Ready at = let same = ap (work_by h lines block.task block.pending) at in omega arith
bear_cost h t parent lines block (Turn cpu ran) at = let same = ap (work_by h lines block.task block.pending) at in omega arith
bear_cost h t parent lines block Stopped at = let same = ap (work_by h lines block.task block.pending) at in omega arith
bear_cost h t parent lines block (Waiting child) at = let same = ap (work_by h lines block.task block.pending) at in omega arith
bear_cost h t parent lines block Ended at = let same = ap (work_by h lines block.task block.pending) at in omega arith

-- one that is born
pub born_cost : (h t : ℕ) (parent : Option BlockState) (lines : Block) (block : BlockState) → work h lines (born t parent block) ≤ work h lines block + 0
born_cost h t None lines block = omega arith
born_cost h t (Some parent) lines block = bear_cost h t parent.task lines block block.stage refl

-- ---- registers and buffers

-- The task is where it was, and has as much room.
pub record SamePlace (old new : PrivateTask) : Type 0 where
  pub handling : new.handling ≡ old.handling
  pub place : new.place ≡ old.place
  pub back : new.back ≡ old.back
  pub large : new.large ≡ old.large

-- the task itself
pub place_same : (task : PrivateTask) → SamePlace task task
place_same task = record { handling = refl; place = refl; back = refl; large = refl }

-- such a task has as much work
place_work : (h : ℕ) (lines : Block) (old new : PrivateTask) (pending : List Signo) (s : Stage) → SamePlace old new → work_by h lines new pending s ≡ work_by h lines old pending s
place_work h lines old new pending Unborn same = refl
place_work h lines old new pending Ready same = rw (same.handling, same.place, same.back, same.large) refl
place_work h lines old new pending (Turn cpu ran) same = rw (same.handling, same.place, same.back, same.large) refl
place_work h lines old new pending Stopped same = rw (same.handling, same.place, same.back, same.large) refl
place_work h lines old new pending (Waiting child) same = rw (same.handling, same.place, same.back, same.large) refl
place_work h lines old new pending Ended same = refl

-- a set changes the file and the marks
after_place : (task : PrivateTask) (set : Set) (bytes : List ℕ) → SamePlace task (after_set task set bytes)
after_place task Xstate bytes = record { handling = refl; place = refl; back = refl; large = refl }
after_place task Fx bytes = record { handling = refl; place = refl; back = refl; large = refl }

-- by what the set answers
set_place : (b : Bool) (set : Set) (error : Option HeaderError) (task new : PrivateTask) → SamePlace task new → SamePlace task (set_task (if b then wrong_count set else set_by error new) task)
set_place true Xstate error task new same = place_same task
set_place true Fx error task new same = place_same task
set_place false set None task new same = same
set_place false set (Some error) task new same = place_same task

-- a set of registers keeps the place
pub set_keeps_place : (set : Set) (bytes : List ℕ) (task : PrivateTask) → SamePlace task (set_task (set_result task set bytes) task)
set_keeps_place set bytes task = set_place _ set (set_error task set bytes) task (after_set task set bytes) (after_place task set bytes)

-- so it costs nothing
pub set_cost : (h : ℕ) (set : Set) (count : ℕ) (buffer : List ℕ) (lines : Block) (block : BlockState) → work h lines (registers_set set count buffer block) ≤ work h lines block + 0
set_cost h set count buffer lines block =
    let same = place_work h lines block.task (set_task (set_result block.task set (take count buffer)) block.task) block.pending block.stage (set_keeps_place set (take count buffer) block.task) in
    omega arith

-- to fill the buffer keeps the place
pub filled_place : (set : Set) (child : Option BlockState) (block : BlockState) → SamePlace block.task (buffer_filled set child block).task
filled_place set None block = place_same block.task
filled_place set (Some child) block = record { handling = refl; place = refl; back = refl; large = refl }

-- so it costs nothing
pub filled_cost : (h : ℕ) (set : Set) (child : Option BlockState) (lines : Block) (block : BlockState) → work h lines (buffer_filled set child block) ≤ work h lines block + 0
filled_cost h set None lines block = omega arith
filled_cost h set (Some child) lines block =
    let same = place_work h lines block.task (buffer_filled set (Some child) block).task block.pending block.stage (filled_place set (Some child) block) in
    omega arith

-- ---- who wakes

-- an end wakes those that wait for it
pub freed_wakes : (t : ℕ) → WakesOnly t (freed t)
freed_wakes t = record { others = λ block other. by_stage (is_parent block.parent t) block.stage other }
  where
    by_stage : (may : Bool) (s : Stage) → (s ≡ Waiting t → ⊥) → is_waiting (let_go may (wake t s)) ≡ is_waiting s
    by_stage may Unborn other = refl
    by_stage may Ready other = refl
    by_stage may (Turn cpu ran) other = refl
    by_stage true Stopped other = refl
    by_stage false Stopped other = refl
    by_stage may (Waiting child) other = rw (ne_eqb child t (λ (same : child ≡ t). other (ap Waiting same))) refl
    by_stage may Ended other = refl

-- so does a stop
pub woken_wakes : (t : ℕ) → WakesOnly t (woken t)
woken_wakes t = record { others = λ block other. by_stage block.stage other }
  where
    by_stage : (s : Stage) → (s ≡ Waiting t → ⊥) → is_waiting (wake t s) ≡ is_waiting s
    by_stage Unborn other = refl
    by_stage Ready other = refl
    by_stage (Turn cpu ran) other = refl
    by_stage Stopped other = refl
    by_stage (Waiting child) other = rw (ne_eqb child t (λ (same : child ≡ t). other (ap Waiting same))) refl
    by_stage Ended other = refl
