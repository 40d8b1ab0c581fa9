-- What an outer command costs: its line pays for itself, for what its effect adds to others, and for a waiter that it wakes.
use Rattle.std.proofs.Common.{◌≡◌, ℕ, ◌+◌, ◌≤◌, Bool, true, false, List, map, refl, sym, ap, ◌∙◌, ⊎_elim, arith}
use Rattle.std.proofs.lemmas.Bool.{cases_eq, cases_Bool}
use Rattle.std.proofs.lemmas.Option.{slice_get-map}
use Rattle.std.specs.Prelude.{Option, Some, None, if◌then◌else◌, slice_get, take}
use Rattle.std.specs.Option.{option_map}
use Rattle.xs_base.specs.declared.words.Signo.{Signo}
use Rattle.xs_base.specs.Task.{PrivateTask, parked}
use Rattle.xs_model.specs.declared.script.Command.{Command}
use Rattle.xs_model.specs.declared.script.Command.TheVariants as commands
use Rattle.xs_model.specs.declared.script.Block.{Block}
use Rattle.xs_model.specs.declared.script.Order.{Order}
use Rattle.xs_model.specs.declared.script.Script.{Script}
use Rattle.xs_model.specs.declared.event.Reply.{Reply}
use Rattle.xs_model.specs.declared.stage.Stage.{Stage}
use Rattle.xs_model.specs.declared.stage.Stage.TheVariants.{Unborn, Ready, Turn, Stopped, Waiting, Ended}
use Rattle.xs_model.specs.Script.{block_named}
use Rattle.xs_model.specs.Line.{next_line}
use Rattle.xs_model.specs.Note.{is_count}
use Rattle.xs_model.specs.State.{BlockState, Machine, changed}
use Rattle.xs_model.specs.Outer.{is_held, is_blocked, wake, woken, let_go, continued, bear, born, signalled, buffer_of, registers_set, buffer_filled, outer_reach, stage_left, task_left, outer_own}
use Rattle.xs_model.proofs.Bookkeeping.{weight, running, work_by, work, total, is_waiting, waiters}
use Rattle.xs_model.proofs.LineCosts.{weight_two, body_spent}
use Rattle.xs_model.proofs.EventTurns.{changed_same, changed_other, filled_stage}
use Rattle.xs_model.proofs.BlockSums.{total_changed, total_map, total_grows, waiters_changed, waiters_same, waiters_map, OneWaits}
use Rattle.xs_model.proofs.ReachCosts.{woken_cost, continued_cost, signalled_cost, born_cost, set_keeps_place, set_cost, filled_place, filled_cost, woken_wakes}
use Rattle.xs_model.proofs.StepCosts.{Pays}

-- ---- the block in its turn, after the effects on the blocks

-- The block is still in its turn, at the same place.
record StillTurning (mid : List BlockState) (t cpu ran : ℕ) (task : PrivateTask) : Type 0 where
  pub state : BlockState
  pub at : slice_get mid t ≡ Some state
  pub stage : state.stage ≡ Turn cpu ran
  pub handling : state.task.handling ≡ task.handling
  pub place : state.task.place ≡ task.place

-- An effect that leaves the block there.
record Steady (f : BlockState → BlockState) (state : BlockState) : Type 0 where
  pub stage : (f state).stage ≡ state.stage
  pub handling : (f state).task.handling ≡ state.task.handling
  pub place : (f state).task.place ≡ state.task.place

-- where nothing changed
still_same : (blocks : List BlockState) (t cpu ran : ℕ) (state : BlockState) → slice_get blocks t ≡ Some state → state.stage ≡ Turn cpu ran → StillTurning blocks t cpu ran state.task
still_same blocks t cpu ran state at stage = record { state = state; at = at; stage = stage; handling = refl; place = refl }

-- where one block changed
still_changed : (blocks : List BlockState) (i t cpu ran : ℕ) (f : BlockState → BlockState) (state : BlockState) → Steady f state → slice_get blocks t ≡ Some state → state.stage ≡ Turn cpu ran → StillTurning (changed i f blocks) t cpu ran state.task
still_changed blocks i t cpu ran f state steady at stage = ⊎_elim
    (λ (same : i ≡ t). record { state = f state; at = ap (λ (x : ℕ). slice_get (changed x f blocks) t) same ∙ changed_same t f blocks ∙ ap (option_map f) at; stage = steady.stage ∙ stage; handling = steady.handling; place = steady.place })
    (λ (other : i ≡ t → ⊥). record { state = state; at = changed_other i t f blocks other ∙ at; stage = stage; handling = refl; place = refl })
    (cases_eq i t)

-- where each block changed
still_map : (blocks : List BlockState) (t cpu ran : ℕ) (f : BlockState → BlockState) (state : BlockState) → Steady f state → slice_get blocks t ≡ Some state → state.stage ≡ Turn cpu ran → StillTurning (map f blocks) t cpu ran state.task
still_map blocks t cpu ran f state steady at stage = record { state = f state; at = slice_get-map f blocks t ∙ ap (option_map f) at; stage = steady.stage ∙ stage; handling = steady.handling; place = steady.place }

-- ---- a line that is done

-- a line that is done pays for itself, for what its effect adds to others, and for one waiter
line_pays : (h k : ℕ) (script : Script) (old mid : List BlockState) (t cpu ran : ℕ) (lines : Block) (task : PrivateTask) (order : Order) (s : Stage) (f : BlockState → BlockState) → StillTurning mid t cpu ran task
    → slice_get script.blocks t ≡ Some lines → task.handling ≡ false → slice_get lines.body task.place ≡ Some order → 2 + k ≤ weight h order.command
    → total h script.blocks mid ≤ total h script.blocks old + k → waiters old ≤ waiters mid + 1
    → is_waiting s ≡ 0 → ((b : BlockState) → (f b).stage ≡ s) → ((b : BlockState) → work_by h lines (f b).task (f b).pending s ≤ running h lines (next_line b.task) b.pending)
    → Pays h script.blocks old (changed t f mid)
line_pays h k script old mid t cpu ran lines task order s f still known outside at heavy grown woke quiet stage cheap =
    let state = still.state in
    let outside_there : state.task.handling ≡ false = still.handling ∙ outside in
    let at_there : slice_get lines.body state.task.place ≡ Some order = ap (slice_get lines.body) still.place ∙ at in
    let spent = body_spent h lines state.task state.pending order outside_there at_there in
    let sum = total_changed h t f script.blocks mid lines state known still.at in
    let wait = waiters_changed t f mid state still.at in
    let before : work h lines state ≡ running h lines state.task state.pending = ap (work_by h lines state.task state.pending) still.stage in
    let after : work h lines (f state) ≡ work_by h lines (f state).task (f state).pending s = ap (work_by h lines (f state).task (f state).pending) (stage state) in
    let less = cheap state in
    let was : is_waiting state.stage ≡ 0 = ap is_waiting still.stage in
    let now : is_waiting (f state).stage ≡ 0 = ap is_waiting (stage state) ∙ quiet in
    omega arith

-- An effect that costs at most k, and wakes one waiter at most.
record Mild (h k : ℕ) (rest : List Block) (old mid : List BlockState) (t cpu ran : ℕ) (task : PrivateTask) : Type 0 where
  pub still : StillTurning mid t cpu ran task
  pub grown : total h rest mid ≤ total h rest old + k
  pub woke : waiters old ≤ waiters mid + 1

-- no effect
mild_same : (h k : ℕ) (rest : List Block) (old : List BlockState) (t cpu ran : ℕ) (state : BlockState) → slice_get old t ≡ Some state → state.stage ≡ Turn cpu ran → Mild h k rest old old t cpu ran state.task
mild_same h k rest old t cpu ran state at stage = record { still = still_same old t cpu ran state at stage; grown = omega arith; woke = omega arith }

-- an effect on one block
mild_changed : (h k i : ℕ) (f : BlockState → BlockState) (rest : List Block) (old : List BlockState) (t cpu ran : ℕ) (state : BlockState) → slice_get old t ≡ Some state → state.stage ≡ Turn cpu ran → Steady f state
    → ((lines : Block) (block : BlockState) → work h lines (f block) ≤ work h lines block + k) → ((block : BlockState) → is_waiting (f block).stage ≡ is_waiting block.stage) → Mild h k rest old (changed i f old) t cpu ran state.task
mild_changed h k i f rest old t cpu ran state at stage steady cost same =
    let grown = total_grows h k i f cost rest old in
    let waiting = waiters_same f same i old in
    record { still = still_changed old i t cpu ran f state steady at stage; grown = grown; woke = omega arith }

-- an effect by a test
mild_if : (h k : ℕ) (b : Bool) (rest : List Block) (old mid : List BlockState) (t cpu ran : ℕ) (task : PrivateTask) → Mild h k rest old mid t cpu ran task → Mild h k rest old old t cpu ran task → Mild h k rest old (if b then mid else old) t cpu ran task
mild_if h k true rest old mid t cpu ran task one two = one
mild_if h k false rest old mid t cpu ran task one two = two

-- ---- the effects leave the block in its turn

-- to go on
continued_steady : (state : BlockState) (cpu ran : ℕ) → state.stage ≡ Turn cpu ran → Steady continued state
continued_steady state cpu ran stage = record { stage = ap (let_go true) stage ∙ sym stage; handling = refl; place = refl }

-- to be woken
woken_steady : (t : ℕ) (state : BlockState) (cpu ran : ℕ) → state.stage ≡ Turn cpu ran → Steady (woken t) state
woken_steady t state cpu ran stage = record { stage = ap (wake t) stage ∙ sym stage; handling = refl; place = refl }

-- a block in a turn is born already
pub turning_born : (t : ℕ) (parent : Option BlockState) (state : BlockState) (cpu ran : ℕ) → state.stage ≡ Turn cpu ran → born t parent state ≡ state
turning_born t None state cpu ran stage = refl
turning_born t (Some parent) state cpu ran stage = ap (λ (s : Stage). bear t parent.task s state) stage

-- to be born
born_steady : (t : ℕ) (parent : Option BlockState) (state : BlockState) (cpu ran : ℕ) → state.stage ≡ Turn cpu ran → Steady (born t parent) state
born_steady t parent state cpu ran stage =
    let same = turning_born t parent state cpu ran stage in
    record { stage = ap (λ (b : BlockState). b.stage) same; handling = ap (λ (b : BlockState). b.task.handling) same; place = ap (λ (b : BlockState). b.task.place) same }

-- ---- none of them wakes a waiter but by an end or a stop

-- a birth by the stage
bear_waits : (t : ℕ) (parent : PrivateTask) (s : Stage) (block : BlockState) → block.stage ≡ s → is_waiting (bear t parent s block).stage ≡ is_waiting s
bear_waits t parent Unborn block is = refl
bear_waits t parent Ready block is = ap is_waiting is
bear_waits t parent (Turn cpu ran) block is = ap is_waiting is
bear_waits t parent Stopped block is = ap is_waiting is
bear_waits t parent (Waiting child) block is = ap is_waiting is
bear_waits t parent Ended block is = ap is_waiting is

-- a birth
born_waits : (t : ℕ) (parent : Option BlockState) (block : BlockState) → is_waiting (born t parent block).stage ≡ is_waiting block.stage
born_waits t None block = refl
born_waits t (Some parent) block = bear_waits t parent.task block.stage block refl

-- to go on
continued_waits : (s : Stage) → is_waiting (let_go true s) ≡ is_waiting s
continued_waits Unborn = refl
continued_waits Ready = refl
continued_waits (Turn cpu ran) = refl
continued_waits Stopped = refl
continued_waits (Waiting child) = refl
continued_waits Ended = refl

-- ---- the commands

-- Block t is at a line of its body.
pub record AtLine (m : Machine) (t : ℕ) (order : Order) : Type 0 where
  pub state : BlockState
  pub lines : Block
  pub cpu : ℕ
  pub ran : ℕ
  pub at : slice_get m.blocks t ≡ Some state
  pub known : slice_get m.script.blocks t ≡ Some lines
  pub stage : state.stage ≡ Turn cpu ran
  pub outside : state.task.handling ≡ false
  pub here : slice_get lines.body state.task.place ≡ Some order

-- the command pays
abbrev pub PaysOuter : ℕ → Machine → ℕ → Command → Reply → Type 0
PaysOuter h m t command reply = Pays h m.script.blocks m.blocks (changed t (outer_own m.script (Some command) reply) (outer_reach m.script t (Some command) reply m.blocks))

-- a command after which the next line comes
done_pays : (h k : ℕ) (m : Machine) (t : ℕ) (order : Order) (command : Command) (reply : Reply) (mid : List BlockState) (a : AtLine m t order) → Mild h k m.script.blocks m.blocks mid t a.cpu a.ran a.state.task → 2 + k ≤ weight h order.command
    → (s : Stage) → stage_left m.script command reply ≡ s → is_waiting s ≡ 0 → ((lines : Block) (task : PrivateTask) (pending : List Signo) → work_by h lines task pending s ≡ running h lines task pending) → ((task : PrivateTask) → task_left command reply task ≡ next_line task)
    → Pays h m.script.blocks m.blocks (changed t (outer_own m.script (Some command) reply) mid)
done_pays h k m t order command reply mid a mild heavy s left quiet plain done = line_pays h k m.script m.blocks mid t a.cpu a.ran a.lines a.state.task order s (outer_own m.script (Some command) reply) mild.still a.known a.outside a.here heavy mild.grown mild.woke quiet (λ b. left)
    (λ b.
    let f = outer_own m.script (Some command) reply in
    let one = plain a.lines (f b).task (f b).pending in
    let two : running h a.lines (f b).task (f b).pending ≡ running h a.lines (next_line b.task) b.pending = ap (λ (x : PrivateTask). running h a.lines (parked x) b.pending) (done b.task) in
    omega arith)

-- a command after which the block is ready
ready_pays : (h k : ℕ) (m : Machine) (t : ℕ) (order : Order) (command : Command) (reply : Reply) (mid : List BlockState) (a : AtLine m t order) → Mild h k m.script.blocks m.blocks mid t a.cpu a.ran a.state.task → 2 + k ≤ weight h order.command
    → stage_left m.script command reply ≡ Ready → ((task : PrivateTask) → task_left command reply task ≡ next_line task)
    → Pays h m.script.blocks m.blocks (changed t (outer_own m.script (Some command) reply) mid)
ready_pays h k m t order command reply mid a mild heavy left done = done_pays h k m t order command reply mid a mild heavy Ready left refl (λ lines task pending. refl) done

-- one that reaches one block, where it is accepted, at no cost
one_pays : (h i : ℕ) (m : Machine) (t : ℕ) (order : Order) (command : Command) (reply : Reply) (a : AtLine m t order) (f : BlockState → BlockState) → Steady f a.state
    → ((lines : Block) (block : BlockState) → work h lines (f block) ≤ work h lines block + 0) → ((block : BlockState) → is_waiting (f block).stage ≡ is_waiting block.stage)
    → stage_left m.script command reply ≡ Ready → ((task : PrivateTask) → task_left command reply task ≡ next_line task) → (accepted : Bool)
    → Pays h m.script.blocks m.blocks (changed t (outer_own m.script (Some command) reply) (if accepted then changed i f m.blocks else m.blocks))
one_pays h i m t order command reply a f steady cost same left done accepted = ready_pays h 0 m t order command reply (if accepted then changed i f m.blocks else m.blocks) a
    (mild_if h 0 accepted m.script.blocks m.blocks (changed i f m.blocks) t a.cpu a.ran a.state.task
    (mild_changed h 0 i f m.script.blocks m.blocks t a.cpu a.ran a.state a.at a.stage steady cost same)
    (mild_same h 0 m.script.blocks m.blocks t a.cpu a.ran a.state a.at a.stage))
    (let two = weight_two h order.command in omega arith) left done

-- one that reaches none
alone_pays : (h : ℕ) (m : Machine) (t : ℕ) (order : Order) (command : Command) (reply : Reply) (a : AtLine m t order) → stage_left m.script command reply ≡ Ready → ((task : PrivateTask) → task_left command reply task ≡ next_line task)
    → Pays h m.script.blocks m.blocks (changed t (outer_own m.script (Some command) reply) m.blocks)
alone_pays h m t order command reply a left done = ready_pays h 0 m t order command reply m.blocks a (mild_same h 0 m.script.blocks m.blocks t a.cpu a.ran a.state a.at a.stage) (let two = weight_two h order.command in omega arith) left done

-- a wait that blocks
blocked_pays : (h : ℕ) (m : Machine) (t : ℕ) (name : List ℕ) (order : Order) (a : AtLine m t order) (reply : Reply) → is_blocked reply ≡ true → PaysOuter h m t (commands.Wait name) reply
blocked_pays h m t name order a reply blocked =
    let f = outer_own m.script (Some (commands.Wait name)) reply in
    let sum = total_changed h t f m.script.blocks m.blocks a.lines a.state a.known a.at in
    let wait = waiters_changed t f m.blocks a.state a.at in
    let s : (f a.state).stage ≡ Waiting (block_named m.script name) = ap (λ (b : Bool). if b then Waiting (block_named m.script name) else Ready) blocked in
    let k : (f a.state).task ≡ parked a.state.task = ap (λ (b : Bool). parked (if b then a.state.task else next_line a.state.task)) blocked in
    let after : work h a.lines (f a.state) ≡ running h a.lines a.state.task a.state.pending =
    ap (λ (x : Stage). work_by h a.lines (f a.state).task a.state.pending x) s ∙ ap (λ (x : PrivateTask). running h a.lines x a.state.pending) k in
    let before : work h a.lines a.state ≡ running h a.lines a.state.task a.state.pending = ap (work_by h a.lines a.state.task a.state.pending) a.stage in
    let was : is_waiting a.state.stage ≡ 0 = ap is_waiting a.stage in
    let now : is_waiting (f a.state).stage ≡ 1 = ap is_waiting s in
    omega arith

-- one that doesn't
awaited_pays : (h : ℕ) (m : Machine) (t : ℕ) (name : List ℕ) (order : Order) (a : AtLine m t order) (reply : Reply) → is_blocked reply ≡ false → PaysOuter h m t (commands.Wait name) reply
awaited_pays h m t name order a reply awake = alone_pays h m t order (commands.Wait name) reply a
    (ap (λ (b : Bool). if b then Waiting (block_named m.script name) else Ready) awake) (λ task. ap (λ (b : Bool). if b then task else next_line task) awake)

-- a stop, by whether its tracer has it
stopped_pays : (h : ℕ) (m : Machine) (t : ℕ) (order : Order) (a : AtLine m t order) → OneWaits m.blocks t → (reply : Reply) (held : Bool) → is_held reply ≡ held → Pays h m.script.blocks m.blocks (changed t (outer_own m.script (Some commands.Stop) reply) (if held then map (woken t) m.blocks else m.blocks))
stopped_pays h m t order a alone reply true is =
    let less = total_map h (woken t) (woken_cost h t) m.script.blocks m.blocks in
    let woke = waiters_map t (woken t) (woken_wakes t) m.blocks alone in
    done_pays h 0 m t order commands.Stop reply (map (woken t) m.blocks) a
    (record { still = still_map m.blocks t a.cpu a.ran (woken t) a.state (woken_steady t a.state a.cpu a.ran a.stage) a.at a.stage; grown = omega arith; woke = woke })
    (let two = weight_two h order.command in omega arith) Stopped (ap (λ (b : Bool). if b then Stopped else Ready) is) refl (λ lines task pending. refl) (λ task. refl)
stopped_pays h m t order a alone reply false is = alone_pays h m t order commands.Stop reply a (ap (λ (b : Bool). if b then Stopped else Ready) is) (λ task. refl)

-- a signal
killed_pays : (h : ℕ) (m : Machine) (t : ℕ) (name : List ℕ) (signo : Signo) (order : Order) (a : AtLine m t order) (reply : Reply) → order.command ≡ commands.Kill name signo → PaysOuter h m t (commands.Kill name signo) reply
killed_pays h m t name signo order a reply is =
    let i = block_named m.script name in
    let heavy : weight h order.command ≡ 2 + h = ap (weight h) is in
    ready_pays h h m t order (commands.Kill name signo) reply (if is_count reply then changed i (signalled signo) m.blocks else m.blocks) a
    (mild_if h h (is_count reply) m.script.blocks m.blocks (changed i (signalled signo) m.blocks) t a.cpu a.ran a.state.task
    (mild_changed h h i (signalled signo) m.script.blocks m.blocks t a.cpu a.ran a.state a.at a.stage (record { stage = refl; handling = refl; place = refl }) (signalled_cost h signo) (λ block. refl))
    (mild_same h h m.script.blocks m.blocks t a.cpu a.ran a.state a.at a.stage))
    (omega arith) refl (λ task. refl)

-- each command pays
pub outer_pays : (h : ℕ) (m : Machine) (t : ℕ) (order : Order) (a : AtLine m t order) → OneWaits m.blocks t → (command : Command) → order.command ≡ command → (reply : Reply) → PaysOuter h m t command reply
outer_pays h m t order a alone (commands.Fork name) is reply =
    one_pays h (block_named m.script name) m t order (commands.Fork name) reply a (born t (slice_get m.blocks t)) (born_steady t (slice_get m.blocks t) a.state a.cpu a.ran a.stage) (born_cost h t (slice_get m.blocks t)) (born_waits t (slice_get m.blocks t)) refl (λ task. refl) true
outer_pays h m t order a alone (commands.Kill name signo) is reply = killed_pays h m t name signo order a reply is
outer_pays h m t order a alone commands.Stop is reply = stopped_pays h m t order a alone reply (is_held reply) refl
outer_pays h m t order a alone (commands.Wait name) is reply = ⊎_elim
    (λ (yes : is_blocked reply ≡ true). blocked_pays h m t name order a reply yes)
    (λ (never : is_blocked reply ≡ false). awaited_pays h m t name order a reply never)
    (cases_Bool (is_blocked reply))
outer_pays h m t order a alone (commands.Getregs name set) is reply =
    let child = slice_get m.blocks (block_named m.script name) in
    let same = filled_place set child a.state in
    one_pays h t m t order (commands.Getregs name set) reply a (buffer_filled set child) (record { stage = filled_stage set child a.state; handling = same.handling; place = same.place })
    (filled_cost h set child) (λ block. ap is_waiting (filled_stage set child block)) refl (λ task. refl) (is_count reply)
outer_pays h m t order a alone (commands.Setregs name set count) is reply =
    let buffer = buffer_of (slice_get m.blocks t) in
    let same = set_keeps_place set (take count buffer) a.state.task in
    one_pays h (block_named m.script name) m t order (commands.Setregs name set count) reply a (registers_set set count buffer) (record { stage = refl; handling = same.handling; place = same.place })
    (set_cost h set count buffer) (λ block. refl) refl (λ task. refl) (is_count reply)
outer_pays h m t order a alone (commands.Cont name) is reply =
    one_pays h (block_named m.script name) m t order (commands.Cont name) reply a continued (continued_steady a.state a.cpu a.ran a.stage) (continued_cost h) (λ block. continued_waits block.stage) refl (λ task. refl) (is_count reply)
outer_pays h m t order a alone other is reply = alone_pays h m t order other reply a refl (λ task. refl)
