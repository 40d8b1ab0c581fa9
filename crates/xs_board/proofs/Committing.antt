-- A board to which a task comes back after its turn.
use Rattle.std.proofs.Common.{◌≡◌, ℕ, ◌+◌, ◌<◌, ◌≤◌, Bool, true, false, ◌&&◌, List, [], ◌∷◌, ◌++◌, length, map, reverse, refl, sym, ap, ◌∙◌, subst, arith, eq-eqb, append_assoc}
use Rattle.std.proofs.lemmas.Bool.{eqb-true, false_from_ne_true}
use Rattle.std.proofs.lemmas.Option.{slice_get_within}
use Rattle.std.specs.Prelude.{Option, Some, None, IfSome, if◌then◌else◌, nat_lt, slice_get}
use Rattle.xs_area.specs.declared.area.Lease.{Lease}
use Rattle.xs_base.specs.declared.class.Class.{Class}
use Rattle.xs_base.specs.declared.class.Class.TheVariants.{Small, Large}
use Rattle.xs_base.specs.declared.component.Row.{Row}
use Rattle.xs_base.specs.KernelArea.{class_size}
use Rattle.xs_base.specs.Task.{PrivateTask}
use Rattle.xs_model.specs.declared.event.Event.{Event}
use Rattle.xs_model.specs.declared.script.Block.{Block}
use Rattle.xs_model.specs.declared.script.Script.{Script}
use Rattle.xs_model.specs.declared.stage.Stage.{Stage}
use Rattle.xs_model.specs.declared.stage.Stage.TheVariants.{Unborn, Turn}
use Rattle.xs_model.specs.Due.{large_count}
use Rattle.xs_model.specs.Laws.{MachineKnown}
use Rattle.xs_model.specs.Machine.{machine, may_act}
use Rattle.xs_model.specs.Replay.{entry, entry_of}
use Rattle.xs_model.specs.Script.{is_user}
use Rattle.xs_model.specs.State.{BlockState, is_on_cpu, lives, task_of_state, turn_cpu, turn_of}
use Rattle.xs_task.specs.declared.task.Task.{Task}
use Rattle.xs_task.specs.TaskArea.{has_large, is_large}
use Rattle.xs_board.specs.declared.turn.Entry.{Entry}
use Rattle.xs_board.specs.declared.turn.Close.{Close}
use Rattle.xs_board.specs.declared.turn.Close.TheVariants.{Quantum, Yield, Outer, Refused, Trap, End}
use Rattle.xs_board.specs.Board.{Board, IsBoard, IsKeptBeside, answer_in, areas, blocks_with, holds_area, machine_in, past_of, private_in, private_with, stage_in}
use Rattle.xs_board.specs.Home.{IsHome}
use Rattle.xs_board.specs.Laws.{Laws}
use Rattle.xs_board.specs.Member.{Member}
use Rattle.xs_board.specs.Putting.{is_outer}
use Rattle.xs_board.specs.Trapping.{fate_by}
use Rattle.xs_board.specs.Turn.{Answer, AreLines, close_reply, entry_event, past_with, task_after, trap_fate, turn_events}
use Rattle.xs_board.proofs.Blocks.{block_in, existing, tally_some}
use Rattle.xs_board.proofs.Events.{onto}
use Rattle.xs_board.proofs.Left.{HasLeft, turn_leaves, turn_told}
use Rattle.xs_board.proofs.Moving.{fits}
use Rattle.xs_board.proofs.Runners.{is_on, runner_is}
use Rattle.xs_board.proofs.Turning.{HasCome, IfOpen, IsTurning, past_closed, past_ran, turn_comes}

-- The turn that comes back: its lines and its close are the script's.
pub record MayCommit (board : Board) (t cpu : ℕ) (entries : List Entry) (close : Close) : Type 0 where
  pub is_board : IsBoard board
  pub turn : stage_in board t ≡ Turn cpu 0
  pub lines : AreLines board.script t (private_in board t) 0 entries close

-- the block in its turn
pub the_turn : (board : Board) (t cpu : ℕ) → stage_in board t ≡ Turn cpu 0 → (block : BlockState) × (slice_get (machine_in board).blocks t ≡ Some block) × (block.stage ≡ Turn cpu 0)
the_turn board t cpu turn = block_in (machine_in board).blocks t (Turn cpu 0) (λ (e : Turn cpu 0 ≡ Unborn). absurd (cc e)) turn

-- a block that the machine has is one of the script's
pub block_known : MachineKnown → (board : Board) (t : ℕ) (block : BlockState) → slice_get (machine_in board).blocks t ≡ Some block → t < length board.script.blocks
block_known known board t block at =
    let here = slice_get_within (machine_in board).blocks t block at in
    let same = (known board.script (past_of board)).2 in
    omega (arith, here, same)

-- the processor of the turn
on_is : (cpu : ℕ) (o : Option ℕ) → is_on_cpu cpu o ≡ true → o ≡ Some cpu
on_is cpu None on = absurd (cc on)
on_is cpu (Some c) on = ap Some (eqb-true c cpu on)

-- an unborn block has no room for TILEDATA
pub small_unborn : Laws → (board : Board) (t : ℕ) (block : BlockState) → IsBoard board → slice_get (machine_in board).blocks t ≡ Some block → block.stage ≡ Unborn → block.task.large ≡ false
small_unborn laws board t block is at unborn = false_from_ne_true block.task.large (λ (large : block.task.large ≡ true). (laws.large_known board.script (past_of board) t block is.valid is.legal at large).1 unborn)

module _ (laws : Laws) (board : Board) (t cpu : ℕ) (is : IsBoard board) (turn : stage_in board t ≡ Turn cpu 0) where
  abbrev block : BlockState
  block = (the_turn board t cpu turn).0

  pub here : slice_get (machine_in board).blocks t ≡ Some block
  here = (the_turn board t cpu turn).1

  pub stage_is : block.stage ≡ Turn cpu 0
  stage_is = (the_turn board t cpu turn).2

  -- its private task
  task_is : private_in board t ≡ block.task
  task_is = ap task_of_state here

  -- it is one of the script's blocks
  pub turn_in_range : t < length board.script.blocks
  turn_in_range = block_known laws.machine board t block here

  -- the block is on the processor
  turn_on_it : is_on cpu (machine_in board).blocks t ≡ true
  turn_on_it = ap (λ (s : Stage). is_on_cpu cpu (turn_cpu s)) turn ∙ eq-eqb cpu cpu refl

  -- no other block is in a turn there
  pub alone : (u : ℕ) → (u ≡ t → ⊥) → is_on cpu (machine_in board).blocks u ≡ false
  alone u other = false_from_ne_true (is_on cpu (machine_in board).blocks u) (λ (on : is_on cpu (machine_in board).blocks u ≡ true).
      other (laws.apart board.script (past_of board) cpu u t is.valid is.legal (on_is cpu (turn_of (machine_in board).blocks u) on) (ap turn_cpu turn)))

  -- some block lives
  pub turn_lives : (list : List ℕ) (capacity count : ℕ) (members : List Member) → IsKeptBeside board list capacity count members → 0 < count
  turn_lives list capacity count members kept =
      let some = tally_some (λ v stage. lives stage) 0 t t (machine_in board).blocks block here (omega arith) (ap lives stage_is) in
      let alive = kept.alive in
      omega (arith, some, alive)

  -- a user task in a turn has an area of the pool
  pub turn_has_area : is_user board.script t ≡ true → 0 < areas board
  turn_has_area user =
      tally_some (λ v stage. is_user board.script v && holds_area stage) 0 t t (machine_in board).blocks block here (omega arith) (ap (λ (s : Stage). is_user board.script t && holds_area s) stage_is ∙ ap (λ (u : Bool). u && true) user)

-- ---- its past

-- the past after events, in their order
onto_is : (events past : List Event) → onto events past ≡ reverse events ++ past
onto_is [] past = refl
onto_is (event ∷ events) past = onto_is events (event ∷ past) ∙ sym (ap (λ (all : List Event). all ++ past) (onto_is events (event ∷ [])) ∙ append_assoc (reverse events) (event ∷ []) past)

-- the past after the entries
ran_is : (t : ℕ) (entries : List Entry) (past : List Event) → past_ran t entries past ≡ past_with t entries past
ran_is t entries past = onto_is (map (entry_event t) entries) past

-- what holds of an outer line
of_open : (close : Close) (Holds : Type 0) → is_outer close ≡ true → IfOpen close Holds → Holds
of_open Quantum Holds is holds = absurd (cc is)
of_open Yield Holds is holds = absurd (cc is)
of_open (Outer line) Holds is holds = holds
of_open (Refused error) Holds is holds = absurd (cc is)
of_open Trap Holds is holds = absurd (cc is)
of_open End Holds is holds = absurd (cc is)

-- and of a line that traps
of_trap : (close : Close) (Holds : Type 0) → close ≡ Trap → IfOpen close Holds → Holds
of_trap Quantum Holds is holds = absurd (cc is)
of_trap Yield Holds is holds = absurd (cc is)
of_trap (Outer line) Holds is holds = absurd (cc is)
of_trap (Refused error) Holds is holds = absurd (cc is)
of_trap Trap Holds is holds = holds
of_trap End Holds is holds = absurd (cc is)

-- the reply goes by the blocks at an outer line alone
reply_same : (script : Script) (xs ys : List BlockState) (t : ℕ) (close : Close) → (is_outer close ≡ true → xs ≡ ys) → close_reply script xs t close ≡ close_reply script ys t close
reply_same script xs ys t Quantum same = refl
reply_same script xs ys t Yield same = refl
reply_same script xs ys t (Outer line) same = ap (λ (blocks : List BlockState). close_reply script blocks t (Outer line)) (same refl)
reply_same script xs ys t (Refused error) same = refl
reply_same script xs ys t Trap same = refl
reply_same script xs ys t End same = refl

module _ (laws : Laws) (board : Board) (t cpu : ℕ) (entries : List Entry) (close : Close) (may : MayCommit board t cpu entries close) where
  -- what the board answers
  abbrev pub answer : Answer
  answer = answer_in board t entries close

  -- the past after the turn
  abbrev pub later : List Event
  later = past_closed t entries close answer (past_of board)

  -- no line has run
  begun : (lines : Block) → slice_get board.script.blocks t ≡ Some lines → IsTurning board.script t cpu (past_of board) 0 (the_turn board t cpu may.turn).0 lines
  begun lines known = record {
    turn = record { state = (the_turn board t cpu may.turn).1; lines_are = known; stage = (the_turn board t cpu may.turn).2 };
    within = may.is_board.valid.quantum.0;
    acts = ap (λ (o : Option ℕ). may_act o t) may.is_board.closed;
    legal = may.is_board.legal;
  }

  -- the turn comes to its close
  pub comes : HasCome board.script (past_of board) t cpu 0 entries close answer (private_with board t entries) later
  comes =
      let same = task_is laws board t cpu may.is_board may.turn in
      let lines = existing board.script.blocks t (turn_in_range laws board t cpu may.is_board may.turn) in
      let script = board.script in
      let past = past_of board in
      subst (λ (x : PrivateTask). HasCome script past t cpu 0 entries close answer (task_after script t x entries) later) (sym same)
      (turn_comes laws script may.is_board.valid t cpu entries close answer past 0 (the_turn board t cpu may.turn).0 lines.0 (begun lines.0 lines.1)
      (subst (λ (x : PrivateTask). AreLines script t x 0 entries close) same may.lines)
      (ap (λ (all : List Event). close_reply script (machine script all).blocks t close) (sym (ran_is t entries past)))
      (ap (λ (all : List Event). trap_fate script (machine script all).blocks (private_with board t entries)) (sym (ran_is t entries past))
      ∙ ap (λ (x : PrivateTask). trap_fate script (machine script (past_ran t entries past)).blocks (task_after script t x entries)) same))

  -- the blocks at the close
  abbrev pub closing : List BlockState
  closing = (machine board.script comes.mid).blocks

  -- what it leaves
  pub leaves : HasLeft board.script (past_of board) later t cpu close answer (private_with board t entries) closing
  leaves = turn_leaves laws board.script may.is_board.valid t cpu (past_of board) later entries close answer (private_with board t entries) 0 comes

  -- they are those at its outer line
  pub closing_is : is_outer close ≡ true → closing ≡ blocks_with board t entries
  closing_is outer = ap (λ (all : List Event). (machine board.script all).blocks) (of_open close (comes.mid ≡ past_ran t entries (past_of board)) outer comes.mid_is ∙ ran_is t entries (past_of board))

  -- the line answers by them
  pub answer_is : answer.reply ≡ close_reply board.script closing t close
  answer_is = reply_same board.script (blocks_with board t entries) closing t close (λ outer. sym (closing_is outer))

  -- a line that traps has found as many Large areas out as the board has
  pub fate_is : close ≡ Trap → answer.fate ≡ fate_by (private_with board t entries).permitted (nat_lt (large_count (machine_in board).blocks) board.script.large)
  fate_is is =
      let with_lines : closing ≡ blocks_with board t entries = ap (λ (all : List Event). (machine board.script all).blocks) (of_trap close (comes.mid ≡ past_ran t entries (past_of board)) is comes.mid_is ∙ ran_is t entries (past_of board)) in
      let as_many : large_count (blocks_with board t entries) ≡ large_count (machine_in board).blocks = ap large_count (sym with_lines) ∙ comes.gone.large in
      ap (λ (n : ℕ). fate_by (private_with board t entries).permitted (nat_lt n board.script.large)) as_many

  -- there is room for its events
  pub turn_fits : length board.history + length (turn_events t entries close answer) ≤ board.room
  turn_fits = fits laws.few board.script board.history (turn_events t entries close answer) board.room may.is_board.valid leaves.legal may.is_board.room

  -- the replay tells the same
  pub turn_replays : entry board.script (past_of board) cpu ≡ later
  turn_replays =
      let within = comes.turning.within in
      let ran = comes.ran_is in
      ap (entry_of board.script cpu (past_of board)) (runner_is cpu 0 t t (machine_in board).blocks (omega arith) (turn_on_it laws board t cpu may.is_board may.turn) (alone laws board t cpu may.is_board may.turn))
      ∙ turn_told laws board.script may.is_board.valid t cpu (past_of board) later entries close answer (private_with board t entries) 0 comes (board.script.quantum + 1) (omega (arith, within, ran))

-- ---- the task that comes back

-- an area is Large where its task has room for TILEDATA
class_of : (class : Class) (large : Bool) → is_large class ≡ large → class ≡ (if large then Large else Small)
class_of Small large is = ap (λ (b : Bool). if b then Large else Small) is
class_of Large large is = ap (λ (b : Bool). if b then Large else Small) is

-- An area is that of a user task. It is of its task's class, and of that class's length.
pub lease_known : (user : Bool) (rows : List Row) (task : Task) (private : PrivateTask) → IsHome user rows task private → (lease : Lease) → task.lease ≡ Some lease → (user ≡ true) × (lease.class ≡ (if private.large then Large else Small)) × (length lease.area.bytes.items ≡ class_size rows lease.class)
lease_known true rows task private home lease is =
    (refl, class_of lease.class private.large (sym (ap has_large is) ∙ sym (ap (λ (x : PrivateTask). x.large) home.parked.form)), (home.whole.area lease is).len)
lease_known false rows task private home lease is = absurd (cc (home.lease, is))

-- a task without an area is a kernel thread
pub some_lease : (user : Bool) (rows : List Row) (task : Task) (private : PrivateTask) → IsHome user rows task private → task.lease ≡ None → user ≡ false
some_lease true rows task private home none = absurd (home.whole.some none)
some_lease false rows task private home none = refl

-- what holds of each area
pub for_lease : (slot : Option Lease) (P : Lease → Type 0) → ((lease : Lease) → slot ≡ Some lease → P lease) → IfSome slot P
for_lease None P each = tt
for_lease (Some lease) P each = each lease refl
