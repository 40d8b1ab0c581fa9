-- Which answer a processor gets that asks for a turn.
use Rattle.std.proofs.Common.{◌≡◌, ℕ, ◌<◌, Bool, true, false, ◌&&◌, List, [], ◌∷◌, length, refl, sym, ap, ◌∙◌, subst, arith, inl, inr, eq-eqb, ne_eqb, get_or}
use Rattle.std.proofs.lemmas.Bool.{cases_Bool, eqb-true}
use Rattle.std.proofs.lemmas.List.{get_or_default}
use Rattle.std.proofs.lemmas.Option.{slice_get_read, slice_get_within, same_Some}
use Rattle.std.specs.Prelude.{Option, Some, None, if◌then◌else◌, slice_get}
use Rattle.xs_base.specs.declared.words.How.{How}
use Rattle.xs_base.specs.declared.words.How.TheVariants.{Skip}
use Rattle.xs_model.specs.declared.script.Block.{Block}
use Rattle.xs_model.specs.declared.script.BlockKind.{BlockKind}
use Rattle.xs_model.specs.declared.stage.Stage.{Stage}
use Rattle.xs_model.specs.declared.stage.Stage.TheVariants.{Unborn, Ready, Turn, Stopped, Waiting, Ended}
use Rattle.xs_model.specs.Due.{how_of}
use Rattle.xs_model.specs.Held.{held}
use Rattle.xs_model.specs.Laws.{TwoNumbers, FirstReady, MachineKnown}
use Rattle.xs_model.specs.Note.{is_at, mark}
use Rattle.xs_model.specs.Script.{is_user, is_user_block, is_user_kind}
use Rattle.xs_model.specs.State.{is_active, is_on_cpu, is_ready, lives, none_lives, turn_cpu}
use Rattle.xs_task.specs.declared.task.Task.{Task}
use Rattle.xs_board.specs.Member.{Member, absent, emptied, life_of, member_at, member_of, next_signal}
use Rattle.xs_base.specs.declared.component.Row.{Row}
use Rattle.xs_base.specs.declared.words.Signo.{Signo}
use Rattle.xs_base.specs.Task.{PrivateTask}
use Rattle.xs_model.specs.Due.{first_signal, signal_of}
use Rattle.xs_model.specs.Machine.{later_signals, started}
use Rattle.xs_model.specs.State.{BlockState, task_of_state}
use Rattle.xs_board.specs.declared.member.Life.TheVariants.{Going}
use Rattle.xs_board.specs.Board.{Board, signal_at, signal_in, private_in, IsBoard, IsKeptBeside, IsTaskOf, HasHome, past_of, machine_in, ready_of, stage_in, turn_on, living}
use Rattle.xs_board.specs.Home.{IsHome, is_resting}
use Rattle.xs_board.specs.Laws.{Laws}
use Rattle.xs_board.specs.Taken.{HasOther, is_user_how}
use Rattle.xs_board.proofs.Blocks.{none_counted, tally_some}
use Rattle.xs_board.proofs.Runners.{is_on, runner_off}
use Rattle.xs_board.proofs.Taking.{MayTake, the_block}

-- no block is ready
pub nil_of_len : {A : Type 0} (xs : List A) → length xs ≡ 0 → xs ≡ []
nil_of_len [] none = refl
nil_of_len (x ∷ xs) none = absurd (omega arith)

-- none lives where none is counted, and one lives where some are
pub nobody_lives : (board : Board) (list : List ℕ) (capacity count : ℕ) (members : List Member) → IsKeptBeside board list capacity count members → count ≡ 0 → none_lives (machine_in board) ≡ true
nobody_lives board list capacity count members kept none = none_counted (machine_in board).blocks 0 ∙ eq-eqb (living board) 0 (sym kept.alive ∙ none)

-- one lives where some are counted
pub somebody_lives : (board : Board) (list : List ℕ) (capacity count : ℕ) (members : List Member) → IsKeptBeside board list capacity count members → (count ≡ 0 → ⊥) → none_lives (machine_in board) ≡ false
somebody_lives board list capacity count members kept some = none_counted (machine_in board).blocks 0 ∙ ne_eqb (living board) 0 (λ (e : living board ≡ 0). some (kept.alive ∙ e))

-- the first of the list is ready
pub first_ready : FirstReady → (board : Board) (list : List ℕ) (capacity count t : ℕ) (members : List Member) (rest : List ℕ) → IsBoard board → IsKeptBeside board list capacity count members → list ≡ t ∷ rest → stage_in board t ≡ Ready
first_ready law board list capacity count t members rest is kept front = law board.script (past_of board) t rest is.legal (sym kept.queue ∙ front)

-- it is one of the script's blocks
pub ready_known : MachineKnown → (board : Board) (t : ℕ) → stage_in board t ≡ Ready → t < length board.script.blocks
ready_known known board t ready =
    let b = the_block board t ready in
    let here = slice_get_within (machine_in board).blocks t b.0 b.1 in
    let same = (known board.script (past_of board)).2 in
    omega (arith, here, same)

-- it lives
pub ready_lives : (board : Board) (t : ℕ) → stage_in board t ≡ Ready → none_lives (machine_in board) ≡ false
ready_lives board t ready =
    let b = the_block board t ready in
    let some = tally_some (λ v stage. lives stage) 0 t t (machine_in board).blocks b.0 b.1 (omega arith) (ap lives b.2) in
    none_counted (machine_in board).blocks 0 ∙ ne_eqb (living board) 0 (λ (e : living board ≡ 0). omega arith)

-- its task is home
pub ready_home : MachineKnown → (board : Board) (t : ℕ) → IsBoard board → stage_in board t ≡ Ready → HasHome board t
ready_home known board t is ready = is.home t (ap is_resting ready) (ready_known known board t ready)

-- the kind of its block
pub user_kind : (board : Board) (t : ℕ) (block : Block) → t < length board.script.blocks → block ≡ get_or board.script.blocks t block → is_user board.script t ≡ is_user_kind block.kind
user_kind board t block known is = ap is_user_block (slice_get_read board.script.blocks (length board.script.blocks) t block refl known is)

-- the two numbers tell whether the registers are held
pub how_known : TwoNumbers → (board : Board) (t cpu : ℕ) (kind : BlockKind) (task : Task) (known : Option ℕ) (how : How) → IsBoard board → IsTaskOf board t task → is_user board.script t ≡ is_user_kind kind → known ≡ mark board.script (past_of board) cpu → how ≡ how_of (is_user_kind kind) (is_at known t && is_at task.last cpu) → how ≡ how_of (is_user board.script t) (held board.script (past_of board) cpu t)
how_known law board t cpu kind task known how is own kind_is known_is how_is = elim (cases_Bool (is_user board.script t)) [
  | inl user ↦
      how_is
      ∙ ap (λ (k : Bool). how_of k (is_at known t && is_at task.last cpu)) (sym kind_is)
      ∙ ap (λ (m : Option ℕ). how_of (is_user board.script t) (is_at m t && is_at task.last cpu)) known_is
      ∙ ap (λ (l : Option ℕ). how_of (is_user board.script t) (is_at (mark board.script (past_of board) cpu) t && is_at l cpu)) (own.last user)
      ∙ ap (how_of (is_user board.script t)) (sym (law board.script (past_of board) cpu t is.valid is.legal user))
  | inr thread ↦
      how_is
      ∙ ap (λ (k : Bool). how_of k (is_at known t && is_at task.last cpu)) (sym kind_is ∙ thread)
      ∙ sym (ap (λ (k : Bool). how_of k (held board.script (past_of board) cpu t)) thread)
]

-- a user task comes by a load or a skip, a kernel thread by neither
pub user_how : (user is_stopped_life : Bool) → is_user_how (how_of user is_stopped_life) ≡ user
user_how true true = refl
user_how true false = refl
user_how false true = refl
user_how false false = refl

-- a restore is left out only where both numbers say so
pub skip_held : (user is_stopped_life : Bool) → how_of user is_stopped_life ≡ Skip → is_stopped_life ≡ true
skip_held true true skip = refl
skip_held true false skip = absurd (cc skip)
skip_held false is_stopped_life skip = absurd (cc skip)

-- the number that is known
pub is_at_some : (known : Option ℕ) (x : ℕ) → is_at known x ≡ true → known ≡ Some x
is_at_some None x at = absurd (cc at)
is_at_some (Some y) x at = ap Some (eqb-true y x at)

-- the task that was home
pub home_task : MachineKnown → (board : Board) (t : ℕ) (task : Task) → IsBoard board → stage_in board t ≡ Ready → (slot : Option Task) → slot ≡ Some task → slot ≡ get_or board.home t slot → IsTaskOf board t task
home_task machine_is board t task is ready slot some there =
    let home = ready_home machine_is board t is ready in
    let known = ready_known machine_is board t ready in
    let count = is.count in
    let same : Some task ≡ Some home.0 = sym some ∙ there ∙ get_or_default board.home t slot None (omega arith) ∙ home.1 in
    subst (IsTaskOf board t) (same_Some home.0 task (sym same)) home.2

-- ---- the signal that it gets

-- what a start leaves of the pending signals
abbrev rest_after : Option Signo → List Signo → List Signo
rest_after None pending = pending
rest_after (Some signo) pending = later_signals pending

started_member : (cpu : ℕ) (signal : Option Signo) (block : BlockState) → member_of (Some (started cpu signal block)) ≡ record { life = Going; parent = block.parent; pending = rest_after signal block.pending }
started_member cpu None block = refl
started_member cpu (Some signo) block = refl

left_in : (handling : Bool) (parent : Option ℕ) (pending : List Signo) → emptied handling (record { life = Going; parent = parent; pending = pending }) ≡ record { life = Going; parent = parent; pending = rest_after (if handling then None else first_signal pending) pending }
left_in true parent pending = refl
left_in false parent [] = refl
left_in false parent (signo ∷ pending) = refl

-- none where none is pending
none_next : (handling : Bool) → (if handling then None else first_signal []) ≡ None
none_next true = refl
none_next false = refl

-- A user task knows whether its handler runs, and of a kernel thread no signal is pending.
next_is : Laws → (board : Board) (t : ℕ) (block : BlockState) (task : Task) → IsBoard board → IsTaskOf board t task → slice_get (machine_in board).blocks t ≡ Some block → (if task.handling then None else first_signal block.pending) ≡ signal_of block
next_is laws board t block task is own here = elim (cases_Bool (is_user board.script t)) [
  | inl user ↦
      let handling = handling_of (is_user board.script t) board.script.layout task (private_in board t) user own.stands in
      ap (λ (b : Bool). if b then None else first_signal block.pending) (handling ∙ ap (λ (b : Option BlockState). (task_of_state b).handling) here)
  | inr thread ↦
      let quiet = laws.threads board.script (past_of board) t block is.valid is.legal thread here in
      ap (λ (pending : List Signo). if task.handling then None else first_signal pending) quiet.0
      ∙ none_next task.handling
      ∙ sym (ap (λ (pending : List Signo). if block.task.handling then None else first_signal pending) quiet.0 ∙ none_next block.task.handling)
]
  where
    handling_of : (user : Bool) (rows : List Row) (task : Task) (private : PrivateTask) → user ≡ true → IsHome user rows task private → task.handling ≡ private.handling
    handling_of true rows task private user home = sym (ap (λ (p : PrivateTask). p.handling) home.parked.form)
    handling_of false rows task private user home = absurd (cc user)

-- what is kept beside it
member_there : Laws → (board : Board) (list : List ℕ) (capacity count t : ℕ) (members : List Member) (member : Member) → IsKeptBeside board list capacity count members → stage_in board t ≡ Ready → member ≡ get_or members t member → member ≡ member_at members t
member_there laws board list capacity count t members member kept ready there =
    let known = ready_known laws.machine board t ready in
    let each = kept.each in
    there ∙ get_or_default members t member absent (omega (arith, known, each))

-- the signal that it gives
signal_known : Laws → (board : Board) (list : List ℕ) (capacity count t : ℕ) (members : List Member) (member : Member) (task : Task) → IsBoard board → IsKeptBeside board list capacity count members → IsTaskOf board t task → stage_in board t ≡ Ready → member ≡ get_or members t member → next_signal task.handling member ≡ signal_in board t
signal_known laws board list capacity count t members member task is kept own ready there =
    let b = the_block board t ready in
    ap (next_signal task.handling) (member_there laws board list capacity count t members member kept ready there ∙ kept.member t ∙ ap member_of b.1) ∙ next_is laws board t b.0 task is own b.1 ∙ sym (ap signal_at b.1)

-- what stays in it
pub member_known : Laws → (board : Board) (list : List ℕ) (capacity count t cpu : ℕ) (members : List Member) (member : Member) (task : Task) (signal : Option Signo) → IsBoard board → IsKeptBeside board list capacity count members → IsTaskOf board t task
    → (ready : stage_in board t ≡ Ready) → member ≡ get_or members t member → signal ≡ signal_in board t → emptied task.handling member ≡ member_of (Some (started cpu signal (the_block board t ready).0))
member_known laws board list capacity count t cpu members member task signal is kept own ready there signal_is =
    let b = the_block board t ready in
    ap (emptied task.handling) (member_there laws board list capacity count t members member kept ready there ∙ kept.member t ∙ ap member_of b.1 ∙ ap (λ (s : Stage). record { life = life_of s; parent = (b.0).parent; pending = (b.0).pending }) b.2)
    ∙ left_in task.handling (b.0).parent (b.0).pending
    ∙ ap (λ (signal : Option Signo). record { life = Going; parent = (b.0).parent; pending = rest_after signal (b.0).pending }) (next_is laws board t b.0 task is own b.1 ∙ sym (signal_is ∙ ap signal_at b.1))
    ∙ sym (started_member cpu signal b.0)

-- a kernel thread gets none
pub thread_quiet : Laws → (board : Board) (t : ℕ) → IsBoard board → stage_in board t ≡ Ready → is_user board.script t ≡ false → signal_in board t ≡ None
thread_quiet laws board t is ready thread =
    let b = the_block board t ready in
    ap signal_at b.1 ∙ ap (λ (pending : List Signo). if (b.0).task.handling then None else first_signal pending) (laws.threads board.script (past_of board) t b.0 is.valid is.legal thread b.1).0 ∙ none_next (b.0).task.handling

-- The first of the list may start, with its task.
pub may_take : Laws → (board : Board) (list : List ℕ) (capacity count t : ℕ) (members : List Member) (rest : List ℕ) (cpu : ℕ) (block : Block) (slot : Option Task) (task : Task) (known : Option ℕ) (how : How) (member : Member) (signal : Option Signo)
    → IsBoard board → IsKeptBeside board list capacity count members → list ≡ t ∷ rest
    → slot ≡ Some task → slot ≡ get_or board.home t slot → block ≡ get_or board.script.blocks t block
    → cpu < board.script.cpus → turn_on board cpu ≡ None → known ≡ mark board.script (past_of board) cpu
    → how ≡ how_of (is_user_kind block.kind) (is_at known t && is_at task.last cpu) → member ≡ get_or members t member → signal ≡ next_signal task.handling member
    → MayTake board t cpu rest how signal × IsTaskOf board t task
may_take laws board list capacity count t members rest cpu block slot task known how member signal is kept front some there block_is processor free known_is how_is member_is signal_is =
    let ready = first_ready laws.first board list capacity count t members rest is kept front in
    let own = home_task laws.machine board t task is ready slot some there in (
      record {
        is_board = is;
        first = sym kept.queue ∙ front;
        ready = ready;
        processor = processor;
        free = free;
        how_is = how_known laws.numbers board t cpu block.kind task known how is own (user_kind board t block (ready_known laws.machine board t ready) block_is) known_is how_is;
        signal_is = signal_is ∙ signal_known laws board list capacity count t members member task is kept own ready member_is;
      },
      own,
    )

-- ---- a turn elsewhere

-- who is active and not ready is in a turn
in_turn : (stage : Stage) → is_active stage ≡ true → is_ready stage ≡ false → (cpu : ℕ) × (turn_cpu stage ≡ Some cpu)
in_turn Unborn active off = absurd (cc active)
in_turn Ready active off = absurd (cc off)
in_turn (Turn cpu ran) active off = (cpu, refl)
in_turn Stopped active off = absurd (cc active)
in_turn (Waiting child) active off = absurd (cc active)
in_turn Ended active off = absurd (cc active)

-- the turn of a block is one on its processor
turn_there : (board : Board) (u c : ℕ) → turn_cpu (stage_in board u) ≡ Some c → (v : ℕ) × (turn_on board c ≡ Some v)
turn_there board u c turn = found (turn_on board c) refl
  where
    found : (on : Option ℕ) → turn_on board c ≡ on → (v : ℕ) × (turn_on board c ≡ Some v)
    found None none =
        let off = runner_off c 0 (machine_in board).blocks none u in
        let on : is_on c (machine_in board).blocks u ≡ true = ap (is_on_cpu c) turn ∙ eq-eqb c c refl in
        absurd (cc (on, off))
    found (Some v) some = (v, some)

-- Where no block is ready and one lives, another processor has a turn.
pub other_has : Laws → (board : Board) (cpu : ℕ) → IsBoard board → ready_of board ≡ [] → none_lives (machine_in board) ≡ false → turn_on board cpu ≡ None → HasOther board cpu
other_has laws board cpu is empty lives free =
    let one = laws.stuck board.script (past_of board) is.valid is.legal lives in
    let turn = in_turn (stage_in board one.0) one.1 (laws.nobody board.script (past_of board) one.0 is.legal empty) in
    let there = turn_there board one.0 turn.0 turn.1 in
    record {
      other = turn.0;
      apart = λ (same : turn.0 ≡ cpu). let none : turn_on board turn.0 ≡ None = ap (turn_on board) same ∙ free in let some = there.1 in cc (none, some);
      task = there.0;
      turn = there.1;
    }
