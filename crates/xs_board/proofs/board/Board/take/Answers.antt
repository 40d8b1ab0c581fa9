-- The board without the task, and the answer.
use Rattle.std.proofs.Common.{◌≡◌, ℕ, ◌&&◌, List, [], ◌∷◌, ◌++◌, length, reverse, slice_set, Some, None, refl, sym, ap, ◌∙◌, subst, arith, get_or}
use Rattle.std.proofs.lemmas.Bool.{and_parts}
use Rattle.std.proofs.lemmas.List.{get_or_default, get_or-set_other, length-set}
use Rattle.xs_model.specs.declared.script.Block.{Block}
use Rattle.std.specs.Prelude.{vec_capacity, slice_get}
use Rattle.std.specs.VecDeque.{deque_capacity}
use Rattle.xs_base.specs.declared.words.How.{How}
use Rattle.xs_model.specs.declared.event.Event.{Event}
use Rattle.xs_model.specs.declared.event.Event.TheVariants as events
use Rattle.xs_model.specs.declared.stage.Stage.TheVariants as stages
use Rattle.xs_model.specs.Machine.{machine}
use Rattle.xs_model.specs.Due.{how_of}
use Rattle.xs_model.specs.Held.{held}
use Rattle.xs_model.specs.Note.{is_at}
use Rattle.xs_model.specs.Script.{is_user, is_user_kind}
use Rattle.xs_model.specs.State.{stage_at, task_of_state}
use Rattle.xs_base.specs.declared.words.Signo.{Signo}
use Rattle.std.specs.Prelude.{Option}
use Rattle.xs_board.specs.Board.{Board, begun, signal_in, IsKeptBeside, IsTaskOf, past_of, private_in}
use Rattle.xs_board.specs.Taken.{is_user_how}
use Rattle.xs_board.proofs.Following.{start_next}
use Rattle.xs_board.proofs.Asking.{member_known, thread_quiet, nil_of_len, nobody_lives, somebody_lives, first_ready, ready_known, ready_lives, ready_home, may_take, other_has, user_how, skip_held, is_at_some}
use Rattle.xs_board.proofs.Moving.{reverse_onto_past}
use Rattle.xs_board.proofs.Taking.{MayTake, start_fits, taken_legal, taken_replay, taken_stage, taken_private, taken_others, taken_busy, taken_turns, board_taken, beside_taken}
use Rattle.xs_board.proofs.board.Board.take.Goals as goal
use Rattle.xs_board.proofs.board.Board.take.Goals.{then-self-eq0, else-self-eq0}

-- ---- no block is ready

abbrev before : goal.Joined-self-eq0 → Board
before c = record { script = c.self.inside.script; history = c.self.inside.events.items; home = c.self.inside.tasks.items; pool = c.self.inside.pool; room = vec_capacity c.self.inside.events }

pub returns-in_default-clause-nothing : goal.returns-in_default-clause-nothing
returns-in_default-clause-nothing c =
    let none : length c.self.inside.ready.items ≡ 0 = omega (arith, c.in_default.ensures.cases.0) in
    let empty = nil_of_len c.self.inside.ready.items none in
    elim c.if-self-eq0.branch [
      | then-self-eq0 w ↦ rw w.result-is tt
      | else-self-eq0 w ↦ rw (w.result-is, ← c.self.view_is) (sym c.self.invariant.1.queue ∙ empty, somebody_lives (before c) c.self.inside.ready.items (deque_capacity c.self.inside.ready) c.self.inside.living c.self.inside.members.items c.self.invariant.1 w.if-self-eq0.false)
    ]

pub returns-in_default-clause-idle : goal.returns-in_default-clause-idle
returns-in_default-clause-idle c =
    let none : length c.self.inside.ready.items ≡ 0 = omega (arith, c.in_default.ensures.cases.0) in
    let empty = nil_of_len c.self.inside.ready.items none in
    elim c.if-self-eq0.branch [
      | then-self-eq0 w ↦ rw w.result-is tt
      | else-self-eq0 w ↦ rw (w.result-is, ← c.self.view_is)
          (other_has c.machine_laws.ensures (before c) c.args.cpu c.self.invariant.0 (sym c.self.invariant.1.queue ∙ empty)
          (somebody_lives (before c) c.self.inside.ready.items (deque_capacity c.self.inside.ready) c.self.inside.living c.self.inside.members.items c.self.invariant.1 w.if-self-eq0.false)
          (rw (← c.self.view_is) at c.requires.free))
    ]

pub returns-in_default-clause-done : goal.returns-in_default-clause-done
returns-in_default-clause-done c =
    elim c.if-self-eq0.branch [
      | then-self-eq0 w ↦ rw (w.result-is, ← c.self.view_is) (nobody_lives (before c) c.self.inside.ready.items (deque_capacity c.self.inside.ready) c.self.inside.living c.self.inside.members.items c.self.invariant.1 w.if-self-eq0.true)
      | else-self-eq0 w ↦ rw w.result-is tt
    ]

pub bounds-as_slice-name : goal.bounds-as_slice-name
bounds-as_slice-name c =
    let board : Board = record { script = c.self.inside.script; history = c.self.inside.events.items; home = c.self.inside.tasks.items; pool = c.self.inside.pool; room = vec_capacity c.self.inside.events } in
    rw c.as_slice.ensures (ready_known c.machine_laws.ensures.machine board c.in-Some.name (first_ready c.machine_laws.ensures.first board c.self.inside.ready.items (deque_capacity c.self.inside.ready) c.self.inside.living c.in-Some.name c.self.inside.members.items c.pop_front.new.self.items c.self.invariant.0 c.self.invariant.1 c.in-Some.ensures.items))

pub bounds-as_slice-name-in-Some : goal.bounds-as_slice-name-in-Some
bounds-as_slice-name-in-Some c =
    let board : Board = record { script = c.self.inside.script; history = c.self.inside.events.items; home = c.self.inside.tasks.items; pool = c.self.inside.pool; room = vec_capacity c.self.inside.events } in
    rw c.as_slice.ensures (ready_known c.machine_laws.ensures.machine board c.in-Some.name (first_ready c.machine_laws.ensures.first board c.self.inside.ready.items (deque_capacity c.self.inside.ready) c.self.inside.living c.in-Some.name c.self.inside.members.items c.pop_front.new.self.items c.self.invariant.0 c.self.invariant.1 c.in-Some.ensures.items))

-- ---- the first ready block

pub index_mut-requires : goal.index_mut-requires
index_mut-requires c =
    let board : Board = record { script = c.self.inside.script; history = c.self.inside.events.items; home = c.self.inside.tasks.items; pool = c.self.inside.pool; room = vec_capacity c.self.inside.events } in
    let known = ready_known c.machine_laws.ensures.machine board c.in-Some.name (first_ready c.machine_laws.ensures.first board c.self.inside.ready.items (deque_capacity c.self.inside.ready) c.self.inside.living c.in-Some.name c.self.inside.members.items c.pop_front.new.self.items c.self.invariant.0 c.self.invariant.1 c.in-Some.ensures.items) in
    let count = c.self.invariant.0.count in
    omega arith

pub unreachable-requires : goal.unreachable-requires
unreachable-requires c =
    let board : Board = record { script = c.self.inside.script; history = c.self.inside.events.items; home = c.self.inside.tasks.items; pool = c.self.inside.pool; room = vec_capacity c.self.inside.events } in
    let ready = first_ready c.machine_laws.ensures.first board c.self.inside.ready.items (deque_capacity c.self.inside.ready) c.self.inside.living c.in-Some.name c.self.inside.members.items c.pop_front.new.self.items c.self.invariant.0 c.self.invariant.1 c.in-Some.ensures.items in
    let known = ready_known c.machine_laws.ensures.machine board c.in-Some.name ready in
    let count = c.self.invariant.0.count in
    let home = ready_home c.machine_laws.ensures.machine board c.in-Some.name c.self.invariant.0 ready in
    c.in_default-take.not-Some home.0 (c.take.ensures.value ∙ c.index_mut.ensures.value ∙ get_or_default c.self.inside.tasks.items c.in-Some.name c.index_mut.result.now None (omega arith) ∙ home.1)

pub tell-requires : goal.tell-requires
tell-requires c =
    let board : Board = record { script = c.self.inside.script; history = c.self.inside.events.items; home = c.self.inside.tasks.items; pool = c.self.inside.pool; room = vec_capacity c.self.inside.events } in
    let both = may_take c.machine_laws.ensures board c.self.inside.ready.items (deque_capacity c.self.inside.ready) c.self.inside.living c.in-Some.name c.self.inside.members.items c.pop_front.new.self.items c.args.cpu c.index-as_slice-name.result c.index_mut.result.now c.in-Some-take.task c.args.mark c.start_how-how.result c.index_mut-2.result.now c.take_next-signal.result
    c.self.invariant.0 c.self.invariant.1 c.in-Some.ensures.items (sym c.take.ensures.value ∙ c.in-Some-take.is) c.index_mut.ensures.value (c.index-as_slice-name.is ∙ ap (λ (blocks : List Block). get_or blocks c.in-Some.name c.index-as_slice-name.result) c.as_slice.ensures)
    (rw (← c.self.view_is) at c.requires.processor) (rw (← c.self.view_is) at c.requires.free) (rw (← c.self.view_is) at c.requires.mark)
    (c.start_how-how.ensures ∙ ap (λ (b : Block). how_of (is_user_kind b.kind) (is_at c.args.mark c.in-Some.name && is_at c.in-Some-take.task.last c.args.cpu)) (sym c.index-as_slice-name.is))
    c.index_mut-2.ensures.value c.take_next-signal.ensures.signal in
    record { room = start_fits c.machine_laws.ensures board c.in-Some.name c.args.cpu c.pop_front.new.self.items c.start_how-how.result c.take_next-signal.result both.0 }

-- ---- after its Start

abbrev old : goal.After-tell → Board
old c = record { script = c.self.inside.script; history = c.self.inside.events.items; home = c.self.inside.tasks.items; pool = c.self.inside.pool; room = vec_capacity c.self.inside.events }

abbrev t : goal.After-tell → ℕ
t c = c.in-Some.name

abbrev rest : goal.After-tell → List ℕ
rest c = c.pop_front.new.self.items

abbrev how : goal.After-tell → How
how c = c.start_how-how.result

abbrev signal : goal.After-tell → Option Signo
signal c = c.take_next-signal.result

abbrev history : goal.After-tell → List Event
history c = c.tell.new.events.items

-- the block may start, with its task
both : (c : goal.After-tell) → MayTake (old c) (t c) c.args.cpu (rest c) (how c) (signal c) × IsTaskOf (old c) (t c) c.in-Some-take.task
both c =
    may_take c.machine_laws.ensures (old c) c.self.inside.ready.items (deque_capacity c.self.inside.ready) c.self.inside.living c.in-Some.name c.self.inside.members.items c.pop_front.new.self.items c.args.cpu c.index-as_slice-name.result c.index_mut.result.now c.in-Some-take.task c.args.mark c.start_how-how.result c.index_mut-2.result.now c.take_next-signal.result
    c.self.invariant.0 c.self.invariant.1 c.in-Some.ensures.items (sym c.take.ensures.value ∙ c.in-Some-take.is) c.index_mut.ensures.value (c.index-as_slice-name.is ∙ ap (λ (blocks : List Block). get_or blocks c.in-Some.name c.index-as_slice-name.result) c.as_slice.ensures)
    (rw (← c.self.view_is) at c.requires.processor) (rw (← c.self.view_is) at c.requires.free) (rw (← c.self.view_is) at c.requires.mark)
    (c.start_how-how.ensures ∙ ap (λ (b : Block). how_of (is_user_kind b.kind) (is_at c.args.mark c.in-Some.name && is_at c.in-Some-take.task.last c.args.cpu)) (sym c.index-as_slice-name.is))
    c.index_mut-2.ensures.value c.take_next-signal.ensures.signal

name_is : (c : goal.After-tell) → c.in-Some-take.task.name ≡ t c
name_is c = (both c).1.name

told : (c : goal.After-tell) → history c ≡ (old c).history ++ events.Start (t c) c.args.cpu (how c) (signal c) ∷ []
told c = c.tell.ensures.told

pub invariant_of-self-2 : goal.invariant_of-self-2
invariant_of-self-2 c =
    let home = slice_set c.self.inside.tasks.items (t c) c.take.new.self in (
      board_taken c.machine_laws.ensures (old c) (t c) c.args.cpu (rest c) (how c) (signal c) (both c).0 (history c) (told c) home (vec_capacity c.tell.new.events)
          (length-set c.self.inside.tasks.items (t c) c.take.new.self)
          (λ (u : ℕ) (other : u ≡ t c → ⊥). get_or-set_other c.self.inside.tasks.items (t c) u c.take.new.self None other)
          c.tell.ensures.capacity,
      beside_taken c.machine_laws.ensures (old c) (t c) c.args.cpu (rest c) (how c) (signal c) (both c).0 (history c) (told c) home (vec_capacity c.tell.new.events) (deque_capacity c.pop_front.new.self) c.self.inside.living c.self.inside.members.items c.take_next-signal.new.self
          (subst (λ (list : List ℕ). IsKeptBeside (old c) list (deque_capacity c.pop_front.new.self) c.self.inside.living c.self.inside.members.items) c.in-Some.ensures.items
          (subst (λ (capacity : ℕ). IsKeptBeside (old c) c.self.inside.ready.items capacity c.self.inside.living c.self.inside.members.items) (sym c.pop_front.ensures.capacity) c.self.invariant.1))
          (c.take_next-signal.ensures.rest ∙ member_known c.machine_laws.ensures (old c) c.self.inside.ready.items (deque_capacity c.self.inside.ready) c.self.inside.living (t c) c.args.cpu c.self.inside.members.items c.index_mut-2.result.now c.in-Some-take.task (signal c) c.self.invariant.0 c.self.invariant.1 (both c).1 (both c).0.ready c.index_mut-2.ensures.value (both c).0.signal_is),
    )

pub returns-clause-turn : goal.returns-clause-turn
returns-clause-turn c =
    let script = c.self.inside.script in
    let past = past_of (old c) in
    let may = (both c).0 in
    rw (← c.self.view_is) (record {
      first = (rest c, may.first ∙ ap (λ (n : ℕ). n ∷ rest c) (sym (name_is c)));
      task = subst (λ (n : ℕ). IsTaskOf (old c) n c.in-Some-take.task) (sym (name_is c)) (both c).1;
      cpu_is = refl;
      how = subst (λ (n : ℕ). how c ≡ how_of (is_user script n) (held script past c.args.cpu n)) (sym (name_is c)) may.how_is;
      user = ap is_user_how may.how_is ∙ user_how (is_user script (t c)) (held script past c.args.cpu (t c)) ∙ ap (is_user script) (sym (name_is c));
      signal = may.signal_is ∙ ap (signal_in (old c)) (sym (name_is c));
      quiet = λ thread. may.signal_is ∙ thread_quiet c.machine_laws.ensures (old c) (t c) may.is_board may.ready (ap (is_user script) (sym (name_is c)) ∙ thread);
    })

pub returns-clause-lives : goal.returns-clause-lives
returns-clause-lives c = rw (← c.self.view_is) (ready_lives (old c) (t c) (both c).0.ready)

pub returns-clause-skip : goal.returns-clause-skip
returns-clause-skip c skip =
    let kind = (get_or c.as_slice.result.now (t c) c.index-as_slice-name.result).kind in
    let numbers = and_parts (is_at c.args.mark (t c)) (is_at c.in-Some-take.task.last c.args.cpu) (skip_held (is_user_kind kind) (is_at c.args.mark (t c) && is_at c.in-Some-take.task.last c.args.cpu) (sym c.start_how-how.ensures ∙ skip)) in
    (is_at_some c.args.mark (t c) numbers.0 ∙ ap Some (sym (name_is c)), is_at_some c.in-Some-take.task.last c.args.cpu numbers.1)

pub returns-clause-history : goal.returns-clause-history
returns-clause-history c = rw (← c.self.view_is) (told c ∙ ap (λ (n : ℕ). (old c).history ++ events.Start n c.args.cpu (how c) (signal c) ∷ []) (sym (name_is c)))

pub returns-clause-legal : goal.returns-clause-legal
returns-clause-legal c = taken_legal c.machine_laws.ensures (old c) (t c) c.args.cpu (rest c) (how c) (signal c) (both c).0 (history c) (told c)

pub returns-clause-replay : goal.returns-clause-replay
returns-clause-replay c = rw (← c.self.view_is) (taken_replay c.machine_laws.ensures (old c) (t c) c.args.cpu (rest c) (how c) (signal c) (both c).0 (history c) (told c))

pub returns-clause-stage : goal.returns-clause-stage
returns-clause-stage c = subst (λ (n : ℕ). stage_at (machine c.self.inside.script (reverse (history c))).blocks n ≡ stages.Turn c.args.cpu 0) (sym (name_is c)) (taken_stage c.machine_laws.ensures (old c) (t c) c.args.cpu (rest c) (how c) (signal c) (both c).0 (history c) (told c))

pub returns-clause-private : goal.returns-clause-private
returns-clause-private c = rw (← c.self.view_is) (subst (λ (n : ℕ). task_of_state (slice_get (machine c.self.inside.script (reverse (history c))).blocks n) ≡ begun (signal c) (private_in (old c) n)) (sym (name_is c)) (taken_private c.machine_laws.ensures (old c) (t c) c.args.cpu (rest c) (how c) (signal c) (both c).0 (history c) (told c)))

pub returns-clause-busy : goal.returns-clause-busy
returns-clause-busy c = taken_busy c.machine_laws.ensures (old c) (t c) c.args.cpu (rest c) (how c) (signal c) (both c).0 (history c) (told c) ∙ ap Some (sym (name_is c))

pub returns-clause-others : goal.returns-clause-others
returns-clause-others c = rw (← c.self.view_is) (λ u other. taken_others c.machine_laws.ensures (old c) (t c) c.args.cpu (rest c) (how c) (signal c) (both c).0 (history c) (told c) u (λ (same : u ≡ t c). other (same ∙ sym (name_is c))))

pub returns-clause-turns : goal.returns-clause-turns
returns-clause-turns c = rw (← c.self.view_is) (taken_turns c.machine_laws.ensures (old c) (t c) c.args.cpu (rest c) (how c) (signal c) (both c).0 (history c) (told c))

pub returns-clause-next : goal.returns-clause-next
returns-clause-next c =
    let laws = c.machine_laws.ensures in
    let may = (both c).0 in
    let new : Board = record { script = c.self.inside.script; history = history c; home = slice_set c.self.inside.tasks.items (t c) c.take.new.self; pool = c.self.inside.pool; room = vec_capacity c.tell.new.events } in
    rw (← c.self.view_is) (start_next (old c) new (t c) c.args.cpu (how c) (signal c) refl
    (ap reverse (told c) ∙ reverse_onto_past (events.Start (t c) c.args.cpu (how c) (signal c) ∷ []) (old c).history)
    may.ready
    (taken_others laws (old c) (t c) c.args.cpu (rest c) (how c) (signal c) may (history c) (told c))
    (taken_turns laws (old c) (t c) c.args.cpu (rest c) (how c) (signal c) may (history c) (told c)))
