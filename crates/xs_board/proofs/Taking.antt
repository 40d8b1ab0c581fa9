-- A board that hands out its first ready block.
use Rattle.std.proofs.Common.{◌≡◌, ℕ, ◌+◌, ◌==◌, ◌<◌, ◌≤◌, Bool, false, ◌&&◌, List, [], ◌∷◌, ◌++◌, length, reverse, refl, sym, ap, ◌∙◌, subst, arith, inl, inr, eq-eqb, ne_eqb, length-append}
use Rattle.std.proofs.lemmas.Bool.{cases_eq}
use Rattle.std.proofs.lemmas.List.{length-set}
use Rattle.std.proofs.lemmas.Option.{slice_get_within}
use Rattle.std.specs.Prelude.{Option, Some, None, if◌then◌else◌, slice_get, slice_index_or, slice_set}
use Rattle.xs_base.specs.declared.words.How.{How}
use Rattle.xs_base.specs.declared.words.Signo.{Signo}
use Rattle.xs_model.specs.declared.event.Event.{Event}
use Rattle.xs_model.specs.declared.event.Event.TheVariants as events
use Rattle.xs_model.specs.declared.stage.Stage.{Stage}
use Rattle.xs_model.specs.declared.stage.Stage.TheVariants.{Unborn, Ready, Turn}
use Rattle.xs_model.specs.Bound.{most_events}
use Rattle.xs_model.specs.Due.{how_of, large_count}
use Rattle.xs_model.specs.Held.{held}
use Rattle.xs_model.specs.Machine.{machine, may_act, started, IsStep, IsLegalPast}
use Rattle.xs_model.specs.Note.{last}
use Rattle.xs_model.specs.Ready.{ready_list}
use Rattle.xs_model.specs.Replay.{entry, entry_of, begin, runner, told}
use Rattle.xs_model.specs.Script.{is_user}
use Rattle.xs_model.specs.State.{BlockState, lives, stage_at, stage_of, task_of_state, turn_cpu, is_on_cpu}
use Rattle.xs_task.specs.declared.task.Task.{Task}
use Rattle.xs_board.specs.Member.{Member, member_of}
use Rattle.xs_board.specs.Board.{Board, begun, signal_at, signal_in, IsBoard, IsKeptBeside, past_of, machine_in, ready_of, stage_in, private_in, turn_on, areas, holds_area, tally, one}
use Rattle.xs_board.specs.Home.{is_resting}
use Rattle.xs_board.specs.Laws.{Laws}
use Rattle.xs_board.specs.Starts.{AreInOrder}
use Rattle.xs_board.proofs.Blocks.{block_in, tally_point}
use Rattle.xs_board.proofs.Runners.{is_on, no_runner, runner_alike, runner_is, runner_off}
use Rattle.xs_board.proofs.Tests.{if_false}
use Rattle.xs_board.proofs.Members.{set_are}
use Rattle.xs_board.proofs.Moving.{reverse_onto_past, fits, as_many, home_stays}

-- The first of the ready list is ready, and what the start of its turn needs.
pub record MayTake (board : Board) (t cpu : ℕ) (rest : List ℕ) (how : How) (signal : Option Signo) : Type 0 where
  pub is_board : IsBoard board
  pub first : ready_of board ≡ t ∷ rest
  pub ready : stage_in board t ≡ Ready
  pub processor : cpu < board.script.cpus
  pub free : turn_on board cpu ≡ None
  pub how_is : how ≡ how_of (is_user board.script t) (held board.script (past_of board) cpu t)
  pub signal_is : signal ≡ signal_in board t

-- its event
abbrev pub start : ℕ → ℕ → How → Option Signo → Event
start t cpu how signal = events.Start t cpu how signal

-- the block that starts
pub the_block : (board : Board) (t : ℕ) → stage_in board t ≡ Ready → (block : BlockState) × (slice_get (machine_in board).blocks t ≡ Some block) × (block.stage ≡ Ready)
the_block board t ready = block_in (machine_in board).blocks t Ready (λ (e : Ready ≡ Unborn). absurd (cc e)) ready

-- what a start does to its block, with a signal or without
started_stage : (cpu : ℕ) (signal : Option Signo) (block : BlockState) → (started cpu signal block).stage ≡ Turn cpu 0
started_stage cpu None block = refl
started_stage cpu (Some signo) block = refl

started_task : (cpu : ℕ) (signal : Option Signo) (block : BlockState) → (started cpu signal block).task ≡ begun signal block.task
started_task cpu None block = refl
started_task cpu (Some signo) block = refl

-- Another block's last processor.
start_last : (t cpu u : ℕ) (older : Option ℕ) → (u ≡ t → ⊥) → (if t == u then Some cpu else older) ≡ older
start_last t cpu u older other = if_false (t == u) _ _ (ne_eqb t u (λ (same : t ≡ u). other (sym same)))

module _ (laws : Laws) (old : Board) (t cpu : ℕ) (rest : List ℕ) (how : How) (signal : Option Signo) (may : MayTake old t cpu rest how signal) where
  abbrev block : BlockState
  block = (the_block old t may.ready).0

  here : slice_get (machine_in old).blocks t ≡ Some block
  here = (the_block old t may.ready).1

  ready_is : block.stage ≡ Ready
  ready_is = (the_block old t may.ready).2

  -- its Start is a step
  start_step : IsStep (machine_in old) (start t cpu how signal)
  start_step =
      subst (λ (h : How). IsStep (machine_in old) (start t cpu h signal)) (sym may.how_is)
      (subst (λ (s : Option Signo). IsStep (machine_in old) (events.Start t cpu (how_of (is_user old.script t) (held old.script (past_of old) cpu t)) s)) (sym (may.signal_is ∙ ap signal_at here))
      (laws.start_is old.script (past_of old) t cpu block (ap (λ (o : Option ℕ). may_act o t) may.is_board.closed) here ready_is may.processor (no_runner cpu 0 (machine_in old).blocks may.free)))

  -- the longer past is legal
  start_legal : IsLegalPast old.script (start t cpu how signal ∷ past_of old)
  start_legal = (may.is_board.legal, start_step)

  -- there is room for it
  pub start_fits : length old.history + 1 ≤ old.room
  start_fits = fits laws.few old.script old.history (start t cpu how signal ∷ []) old.room may.is_board.valid start_legal may.is_board.room

  -- the block in its turn
  abbrev began : BlockState
  began = started cpu signal block

  -- What the board is after it, seen through its history.
  module _ (history : List Event) (is : history ≡ old.history ++ start t cpu how signal ∷ []) where
    -- its history
    said : reverse history ≡ start t cpu how signal ∷ past_of old
    said = ap reverse is ∙ reverse_onto_past (start t cpu how signal ∷ []) old.history

    -- the blocks
    abbrev now : List BlockState
    now = (machine old.script (reverse history)).blocks

    -- what the machine tells of the longer past, it tells of the history
    told_is : (P : List Event → Type 0) → P (start t cpu how signal ∷ past_of old) → P (reverse history)
    told_is P holds = subst P (sym said) holds

    -- the history is legal
    pub taken_legal : IsLegalPast old.script (reverse history)
    taken_legal = told_is (IsLegalPast old.script) start_legal

    -- it is what the replay tells
    pub taken_replay : reverse history ≡ entry old.script (past_of old) cpu
    taken_replay =
        said
        ∙ sym (ap (entry_of old.script cpu (past_of old)) may.free
        ∙ ap (begin old.script cpu (past_of old)) may.first
        ∙ ap (λ (d : Option Event). told d (past_of old)) start_step.is_due)

    -- the block in its turn
    taken_block : slice_get now t ≡ Some began
    taken_block = told_is (λ past. slice_get (machine old.script past).blocks t ≡ Some began) (laws.started old.script (past_of old) t cpu how signal block here)

    -- its stage
    pub taken_stage : stage_at now t ≡ Turn cpu 0
    taken_stage = ap stage_of taken_block ∙ started_stage cpu signal block

    -- its private task
    pub taken_private : task_of_state (slice_get now t) ≡ begun signal (private_in old t)
    taken_private = ap task_of_state taken_block ∙ started_task cpu signal block ∙ sym (ap (λ (b : Option BlockState). begun signal (task_of_state b)) here)

    -- the other blocks
    pub taken_others : (u : ℕ) → (u ≡ t → ⊥) → slice_get now u ≡ slice_get (machine_in old).blocks u
    taken_others u other = told_is (λ past. slice_get (machine old.script past).blocks u ≡ slice_get (machine_in old).blocks u) (laws.start_others old.script (past_of old) t cpu u how signal (λ (e : t ≡ u). other (sym e)))

    -- they are as many
    many : length now ≡ length (machine_in old).blocks
    many = as_many laws.machine old.script (past_of old) (reverse history)

    -- the turn is on the processor
    pub taken_busy : runner cpu 0 now ≡ Some t
    taken_busy =
        runner_is cpu 0 t t now (omega arith) (ap (λ (s : Stage). is_on_cpu cpu (turn_cpu s)) taken_stage ∙ eq-eqb cpu cpu refl)
        (λ u other. ap (λ (b : Option BlockState). is_on_cpu cpu (turn_cpu (stage_of b))) (taken_others u other) ∙ runner_off cpu 0 (machine_in old).blocks may.free u)

    -- the turns of other processors
    pub taken_turns : (c : ℕ) → (c ≡ cpu → ⊥) → runner c 0 now ≡ runner c 0 (machine_in old).blocks
    taken_turns c apart = runner_alike c 0 (machine_in old).blocks now many (λ u. elim (cases_eq u t) [
      | inl same ↦
          ap (λ (v : ℕ). is_on c now v) same
          ∙ ap (λ (s : Stage). is_on_cpu c (turn_cpu s)) taken_stage
          ∙ ne_eqb cpu c (λ (e : cpu ≡ c). apart (sym e))
          ∙ sym (ap (λ (v : ℕ). is_on c (machine_in old).blocks v) same ∙ ap (λ (s : Stage). is_on_cpu c (turn_cpu s)) may.ready)
      | inr other ↦ ap (λ (b : Option BlockState). is_on_cpu c (turn_cpu (stage_of b))) (taken_others u other)
    ])

    -- how many blocks are such
    taken_tally : (such : ℕ → Stage → Bool) → tally such 0 now + one (such t Ready) ≡ tally such 0 (machine_in old).blocks + one (such t (Turn cpu 0))
    taken_tally such =
        let sum = tally_point such 0 t t (machine_in old).blocks now block began many here taken_block (λ u other n. ap (λ (b : Option BlockState). such n (stage_of b)) (taken_others u other)) (omega arith) in
        ap (λ (s : Stage). tally such 0 now + one (such t s)) (sym ready_is) ∙ sum ∙ ap (λ (s : Stage). tally such 0 (machine_in old).blocks + one (such t s)) (started_stage cpu signal block)

    -- the board without the task
    pub board_taken : (home : List (Option Task)) (room : ℕ) → length home ≡ length old.home → ((u : ℕ) → (u ≡ t → ⊥) → slice_index_or home u None ≡ slice_index_or old.home u None) → room ≡ old.room → IsBoard (record { script = old.script; history = history; home = home; pool = old.pool; room = room })
    board_taken home room same_len slots same_room =
        let was = may.is_board in
        let new : Board = record { script = old.script; history = history; home = home; pool = old.pool; room = room } in
        let sum = taken_tally (λ v stage. is_user old.script v && holds_area stage) in
        let alike : one (is_user old.script t && holds_area Ready) ≡ one (is_user old.script t && holds_area (Turn cpu 0)) = refl in
        let same_areas : areas old ≡ areas new = omega (arith, sum, alike) in
        let same_large : large_count now ≡ large_count (machine_in old).blocks = told_is (λ past. large_count (machine old.script past).blocks ≡ large_count (machine_in old).blocks) (laws.large_stays old.script (past_of old) (start t cpu how signal) start_legal refl) in
        let given = was.pool.given in
        let longer : length history ≡ length old.history + 1 = ap length is ∙ length-append old.history (start t cpu how signal ∷ []) in
        record {
          valid = was.valid;
          legal = taken_legal;
          order = told_is (AreInOrder old.script) (was.order, (rest, may.first));
          closed = told_is (λ past. (machine old.script past).committing ≡ None) refl;
          count = same_len ∙ was.count;
          home = λ u rests known. elim (cases_eq u t) [
            | inl same ↦ absurd (let off : is_resting (stage_at now u) ≡ false = ap is_resting (ap (stage_at now) same ∙ taken_stage) in cc (off, rests))
            | inr other ↦
                let stays = taken_others u other in
                home_stays old new u refl (slots u other) (ap task_of_state stays) (λ unborn. sym (ap stage_of stays) ∙ unborn) (told_is (λ past. last old.script past u ≡ last old.script (past_of old) u) (start_last t cpu u _ other))
                (was.home u (sym (ap (λ (b : Option BlockState). is_resting (stage_of b)) stays) ∙ rests) known)
          ];
          pool = record {
            rows = was.pool.rows;
            large = was.pool.large ∙ sym same_large;
            all = was.pool.all ∙ same_areas;
            capacity = was.pool.capacity;
            given = omega (arith, given, longer);
          };
          room = subst (λ (n : ℕ). most_events old.script ≤ n) (sym same_room) was.room;
        }

    -- what is kept beside it
    pub beside_taken : (home : List (Option Task)) (room capacity count : ℕ) (members : List Member) (member : Member) → IsKeptBeside old (t ∷ rest) capacity count members → member ≡ member_of (Some began)
        → IsKeptBeside (record { script = old.script; history = history; home = home; pool = old.pool; room = room }) rest capacity count (slice_set members t member)
    beside_taken home room capacity count members member kept member_is =
        let living = taken_tally (λ v stage. lives stage) in
        let alive = kept.alive in
        let each = kept.each in
        let in_range = slice_get_within (machine_in old).blocks t block here in
        let same = (laws.machine old.script (past_of old)).2 in
        record {
          queue = sym (told_is (λ past. ready_list old.script past ≡ rest) (laws.start_ready old.script (past_of old) t cpu how signal rest may.first));
          fits = kept.fits;
          alive = omega (arith, living, alive);
          each = length-set members t member ∙ each;
          member = set_are (machine_in old).blocks now members t member (omega (arith, in_range, same, each)) kept.member (ap member_of taken_block ∙ sym member_is) (λ u other. ap member_of (taken_others u other));
        }
