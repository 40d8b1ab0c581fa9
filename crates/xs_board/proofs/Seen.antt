-- What the history tells of a board after a turn: stages, private tasks, turns and how many blocks are such.
use Rattle.std.proofs.Common.{◌≡◌, ℕ, ◌+◌, Bool, true, false, not, ◌&&◌, List, length, refl, sym, ap, ◌∙◌, arith, inl, inr, eq-eqb, ne_eqb}
use Rattle.std.proofs.lemmas.Bool.{cases_eq}
use Rattle.std.proofs.lemmas.Option.{same_Some}
use Rattle.std.specs.Prelude.{Option, Some, None, if◌then◌else◌, slice_get}
use Rattle.xs_base.specs.Task.{parked}
use Rattle.xs_model.specs.declared.event.Reply.{Reply}
use Rattle.xs_model.specs.declared.event.Why.{Why}
use Rattle.xs_model.specs.declared.script.Command.{Command}
use Rattle.xs_model.specs.declared.script.Command.TheVariants.{Fork, Kill, Stop, Wait, Getregs, Setregs, Cont}
use Rattle.xs_model.specs.declared.script.Script.{Script}
use Rattle.xs_model.specs.declared.stage.Stage.{Stage}
use Rattle.xs_model.specs.declared.stage.Stage.TheVariants.{Unborn, Ready, Turn, Stopped, Waiting, Ended}
use Rattle.xs_model.specs.Machine.{machine}
use Rattle.xs_model.specs.Outer as outers
use Rattle.xs_model.specs.Outer.{is_blocked}
use Rattle.xs_model.specs.Replay.{runner}
use Rattle.xs_model.specs.Script.{block_named, is_user}
use Rattle.xs_model.specs.State.{BlockState, is_on_cpu, is_stopped, lives, stage_at, stage_of, task_of_state, turn_cpu}
use Rattle.xs_board.specs.declared.turn.Entry.{Entry}
use Rattle.xs_board.specs.declared.turn.Close.{Close}
use Rattle.xs_board.specs.declared.turn.Close.TheVariants.{Quantum, Yield, Outer, Refused, Trap, End}
use Rattle.xs_board.specs.Board.{Board, blocks_with, holds_area, machine_in, one, past_of, private_closed, private_with, tally}
use Rattle.xs_board.specs.Deed.{deed_by, living_born, newborn}
use Rattle.xs_board.specs.Laws.{Laws}
use Rattle.xs_board.specs.Putting.{ends, kills, living_after}
use Rattle.xs_board.specs.Turn.{Answer, close_command, line_stage, stage_closed, task_closed, trap_stage}
use Rattle.xs_board.proofs.Blocks.{AreAlike, tally_point, tally_two}
use Rattle.xs_board.proofs.Committing.{MayCommit, alone, answer, closing, closing_is, answer_is, here, later, leaves, the_turn}
use Rattle.xs_board.proofs.Leaving.{others_by, own_by, own_off, reached_by}
use Rattle.xs_board.proofs.Members.{absent_stays}
use Rattle.xs_board.proofs.Moving.{as_many}
use Rattle.xs_board.proofs.Others.{others_stage}
use Rattle.xs_board.proofs.Own.{own_stage, own_task, task_same}
use Rattle.xs_board.proofs.Runners.{is_on, runner_alike, runner_none}

-- ---- the stage that a close leaves

-- a fact of a stage that ready, stopped and waiting blocks share
line_left : {X : Type 0} (f : Stage → X) → ((child : ℕ) → f (Waiting child) ≡ f Ready) → f Stopped ≡ f Ready → (script : Script) (c : Option Command) (reply : Reply) → f (line_stage script c reply) ≡ f Ready
line_left f waiting stopped script None reply = refl
line_left f waiting stopped script (Some Stop) reply = by_test (outers.is_held reply)
  where
    by_test : (b : Bool) → f (if b then Stopped else Ready) ≡ f Ready
    by_test true = stopped
    by_test false = refl
line_left f waiting stopped script (Some (Wait name)) reply = by_test (is_blocked reply)
  where
    by_test : (b : Bool) → f (if b then Waiting (block_named script name) else Ready) ≡ f Ready
    by_test true = waiting (block_named script name)
    by_test false = refl
line_left f waiting stopped script (Some other) reply = refl

-- it lives, and has its area, if it hasn't ended
closed_lives : (script : Script) (t : ℕ) (close : Close) (said : Answer) → lives (stage_closed script t close said) ≡ not (ends close said.fate)
closed_lives script t Quantum said = refl
closed_lives script t Yield said = refl
closed_lives script t (Outer line) said = line_left lives (λ child. refl) refl script (close_command script t (Outer line)) said.reply
closed_lives script t (Refused error) said = refl
closed_lives script t Trap said = by_fate said.fate
  where
    by_fate : (fate : Option Why) → lives (trap_stage fate) ≡ not (kills fate)
    by_fate None = refl
    by_fate (Some why) = refl
closed_lives script t End said = refl

closed_area : (script : Script) (t : ℕ) (close : Close) (said : Answer) → holds_area (stage_closed script t close said) ≡ not (ends close said.fate)
closed_area script t Quantum said = refl
closed_area script t Yield said = refl
closed_area script t (Outer line) said = line_left holds_area (λ child. refl) refl script (close_command script t (Outer line)) said.reply
closed_area script t (Refused error) said = refl
closed_area script t Trap said = by_fate said.fate
  where
    by_fate : (fate : Option Why) → holds_area (trap_stage fate) ≡ not (kills fate)
    by_fate None = refl
    by_fate (Some why) = refl
closed_area script t End said = refl

-- its block was born
abbrev pub was_born : Stage → Bool
was_born Unborn = false
was_born Ready = true
was_born (Turn cpu ran) = true
was_born Stopped = true
was_born (Waiting child) = true
was_born Ended = true

pub closed_born : (script : Script) (t : ℕ) (close : Close) (said : Answer) → was_born (stage_closed script t close said) ≡ true
closed_born script t Quantum said = refl
closed_born script t Yield said = refl
closed_born script t (Outer line) said = line_left was_born (λ child. refl) refl script (close_command script t (Outer line)) said.reply
closed_born script t (Refused error) said = refl
closed_born script t Trap said = by_fate said.fate
  where
    by_fate : (fate : Option Why) → was_born (trap_stage fate) ≡ true
    by_fate None = refl
    by_fate (Some why) = refl
closed_born script t End said = refl

-- ---- what the history tells

module _ (laws : Laws) (old : Board) (t cpu : ℕ) (entries : List Entry) (close : Close) (may : MayCommit old t cpu entries close) where
  abbrev pub script : Script
  script = old.script

  abbrev pub blocks : List BlockState
  blocks = closing laws old t cpu entries close may

  abbrev pub answered : Answer
  answered = answer laws old t cpu entries close may

  -- the blocks
  abbrev pub now : List BlockState
  now = (machine script (later laws old t cpu entries close may)).blocks

  -- they are as many
  pub many : length now ≡ length (machine_in old).blocks
  many = as_many laws.machine script (past_of old) (later laws old t cpu entries close may)

  -- its stage
  pub back_stage : stage_at now t ≡ stage_closed script t close answered
  back_stage = let left = leaves laws old t cpu entries close may in ap stage_of left.own ∙ own_stage script blocks t close answered (private_with old t entries) left.state

  -- its private task
  pub own_private : task_of_state (slice_get now t) ≡ parked (task_closed script blocks t close answered (private_with old t entries))
  own_private =
      let left = leaves laws old t cpu entries close may in
      ap task_of_state left.own
      ∙ own_task script (past_of old) blocks t left.state left.here (ap is_stopped left.turn) close answered (private_with old t entries) left.task_is left.line left.some (answer_is laws old t cpu entries close may)

  pub back_private : task_of_state (slice_get now t) ≡ private_closed old t entries close
  back_private = own_private ∙ ap parked (task_same script blocks (blocks_with old t entries) t close answered (private_with old t entries) (closing_is laws old t cpu entries close may))

  -- ---- other blocks

  -- what another block is
  pub other_is : (u : ℕ) (b : BlockState) → (u ≡ t → ⊥) → slice_get (machine_in old).blocks u ≡ Some b → slice_get now u ≡ Some (others_by script blocks t close answered u b)
  other_is u b other at = let left = leaves laws old t cpu entries close may in left.others u b other (left.same u other ∙ at)

  -- the child
  abbrev pub child : Option ℕ
  child = newborn (deed_by script (close_command script t close))

  -- a fact of a stage that ready, stopped and waiting blocks share stays
  pub other_fact : {X : Type 0} (f : Stage → X) → ((c : ℕ) → f (Waiting c) ≡ f Ready) → f Stopped ≡ f Ready → (u : ℕ) → (u ≡ t → ⊥) → (child ≡ Some u → f Unborn ≡ f Ready) → f (stage_at now u) ≡ f (stage_at (machine_in old).blocks u)
  other_fact f waiting stopped u other unborn = by_block (slice_get (machine_in old).blocks u) refl
    where
      by_block : (b : Option BlockState) → slice_get (machine_in old).blocks u ≡ b → f (stage_at now u) ≡ f (stage_at (machine_in old).blocks u)
      by_block None none = ap (λ (b : Option BlockState). f (stage_of b)) (absent_stays (machine_in old).blocks now u many none) ∙ sym (ap (λ (b : Option BlockState). f (stage_of b)) none)
      by_block (Some b) at =
          ap (λ (b : Option BlockState). f (stage_of b)) (other_is u b other at)
          ∙ others_stage f waiting stopped script blocks t close answered u b unborn
          ∙ sym (ap (λ (b : Option BlockState). f (stage_of b)) at)

  -- it is as little or as much on a processor as before
  other_on : (c u : ℕ) → (u ≡ t → ⊥) → is_on c now u ≡ is_on c (machine_in old).blocks u
  other_on c u other = ap (is_on_cpu c) (other_fact turn_cpu (λ k. refl) refl u other (λ k. refl))

  -- and the block of the turn isn't
  own_on : (c : ℕ) → is_on c now t ≡ false
  own_on c = let left = leaves laws old t cpu entries close may in ap (λ (b : Option BlockState). is_on_cpu c (turn_cpu (stage_of b))) left.own ∙ ap (is_on_cpu c) (own_off script blocks t close answered (private_with old t entries) left.state)

  -- the processor has no turn
  pub back_free : runner cpu 0 now ≡ None
  back_free = runner_none cpu 0 now (λ u. elim (cases_eq u t) [
    | inl same ↦ ap (is_on cpu now) same ∙ own_on cpu
    | inr other ↦ other_on cpu u other ∙ alone laws old t cpu may.is_board may.turn u other
  ])

  -- the turns of other processors
  pub back_turns : (c : ℕ) → (c ≡ cpu → ⊥) → runner c 0 now ≡ runner c 0 (machine_in old).blocks
  back_turns c apart = runner_alike c 0 (machine_in old).blocks now many (λ u. elim (cases_eq u t) [
    | inl same ↦
        ap (is_on c now) same
        ∙ own_on c
        ∙ sym (ap (is_on c (machine_in old).blocks) same ∙ ap (λ (s : Stage). is_on_cpu c (turn_cpu s)) may.turn ∙ ne_eqb cpu c (λ (e : cpu ≡ c). apart (sym e)))
    | inr other ↦ other_on c u other
  ])

  -- ---- how many blocks are such

  abbrev pub before : BlockState
  before = (the_turn old t cpu may.turn).0

  abbrev pub after : BlockState
  after = own_by script blocks t close answered (private_with old t entries) (leaves laws old t cpu entries close may).state

  after_stage : after.stage ≡ stage_closed script t close answered
  after_stage = own_stage script blocks t close answered (private_with old t entries) (leaves laws old t cpu entries close may).state

  -- the areas of the user tasks
  pub area_tally : tally (λ v stage. is_user script v && holds_area stage) 0 now + one (is_user script t && true) ≡ tally (λ v stage. is_user script v && holds_area stage) 0 (machine_in old).blocks + one (is_user script t && not (ends close answered.fate))
  area_tally =
      let sum = tally_point (λ v stage. is_user script v && holds_area stage) 0 t t (machine_in old).blocks now before after many (here laws old t cpu may.is_board may.turn) (leaves laws old t cpu entries close may).own
      (λ u other n. ap (λ (b : Bool). is_user script n && b) (other_fact holds_area (λ k. refl) refl u other (λ k. refl))) (omega arith) in
      let was : one (is_user script t && holds_area before.stage) ≡ one (is_user script t && true) = ap (λ (s : Stage). one (is_user script t && holds_area s)) (the_turn old t cpu may.turn).2 in
      let is : one (is_user script t && holds_area after.stage) ≡ one (is_user script t && not (ends close answered.fate)) = ap (λ (s : Stage). one (is_user script t && holds_area s)) after_stage ∙ ap (λ (b : Bool). one (is_user script t && b)) (closed_area script t close answered) in
      omega (arith, sum, was, is)

  -- and who lives
  lives_as : (u : ℕ) → (u ≡ t → ⊥) → (child ≡ Some u → ⊥) → AreAlike (λ v stage. lives stage) (machine_in old).blocks now u
  lives_as u other apart n = other_fact lives (λ k. refl) refl u other (λ e. absurd (apart e))

  pub own_lives : (one (lives before.stage) ≡ 1) × (one (lives after.stage) ≡ one (not (ends close answered.fate)))
  own_lives = (ap (λ (s : Stage). one (lives s)) (the_turn old t cpu may.turn).2, ap (λ (s : Stage). one (lives s)) after_stage ∙ ap one (closed_lives script t close answered))

  none_born : child ≡ None → tally (λ v stage. lives stage) 0 now + 1 ≡ tally (λ v stage. lives stage) 0 (machine_in old).blocks + one (not (ends close answered.fate))
  none_born none =
      let sum = tally_point (λ v stage. lives stage) 0 t t (machine_in old).blocks now before after many (here laws old t cpu may.is_board may.turn) (leaves laws old t cpu entries close may).own (λ u other. lives_as u other (λ e. cc (none, e))) (omega arith) in
      let parts = own_lives in
      let was = parts.0 in
      let is = parts.1 in
      omega (arith, sum, was, is)

  one_born : (c : ℕ) (b : BlockState) → child ≡ Some c → slice_get (machine_in old).blocks c ≡ Some b → b.stage ≡ Unborn → (t ≡ c → ⊥) → lives (others_by script blocks t close answered c b).stage ≡ true
      → tally (λ v stage. lives stage) 0 now + 1 ≡ tally (λ v stage. lives stage) 0 (machine_in old).blocks + one (not (ends close answered.fate)) + 1
  one_born c b born at unborn apart alive =
      let sum = tally_two (λ v stage. lives stage) t c (machine_in old).blocks now before after b (others_by script blocks t close answered c b) many (here laws old t cpu may.is_board may.turn) (leaves laws old t cpu entries close may).own at (other_is c b (λ (e : c ≡ t). apart (sym e)) at) apart (λ u other far. lives_as u other (λ e. far (sym (same_Some c u (sym born ∙ e))))) in
      let parts = own_lives in
      let was = parts.0 in
      let is = parts.1 in
      let first : one (lives b.stage) ≡ 0 = ap (λ (s : Stage). one (lives s)) unborn in
      let second : one (lives (others_by script blocks t close answered c b).stage) ≡ 1 = ap one alive in
      omega (arith, sum, was, is, first, second)

-- ---- how many live

-- a deed that bears a block is a fork
pub is_fork : (script : Script) (o : Option Command) (c : ℕ) → newborn (deed_by script o) ≡ Some c → (name : List ℕ) × (o ≡ Some (Fork name)) × (block_named script name ≡ c)
is_fork script None c is = absurd (cc is)
is_fork script (Some (Fork name)) c is = (name, refl, same_Some (block_named script name) c is)
is_fork script (Some (Kill name signo)) c is = absurd (cc is)
is_fork script (Some Stop) c is = absurd (cc is)
is_fork script (Some (Wait name)) c is = absurd (cc is)
is_fork script (Some (Getregs name set)) c is = absurd (cc is)
is_fork script (Some (Setregs name set count)) c is = absurd (cc is)
is_fork script (Some (Cont name)) c is = absurd (cc is)
is_fork script (Some other) c is = absurd (cc is)

-- the count after a turn
count_is : (end : Bool) (born : Option ℕ) (before now : ℕ) → (born ≡ None → now + 1 ≡ before + one (not end)) → ((c : ℕ) → born ≡ Some c → (now + 1 ≡ before + one (not end) + 1) × (end ≡ false)) → living_after end (living_born born before) ≡ now
count_is true None before now none some = let sum = none refl in omega (arith, sum)
count_is false None before now none some = let sum = none refl in omega (arith, sum)
count_is true (Some c) before now none some = absurd (let parts = some c refl in let off = parts.1 in cc off)
count_is false (Some c) before now none some = let parts = some c refl in let sum = parts.0 in omega (arith, sum)

module _ (laws : Laws) (old : Board) (t cpu : ℕ) (entries : List Entry) (close : Close) (may : MayCommit old t cpu entries close) where
  -- an end bears nobody
  end_bears : (c : Close) (v : ℕ) → newborn (deed_by old.script (close_command old.script t c)) ≡ Some v → ends c (answer laws old t cpu entries close may).fate ≡ false
  end_bears Quantum v is = refl
  end_bears Yield v is = refl
  end_bears (Outer line) v is = refl
  end_bears (Refused error) v is = absurd (cc is)
  end_bears Trap v is = absurd (cc is)
  end_bears End v is = absurd (cc is)

  -- how many live after the turn
  pub back_living : (count : ℕ) → count ≡ tally (λ v stage. lives stage) 0 (machine_in old).blocks → living_after (ends close (answer laws old t cpu entries close may).fate) (living_born (newborn (deed_by old.script (close_command old.script t close))) count) ≡ tally (λ v stage. lives stage) 0 (now laws old t cpu entries close may)
  back_living count count_before =
      ap (λ (n : ℕ). living_after (ends close (answer laws old t cpu entries close may).fate) (living_born (newborn (deed_by old.script (close_command old.script t close))) n)) count_before
      ∙ count_is (ends close (answer laws old t cpu entries close may).fate) (newborn (deed_by old.script (close_command old.script t close))) (tally (λ v stage. lives stage) 0 (machine_in old).blocks) (tally (λ v stage. lives stage) 0 (now laws old t cpu entries close may)) (none_born laws old t cpu entries close may) (λ c is.
      let fork = is_fork old.script (close_command old.script t close) c is in
      let left = leaves laws old t cpu entries close may in
      let birth = (left.line (Fork fork.0) fork.1).born fork.0 refl in
      let v = block_named old.script fork.0 in
      let off = end_bears close c is in
      (one_born laws old t cpu entries close may v birth.0 (is ∙ ap Some (sym fork.2)) birth.1.here birth.1.unborn birth.1.apart (alive fork.0 birth.0 left.state left.here birth.1.unborn (close_command old.script t close) fork.1 off), off))
    where
      script : Script
      script = old.script

      answered : Answer
      answered = answer laws old t cpu entries close may

      alive : (name : List ℕ) (b state : BlockState) → slice_get (closing laws old t cpu entries close may) t ≡ Some state → b.stage ≡ Unborn → (o : Option Command) → o ≡ Some (Fork name) → ends close (answer laws old t cpu entries close may).fate ≡ false → lives (if ends close (answer laws old t cpu entries close may).fate then outers.freed t b else reached_by script (closing laws old t cpu entries close may) t o answered.reply (block_named script name) b).stage ≡ true
      alive name b state there unborn o is off =
          let c = block_named script name in
          ap (λ (x : Bool). lives (if x then outers.freed t b else reached_by script (closing laws old t cpu entries close may) t o answered.reply c b).stage) off
          ∙ ap (λ (k : Option Command). lives (reached_by script (closing laws old t cpu entries close may) t k answered.reply c b).stage) is
          ∙ ap (λ (x : Bool). lives (if x then outers.born t (slice_get (closing laws old t cpu entries close may) t) b else b).stage) (eq-eqb c c refl)
          ∙ ap (λ (parent : Option BlockState). lives (outers.born t parent b).stage) there
          ∙ ap (λ (s : Stage). lives (outers.bear t state.task s b).stage) unborn
