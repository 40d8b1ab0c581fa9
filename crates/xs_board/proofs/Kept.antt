-- The members and the queue after a turn, by its close.
use Rattle.std.proofs.Common.{◌≡◌, ℕ, Bool, true, false, List, [], ◌∷◌, ◌++◌, length, refl, sym, ap, ◌∙◌, subst, arith, inl, inr}
use Rattle.std.proofs.lemmas.Bool.{cases_eq}
use Rattle.std.proofs.lemmas.List.{append-nil}
use Rattle.std.specs.Prelude.{Option, Some, None, if◌then◌else◌, slice_get}
use Rattle.xs_base.specs.Task.{PrivateTask}
use Rattle.xs_model.specs.declared.event.Event.{Event}
use Rattle.xs_model.specs.declared.event.Reply.{Reply}
use Rattle.xs_model.specs.declared.event.Why.{Why}
use Rattle.xs_model.specs.declared.script.Command.{Command}
use Rattle.xs_model.specs.declared.script.Command.TheVariants.{Fork, Kill, Stop, Wait, Getregs, Setregs, Cont}
use Rattle.xs_model.specs.declared.script.Script.{Script}
use Rattle.xs_model.specs.declared.stage.Stage.{Stage}
use Rattle.xs_model.specs.declared.stage.Stage.TheVariants as stages
use Rattle.xs_model.specs.Effects.{freed_by, outer_risers, stopped_children, waiter_of}
use Rattle.xs_model.specs.Machine.{machine, IsLegalPast}
use Rattle.xs_model.specs.Note.{is_count}
use Rattle.xs_model.specs.Outer as outers
use Rattle.xs_model.specs.Outer.{freed, is_blocked, outer_reply, stage_left}
use Rattle.xs_model.specs.Script.{IsValid, block_named}
use Rattle.xs_model.specs.State.{BlockState, is_stopped, lives, parent_of, stage_at, stage_of}
use Rattle.xs_board.specs.declared.member.Life.{Life}
use Rattle.xs_board.specs.declared.member.Life.TheVariants as life
use Rattle.xs_board.specs.declared.turn.Close.{Close}
use Rattle.xs_board.specs.declared.turn.Close.TheVariants.{Quantum, Yield, Outer, Refused, Trap, End}
use Rattle.xs_board.specs.Deed.{deed_by, deed_of, is_traced, members_by, ready_by}
use Rattle.xs_board.specs.Laws.{Laws}
use Rattle.xs_board.specs.Member.{Member, AreMembers, is_stopped_life, life_of, listed, member_at, member_of, waiter_in}
use Rattle.xs_board.specs.Putting.{AreLeft, ends, freed_in, kills, ready_after, self_ready}
use Rattle.xs_board.specs.Turn.{Answer, close_command, close_reply, line_answer}
use Rattle.xs_board.proofs.Changed.{AreChanged, cont_changed, cont_counts, fork_changed, get_changed, held_counts, kill_changed, set_changed, stop_changed, wait_changed}
use Rattle.xs_board.proofs.Leaving.{line_risers, others_by, own_by, reached_by, risers_by, trapped_by}
use Rattle.xs_board.proofs.Left.{HasLeft, IsLineOf}
use Rattle.xs_board.proofs.Members.{absent_stays}
use Rattle.xs_board.proofs.Mirror.{stopped_at, life_at, traced_at, waiter_at}
use Rattle.xs_board.proofs.Woken.{beyond, children_at, ended_here, freed_there}

-- ---- an outer line

module _ (laws : Laws) (script : Script) (past : List Event) (valid : IsValid script) (legal : IsLegalPast script past) (blocks : List BlockState) (members : List Member) (are : AreMembers blocks members) (t : ℕ) (state : BlockState) (here : slice_get blocks t ≡ Some state) (goes : life_of state.stage ≡ life.Going) (len : length members ≡ length blocks) (count : length blocks ≡ length script.blocks) (same : (u : ℕ) → (u ≡ t → ⊥) → slice_get blocks u ≡ slice_get (machine script past).blocks u) (waits : (u child : ℕ) → stage_at blocks u ≡ stages.Waiting child → parent_of (slice_get blocks child) ≡ Some u) (reply : Reply) (task : PrivateTask) where
  -- the members, command by command
  pub line_changed : (command : Command) → IsLineOf script past t task command → reply ≡ outer_reply script blocks t command → AreChanged script blocks members are t state here goes len reply command
  line_changed (Fork name) line is =
      let birth = line.born name refl in
      let quiet = laws.quiet script past (block_named script name) birth.0 valid legal birth.1.here (ap (λ (s : Stage). lives s) birth.1.unborn) in
      fork_changed script blocks members are t state here goes len reply name birth.0 (same (block_named script name) (λ (e : block_named script name ≡ t). birth.1.apart (sym e)) ∙ birth.1.here) birth.1.unborn birth.1.apart quiet
  line_changed (Kill name signo) line is = kill_changed script blocks members are t state here goes len reply name signo (let known = (line.named name refl).0 in omega (arith, known, count)) is
  line_changed Stop line is = stop_changed script blocks members are t state here goes len reply waits is
  line_changed (Wait name) line is = wait_changed script blocks members are t state here goes len reply name is
  line_changed (Getregs name set) line is = get_changed script blocks members are t state here goes len reply name set
  line_changed (Setregs name set count_) line is = set_changed script blocks members are t state here goes len reply name set count_
  line_changed (Cont name) line is = cont_changed script blocks members are t state here goes len reply name (let known = (line.named name refl).0 in omega (arith, known, count)) is
  line_changed other line is = absurd (let outer = line.outer in cc outer)

  -- whom it makes ready
  pub line_ready : (command : Command) → IsLineOf script past t task command → reply ≡ outer_reply script blocks t command
      → outer_risers script blocks t command reply ≡ ready_by t (deed_of script command) members ++ self_ready t (life_of (stage_left script command reply))
  line_ready (Fork name) line is = refl
  line_ready (Kill name signo) line is = refl
  line_ready Stop line is =
      by_test (outers.is_held reply) (is_traced members t) (ap outers.is_held is ∙ held_counts (outers.parent_lives blocks (parent_of (slice_get blocks t))) ∙ sym (traced_at blocks members are t))
    where
      by_test : (a b : Bool) → a ≡ b → (if a then waiter_of blocks t else t ∷ []) ≡ (if b then listed (waiter_in members t) else []) ++ self_ready t (life_of (if a then stages.Stopped else stages.Ready))
      by_test true true alike = sym (waiter_at blocks members are t) ∙ sym (append-nil (listed (waiter_in members t)))
      by_test false false alike = refl
      by_test true false alike = absurd (cc alike)
      by_test false true alike = absurd (cc alike)
  line_ready (Wait name) line is = by_test (is_blocked reply)
    where
      by_test : (b : Bool) → (if b then [] else t ∷ []) ≡ self_ready t (life_of (if b then stages.Waiting (block_named script name) else stages.Ready))
      by_test true = refl
      by_test false = refl
  line_ready (Getregs name set) line is = refl
  line_ready (Setregs name set count_) line is = refl
  line_ready (Cont name) line is =
      by_test (is_count reply) (is_stopped_life (member_at members (block_named script name)).life) (ap is_count is ∙ cont_counts (slice_get blocks (block_named script name)) ∙ sym (stopped_at blocks members are (block_named script name)))
    where
      by_test : (a b : Bool) → a ≡ b → (if a then block_named script name ∷ t ∷ [] else t ∷ []) ≡ (if b then block_named script name ∷ [] else []) ++ t ∷ []
      by_test true true alike = refl
      by_test false false alike = refl
      by_test true false alike = absurd (cc alike)
      by_test false true alike = absurd (cc alike)
  line_ready other line is = absurd (let outer = line.outer in cc outer)

-- ---- by the close

-- the members after the deed of a close
abbrev pub performed : Script → ℕ → List Member → Close → List Member
performed script t members close = members_by t (deed_by script (close_command script t close)) members

module _ (laws : Laws) (script : Script) (past later : List Event) (t cpu : ℕ) (answer : Answer) (task : PrivateTask) (blocks : List BlockState) (valid : IsValid script) (legal : IsLegalPast script past) (members : List Member) (each : length members ≡ length script.blocks) (are_past : AreMembers (machine script past).blocks members) where
  module _ (close : Close) (left : HasLeft script past later t cpu close answer task blocks) where
    pub are : AreMembers blocks members
    are u = are_past u ∙ sym (left.members u)

    pub goes : life_of (left.state).stage ≡ life.Going
    goes = ap life_of left.turn

    pub long : length members ≡ length blocks
    long = each ∙ sym left.count

    pub own_goes : (member_at members t).life ≡ life.Going
    own_goes = life_at blocks members are t ∙ ap (λ (b : Option BlockState). life_of (stage_of b)) left.here ∙ goes

    -- the members after its line
    pub changed : (command : Command) → close_command script t close ≡ Some command → answer.reply ≡ outer_reply script blocks t command → AreChanged script blocks members are t left.state left.here goes long answer.reply command
    changed command at is = line_changed laws script past valid legal blocks members are t left.state left.here goes long left.count left.same left.waits answer.reply task command (left.line command at) is

  -- the line answers for its command
  answers : (close : Close) (command : Command) → close_command script t close ≡ Some command → answer.reply ≡ close_reply script blocks t close → answer.reply ≡ outer_reply script blocks t command
  answers close command at is = is ∙ ap (line_answer script blocks t) at

  -- ---- whom it makes ready

  ends_ready : (close : Close) → HasLeft script past later t cpu close answer task blocks → freed_by blocks t ≡ freed_in t members
  ends_ready close left =
      ap (λ (list : List ℕ). list ++ stopped_children t 0 blocks) (sym (waiter_at blocks members (are close left) t))
      ∙ ap (λ (list : List ℕ). listed (waiter_in members t) ++ list) (sym (children_at blocks members (are close left) t (long close left) left.waits left.state left.here (ap is_stopped left.turn)))

  goes_ready : (close : Close) → HasLeft script past later t cpu close answer task blocks → t ∷ [] ≡ self_ready t (member_at members t).life
  goes_ready close left = sym (ap (self_ready t) (own_goes close left))

  pub left_ready : (close : Close) → HasLeft script past later t cpu close answer task blocks → answer.reply ≡ close_reply script blocks t close
      → risers_by script blocks t close answer ≡ ready_by t (deed_by script (close_command script t close)) members ++ ready_after (ends close answer.fate) t (performed script t members close)
  left_ready Quantum left is = goes_ready Quantum left
  left_ready Yield left is = goes_ready Yield left
  left_ready (Outer line) left is =
      let command = (left.some refl).0 in
      let at = (left.some refl).1 in
      let said = answers (Outer line) command at is in
      let moved = changed (Outer line) left command at said in
      subst (λ (c : Option Command). line_risers script blocks t c answer.reply ≡ ready_by t (deed_by script c) members ++ self_ready t (member_at (members_by t (deed_by script c) members) t).life) (sym at)
      (line_ready laws script past valid legal blocks members (are (Outer line) left) t left.state left.here (goes (Outer line) left) (long (Outer line) left) left.count left.same left.waits answer.reply task command (left.line command at) said
      ∙ ap (λ (m : Member). ready_by t (deed_of script command) members ++ self_ready t m.life) (sym moved.own))
  left_ready (Refused error) left is = ends_ready (Refused error) left
  left_ready Trap left is = by_fate answer.fate
    where
      by_fate : (fate : Option Why) → (if kills fate then freed_by blocks t else t ∷ []) ≡ ready_after (kills fate) t members
      by_fate None = goes_ready Trap left
      by_fate (Some why) = ends_ready Trap left
  left_ready End left is = ends_ready End left

  -- ---- the members

  -- What they are after the close, block by block.
  record AreAfter (close : Close) (left : HasLeft script past later t cpu close answer task blocks) (after : List Member) : Type 0 where
    own : member_at after t ≡ member_of (Some (own_by script blocks t close answer task left.state))
    others : (u : ℕ) (b : BlockState) → (u ≡ t → ⊥) → slice_get blocks u ≡ Some b → member_at after u ≡ member_of (Some (others_by script blocks t close answer u b))

  goes_after : (close : Close) (left : HasLeft script past later t cpu close answer task blocks) (after : List Member) → after ≡ members → member_at after t ≡ record { life = life.Going; parent = (left.state).parent; pending = (left.state).pending }
  goes_after close left after same =
      ap (λ (all : List Member). member_at all t) same ∙ are close left t ∙ ap member_of left.here ∙ ap (λ (l : Life). record { life = l; parent = (left.state).parent; pending = (left.state).pending }) (goes close left)

  stays_after : (close : Close) (left : HasLeft script past later t cpu close answer task blocks) (after : List Member) → after ≡ members → (u : ℕ) (b : BlockState) → slice_get blocks u ≡ Some b → member_at after u ≡ member_of (Some b)
  stays_after close left after same u b at = ap (λ (all : List Member). member_at all u) same ∙ are close left u ∙ ap member_of at

  after_is : (close : Close) (left : HasLeft script past later t cpu close answer task blocks) → answer.reply ≡ close_reply script blocks t close → (after : List Member) → AreLeft (ends close answer.fate) t (performed script t members close) after → AreAfter close left after
  after_is Quantum left is after are_left = record { own = goes_after Quantum left after are_left; others = λ u b other at. stays_after Quantum left after are_left u b at }
  after_is Yield left is after are_left = record { own = goes_after Yield left after are_left; others = λ u b other at. stays_after Yield left after are_left u b at }
  after_is (Outer line) left is after are_left =
      let command = (left.some refl).0 in
      let at = (left.some refl).1 in
      let moved = changed (Outer line) left command at (answers (Outer line) command at is) in
      let all : after ≡ members_by t (deed_of script command) members = are_left ∙ ap (λ (c : Option Command). members_by t (deed_by script c) members) at in
      record {
        own = ap (λ (l : List Member). member_at l t) all ∙ moved.own ∙ ap (λ (c : Option Command). member_of (Some (outers.outer_own script c answer.reply (reached_by script blocks t c answer.reply t left.state)))) (sym at);
        others = λ u b other there. ap (λ (l : List Member). member_at l u) all ∙ moved.others u b other there ∙ ap (λ (c : Option Command). member_of (Some (reached_by script blocks t c answer.reply u b))) (sym at);
      }
  after_is (Refused error) left is after are_left = record {
    own = ended_here blocks members (are (Refused error) left) t (long (Refused error) left) left.waits left.state left.here after are_left;
    others = freed_there blocks members (are (Refused error) left) t (long (Refused error) left) left.waits left.state left.here after are_left;
  }
  after_is Trap left is after are_left = record { own = own_trapped answer.fate are_left; others = others_trapped answer.fate are_left }
    where
      own_trapped : (fate : Option Why) → AreLeft (kills fate) t members after → member_at after t ≡ member_of (Some (trapped_by fate task left.state))
      own_trapped None kept = goes_after Trap left after kept
      own_trapped (Some why) freed_all = ended_here blocks members (are Trap left) t (long Trap left) left.waits left.state left.here after freed_all

      others_trapped : (fate : Option Why) → AreLeft (kills fate) t members after → (u : ℕ) (b : BlockState) → (u ≡ t → ⊥) → slice_get blocks u ≡ Some b → member_at after u ≡ member_of (Some (if kills fate then freed t b else b))
      others_trapped None kept u b other at = stays_after Trap left after kept u b at
      others_trapped (Some why) freed_all u b other at = freed_there blocks members (are Trap left) t (long Trap left) left.waits left.state left.here after freed_all u b other at
  after_is End left is after are_left = record {
    own = ended_here blocks members (are End left) t (long End left) left.waits left.state left.here after are_left;
    others = freed_there blocks members (are End left) t (long End left) left.waits left.state left.here after are_left;
  }

  -- they stand for the blocks
  pub left_members : (close : Close) → HasLeft script past later t cpu close answer task blocks → answer.reply ≡ close_reply script blocks t close → (after : List Member) → AreLeft (ends close answer.fate) t (performed script t members close) after → length after ≡ length members → AreMembers (machine script later).blocks after
  left_members close left is after are_left same_length u = by_block (slice_get blocks u) refl
    where
      now : AreAfter close left after
      now = after_is close left is after are_left

      blocks_now : List BlockState
      blocks_now = (machine script later).blocks

      by_block : (b : Option BlockState) → slice_get blocks u ≡ b → member_at after u ≡ member_of (slice_get blocks_now u)
      by_block None none =
          beyond blocks after u (same_length ∙ long close left) none
          ∙ sym (ap member_of (absent_stays blocks blocks_now u ((laws.machine script later).2 ∙ sym left.count) none))
      by_block (Some b) at = elim (cases_eq u t) [
        | inl same ↦ ap (member_at after) same ∙ now.own ∙ sym (ap (λ (v : ℕ). member_of (slice_get blocks_now v)) same ∙ ap member_of left.own)
        | inr other ↦ now.others u b other at ∙ sym (ap member_of (left.others u b other at))
      ]
