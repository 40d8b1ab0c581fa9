-- The members after an outer line, command by command.
use Rattle.std.proofs.Common.{◌≡◌, ℕ, ◌==◌, ◌<◌, Bool, true, false, ◌&&◌, List, [], length, refl, sym, ap, ◌∙◌, subst, arith, inl, inr, eq-eqb, ne_eqb}
use Rattle.std.proofs.lemmas.Bool.{cases_Bool, cases_eq}
use Rattle.std.proofs.lemmas.List.{length-set}
use Rattle.std.proofs.lemmas.Option.{same_Some, slice_get_within}
use Rattle.std.specs.Prelude.{Option, Some, None, if◌then◌else◌, slice_get}
use Rattle.xs_base.specs.declared.words.Set.{Set}
use Rattle.xs_base.specs.declared.words.Signo.{Signo}
use Rattle.xs_base.specs.Task.{PrivateTask, parked}
use Rattle.xs_model.specs.declared.event.Reply.{Reply}
use Rattle.xs_model.specs.declared.event.Reply.TheVariants as replies
use Rattle.xs_model.specs.declared.script.Command.{Command}
use Rattle.xs_model.specs.declared.script.Command.TheVariants.{Fork, Kill, Stop, Wait, Getregs, Setregs, Cont}
use Rattle.xs_model.specs.declared.script.Script.{Script}
use Rattle.xs_model.specs.declared.stage.Stage.{Stage}
use Rattle.xs_model.specs.declared.stage.Stage.TheVariants as stages
use Rattle.xs_model.specs.Effects.{reached}
use Rattle.xs_model.specs.Note.{is_count}
use Rattle.xs_model.specs.Outer as outers
use Rattle.xs_model.specs.Outer.{born, child_reply, continued, insert, is_blocked, let_go, no_block, outer_own, outer_reply, signalled, stage_reply, task_left, wait_reply, woken}
use Rattle.xs_model.specs.Script.{block_named}
use Rattle.xs_model.specs.State.{BlockState, is_parent, is_stopped, lives, parent_of, stage_at, stage_of}
use Rattle.xs_board.specs.Deed.{blocks_at, deed_of, goes_on, is_traced, members_by}
use Rattle.xs_board.specs.declared.member.Life.{Life}
use Rattle.xs_board.specs.declared.member.Life.TheVariants as lives
use Rattle.xs_board.specs.Member.{Member, AreMembers, born_of, going, is_alive, is_stopped_life, life_of, member_at, member_of, received, waiter_in, with_going, with_life}
use Rattle.xs_board.proofs.Mirror.{alive_at, stopped_at, traced_at}
use Rattle.xs_board.proofs.Tests.{if_false, if_true}
use Rattle.xs_board.proofs.Woken.{going_length, set_here, set_there, woken_at}

-- ---- tests

and_true : (b : Bool) → (b && true) ≡ b
and_true true = refl
and_true false = refl

and_false : (b : Bool) → (b && false) ≡ false
and_false true = refl
and_false false = refl

-- a test of a block's number
here_is : (counted : Bool) (v u : ℕ) → u ≡ v → (counted && (v == u)) ≡ counted
here_is counted v u same = ap (λ (b : Bool). counted && b) (eq-eqb v u (sym same)) ∙ and_true counted

pub there_is : (counted : Bool) (v u : ℕ) → (u ≡ v → ⊥) → (counted && (v == u)) ≡ false
there_is counted v u other = ap (λ (b : Bool). counted && b) (ne_eqb v u (λ (e : v ≡ u). other (sym e))) ∙ and_false counted

-- ---- replies

-- a signal counts where its block lives
sent_counts : (b : Bool) → is_count (if b then replies.Count 0 else no_block) ≡ b
sent_counts true = refl
sent_counts false = refl

pub held_counts : (b : Bool) → outers.is_held (if b then replies.Held else replies.Done) ≡ b
held_counts true = refl
held_counts false = refl

-- a `cont` counts where its block is stopped
pub cont_counts : (b : Option BlockState) → is_count (child_reply (λ task. replies.Count 0) b) ≡ is_stopped (stage_of b)
cont_counts None = refl
cont_counts (Some b) = by_test (is_stopped b.stage)
  where
    by_test : (x : Bool) → is_count (if x then replies.Count 0 else no_block) ≡ x
    by_test true = refl
    by_test false = refl

-- a wait blocks while its child goes on
wait_blocks : (t : ℕ) (b : Option BlockState) → is_blocked (wait_reply t b) ≡ blocks_at t (member_of b)
wait_blocks t None = refl
wait_blocks t (Some b) = by_parent (is_parent b.parent t)
  where
    by_stage : (s : Stage) → is_blocked (stage_reply s) ≡ goes_on (life_of s)
    by_stage stages.Unborn = refl
    by_stage stages.Ready = refl
    by_stage (stages.Turn cpu ran) = refl
    by_stage stages.Stopped = refl
    by_stage (stages.Waiting child) = refl
    by_stage stages.Ended = refl

    by_parent : (x : Bool) → is_blocked (if x then stage_reply b.stage else replies.Ended) ≡ (x && goes_on (life_of b.stage))
    by_parent true = by_stage b.stage
    by_parent false = refl

-- ---- blocks

-- a signal is received where the block lives
received_is : (signo : Signo) (b : BlockState) (counted : Bool) → counted ≡ is_alive (life_of b.stage) → received signo (member_of (Some b)) ≡ member_of (Some (if counted then signalled signo b else b))
received_is signo b counted is = ap (λ (alive : Bool). if alive then record (member_of (Some b)) { pending = insert signo b.pending } else member_of (Some b)) (sym is) ∙ by_test counted
  where
    by_test : (x : Bool) → (if x then record (member_of (Some b)) { pending = insert signo b.pending } else member_of (Some b)) ≡ member_of (Some (if x then signalled signo b else b))
    by_test true = refl
    by_test false = refl

-- a stopped block goes on
continued_is : (b : BlockState) → is_stopped b.stage ≡ true → member_of (Some (continued b)) ≡ going (member_of (Some b))
continued_is b on = by_stage b.stage on
  where
    made : Life → Member
    made life = record { life = life; parent = b.parent; pending = b.pending }

    by_stage : (s : Stage) → is_stopped s ≡ true → made (life_of (let_go true s)) ≡ made lives.Going
    by_stage stages.Unborn on = absurd (cc on)
    by_stage stages.Ready on = absurd (cc on)
    by_stage (stages.Turn cpu ran) on = absurd (cc on)
    by_stage stages.Stopped on = refl
    by_stage (stages.Waiting child) on = absurd (cc on)
    by_stage stages.Ended on = absurd (cc on)

-- a block that is let go and isn't stopped goes as before
continued_life : (s : Stage) → life_of s ≡ lives.Going → life_of (let_go true s) ≡ lives.Going
continued_life stages.Unborn is = absurd (cc is)
continued_life stages.Ready is = refl
continued_life (stages.Turn cpu ran) is = refl
continued_life stages.Stopped is = absurd (cc is)
continued_life (stages.Waiting child) is = absurd (cc is)
continued_life stages.Ended is = absurd (cc is)

-- ---- the members of a block that is reached, and of the others

module _ (script : Script) (blocks : List BlockState) (members : List Member) (are : AreMembers blocks members) (t : ℕ) (state : BlockState) (here : slice_get blocks t ≡ Some state) (goes : life_of state.stage ≡ lives.Going) (len : length members ≡ length blocks) (reply : Reply) where
  -- the members after the line
  abbrev now : Command → List Member
  now command = members_by t (deed_of script command) members

  -- What they are.
  pub record AreChanged (command : Command) : Type 0 where
    pub own : member_at (now command) t ≡ member_of (Some (outer_own script (Some command) reply (reached script blocks t command reply t state)))
    pub others : (u : ℕ) (b : BlockState) → (u ≡ t → ⊥) → slice_get blocks u ≡ Some b → member_at (now command) u ≡ member_of (Some (reached script blocks t command reply u b))
    pub many : length (now command) ≡ length blocks

  within : (u : ℕ) (b : BlockState) → slice_get blocks u ≡ Some b → u < length members
  within u b at = let is = slice_get_within blocks u b at in omega (arith, is, len)

  mine : member_at members t ≡ member_of (Some state)
  mine = are t ∙ ap member_of here

  -- a turn that ends leaves the block going
  ready_again : (b : BlockState) (task : PrivateTask) → life_of b.stage ≡ lives.Going → member_of (Some b) ≡ member_of (Some (record b { stage = stages.Ready; task = task }))
  ready_again b task is = ap (λ (life : Life). record { life = life; parent = b.parent; pending = b.pending }) is

  -- ---- lines that leave the members

  same_changed : (command : Command) → now command ≡ members → ((u : ℕ) (b : BlockState) → member_of (Some (reached script blocks t command reply u b)) ≡ member_of (Some b))
      → member_of (Some (outer_own script (Some command) reply (reached script blocks t command reply t state))) ≡ member_of (Some (reached script blocks t command reply t state)) → AreChanged command
  same_changed command is each own = record {
    own = ap (λ (all : List Member). member_at all t) is ∙ mine ∙ sym (each t state) ∙ sym own;
    others = λ u b other at. ap (λ (all : List Member). member_at all u) is ∙ are u ∙ ap member_of at ∙ sym (each u b);
    many = ap length is ∙ len;
  }

  -- ---- a fork

  module _ (name : List ℕ) (child : BlockState) (there : slice_get blocks (block_named script name) ≡ Some child) (unborn : child.stage ≡ stages.Unborn) (apart : t ≡ block_named script name → ⊥) (quiet : child.pending ≡ []) where
    abbrev c : ℕ
    c = block_named script name

    fork_there : (u : ℕ) (b : BlockState) → (u ≡ c → ⊥) → slice_get blocks u ≡ Some b → member_at (now (Fork name)) u ≡ member_of (Some (reached script blocks t (Fork name) reply u b))
    fork_there u b other at =
        set_there members c u (born_of t (member_at members c)) other ∙ are u ∙ ap member_of at
        ∙ ap (λ (x : BlockState). member_of (Some x)) (sym (if_false (c == u) (born t (slice_get blocks t) b) b (ne_eqb c u (λ (e : c ≡ u). other (sym e)))))

    fork_here : member_at (now (Fork name)) c ≡ member_of (Some (reached script blocks t (Fork name) reply c child))
    fork_here =
        set_here members c (born_of t (member_at members c)) (within c child there)
        ∙ ap (born_of t) (are c ∙ ap member_of there)
        ∙ ap (λ (pending : List Signo). record { life = lives.Going; parent = Some t; pending = pending }) quiet
        ∙ sym (ap (λ (x : BlockState). member_of (Some x)) (if_true (c == c) (born t (slice_get blocks t) child) child (eq-eqb c c refl))
        ∙ ap (λ (parent : Option BlockState). member_of (Some (born t parent child))) here
        ∙ ap (λ (s : Stage). member_of (Some (outers.bear t state.task s child))) unborn)

    pub fork_changed : AreChanged (Fork name)
    fork_changed = record {
      own =
          let stays : reached script blocks t (Fork name) reply t state ≡ state = if_false (c == t) _ _ (ne_eqb c t (λ (e : c ≡ t). apart (sym e))) in
          fork_there t state apart here
          ∙ ready_again (reached script blocks t (Fork name) reply t state) (parked (task_left (Fork name) reply (reached script blocks t (Fork name) reply t state).task)) (ap (λ (b : BlockState). life_of b.stage) stays ∙ goes);
      others = λ u b other at. elim (cases_eq u c) [
        | inl same ↦
            let is : child ≡ b = same_Some child b (sym there ∙ ap (slice_get blocks) (sym same) ∙ at) in
            subst (λ (x : BlockState). member_at (now (Fork name)) u ≡ member_of (Some (reached script blocks t (Fork name) reply u x))) is
            (subst (λ (v : ℕ). member_at (now (Fork name)) v ≡ member_of (Some (reached script blocks t (Fork name) reply v child))) (sym same) fork_here)
        | inr far ↦ fork_there u b far at
      ];
      many = length-set members c (born_of t (member_at members c)) ∙ len;
    }

  -- ---- a signal

  pub kill_changed : (name : List ℕ) (signo : Signo) → block_named script name < length blocks → reply ≡ outer_reply script blocks t (Kill name signo) → AreChanged (Kill name signo)
  kill_changed name signo known is = record {
    own =
        each t state here
        ∙ ready_again (reached script blocks t (Kill name signo) reply t state) (parked (task_left (Kill name signo) reply (reached script blocks t (Kill name signo) reply t state).task)) (by_test (is_count reply && (block_named script name == t)) ∙ goes);
    others = λ u b other at. each u b at;
    many = length-set members v (received signo (member_at members v)) ∙ len;
  }
    where
      v : ℕ
      v = block_named script name

      counted : is_count reply ≡ is_alive (member_at members v).life
      counted = ap is_count is ∙ sent_counts (lives (stage_at blocks v)) ∙ sym (alive_at blocks members are v)

      by_test : (x : Bool) → life_of (if x then signalled signo state else state).stage ≡ life_of state.stage
      by_test true = refl
      by_test false = refl

      each : (u : ℕ) (b : BlockState) → slice_get blocks u ≡ Some b → member_at (now (Kill name signo)) u ≡ member_of (Some (reached script blocks t (Kill name signo) reply u b))
      each u b at = elim (cases_eq u v) [
        | inl same ↦
            let member : member_at members v ≡ member_of (Some b) = ap (member_at members) (sym same) ∙ are u ∙ ap member_of at in
            ap (member_at (now (Kill name signo))) same
            ∙ set_here members v (received signo (member_at members v)) (omega (arith, known, len))
            ∙ ap (received signo) member
            ∙ received_is signo b (is_count reply) (counted ∙ ap (λ (m : Member). is_alive m.life) member)
            ∙ ap (λ (x : Bool). member_of (Some (if x then signalled signo b else b))) (sym (here_is (is_count reply) v u same))
        | inr other ↦
            set_there members v u (received signo (member_at members v)) other ∙ are u ∙ ap member_of at
            ∙ ap (λ (x : Bool). member_of (Some (if x then signalled signo b else b))) (sym (there_is (is_count reply) v u other))
      ]

  -- ---- a `cont`

  pub cont_changed : (name : List ℕ) → block_named script name < length blocks → reply ≡ outer_reply script blocks t (Cont name) → AreChanged (Cont name)
  cont_changed name known is = elim (cases_Bool (is_stopped_life (member_at members v).life)) [
    | inl on ↦
        let all : now (Cont name) ≡ with_life v lives.Going members = if_true (is_stopped_life (member_at members v).life) _ _ on in
        record {
          own =
              each all on t state here
              ∙ ready_again (reached script blocks t (Cont name) reply t state) (parked (task_left (Cont name) reply (reached script blocks t (Cont name) reply t state).task)) (by_test (is_count reply && (v == t)));
          others = λ u b other at. each all on u b at;
          many = ap length all ∙ length-set members v (record (member_at members v) { life = lives.Going }) ∙ len;
        }
    | inr off ↦
        let all : now (Cont name) ≡ members = if_false (is_stopped_life (member_at members v).life) _ _ off in
        let none : (u : ℕ) → (is_count reply && (v == u)) ≡ false = λ u. ap (λ (x : Bool). x && (v == u)) (counted ∙ off) in
        same_changed (Cont name) all (λ u b. ap (λ (x : Bool). member_of (Some (if x then continued b else b))) (none u))
        (sym (ready_again (reached script blocks t (Cont name) reply t state) (parked (task_left (Cont name) reply (reached script blocks t (Cont name) reply t state).task)) (by_test (is_count reply && (v == t)))))
  ]
    where
      v : ℕ
      v = block_named script name

      counted : is_count reply ≡ is_stopped_life (member_at members v).life
      counted = ap is_count is ∙ cont_counts (slice_get blocks v) ∙ sym (stopped_at blocks members are v)

      by_test : (x : Bool) → life_of (if x then continued state else state).stage ≡ lives.Going
      by_test true = continued_life state.stage goes
      by_test false = goes

      each : now (Cont name) ≡ with_life v lives.Going members → is_stopped_life (member_at members v).life ≡ true → (u : ℕ) (b : BlockState) → slice_get blocks u ≡ Some b → member_at (now (Cont name)) u ≡ member_of (Some (reached script blocks t (Cont name) reply u b))
      each all on u b at = elim (cases_eq u v) [
        | inl same ↦
            let member : member_at members v ≡ member_of (Some b) = ap (member_at members) (sym same) ∙ are u ∙ ap member_of at in
            let stopped : is_stopped b.stage ≡ true = ap (λ (x : Option BlockState). is_stopped (stage_of x)) (sym at) ∙ ap (λ (n : ℕ). is_stopped (stage_at blocks n)) same ∙ sym (stopped_at blocks members are v) ∙ on in
            ap (λ (l : List Member). member_at l u) all
            ∙ ap (member_at (with_life v lives.Going members)) same
            ∙ set_here members v (record (member_at members v) { life = lives.Going }) (omega (arith, known, len))
            ∙ ap going member
            ∙ sym (continued_is b stopped)
            ∙ ap (λ (x : Bool). member_of (Some (if x then continued b else b))) (sym (here_is (is_count reply) v u same ∙ counted ∙ on))
        | inr other ↦
            ap (λ (l : List Member). member_at l u) all
            ∙ set_there members v u (record (member_at members v) { life = lives.Going }) other ∙ are u ∙ ap member_of at
            ∙ ap (λ (x : Bool). member_of (Some (if x then continued b else b))) (sym (there_is (is_count reply) v u other))
      ]

  -- ---- a wait

  pub wait_changed : (name : List ℕ) → reply ≡ outer_reply script blocks t (Wait name) → AreChanged (Wait name)
  wait_changed name is = elim (cases_Bool (blocks_at t (member_at members v))) [
    | inl on ↦
        let all : now (Wait name) ≡ with_life t (lives.Waiting v) members = if_true (blocks_at t (member_at members v)) _ _ on in
        record {
          own =
              ap (λ (l : List Member). member_at l t) all
              ∙ set_here members t (record (member_at members t) { life = lives.Waiting v }) (within t state here)
              ∙ ap (λ (m : Member). record m { life = lives.Waiting v }) mine
              ∙ ap (λ (x : Bool). record { life = life_of (if x then stages.Waiting v else stages.Ready); parent = state.parent; pending = state.pending }) (sym (blocked ∙ on));
          others = λ u b other at. ap (λ (l : List Member). member_at l u) all ∙ set_there members t u (record (member_at members t) { life = lives.Waiting v }) other ∙ are u ∙ ap member_of at;
          many = ap length all ∙ length-set members t (record (member_at members t) { life = lives.Waiting v }) ∙ len;
        }
    | inr off ↦
        let all : now (Wait name) ≡ members = if_false (blocks_at t (member_at members v)) _ _ off in
        same_changed (Wait name) all (λ u b. refl)
        (ap (λ (x : Bool). record { life = life_of (if x then stages.Waiting v else stages.Ready); parent = state.parent; pending = state.pending }) (blocked ∙ off) ∙ ap (λ (life : Life). record { life = life; parent = state.parent; pending = state.pending }) (sym goes))
  ]
    where
      v : ℕ
      v = block_named script name

      blocked : is_blocked reply ≡ blocks_at t (member_at members v)
      blocked = ap is_blocked is ∙ wait_blocks t (slice_get blocks v) ∙ ap (blocks_at t) (sym (are v))

  -- ---- a stop

  pub stop_changed : ((u child : ℕ) → stage_at blocks u ≡ stages.Waiting child → parent_of (slice_get blocks child) ≡ Some u) → reply ≡ outer_reply script blocks t Stop → AreChanged Stop
  stop_changed waits is = elim (cases_Bool (is_traced members t)) [
    | inl on ↦
        let woken_now = with_going (waiter_in members t) members in
        let all : now Stop ≡ with_life t lives.Stopped woken_now = if_true (is_traced members t) _ _ on in
        let long = going_length (waiter_in members t) members in
        let in_range = within t state here in
        let on_it : outers.is_held reply ≡ true = held ∙ on in
        record {
          own =
              ap (λ (l : List Member). member_at l t) all
              ∙ set_here woken_now t (record (member_at woken_now t) { life = lives.Stopped }) (omega (arith, in_range, long))
              ∙ ap (λ (m : Member). record m { life = lives.Stopped }) (woken_at blocks members are t len waits t state here)
              ∙ sym (ap (λ (x : Bool). member_of (Some (record (if x then woken t state else state) { stage = if x then stages.Stopped else stages.Ready }))) on_it);
          others = λ u b other at.
              ap (λ (l : List Member). member_at l u) all
              ∙ set_there woken_now t u (record (member_at woken_now t) { life = lives.Stopped }) other
              ∙ woken_at blocks members are t len waits u b at
              ∙ sym (ap (λ (x : Bool). member_of (Some (if x then woken t b else b))) on_it);
          many = ap length all ∙ length-set woken_now t (record (member_at woken_now t) { life = lives.Stopped }) ∙ long ∙ len;
        }
    | inr off ↦
        let all : now Stop ≡ members = if_false (is_traced members t) _ _ off in
        let off_it : outers.is_held reply ≡ false = held ∙ off in
        same_changed Stop all (λ u b. ap (λ (x : Bool). member_of (Some (if x then woken t b else b))) off_it)
        (ap (λ (x : Bool). member_of (Some (record (if x then woken t state else state) { stage = if x then stages.Stopped else stages.Ready }))) off_it
        ∙ ap (λ (life : Life). record { life = life; parent = state.parent; pending = state.pending }) (sym goes)
        ∙ sym (ap (λ (x : Bool). member_of (Some (if x then woken t state else state))) off_it))
  ]
    where
      held : outers.is_held reply ≡ is_traced members t
      held = ap outers.is_held is ∙ held_counts (outers.parent_lives blocks (parent_of (slice_get blocks t))) ∙ sym (traced_at blocks members are t)

  -- ---- register sets

  pub get_changed : (name : List ℕ) (set : Set) → AreChanged (Getregs name set)
  get_changed name set = same_changed (Getregs name set) refl (λ u b. by_test (is_count reply && (t == u)) b)
      (sym (ready_again (reached script blocks t (Getregs name set) reply t state) (parked (task_left (Getregs name set) reply (reached script blocks t (Getregs name set) reply t state).task)) (ap (λ (m : Member). m.life) (by_test (is_count reply && (t == t)) state) ∙ goes)))
    where
      by_test : (x : Bool) (b : BlockState) → member_of (Some (if x then outers.buffer_filled set (slice_get blocks (block_named script name)) b else b)) ≡ member_of (Some b)
      by_test true b = refl
      by_test false b = refl

  pub set_changed : (name : List ℕ) (set : Set) (count : ℕ) → AreChanged (Setregs name set count)
  set_changed name set count = same_changed (Setregs name set count) refl (λ u b. by_test (is_count reply && (block_named script name == u)) b)
      (sym (ready_again (reached script blocks t (Setregs name set count) reply t state) (parked (task_left (Setregs name set count) reply (reached script blocks t (Setregs name set count) reply t state).task)) (ap (λ (m : Member). m.life) (by_test (is_count reply && (block_named script name == t)) state) ∙ goes)))
    where
      by_test : (x : Bool) (b : BlockState) → member_of (Some (if x then outers.registers_set set count (outers.buffer_of (slice_get blocks t)) b else b)) ≡ member_of (Some b)
      by_test true b = refl
      by_test false b = refl
