-- Which changes of the blocks are moves of a family.
use Rattle.std.proofs.Common.{◌≡◌, ℕ, ◌==◌, Bool, true, false, List, map, refl, sym, ap, ◌∙◌, subst, inl, inr, ◌⊎◌, ⊎_elim, eq-eqb, eqb-true}
use Rattle.std.proofs.lemmas.Bool.{cases_eq, both_ways}
use Rattle.std.proofs.lemmas.Option.{slice_get-map}
use Rattle.std.specs.Prelude.{Option, Some, None, if◌then◌else◌, slice_get}
use Rattle.std.specs.Option.{option_map}
use Rattle.xs_base.specs.declared.words.Set.{Set}
use Rattle.xs_base.specs.declared.words.Signo.{Signo}
use Rattle.xs_model.specs.declared.event.Reply.TheVariants as replies
use Rattle.xs_model.specs.declared.stage.Stage.{Stage}
use Rattle.xs_model.specs.declared.stage.Stage.TheVariants.{Unborn, Ready, Turn, Stopped, Waiting, Ended}
use Rattle.xs_model.specs.State.{BlockState, turn_cpu, lives, is_active, stage_of, stage_at, parent_of, is_parent, changed}
use Rattle.xs_model.specs.Outer.{is_blocked, wake, woken, let_go, continued, freed, signalled, registers_set, buffer_filled, stage_reply, wait_reply, parent_lives}
use Rattle.xs_model.proofs.EventTurns.{changed_same, changed_other, filled_stage}
use Rattle.xs_model.proofs.Family.{goes, is_born, IsFamily, Moves}
use Rattle.xs_model.proofs.Families.{family_next}

-- the parent of the block at a place
abbrev pub parent_at : List BlockState → ℕ → Option ℕ
parent_at blocks v = parent_of (slice_get blocks v)

-- there is such a block
abbrev pub is_there : Option BlockState → Bool
is_there None = false
is_there (Some block) = true

-- A stage stays, or becomes ready.
abbrev pub Softly : Stage → Stage → Type 0
Softly old new = (new ≡ old) ⊎ ((new ≡ Ready) × (is_born old ≡ true))

-- An effect that leaves each block as it was, or ready again.
pub record Soft (f : BlockState → BlockState) : Type 0 where
  pub stage : (block : BlockState) → Softly block.stage (f block).stage
  pub parent : (block : BlockState) → (f block).parent ≡ block.parent

-- another list, of blocks that stay or are ready again
pub record SoftList (old new : List BlockState) : Type 0 where
  pub stage : (v : ℕ) → Softly (stage_at old v) (stage_at new v)
  pub parent : (v : ℕ) → parent_at new v ≡ parent_at old v
  pub there : (v : ℕ) → is_there (slice_get new v) ≡ is_there (slice_get old v)

-- the same list
pub soft_same : (blocks : List BlockState) → SoftList blocks blocks
soft_same blocks = record { stage = λ v. inl refl; parent = λ v. refl; there = λ v. refl }

-- of a block that may not be there
soft_option : (f : BlockState → BlockState) → Soft f → (block : Option BlockState) → Softly (stage_of block) (stage_of (option_map f block)) × (parent_of (option_map f block) ≡ parent_of block) × (is_there (option_map f block) ≡ is_there block)
soft_option f soft None = (inl refl, refl, refl)
soft_option f soft (Some block) = (soft.stage block, soft.parent block, refl)

-- of the block at a place
soft_at : (old new : List BlockState) (f : BlockState → BlockState) (v : ℕ) → Soft f → (slice_get new v ≡ slice_get old v) ⊎ (slice_get new v ≡ option_map f (slice_get old v)) → Softly (stage_at old v) (stage_at new v) × (parent_at new v ≡ parent_at old v) × (is_there (slice_get new v) ≡ is_there (slice_get old v))
soft_at old new f v soft how = ⊎_elim
    (λ (same : slice_get new v ≡ slice_get old v). (inl (ap stage_of same), ap parent_of same, ap is_there same))
    (λ (there : slice_get new v ≡ option_map f (slice_get old v)).
    let s = soft_option f soft (slice_get old v) in
    subst (λ (block : Option BlockState). Softly (stage_at old v) (stage_of block) × (parent_of block ≡ parent_at old v) × (is_there block ≡ is_there (slice_get old v))) (sym there) s)
    how

-- block by block
pub soft_list : (old new : List BlockState) → ((v : ℕ) → Softly (stage_at old v) (stage_at new v) × (parent_at new v ≡ parent_at old v) × (is_there (slice_get new v) ≡ is_there (slice_get old v))) → SoftList old new
soft_list old new each = record { stage = λ v. (each v).0; parent = λ v. (each v).1; there = λ v. (each v).2 }

-- such an effect on each block
pub soft_map : (f : BlockState → BlockState) → Soft f → (blocks : List BlockState) → SoftList blocks (map f blocks)
soft_map f soft blocks = soft_list blocks (map f blocks) (λ v. soft_at blocks (map f blocks) f v soft (inr (slice_get-map f blocks v)))

-- on one block
pub soft_changed : (t : ℕ) (f : BlockState → BlockState) → Soft f → (blocks : List BlockState) → SoftList blocks (changed t f blocks)
soft_changed t f soft blocks = soft_list blocks (changed t f blocks) (λ v. soft_at blocks (changed t f blocks) f v soft (⊎_elim
    (λ (same : t ≡ v). inr (subst (λ (x : ℕ). slice_get (changed t f blocks) x ≡ option_map f (slice_get blocks x)) same (changed_same t f blocks)))
    (λ (other : t ≡ v → ⊥). inl (changed_other t v f blocks other))
    (cases_eq t v)))

-- or on none
pub soft_if : (b : Bool) (old new : List BlockState) → SoftList old new → SoftList old (if b then new else old)
soft_if true old new soft = soft
soft_if false old new soft = soft_same old

-- ---- the effects on other blocks are soft

-- a waiter, by a test
waiting_softly : (b : Bool) (child : ℕ) → Softly (Waiting child) (if b then Ready else Waiting child)
waiting_softly true child = inr (refl, refl)
waiting_softly false child = inl refl

-- a stopped block, by a test
stopped_softly : (b : Bool) → Softly Stopped (if b then Ready else Stopped)
stopped_softly true = inr (refl, refl)
stopped_softly false = inl refl

-- to wake
wake_softly : (t : ℕ) (s : Stage) → Softly s (wake t s)
wake_softly t Unborn = inl refl
wake_softly t Ready = inl refl
wake_softly t (Turn cpu ran) = inl refl
wake_softly t Stopped = inl refl
wake_softly t (Waiting child) = waiting_softly (child == t) child
wake_softly t Ended = inl refl

-- to let go
let_go_softly : (may : Bool) (s : Stage) → Softly s (let_go may s)
let_go_softly may Unborn = inl refl
let_go_softly may Ready = inl refl
let_go_softly may (Turn cpu ran) = inl refl
let_go_softly may Stopped = stopped_softly may
let_go_softly may (Waiting child) = inl refl
let_go_softly may Ended = inl refl

-- to free a waiter
freed_waiting : (may b : Bool) (child : ℕ) → Softly (Waiting child) (let_go may (if b then Ready else Waiting child))
freed_waiting may true child = inr (refl, refl)
freed_waiting may false child = inl refl

-- to free
freed_softly : (may : Bool) (t : ℕ) (s : Stage) → Softly s (let_go may (wake t s))
freed_softly may t Unborn = inl refl
freed_softly may t Ready = inl refl
freed_softly may t (Turn cpu ran) = inl refl
freed_softly may t Stopped = stopped_softly may
freed_softly may t (Waiting child) = freed_waiting may (child == t) child
freed_softly may t Ended = inl refl

-- who is woken
pub woken_soft : (t : ℕ) → Soft (woken t)
woken_soft t = record { stage = λ block. wake_softly t block.stage; parent = λ block. refl }

-- who is freed
pub freed_soft : (t : ℕ) → Soft (freed t)
freed_soft t = record { stage = λ block. freed_softly (is_parent block.parent t) t block.stage; parent = λ block. refl }

-- who goes on
pub continued_soft : Soft continued
continued_soft = record { stage = λ block. let_go_softly true block.stage; parent = λ block. refl }

-- who is signalled
pub signalled_soft : (signo : Signo) → Soft (signalled signo)
signalled_soft signo = record { stage = λ block. inl refl; parent = λ block. refl }

-- whose registers are set
pub set_soft : (set : Set) (count : ℕ) (buffer : List ℕ) → Soft (registers_set set count buffer)
set_soft set count buffer = record { stage = λ block. inl refl; parent = λ block. refl }

-- the parent of a block whose buffer is filled
filled_parent : (set : Set) (child : Option BlockState) (block : BlockState) → (buffer_filled set child block).parent ≡ block.parent
filled_parent set None block = refl
filled_parent set (Some child) block = refl

-- whose buffer is filled
pub filled_soft : (set : Set) (child : Option BlockState) → Soft (buffer_filled set child)
filled_soft set child = record { stage = λ block. inl (filled_stage set child block); parent = λ block. filled_parent set child block }

-- ---- from a soft change of the others and a change of one to a move

-- a block that is there
pub some_of : (block : Option BlockState) → is_there block ≡ true → (b : BlockState) × (block ≡ Some b)
some_of None there = absurd (cc)
some_of (Some block) there = (block, refl)

-- the new stage of the block itself
own_stage : (mid : List BlockState) (t : ℕ) (f : BlockState → BlockState) (b : BlockState) → slice_get mid t ≡ Some b → stage_at (changed t f mid) t ≡ (f b).stage
own_stage mid t f b at = ap stage_of (changed_same t f mid) ∙ ap (λ (block : Option BlockState). stage_of (option_map f block)) at

-- that of another block
other_stage : (mid : List BlockState) (t v : ℕ) (f : BlockState → BlockState) → (v ≡ t → ⊥) → stage_at (changed t f mid) v ≡ stage_at mid v
other_stage mid t v f other = ap stage_of (changed_other t v f mid (λ (same : t ≡ v). other (sym same)))

-- the parents stay
parents_stay : (old mid : List BlockState) (t : ℕ) (f : BlockState → BlockState) → ((b : BlockState) → (f b).parent ≡ b.parent) → SoftList old mid → (v : ℕ) → parent_at (changed t f mid) v ≡ parent_at old v
parents_stay old mid t f keeps soft v = ⊎_elim
    (λ (same : t ≡ v). subst (λ (x : ℕ). parent_at (changed t f mid) x ≡ parent_at old x) same (ap parent_of (changed_same t f mid) ∙ kept (slice_get mid t) ∙ soft.parent t))
    (λ (other : t ≡ v → ⊥). ap parent_of (changed_other t v f mid other) ∙ soft.parent v)
    (cases_eq t v)
  where
    kept : (block : Option BlockState) → parent_of (option_map f block) ≡ parent_of block
    kept None = refl
    kept (Some b) = keeps b

-- a family by the same parents
same_parents : (stage : ℕ → Stage) (one two : ℕ → Option ℕ) → ((v : ℕ) → two v ≡ one v) → IsFamily stage one → IsFamily stage two
same_parents stage one two same family = record {
  rank = family.rank;
  most = family.most;
  bounded = family.bounded;
  parents = λ v p is. family.parents v p (sym (same v) ∙ is);
  waits = λ v c is. let w = family.waits v c is in (same c ∙ w.0, w.1);
  stops = λ v is. let s = family.stops v is in (s.0, same v ∙ s.1, s.2);
}

-- the conditions on the new stage of the block itself
pub record OwnMove (old mid : List BlockState) (t : ℕ) (s : Stage) : Type 0 where
  pub born : is_born s ≡ true
  pub unwaited : goes s ≡ false → (v : ℕ) → (v ≡ t → ⊥) → stage_at mid v ≡ Waiting t → ⊥
  pub released : lives s ≡ false → (v : ℕ) → (v ≡ t → ⊥) → stage_at mid v ≡ Stopped → parent_at old v ≡ Some t → ⊥
  pub stopped : s ≡ Stopped → (p : ℕ) × (parent_at old t ≡ Some p) × (lives (stage_at old p) ≡ true)
  pub waiting : (c : ℕ) → s ≡ Waiting c → (parent_at old c ≡ Some t) × (goes (stage_at old c) ≡ true)

-- an effect on the others and a move of one leave a family
pub family_moved : (old mid : List BlockState) (t : ℕ) (f : BlockState → BlockState) (b : BlockState) → SoftList old mid → slice_get mid t ≡ Some b → ((b : BlockState) → (f b).parent ≡ b.parent) → OwnMove old mid t (f b).stage → IsFamily (stage_at old) (parent_at old) → IsFamily (stage_at (changed t f mid)) (parent_at (changed t f mid))
family_moved old mid t f b soft at keeps move family =
    let here = own_stage mid t f b at in
    let moves : Moves (stage_at old) (stage_at (changed t f mid)) (parent_at old) t = record {
      others = λ v other. subst (λ (s : Stage). Softly (stage_at old v) s) (sym (other_stage mid t v f other)) (soft.stage v);
      born = ap is_born here ∙ move.born;
      unwaited = λ off v other is. move.unwaited (ap goes (sym here) ∙ off) v other (sym (other_stage mid t v f other) ∙ is);
      released = λ off v other is child. move.released (ap lives (sym here) ∙ off) v other (sym (other_stage mid t v f other) ∙ is) child;
      stopped = λ is. move.stopped (sym here ∙ is);
      waiting = λ c is. move.waiting c (sym here ∙ is);
    } in
    same_parents (stage_at (changed t f mid)) (parent_at old) (parent_at (changed t f mid)) (parents_stay old mid t f keeps soft) (family_next (stage_at old) (stage_at (changed t f mid)) (parent_at old) t family moves)

-- a block that is active has no conditions
pub active_move : (old mid : List BlockState) (t : ℕ) (s : Stage) → is_active s ≡ true → OwnMove old mid t s
active_move old mid t Unborn on = absurd (cc)
active_move old mid t Ready on = record { born = refl; unwaited = λ off. absurd (cc); released = λ off. absurd (cc); stopped = λ is. absurd (cc); waiting = λ c is. absurd (cc) }
active_move old mid t (Turn cpu ran) on = record { born = refl; unwaited = λ off. absurd (cc); released = λ off. absurd (cc); stopped = λ is. absurd (cc); waiting = λ c is. absurd (cc) }
active_move old mid t Stopped on = absurd (cc)
active_move old mid t (Waiting child) on = absurd (cc)
active_move old mid t Ended on = absurd (cc)

-- a block in a turn is there
pub there_of : (block : Option BlockState) (cpu : ℕ) → turn_cpu (stage_of block) ≡ Some cpu → is_there block ≡ true
there_of None cpu is = absurd (cc)
there_of (Some block) cpu is = refl

-- ---- an end

-- a waiter that is freed doesn't wait, by the test
freed_not : (b may : Bool) (t child : ℕ) → (child == t) ≡ b → let_go may (if b then Ready else Waiting child) ≡ Waiting t → ⊥
freed_not true may t child test is = cc
freed_not false may t child test is = let same : child ≡ t = cc in both_ways (child == t) test (eq-eqb child t same)

-- after an end nobody waits for the block
freed_unwaited : (may : Bool) (t : ℕ) (s : Stage) → let_go may (wake t s) ≡ Waiting t → ⊥
freed_unwaited may t Unborn is = cc
freed_unwaited may t Ready is = cc
freed_unwaited may t (Turn cpu ran) is = cc
freed_unwaited true t Stopped is = cc
freed_unwaited false t Stopped is = cc
freed_unwaited may t (Waiting child) is = freed_not (child == t) may t child refl is
freed_unwaited may t Ended is = cc

-- a waiter that is woken doesn't wait, by the test
wake_not : (b : Bool) (t child : ℕ) → (child == t) ≡ b → (if b then Ready else Waiting child) ≡ Waiting t → ⊥
wake_not true t child test is = cc
wake_not false t child test is = let same : child ≡ t = cc in both_ways (child == t) test (eq-eqb child t same)

-- after a stop nobody waits for the block
wake_unwaited : (t : ℕ) (s : Stage) → wake t s ≡ Waiting t → ⊥
wake_unwaited t Unborn is = cc
wake_unwaited t Ready is = cc
wake_unwaited t (Turn cpu ran) is = cc
wake_unwaited t Stopped is = cc
wake_unwaited t (Waiting child) is = wake_not (child == t) t child refl is
wake_unwaited t Ended is = cc

-- a waiter isn't stopped
let_go_waiting : (b : Bool) (child : ℕ) → let_go true (if b then Ready else Waiting child) ≡ Stopped → ⊥
let_go_waiting true child is = cc
let_go_waiting false child is = cc

-- after an end no child of the block is stopped
freed_released : (may : Bool) (t : ℕ) (s : Stage) → may ≡ true → let_go may (wake t s) ≡ Stopped → ⊥
freed_released false t s mine is = cc
freed_released true t Unborn mine is = cc
freed_released true t Ready mine is = cc
freed_released true t (Turn cpu ran) mine is = cc
freed_released true t Stopped mine is = cc
freed_released true t (Waiting child) mine is = let_go_waiting (child == t) child is
freed_released true t Ended mine is = cc

-- a parent by the test
is_mine : (parent : Option ℕ) (t : ℕ) → parent ≡ Some t → is_parent parent t ≡ true
is_mine None t is = absurd (cc)
is_mine (Some p) t is = eq-eqb p t (cc)

-- an end
pub end_move : (blocks : List BlockState) (t : ℕ) → OwnMove blocks (map (freed t) blocks) t Ended
end_move blocks t = record {
  born = refl;
  unwaited = λ off v other is. not_waiting (slice_get blocks v) (sym (ap stage_of (slice_get-map (freed t) blocks v)) ∙ is);
  released = λ off v other is child. not_stopped (slice_get blocks v) (sym (ap stage_of (slice_get-map (freed t) blocks v)) ∙ is) child;
  stopped = λ is. absurd (cc);
  waiting = λ c is. absurd (cc);
}
  where
    not_waiting : (block : Option BlockState) → stage_of (option_map (freed t) block) ≡ Waiting t → ⊥
    not_waiting None is = cc
    not_waiting (Some block) is = freed_unwaited (is_parent block.parent t) t block.stage is

    not_stopped : (block : Option BlockState) → stage_of (option_map (freed t) block) ≡ Stopped → parent_of block ≡ Some t → ⊥
    not_stopped None is child = cc
    not_stopped (Some block) is child = freed_released (is_parent block.parent t) t block.stage (is_mine block.parent t child) is

-- ---- outer commands

-- a stop under a tracer
pub stop_move : (blocks : List BlockState) (t : ℕ) (parent : Option ℕ) → parent_at blocks t ≡ parent → parent_lives blocks parent ≡ true → OwnMove blocks (map (woken t) blocks) t Stopped
stop_move blocks t None at alive = absurd (cc)
stop_move blocks t (Some p) at alive = record {
  born = refl;
  unwaited = λ off v other is. not_waiting (slice_get blocks v) (sym (ap stage_of (slice_get-map (woken t) blocks v)) ∙ is);
  released = λ off. absurd (cc);
  stopped = λ is. (p, at, alive);
  waiting = λ c is. absurd (cc);
}
  where
    not_waiting : (block : Option BlockState) → stage_of (option_map (woken t) block) ≡ Waiting t → ⊥
    not_waiting None is = cc
    not_waiting (Some block) is = wake_unwaited t block.stage is

-- the test by a parent
mine_is : (parent : Option ℕ) (t : ℕ) → is_parent parent t ≡ true → parent ≡ Some t
mine_is None t is = absurd (cc)
mine_is (Some p) t is = ap Some (eqb-true p t is)

-- a wait for a child that goes
waiting_move : (blocks : List BlockState) (t c : ℕ) → parent_at blocks c ≡ Some t → goes (stage_at blocks c) ≡ true → OwnMove blocks blocks t (Waiting c)
waiting_move blocks t c child going = record {
  born = refl;
  unwaited = λ off. absurd (cc);
  released = λ off. absurd (cc);
  stopped = λ is. absurd (cc);
  waiting = λ k is. let same : c ≡ k = cc in subst (λ (x : ℕ). (parent_at blocks x ≡ Some t) × (goes (stage_at blocks x) ≡ true)) same (child, going);
}

-- a wait, by the stage of the child
wait_stage : (blocks : List BlockState) (t c : ℕ) (s : Stage) → parent_at blocks c ≡ Some t → stage_at blocks c ≡ s → OwnMove blocks blocks t (if is_blocked (stage_reply s) then Waiting c else Ready)
wait_stage blocks t c Unborn child at = active_move blocks blocks t Ready refl
wait_stage blocks t c Ready child at = waiting_move blocks t c child (ap goes at)
wait_stage blocks t c (Turn cpu ran) child at = waiting_move blocks t c child (ap goes at)
wait_stage blocks t c Stopped child at = active_move blocks blocks t Ready refl
wait_stage blocks t c (Waiting k) child at = waiting_move blocks t c child (ap goes at)
wait_stage blocks t c Ended child at = active_move blocks blocks t Ready refl

-- a wait, by the child
pub wait_move : (blocks : List BlockState) (t c : ℕ) (child : Option BlockState) → slice_get blocks c ≡ child → OwnMove blocks blocks t (if is_blocked (wait_reply t child) then Waiting c else Ready)
wait_move blocks t c None at = active_move blocks blocks t Ready refl
wait_move blocks t c (Some block) at = by_parent (is_parent block.parent t) refl
  where
    by_parent : (mine : Bool) → is_parent block.parent t ≡ mine → OwnMove blocks blocks t (if is_blocked (if mine then stage_reply block.stage else replies.Ended) then Waiting c else Ready)
    by_parent true test = wait_stage blocks t c block.stage (ap parent_of at ∙ mine_is block.parent t test) (ap stage_of at)
    by_parent false test = active_move blocks blocks t Ready refl
