-- Whom an outer line, an end and a kill make ready.
use Rattle.std.proofs.Common.{◌≡◌, ℕ, suc, ◌+◌, ◌==◌, Bool, true, false, ◌&&◌, List, [], ◌∷◌, ◌++◌, map, refl, sym, ap, ◌∙◌, eqb-true, arith, ⊎_elim}
use Rattle.std.proofs.lemmas.Bool.{cases_Bool, cases_eq, both_ways}
use Rattle.std.proofs.lemmas.List.{append-nil}
use Rattle.std.proofs.lemmas.Option.{slice_get-map}
use Rattle.std.specs.Prelude.{Option, Some, None, slice_get, if◌then◌else◌}
use Rattle.std.specs.Option.{option_map}
use Rattle.xs_model.specs.declared.stage.Stage.{Stage}
use Rattle.xs_model.specs.declared.stage.Stage.TheVariants.{Unborn, Ready, Turn, Stopped, Waiting, Ended}
use Rattle.xs_model.specs.State.{BlockState, is_ready, is_stopped, stage_of, stage_at, parent_of, is_parent, changed}
use Rattle.xs_model.specs.Outer.{wake, woken, let_go, freed}
use Rattle.xs_model.specs.Ready.{was_waiting, was_idle, was_in_turn, risen, risers}
use Rattle.xs_model.specs.Effects.{is_waiting_for, parent_waiting, waiter_of, stopped_children, freed_by}
use Rattle.xs_model.proofs.Touched.{Both}
use Rattle.xs_model.proofs.EventTurns.{changed_same, changed_other}
use Rattle.xs_model.proofs.Family.{IsFamily}
use Rattle.xs_model.proofs.FamilyMoves.{parent_at}
use Rattle.xs_model.proofs.RiserLaws.{waiting_apart, idle_apart, turn_apart, Apart, rises, rises_at, risen_nobody, risen_alone, each_place, SameStage, still, InTurn, IsOver, Ends, over_there, over_rises}

-- ---- the parent that waits

-- who waits for the block
waiting_is : (t : ℕ) (s : Stage) → is_waiting_for t s ≡ true → s ≡ Waiting t
waiting_is t Unborn is = absurd (cc)
waiting_is t Ready is = absurd (cc)
waiting_is t (Turn cpu ran) is = absurd (cc)
waiting_is t Stopped is = absurd (cc)
waiting_is t (Waiting child) is = ap Waiting (eqb-true child t is)
waiting_is t Ended is = absurd (cc)

-- where those that wait for block t rise, that is its parent at most
waiter_risen : (blocks now : List BlockState) (t : ℕ) → IsFamily (stage_at blocks) (parent_at blocks) → ((v : ℕ) → rises_at was_waiting blocks now v ≡ is_waiting_for t (stage_at blocks v)) → risen was_waiting 0 blocks now ≡ waiter_of blocks t
waiter_risen blocks now t family each = by_parent (parent_of (slice_get blocks t)) refl
  where
    others : (v : ℕ) → (parent_at blocks t ≡ Some v → ⊥) → rises_at was_waiting blocks now v ≡ false
    others v apart = each v ∙ ⊎_elim
        (λ (on : is_waiting_for t (stage_at blocks v) ≡ true). absurd (apart (family.waits v t (waiting_is t (stage_at blocks v) on)).0))
        (λ (off : is_waiting_for t (stage_at blocks v) ≡ false). off)
        (cases_Bool (is_waiting_for t (stage_at blocks v)))

    by_parent : (parent : Option ℕ) → parent_of (slice_get blocks t) ≡ parent → risen was_waiting 0 blocks now ≡ parent_waiting blocks t parent
    by_parent None is = risen_nobody was_waiting 0 blocks now (λ v. others v (λ (e : parent_at blocks t ≡ Some v). cc))
    by_parent (Some p) is = by_test (is_waiting_for t (stage_at blocks p)) refl
      where
        by_test : (b : Bool) → is_waiting_for t (stage_at blocks p) ≡ b → risen was_waiting 0 blocks now ≡ (if b then p ∷ [] else [])
        by_test true on = risen_alone was_waiting 0 p p blocks now (each p ∙ on) (λ v other. others v (λ (e : parent_at blocks t ≡ Some v). other (cc))) (omega arith)
        by_test false off = risen_nobody was_waiting 0 blocks now (each_place p (rises_at was_waiting blocks now) (λ v. false) (each p ∙ off) (λ v other. others v (λ (e : parent_at blocks t ≡ Some v). other (cc))))

-- ---- the stopped children

-- the block is a stopped child of block t
abbrev is_stopped_child : ℕ → Option BlockState → Bool
is_stopped_child t None = false
is_stopped_child t (Some b) = is_stopped b.stage && is_parent b.parent t

-- where the blocks are gone
gone : (was : Stage → Bool) (i : ℕ) (blocks : List BlockState) → risen was i blocks [] ≡ []
gone was i [] = refl
gone was i (b ∷ blocks) = refl

-- where the stopped children of block t rise, they are risen in their order
children_risen : (i : ℕ) (blocks now : List BlockState) (t : ℕ) → ((v : ℕ) → rises_at was_idle blocks now v ≡ is_stopped_child t (slice_get blocks v)) → risen was_idle i blocks now ≡ stopped_children t i blocks
children_risen i [] now t each = refl
children_risen i (b ∷ blocks) [] t each =
    let here : false ≡ (is_stopped b.stage && is_parent b.parent t) = each 0 in
    rw (sym here) (sym (gone was_idle (i + 1) blocks) ∙ children_risen (i + 1) blocks [] t (λ v. each_gone v ∙ each (suc v)))
  where
    each_gone : (v : ℕ) → rises_at was_idle blocks [] v ≡ rises_at was_idle (b ∷ blocks) [] (suc v)
    each_gone v = refl
children_risen i (b ∷ blocks) (a ∷ now) t each =
    let here : (was_idle b.stage && is_ready a.stage) ≡ (is_stopped b.stage && is_parent b.parent t) = each 0 in
    let rest = children_risen (i + 1) blocks now t (λ v. each (suc v)) in
    rw (here, rest) refl

-- ---- stages

-- ready or still waiting, by a test
woken_waiter : (b : Bool) (child : ℕ) → is_ready (if b then Ready else Waiting child) ≡ b
woken_waiter true child = refl
woken_waiter false child = refl

-- ready or still waiting, whether it may go on or not
freed_waiter : (may b : Bool) (child : ℕ) → is_ready (let_go may (if b then Ready else Waiting child)) ≡ b
freed_waiter may true child = refl
freed_waiter may false child = refl

-- ready or still stopped, by a test
freed_stopped : (may : Bool) → is_ready (if may then Ready else Stopped) ≡ may
freed_stopped true = refl
freed_stopped false = refl

-- an end wakes who waits for the block
frees_waiting : (may : Bool) (t : ℕ) (s : Stage) → (was_waiting s && is_ready (let_go may (wake t s))) ≡ is_waiting_for t s
frees_waiting may t Unborn = refl
frees_waiting may t Ready = refl
frees_waiting may t (Turn cpu ran) = refl
frees_waiting may t Stopped = refl
frees_waiting may t (Waiting child) = freed_waiter may (child == t) child
frees_waiting may t Ended = refl

-- it lets its stopped children go on
frees_idle : (may : Bool) (t : ℕ) (s : Stage) → (was_idle s && is_ready (let_go may (wake t s))) ≡ (is_stopped s && may)
frees_idle may t Unborn = refl
frees_idle may t Ready = refl
frees_idle may t (Turn cpu ran) = refl
frees_idle may t Stopped = freed_stopped may
frees_idle may t (Waiting child) = refl
frees_idle may t Ended = refl

-- and it leaves the turns
frees_turn : (may : Bool) (t : ℕ) (s : Stage) → (was_in_turn s && is_ready (let_go may (wake t s))) ≡ false
frees_turn may t Unborn = refl
frees_turn may t Ready = refl
frees_turn may t (Turn cpu ran) = refl
frees_turn may t Stopped = refl
frees_turn may t (Waiting child) = refl
frees_turn may t Ended = refl

-- a stop wakes who waits for the block
wakes_waiting : (t : ℕ) (s : Stage) → (was_waiting s && is_ready (wake t s)) ≡ is_waiting_for t s
wakes_waiting t Unborn = refl
wakes_waiting t Ready = refl
wakes_waiting t (Turn cpu ran) = refl
wakes_waiting t Stopped = refl
wakes_waiting t (Waiting child) = woken_waiter (child == t) child
wakes_waiting t Ended = refl

-- it leaves the stopped and the unborn blocks
wakes_idle : (t : ℕ) (s : Stage) → (was_idle s && is_ready (wake t s)) ≡ false
wakes_idle t Unborn = refl
wakes_idle t Ready = refl
wakes_idle t (Turn cpu ran) = refl
wakes_idle t Stopped = refl
wakes_idle t (Waiting child) = refl
wakes_idle t Ended = refl

-- and the turns
wakes_turn : (t : ℕ) (s : Stage) → (was_in_turn s && is_ready (wake t s)) ≡ false
wakes_turn t Unborn = refl
wakes_turn t Ready = refl
wakes_turn t (Turn cpu ran) = refl
wakes_turn t Stopped = refl
wakes_turn t (Waiting child) = refl
wakes_turn t Ended = refl

-- ---- where each block changes, and one more

-- another block rises by what changes each
other_rises : (was : Stage → Bool) (t : ℕ) (f g : BlockState → BlockState) (blocks : List BlockState) (wanted : Option BlockState → Bool) → wanted None ≡ false → ((b : BlockState) → (was b.stage && is_ready (g b).stage) ≡ wanted (Some b))
    → (v : ℕ) → (t ≡ v → ⊥) → rises_at was blocks (changed t f (map g blocks)) v ≡ wanted (slice_get blocks v)
other_rises was t f g blocks wanted none each v other =
    ap (rises was (slice_get blocks v)) (changed_other t v f (map g blocks) other ∙ slice_get-map g blocks v) ∙ by_block (slice_get blocks v)
  where
    by_block : (block : Option BlockState) → rises was block (option_map g block) ≡ wanted block
    by_block None = sym none
    by_block (Some b) = each b

-- who waits for block t, as a test of a block that may not be there
abbrev waits_for : ℕ → Option BlockState → Bool
waits_for t block = is_waiting_for t (stage_of block)

-- a stop that holds its block makes the parent ready that waits
pub stop_rises : (t : ℕ) (f : BlockState → BlockState) (blocks : List BlockState) → IsFamily (stage_at blocks) (parent_at blocks) → IsOver blocks (changed t f (map (woken t) blocks)) t Stopped → risers blocks (changed t f (map (woken t) blocks)) ≡ waiter_of blocks t
stop_rises t f blocks family over =
    let now = changed t f (map (woken t) blocks) in
    let unwaiting : is_waiting_for t (stage_at blocks t) ≡ false = ap (waits_for t) over.here ∙ ap (is_waiting_for t) over.stage in
    let waits = waiter_risen blocks now t family (each_place t (rises_at was_waiting blocks now) (λ v. is_waiting_for t (stage_at blocks v)) (over_rises was_waiting blocks now t Stopped over ∙ sym unwaiting)
    (other_rises was_waiting t f (woken t) blocks (waits_for t) refl (λ b. wakes_waiting t b.stage))) in
    let idles = risen_nobody was_idle 0 blocks now (each_place t (rises_at was_idle blocks now) (λ v. false) (over_rises was_idle blocks now t Stopped over) (other_rises was_idle t f (woken t) blocks (λ b. false) refl (λ b. wakes_idle t b.stage))) in
    let turns = risen_nobody was_in_turn 0 blocks now (each_place t (rises_at was_in_turn blocks now) (λ v. false) (over_rises was_in_turn blocks now t Stopped over) (other_rises was_in_turn t f (woken t) blocks (λ b. false) refl (λ b. wakes_turn t b.stage))) in
    rw (waits, idles, turns) (append-nil (waiter_of blocks t))

-- an end makes the parent ready that waits, and the stopped children
pub freed_rises : (t : ℕ) (f : BlockState → BlockState) (blocks : List BlockState) → IsFamily (stage_at blocks) (parent_at blocks) → IsOver blocks (changed t f (map (freed t) blocks)) t Ended → risers blocks (changed t f (map (freed t) blocks)) ≡ freed_by blocks t
freed_rises t f blocks family over =
    let now = changed t f (map (freed t) blocks) in
    let unwaiting : is_waiting_for t (stage_at blocks t) ≡ false = ap (waits_for t) over.here ∙ ap (is_waiting_for t) over.stage in
    let going : is_stopped_child t (slice_get blocks t) ≡ false = ap (is_stopped_child t) over.here ∙ ap (λ (s : Stage). is_stopped s && is_parent over.block.parent t) over.stage in
    let waits = waiter_risen blocks now t family (each_place t (rises_at was_waiting blocks now) (λ v. is_waiting_for t (stage_at blocks v)) (over_rises was_waiting blocks now t Ended over ∙ sym unwaiting)
    (other_rises was_waiting t f (freed t) blocks (waits_for t) refl (λ b. frees_waiting (is_parent b.parent t) t b.stage))) in
    let idles = children_risen 0 blocks now t (each_place t (rises_at was_idle blocks now) (λ v. is_stopped_child t (slice_get blocks v)) (over_rises was_idle blocks now t Ended over ∙ sym going)
    (other_rises was_idle t f (freed t) blocks (is_stopped_child t) refl (λ b. frees_idle (is_parent b.parent t) t b.stage))) in
    let turns = risen_nobody was_in_turn 0 blocks now (each_place t (rises_at was_in_turn blocks now) (λ v. false) (over_rises was_in_turn blocks now t Ended over) (other_rises was_in_turn t f (freed t) blocks (λ b. false) refl (λ b. frees_turn (is_parent b.parent t) t b.stage))) in
    rw (waits, idles, turns) (ap (λ (list : List ℕ). waiter_of blocks t ++ list) (append-nil (stopped_children t 0 blocks)))

-- ---- two blocks

-- who is stopped or unborn doesn't wait
idle_waits : (s : Stage) → was_idle s ≡ true → was_waiting s ≡ false
idle_waits Unborn idle = refl
idle_waits Ready idle = refl
idle_waits (Turn cpu ran) idle = refl
idle_waits Stopped idle = refl
idle_waits (Waiting child) idle = absurd (cc)
idle_waits Ended idle = refl

-- nor is in a turn
idle_turns : (s : Stage) → was_idle s ≡ true → was_in_turn s ≡ false
idle_turns Unborn idle = refl
idle_turns Ready idle = refl
idle_turns (Turn cpu ran) idle = absurd (cc)
idle_turns Stopped idle = refl
idle_turns (Waiting child) idle = refl
idle_turns Ended idle = refl

-- a block is in its own stage
same_stage : (block : Option BlockState) → Both SameStage block block
same_stage None = tt
same_stage (Some b) = refl

-- a test fails of a block, if it fails of this one and of another
this_or_other : (c v : ℕ) (test : ℕ → Bool) → test c ≡ false → ((c ≡ v → ⊥) → test v ≡ false) → test v ≡ false
this_or_other c v test this other = ⊎_elim (λ (same : c ≡ v). ap test (sym same) ∙ this) other (cases_eq c v)

-- a block that was stopped or unborn is made ready, and then the one whose turn is over
pub two_rise : (t c : ℕ) (f g : BlockState → BlockState) (blocks : List BlockState) (child : BlockState) → slice_get blocks c ≡ Some child → was_idle child.stage ≡ true → (g child).stage ≡ Ready → Ends f Ready → InTurn blocks t
    → risers blocks (changed t f (changed c g blocks)) ≡ c ∷ t ∷ []
two_rise t c f g blocks child at idle ready ends turn =
    let now = changed t f (changed c g blocks) in
    let apart : t ≡ c → ⊥ = λ (same : t ≡ c).
    let one : Some turn.block ≡ Some child = sym turn.here ∙ ap (slice_get blocks) same ∙ at in
    let block : turn.block ≡ child = cc in
    let bad : was_idle child.stage ≡ false = ap (λ (b : BlockState). was_idle b.stage) (sym block) ∙ ap was_idle turn.stage in both_ways (was_idle child.stage) bad idle in
    let away : c ≡ t → ⊥ = λ (same : c ≡ t). apart (sym same) in
    let over = over_there t Ready f blocks (changed c g blocks) ends turn turn.block (changed_other c t g blocks away ∙ turn.here) in
    let there : slice_get now c ≡ Some (g child) = changed_other t c f (changed c g blocks) apart ∙ changed_same c g blocks ∙ ap (option_map g) at in
    let child_rises : (was : Stage → Bool) → rises_at was blocks now c ≡ (was child.stage && true) = λ was.
    ap (λ (old : Option BlockState). rises was old (slice_get now c)) at ∙ ap (rises was (Some child)) there ∙ ap (λ (s : Stage). was child.stage && is_ready s) ready in
    let off : (was : Stage → Bool) → was child.stage ≡ false → rises_at was blocks now c ≡ false = λ was not_such. child_rises was ∙ ap (λ (b : Bool). b && true) not_such in
    let rest : (was : Stage → Bool) → Apart was → (v : ℕ) → (t ≡ v → ⊥) → (c ≡ v → ⊥) → rises_at was blocks now v ≡ false = λ was stage_apart v not_t not_c.
    ap (rises was (slice_get blocks v)) (changed_other t v f (changed c g blocks) not_t ∙ changed_other c v g blocks not_c) ∙ still was stage_apart (slice_get blocks v) (slice_get blocks v) (same_stage (slice_get blocks v)) in
    let others : (was : Stage → Bool) → Apart was → was child.stage ≡ false → (v : ℕ) → (t ≡ v → ⊥) → rises_at was blocks now v ≡ false = λ was stage_apart not_such v not_t.
    this_or_other c v (rises_at was blocks now) (off was not_such) (rest was stage_apart v not_t) in
    let waits = risen_nobody was_waiting 0 blocks now (each_place t (rises_at was_waiting blocks now) (λ v. false) (over_rises was_waiting blocks now t Ready over) (others was_waiting waiting_apart (idle_waits child.stage idle))) in
    let idles = risen_alone was_idle 0 c c blocks now (child_rises was_idle ∙ ap (λ (b : Bool). b && true) idle) (λ v not_c.
    this_or_other t v (rises_at was_idle blocks now) (over_rises was_idle blocks now t Ready over) (λ not_t. rest was_idle idle_apart v not_t not_c)) (omega arith) in
    let turns = risen_alone was_in_turn 0 t t blocks now (over_rises was_in_turn blocks now t Ready over) (others was_in_turn turn_apart (idle_turns child.stage idle)) (omega arith) in
    rw (waits, idles, turns) refl
