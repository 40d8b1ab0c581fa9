-- The parent that waits is ready, as the members have it.
use Rattle.std.proofs.Common.{◌≡◌, ℕ, zero, suc, ◌==◌, ◌<◌, Bool, true, false, ◌&&◌, List, [], ◌∷◌, length, refl, sym, ap, ◌∙◌, subst, arith, inl, inr, eq-eqb}
use Rattle.std.proofs.lemmas.Bool.{cases_eq, eqb-true}
use Rattle.std.proofs.lemmas.List.{get_or-set_other, get_or-set_same, length-set}
use Rattle.std.proofs.lemmas.Option.{same_Some, slice_get_within}
use Rattle.std.specs.Prelude.{Option, Some, None, if◌then◌else◌, slice_get, slice_set}
use Rattle.xs_model.specs.declared.stage.Stage.{Stage}
use Rattle.xs_model.specs.declared.stage.Stage.TheVariants.{Unborn, Ready, Turn, Stopped, Waiting, Ended}
use Rattle.xs_model.specs.Effects.{stopped_children}
use Rattle.xs_model.specs.Outer.{freed, let_go, wake, woken}
use Rattle.xs_model.specs.State.{BlockState, is_parent, is_stopped, parent_of, stage_at, stage_of}
use Rattle.xs_board.specs.declared.member.Life.{Life}
use Rattle.xs_board.specs.declared.member.Life.TheVariants as lives
use Rattle.xs_board.specs.Member.{Member, AreMembers, absent, ended, is_stopped_life, is_stopped_child, life_of, member_at, member_of, released, waiter_in, with_going, with_life}
use Rattle.xs_board.specs.Putting.{AreReleased, children_in, members_ended}
use Rattle.xs_board.proofs.Mirror.{children_same, stopped_life, waiter_only, waiter_waits}

-- ---- places of the list

-- what stands at a place
pub set_here : (members : List Member) (t : ℕ) (new : Member) → t < length members → member_at (slice_set members t new) t ≡ new
set_here members t new within = get_or-set_same members t new absent within

pub set_there : (members : List Member) (t u : ℕ) (new : Member) → (u ≡ t → ⊥) → member_at (slice_set members t new) u ≡ member_at members u
set_there members t u new other = get_or-set_other members t u new absent other

-- as many
pub going_length : (who : Option ℕ) (members : List Member) → length (with_going who members) ≡ length members
going_length None members = refl
going_length (Some p) members = length-set members p (record (member_at members p) { life = lives.Going })

-- a place that isn't there stays so
pub beyond : {A : Type 0} (xs : List A) (members : List Member) (u : ℕ) → length members ≡ length xs → slice_get xs u ≡ None → member_at members u ≡ absent
beyond [] [] u len none = refl
beyond [] (m ∷ members) u len none = absurd (omega (arith, len))
beyond (x ∷ xs) [] u len none = refl
beyond (x ∷ xs) (m ∷ members) zero len none = absurd (cc none)
beyond (x ∷ xs) (m ∷ members) (suc u) len none = beyond xs members u (omega (arith, len)) none

-- ---- waking

-- a block that doesn't wait for t stays as it is
wake_else : (t : ℕ) (s : Stage) → (s ≡ Waiting t → ⊥) → wake t s ≡ s
wake_else t Unborn never = refl
wake_else t Ready never = refl
wake_else t (Turn cpu ran) never = refl
wake_else t Stopped never = refl
wake_else t (Waiting child) never = by_test (child == t) refl
  where
    by_test : (b : Bool) → (child == t) ≡ b → (if b then Ready else Waiting child) ≡ Waiting child
    by_test true is = absurd (never (ap Waiting (eqb-true child t is)))
    by_test false is = refl
wake_else t Ended never = refl

-- one that does goes on
wake_it : (t : ℕ) (s : Stage) → s ≡ Waiting t → wake t s ≡ Ready
wake_it t s is = ap (wake t) is ∙ ap (λ (b : Bool). if b then Ready else Waiting t) (eq-eqb t t refl)

-- waking stops nobody
wake_stops : (t : ℕ) (s : Stage) → is_stopped (wake t s) ≡ is_stopped s
wake_stops t Unborn = refl
wake_stops t Ready = refl
wake_stops t (Turn cpu ran) = refl
wake_stops t Stopped = refl
wake_stops t (Waiting child) = by_test (child == t)
  where
    by_test : (b : Bool) → is_stopped (if b then Ready else Waiting child) ≡ false
    by_test true = refl
    by_test false = refl
wake_stops t Ended = refl

-- the block was let go, or not
release_is : (t : ℕ) (b : BlockState) → released t (member_of (Some b)) ≡ member_of (Some (record b { stage = let_go (is_parent b.parent t) b.stage }))
release_is t b = by_stage b.stage (is_parent b.parent t)
  where
    made : Life → Member
    made life = record { life = life; parent = b.parent; pending = b.pending }

    by_stage : (s : Stage) (child : Bool) → (if is_stopped_life (life_of s) && child then made lives.Going else made (life_of s)) ≡ made (life_of (let_go child s))
    by_stage Unborn child = refl
    by_stage Ready child = refl
    by_stage (Turn cpu ran) child = refl
    by_stage Stopped true = refl
    by_stage Stopped false = refl
    by_stage (Waiting k) child = refl
    by_stage Ended child = refl

module _ (blocks : List BlockState) (members : List Member) (are : AreMembers blocks members) (t : ℕ) (len : length members ≡ length blocks) (waits : (u child : ℕ) → stage_at blocks u ≡ Waiting child → parent_of (slice_get blocks child) ≡ Some u) where
  abbrev woken_members : List Member
  woken_members = with_going (waiter_in members t) members

  -- the member of a block when the parent of t waits no more
  pub woken_at : (u : ℕ) (b : BlockState) → slice_get blocks u ≡ Some b → member_at woken_members u ≡ member_of (Some (woken t b))
  woken_at u b at = by_waiter (waiter_in members t) refl
    where
      stays : (waiter_in members t ≡ Some u → ⊥) → member_at members u ≡ member_of (Some (woken t b))
      stays never =
          are u ∙ ap member_of at
          ∙ ap (λ (s : Stage). record { life = life_of s; parent = b.parent; pending = b.pending }) (sym (wake_else t b.stage (λ (is : b.stage ≡ Waiting t).
          let waiting : stage_at blocks u ≡ Waiting t = ap stage_of at ∙ is in
          never (waiter_only blocks members are t u (waits u t waiting) waiting))))

      by_waiter : (w : Option ℕ) → waiter_in members t ≡ w → member_at (with_going w members) u ≡ member_of (Some (woken t b))
      by_waiter None is = stays (λ (e : waiter_in members t ≡ Some u). cc (e, is))
      by_waiter (Some p) is = elim (cases_eq u p) [
        | inl same ↦
            let waiting : b.stage ≡ Waiting t = ap stage_of (sym at) ∙ ap (stage_at blocks) same ∙ waiter_waits blocks members are t p is in
            let member : member_at members u ≡ member_of (Some b) = are u ∙ ap member_of at in
            ap (λ (v : ℕ). member_at (with_life v lives.Going members) u) (sym same)
            ∙ set_here members u (record (member_at members u) { life = lives.Going }) (within u at)
            ∙ ap (λ (m : Member). record m { life = lives.Going }) member
            ∙ ap (λ (s : Stage). record { life = life_of s; parent = b.parent; pending = b.pending }) (sym (wake_it t b.stage waiting))
        | inr other ↦ set_there members p u (record (member_at members p) { life = lives.Going }) other
            ∙ stays (λ (e : waiter_in members t ≡ Some u). other (sym (same_Some p u (sym is ∙ e))))
      ]
        where
          within : (v : ℕ) → slice_get blocks v ≡ Some b → v < length members
          within v there = let here = slice_get_within blocks v b there in omega (arith, here, len)

  -- ---- the end of block t

  module _ (state : BlockState) (here : slice_get blocks t ≡ Some state) (after : List Member) (are_released : AreReleased t (members_ended t members) after) where
    abbrev mine : Member
    mine = member_at woken_members t

    within : t < length woken_members
    within = let is = slice_get_within blocks t state here in let long = going_length (waiter_in members t) members in omega (arith, is, len, long)

    -- block t has ended
    pub ended_here : member_at after t ≡ record { life = lives.Ended; parent = state.parent; pending = [] }
    ended_here =
        are_released t
        ∙ ap (released t) (set_here woken_members t (ended mine) within)
        ∙ ap (λ (m : Member). ended m) (woken_at t state here)

    -- another block is freed
    pub freed_there : (u : ℕ) (b : BlockState) → (u ≡ t → ⊥) → slice_get blocks u ≡ Some b → member_at after u ≡ member_of (Some (freed t b))
    freed_there u b other at =
        are_released u
        ∙ ap (released t) (set_there woken_members t u (ended mine) other ∙ woken_at u b at)
        ∙ release_is t (woken t b)

  -- the stopped children
  pub children_at : (state : BlockState) → slice_get blocks t ≡ Some state → is_stopped state.stage ≡ false → children_in t 0 (members_ended t members) ≡ stopped_children t 0 blocks
  children_at state here off =
      children_same t 0 blocks (members_ended t members) (length-set woken_members t (ended (member_at woken_members t)) ∙ going_length (waiter_in members t) members ∙ len) each
    where
      Same : ℕ → Option BlockState → Type 0
      Same u b = is_stopped_child t (member_at (members_ended t members) u) ≡ (is_stopped (stage_of b) && is_parent (parent_of b) t)

      own : Same t (Some state)
      own =
          let is = slice_get_within blocks t state here in
          let long = going_length (waiter_in members t) members in
          ap (is_stopped_child t) (set_here woken_members t (ended (member_at woken_members t)) (omega (arith, is, len, long)))
          ∙ sym (ap (λ (b : Bool). b && is_parent state.parent t) off)

      other_one : (u : ℕ) (b : BlockState) → (u ≡ t → ⊥) → slice_get blocks u ≡ Some b → Same u (Some b)
      other_one u b other at =
          ap (is_stopped_child t) (set_there woken_members t u (ended (member_at woken_members t)) other ∙ woken_at u b at)
          ∙ ap (λ (x : Bool). x && is_parent b.parent t) (stopped_life (wake t b.stage) ∙ wake_stops t b.stage)

      none : (u : ℕ) → slice_get blocks u ≡ None → Same u None
      none u at = ap (is_stopped_child t) (beyond blocks (members_ended t members) u (length-set woken_members t (ended (member_at woken_members t)) ∙ going_length (waiter_in members t) members ∙ len) at)

      by_block : (u : ℕ) (b : Option BlockState) → slice_get blocks u ≡ b → Same u b
      by_block u None at = none u at
      by_block u (Some b) at = elim (cases_eq u t) [
        | inl same ↦
            let is : state ≡ b = same_Some state b (sym here ∙ ap (slice_get blocks) (sym same) ∙ at) in
            subst (λ (x : BlockState). Same u (Some x)) is (subst (λ (v : ℕ). Same v (Some state)) (sym same) own)
        | inr other ↦ other_one u b other at
      ]

      each : (u : ℕ) → is_stopped_child t (member_at (members_ended t members) u) ≡ (is_stopped (stage_at blocks u) && is_parent (parent_of (slice_get blocks u)) t)
      each u = by_block u (slice_get blocks u) refl
