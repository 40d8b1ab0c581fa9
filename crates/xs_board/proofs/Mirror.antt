-- The members tell what the stages, the parents and the signals of the blocks tell.
use Rattle.std.proofs.Common.{◌≡◌, ℕ, suc, ◌+◌, Bool, true, false, ◌&&◌, List, [], ◌∷◌, ◌++◌, length, refl, sym, ap, ◌∙◌, subst, arith, eq-eqb}
use Rattle.std.proofs.lemmas.Bool.{eqb-true}
use Rattle.std.proofs.lemmas.Option.{same_Some}
use Rattle.std.specs.Prelude.{Option, Some, None, if◌then◌else◌, slice_get}
use Rattle.xs_model.specs.declared.event.Reply.{Reply}
use Rattle.xs_model.specs.declared.event.Reply.TheVariants as replies
use Rattle.xs_model.specs.declared.stage.Stage.{Stage}
use Rattle.xs_model.specs.declared.stage.Stage.TheVariants.{Unborn, Ready, Turn, Stopped, Waiting, Ended}
use Rattle.xs_model.specs.Effects.{is_waiting_for, parent_waiting, stopped_children, waiter_of}
use Rattle.xs_model.specs.Outer.{parent_lives, stage_reply, wait_reply}
use Rattle.xs_model.specs.State.{BlockState, is_parent, is_stopped, lives, parent_of, stage_at, stage_of}
use Rattle.xs_board.specs.Deed.{is_traced, life_reply, wait_answer}
use Rattle.xs_board.specs.Member.{Member, AreMembers, is_alive, is_stopped_life, is_stopped_child, life_of, listed, lives_at, member_at, member_of, waiter_among, waiter_in, waits_for}
use Rattle.xs_board.specs.Putting.{children_in}
use Rattle.xs_board.proofs.Tests.{if_true}

-- ---- by the stage

alive_life : (s : Stage) → is_alive (life_of s) ≡ lives s
alive_life Unborn = refl
alive_life Ready = refl
alive_life (Turn cpu ran) = refl
alive_life Stopped = refl
alive_life (Waiting child) = refl
alive_life Ended = refl

pub stopped_life : (s : Stage) → is_stopped_life (life_of s) ≡ is_stopped s
stopped_life Unborn = refl
stopped_life Ready = refl
stopped_life (Turn cpu ran) = refl
stopped_life Stopped = refl
stopped_life (Waiting child) = refl
stopped_life Ended = refl

waits_life : (t : ℕ) (s : Stage) → waits_for t (life_of s) ≡ is_waiting_for t s
waits_life t Unborn = refl
waits_life t Ready = refl
waits_life t (Turn cpu ran) = refl
waits_life t Stopped = refl
waits_life t (Waiting child) = refl
waits_life t Ended = refl

reply_life : (s : Stage) → life_reply (life_of s) ≡ stage_reply s
reply_life Unborn = refl
reply_life Ready = refl
reply_life (Turn cpu ran) = refl
reply_life Stopped = refl
reply_life (Waiting child) = refl
reply_life Ended = refl

-- the stage of a block that waits for t
pub waiting_is : (t : ℕ) (s : Stage) → is_waiting_for t s ≡ true → s ≡ Waiting t
waiting_is t Unborn is = absurd (cc is)
waiting_is t Ready is = absurd (cc is)
waiting_is t (Turn cpu ran) is = absurd (cc is)
waiting_is t Stopped is = absurd (cc is)
waiting_is t (Waiting child) is = ap Waiting (eqb-true child t is)
waiting_is t Ended is = absurd (cc is)

-- ---- by the block, if there is one

pub life_is : (b : Option BlockState) → (member_of b).life ≡ life_of (stage_of b)
life_is None = refl
life_is (Some block) = refl

pub parent_is : (b : Option BlockState) → (member_of b).parent ≡ parent_of b
parent_is None = refl
parent_is (Some block) = refl

wait_same : (t : ℕ) (b : Option BlockState) → wait_answer t (member_of b) ≡ wait_reply t b
wait_same t None = refl
wait_same t (Some block) = ap (λ (r : Reply). if is_parent block.parent t then r else replies.Ended) (reply_life block.stage)

-- ---- by its number

module _ (blocks : List BlockState) (members : List Member) (are : AreMembers blocks members) where
  pub life_at : (u : ℕ) → (member_at members u).life ≡ life_of (stage_at blocks u)
  life_at u = ap (λ (m : Member). m.life) (are u) ∙ life_is (slice_get blocks u)

  pub parent_at : (u : ℕ) → (member_at members u).parent ≡ parent_of (slice_get blocks u)
  parent_at u = ap (λ (m : Member). m.parent) (are u) ∙ parent_is (slice_get blocks u)

  pub alive_at : (u : ℕ) → is_alive (member_at members u).life ≡ lives (stage_at blocks u)
  alive_at u = ap is_alive (life_at u) ∙ alive_life (stage_at blocks u)

  pub stopped_at : (u : ℕ) → is_stopped_life (member_at members u).life ≡ is_stopped (stage_at blocks u)
  stopped_at u = ap is_stopped_life (life_at u) ∙ stopped_life (stage_at blocks u)

  pub waits_at : (t u : ℕ) → waits_for t (member_at members u).life ≡ is_waiting_for t (stage_at blocks u)
  waits_at t u = ap (waits_for t) (life_at u) ∙ waits_life t (stage_at blocks u)

  -- its tracer lives
  pub traced_at : (t : ℕ) → is_traced members t ≡ parent_lives blocks (parent_of (slice_get blocks t))
  traced_at t = by_parent (parent_of (slice_get blocks t)) (member_at members t).parent (parent_at t)
    where
      by_parent : (p q : Option ℕ) → q ≡ p → lives_at members q ≡ parent_lives blocks p
      by_parent None q same = ap (lives_at members) same
      by_parent (Some p) q same = ap (lives_at members) same ∙ alive_at p

  -- the answer of a wait
  pub wait_at : (t child : ℕ) → wait_answer t (member_at members child) ≡ wait_reply t (slice_get blocks child)
  wait_at t child = ap (wait_answer t) (are child) ∙ wait_same t (slice_get blocks child)

  -- the parent that waits
  pub waiter_at : (t : ℕ) → listed (waiter_in members t) ≡ waiter_of blocks t
  waiter_at t = by_parent (parent_of (slice_get blocks t)) (member_at members t).parent (parent_at t)
    where
      by_test : (p : ℕ) (a b : Bool) → a ≡ b → listed (if a then Some p else None) ≡ (if b then p ∷ [] else [])
      by_test p true true same = refl
      by_test p false false same = refl
      by_test p true false same = absurd (cc same)
      by_test p false true same = absurd (cc same)

      by_parent : (p q : Option ℕ) → q ≡ p → listed (waiter_among members t q) ≡ parent_waiting blocks t p
      by_parent None q same = ap (λ (o : Option ℕ). listed (waiter_among members t o)) same
      by_parent (Some p) q same = ap (λ (o : Option ℕ). listed (waiter_among members t o)) same ∙ by_test p (waits_for t (member_at members p).life) (is_waiting_for t (stage_at blocks p)) (waits_at t p)

  -- the one that is found waits
  pub waiter_waits : (t p : ℕ) → waiter_in members t ≡ Some p → stage_at blocks p ≡ Waiting t
  waiter_waits t p is = by_parent (member_at members t).parent is
    where
      by_test : (q : ℕ) (b : Bool) → waits_for t (member_at members q).life ≡ b → (if b then Some q else None) ≡ Some p → stage_at blocks p ≡ Waiting t
      by_test q true on found =
          let same : q ≡ p = same_Some q p found in
          waiting_is t (stage_at blocks p) (subst (λ (v : ℕ). is_waiting_for t (stage_at blocks v) ≡ true) same (sym (waits_at t q) ∙ on))
      by_test q false off found = absurd (cc found)

      by_parent : (q : Option ℕ) → waiter_among members t q ≡ Some p → stage_at blocks p ≡ Waiting t
      by_parent None found = absurd (cc found)
      by_parent (Some q) found = by_test q (waits_for t (member_at members q).life) refl found

  -- no other block waits
  pub waiter_only : (t u : ℕ) → parent_of (slice_get blocks t) ≡ Some u → stage_at blocks u ≡ Waiting t → waiter_in members t ≡ Some u
  waiter_only t u parent waiting =
      ap (waiter_among members t) (parent_at t ∙ parent)
      ∙ if_true (waits_for t (member_at members u).life) (Some u) None (waits_at t u ∙ ap (is_waiting_for t) waiting ∙ eq-eqb t t refl)

-- ---- stopped children

-- as many of the members as of the blocks, in the same order
pub children_same : (t i : ℕ) (blocks : List BlockState) (members : List Member) → length members ≡ length blocks → ((u : ℕ) → is_stopped_child t (member_at members u) ≡ (is_stopped (stage_at blocks u) && is_parent (parent_of (slice_get blocks u)) t)) → children_in t i members ≡ stopped_children t i blocks
children_same t i [] [] len same = refl
children_same t i [] (m ∷ members) len same = absurd (omega (arith, len))
children_same t i (b ∷ blocks) [] len same = absurd (omega (arith, len))
children_same t i (b ∷ blocks) (m ∷ members) len same =
    by_test (is_stopped_child t m) (is_stopped b.stage && is_parent b.parent t) (same 0) (children_in t (i + 1) members) (stopped_children t (i + 1) blocks)
    (children_same t (i + 1) blocks members (omega (arith, len)) (λ u. same (suc u)))
  where
    by_test : (one other : Bool) → one ≡ other → (xs ys : List ℕ) → xs ≡ ys → (if one then i ∷ [] else []) ++ xs ≡ (if other then i ∷ ys else ys)
    by_test true true alike xs ys rest = ap (λ (list : List ℕ). i ∷ list) rest
    by_test false false alike xs ys rest = rest
    by_test true false alike xs ys rest = absurd (cc alike)
    by_test false true alike xs ys rest = absurd (cc alike)
