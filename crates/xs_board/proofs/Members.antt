-- What is kept of the blocks beside their tasks, one by one.
use Rattle.std.proofs.Common.{◌≡◌, ℕ, zero, suc, ◌<◌, List, [], ◌∷◌, length, refl, sym, ap, ◌∙◌, arith, inl, inr}
use Rattle.std.proofs.lemmas.Bool.{cases_eq}
use Rattle.std.proofs.lemmas.List.{get_or-set_other, get_or-set_same}
use Rattle.std.specs.Prelude.{None, slice_get, slice_set}
use Rattle.xs_model.specs.State.{BlockState}
use Rattle.xs_board.specs.Member.{Member, AreMembers, absent, member_at, member_of}

-- One member changed, and with it one block.
pub set_are : (xs ys : List BlockState) (members : List Member) (t : ℕ) (member : Member) → t < length members → AreMembers xs members → member_of (slice_get ys t) ≡ member → ((u : ℕ) → (u ≡ t → ⊥) → member_of (slice_get ys u) ≡ member_of (slice_get xs u)) → AreMembers ys (slice_set members t member)
set_are xs ys members t member within are own others u = elim (cases_eq u t) [
  | inl same ↦ ap (member_at (slice_set members t member)) same ∙ get_or-set_same members t member absent within ∙ sym (ap (λ (v : ℕ). member_of (slice_get ys v)) same ∙ own)
  | inr other ↦ get_or-set_other members t u member absent other ∙ are u ∙ sym (others u other)
]

-- a block that isn't there stays so
pub absent_stays : {A : Type 0} (xs ys : List A) (u : ℕ) → length ys ≡ length xs → slice_get xs u ≡ None → slice_get ys u ≡ None
absent_stays xs [] u len none = refl
absent_stays [] (y ∷ ys) u len none = absurd (omega (arith, len))
absent_stays (x ∷ xs) (y ∷ ys) zero len none = absurd (cc none)
absent_stays (x ∷ xs) (y ∷ ys) (suc u) len none = absent_stays xs ys u (omega (arith, len)) none
