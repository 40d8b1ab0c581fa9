-- What holds of each element of a list, as of each block: at a place, and where elements change.
use Rattle.std.proofs.Common.{◌≡◌, ℕ, zero, suc, List, [], ◌∷◌, map, subst}
use Rattle.std.specs.Prelude.{Some, slice_get}
use Rattle.std.specs.List.{AllByRecursion}
use Rattle.xs_model.specs.State.{changed}

-- what holds of all holds at a place
pub all_at : {A : Type 0} (P : A → Type 0) (xs : List A) (i : ℕ) (x : A) → AllByRecursion P xs → slice_get xs i ≡ Some x → P x
all_at P [] i x all at = absurd (cc)
all_at P (y ∷ xs) zero x all at = subst P (cc) all.0
all_at P (y ∷ xs) (suc i) x all at = all_at P xs i x all.1 at

-- it holds of all, one of them changed
pub all_changed : {A : Type 0} (P : A → Type 0) (f : A → A) → ((x : A) → P x → P (f x)) → (i : ℕ) (xs : List A) → AllByRecursion P xs → AllByRecursion P (changed i f xs)
all_changed P f each i [] all = tt
all_changed P f each zero (x ∷ xs) all = (each x all.0, all.1)
all_changed P f each (suc i) (x ∷ xs) all = (all.0, all_changed P f each i xs all.1)

-- it holds of all, each of them changed
pub all_map : {A : Type 0} (P : A → Type 0) (f : A → A) → ((x : A) → P x → P (f x)) → (xs : List A) → AllByRecursion P xs → AllByRecursion P (map f xs)
all_map P f each [] all = tt
all_map P f each (x ∷ xs) all = (each x all.0, all_map P f each xs all.1)
