-- A list with one element changed.
use Rattle.std.proofs.Common.{◌≡◌, ℕ, zero, suc, ◌<◌, List, [], ◌∷◌, length, slice_get, slice_set, get_or, Some, refl, ap, arith}
use Rattle.std.proofs.lemmas.Option.{same_Some}
use Rattle.xs_model.specs.State.{changed}

-- what a write of a function of what was read leaves
pub changed_read : {A : Type 0} (f : A → A) (xs : List A) (t : ℕ) (d : A) → t < length xs → slice_set xs t (f (get_or xs t d)) ≡ changed t f xs
changed_read f [] t d within = absurd (omega arith)
changed_read f (x ∷ xs) zero d within = refl
changed_read {A = A} f (x ∷ xs) (suc t) d within = ap (λ (l : List A). x ∷ l) (changed_read f xs t d (omega arith))

pub changed_at : {A : Type 0} (f : A → A) (xs : List A) (t : ℕ) (x : A) → slice_get xs t ≡ Some x → changed t f xs ≡ slice_set xs t (f x)
changed_at f [] t x at = absurd (cc at)
changed_at {A = A} f (y ∷ xs) zero x at = ap (λ (z : A). f z ∷ xs) (same_Some y x at)
changed_at {A = A} f (y ∷ xs) (suc t) x at = ap (λ (l : List A). y ∷ l) (changed_at f xs t x at)

-- the changed element, and another one
pub get_changed : {A : Type 0} (f : A → A) (xs : List A) (t : ℕ) (x : A) → slice_get xs t ≡ Some x → slice_get (changed t f xs) t ≡ Some (f x)
get_changed f [] t x at = absurd (cc at)
get_changed {A = A} f (y ∷ xs) zero x at = ap (λ (z : A). Some (f z)) (same_Some y x at)
get_changed f (y ∷ xs) (suc t) x at = get_changed f xs t x at

pub get_other : {A : Type 0} (f : A → A) (xs : List A) (t u : ℕ) → (t ≡ u → ⊥) → slice_get (changed t f xs) u ≡ slice_get xs u
get_other f [] t u apart = refl
get_other f (x ∷ xs) zero zero apart = absurd (apart refl)
get_other f (x ∷ xs) zero (suc u) apart = refl
get_other f (x ∷ xs) (suc t) zero apart = refl
get_other f (x ∷ xs) (suc t) (suc u) apart = get_other f xs t u (λ (e : t ≡ u). apart (ap suc e))

-- an element that stands there is read
pub read_at : {A : Type 0} (xs : List A) (t : ℕ) (x d : A) → slice_get xs t ≡ Some x → get_or xs t d ≡ x
read_at [] t x d at = absurd (cc at)
read_at (y ∷ xs) zero x d at = same_Some y x at
read_at (y ∷ xs) (suc t) x d at = read_at xs t x d at
