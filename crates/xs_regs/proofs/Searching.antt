-- A search through a table, one entry after the other.
use Rattle.std.proofs.Common.{◌≡◌, ℕ, zero, suc, ◌+◌, ◌<◌, List, [], ◌∷◌, length, map, slice_index_or, sym, ◌∙◌, subst, inl, inr, Any, arith}
use Rattle.std.specs.List.{AllByRecursion}
use Rattle.std.proofs.lemmas.Bool.{cases_lt}
use Rattle.std.proofs.lemmas.List.{get_or-map, length-map}

-- what the mapped table has at a place
mapped : {A B : Type 0} (f : A → B) (xs : List A) (k : ℕ) (d : A) (e : B) → k < length xs → slice_index_or (map f xs) k e ≡ f (slice_index_or xs k d)
mapped f xs k d e lt = get_or-map f xs k d e lt

-- what holds of each entry holds of what stands at a place
pub entry : {A : Type 0} (P : A → Type 0) (xs : List A) (k : ℕ) (d : A) → AllByRecursion P xs → k < length xs → P (slice_index_or xs k d)
entry P [] k d h lt = absurd (omega arith)
entry P (x ∷ xs) zero d h lt = h.0
entry P (x ∷ xs) (suc k) d h lt = entry P xs k d h.1 (omega arith)

-- the property holds of an entry
pub any_here : {A B : Type 0} (P : B → Type 0) (f : A → B) (xs : List A) (k : ℕ) (d : A) → k < length xs → P (f (slice_index_or xs k d)) → Any P (map f xs)
any_here P f xs k d lt h =
    (k, f (slice_index_or xs k d), rw length-map lt, mapped f xs k d (f (slice_index_or xs k d)) lt, h)

-- the property holds of none of the entries so far, nor of the next one
pub none_more : {A B : Type 0} (P : B → Type 0) (f : A → B) (xs : List A) (i : ℕ) (d : A) → i < length xs → ((k : ℕ) (s : B) → k < i → slice_index_or (map f xs) k s ≡ s → P s → ⊥) → (P (f (slice_index_or xs i d)) → ⊥) → (k : ℕ) (s : B) → k < i + 1 → slice_index_or (map f xs) k s ≡ s → P s → ⊥
none_more P f xs i d lt before here k s below is h =
    elim (cases_lt k i) [
      | inl less ↦ before k s less is h
      | inr le ↦
          let same : k ≡ i = omega arith in
          let at : slice_index_or (map f xs) i s ≡ s = rw same at is in
          here (subst P (sym at ∙ mapped f xs i d s lt) h)
    ]
