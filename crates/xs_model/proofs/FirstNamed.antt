-- The first block of a name.
use Rattle.std.proofs.Common.{◌≡◌, ℕ, ◌+◌, ◌<◌, ◌≤◌, false, List, [], ◌∷◌, length, refl, sym, ap, ◌∙◌, inl, inr, arith}
use Rattle.std.proofs.lemmas.Bool.{cases_Bool, cases_lt}
use Rattle.std.proofs.lemmas.List.{get_or_default}
use Rattle.std.proofs.lemmas.List.Sums.{position_or_len_is}
use Rattle.std.proofs.lemmas.Slice.Eq.{bytes_eq-Decides}
use Rattle.std.specs.List.{position_or_len}
use Rattle.std.specs.Str.{bytes_eq}
use Rattle.std.specs.Prelude.{slice_index_or}
use Rattle.xs_model.specs.declared.script.Block.{Block}

-- a block before it has another name
is_unnamed : (blocks : List Block) (name : List ℕ) (i k : ℕ) (d : Block) → i ≤ length blocks → k < i → ((j : ℕ) (b : Block) → j < i → slice_index_or blocks j b ≡ b → b.name ≡ name → ⊥) → bytes_eq (slice_index_or blocks k d).name name ≡ false
is_unnamed blocks name i k d within less none = elim (cases_Bool (bytes_eq (slice_index_or blocks k d).name name)) [
  | inl has ↦ absurd (none k (slice_index_or blocks k d) less (get_or_default blocks k (slice_index_or blocks k d) d (omega (arith, within, less))) ((bytes_eq-Decides (slice_index_or blocks k d).name name).0 has))
  | inr other ↦ other
]

-- it is the first that has the name
pub first_named : (blocks : List Block) (name : List ℕ) (i : ℕ) (d : Block) → i < length blocks → ((j : ℕ) (b : Block) → j < i → slice_index_or blocks j b ≡ b → b.name ≡ name → ⊥) → (slice_index_or blocks i d).name ≡ name → position_or_len (λ (b : Block). bytes_eq b.name name) blocks ≡ i
first_named blocks name i d lt none here =
    position_or_len_is (λ (b : Block). bytes_eq b.name name) blocks i d (omega (arith, lt)) (λ k less. is_unnamed blocks name i k d (omega (arith, lt)) less none) (λ _. (bytes_eq-Decides (slice_index_or blocks i d).name name).1 here)

-- where none has it, that is their number
pub none_named : (blocks : List Block) (name : List ℕ) → ((j : ℕ) (b : Block) → j < length blocks → slice_index_or blocks j b ≡ b → b.name ≡ name → ⊥) → position_or_len (λ (b : Block). bytes_eq b.name name) blocks ≡ length blocks
none_named [] name none = refl
none_named (d ∷ ds) name none =
    position_or_len_is (λ (b : Block). bytes_eq b.name name) (d ∷ ds) (length (d ∷ ds)) d (omega arith) (λ k less. is_unnamed (d ∷ ds) name (length (d ∷ ds)) k d (omega arith) less none) (λ past. absurd (omega (arith, past)))

-- one more that hasn't
pub unnamed_more : (blocks : List Block) (name : List ℕ) (i : ℕ) (d : Block) → i < length blocks → ((j : ℕ) (b : Block) → j < i → slice_index_or blocks j b ≡ b → b.name ≡ name → ⊥) → ((slice_index_or blocks i d).name ≡ name → ⊥)
    → (j : ℕ) (b : Block) → j < i + 1 → slice_index_or blocks j b ≡ b → b.name ≡ name → ⊥
unnamed_more blocks name i d lt none other j b below is named = elim (cases_lt j i) [
  | inl less ↦ none j b less is named
  | inr past ↦
      let same : j ≡ i = omega (arith, below, past) in
      let at : slice_index_or blocks i d ≡ b = get_or_default blocks i d b lt ∙ ap (λ k. slice_index_or blocks k b) (sym same) ∙ is in
      other (ap (λ (x : Block). x.name) at ∙ named)
]
