-- What a reader of a text answers: exactly the value that the text spells.
use Rattle.std.specs.Prelude.{◌≡◌, ℕ, List, Option, Some, None}

-- The bytes are the text of a value that fits. Nothing was read only if they are the text of no such value.
abbrev pub Reads : {A : Type 0} → (A → List ℕ) → (A → Type 0) → Option A → List ℕ → Type 0
Reads {A} text Fits None bytes = (x : A) → Fits x → bytes ≡ text x → ⊥
Reads text Fits (Some x) bytes = Fits x × (bytes ≡ text x)

-- The same of a reader that answers what it keeps of the value.
abbrev pub ReadsAs : {A B : Type 0} → (A → List ℕ) → (A → Type 0) → (A → B) → Option B → List ℕ → Type 0
ReadsAs {A} text Fits keep None bytes = (x : A) → Fits x → bytes ≡ text x → ⊥
ReadsAs {A} text Fits keep (Some y) bytes = (x : A) × Fits x × (bytes ≡ text x) × (y ≡ keep x)
