-- A reader's answer.
use Rattle.std.specs.Prelude.{Option, Some, None}

-- The answer is a value that has the property, and none where no value has it.
abbrev pub Finds : {A : Type 0} → (A → Type 0) → Option A → Type 0
Finds {A} P None = (x : A) → P x → ⊥
Finds P (Some x) = P x
