-- The first of several tests that holds. What is refused is refused by such a list, in the order of its tests.
use Rattle.std.specs.Prelude.{Bool, List, [], ◌∷◌, Option, Some, None, if◌then◌else◌}

-- what the first test that holds stands for
abbrev pub first_of : {A : Type 0} → List (Bool × A) → Option A
first_of [] = None
first_of (t ∷ tests) = if t.0 then Some t.1 else first_of tests
