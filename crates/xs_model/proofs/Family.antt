-- How parents, children, waiting and stopping hang together. A child has a higher rank than its parent, so that nobody
-- waits in a circle: a block waits for a child of its own that is not stopped, and one that is stopped has a living parent.
use Rattle.std.specs.Prelude.{◌≡◌, ◌≤◌, ◌<◌, ℕ, Bool, true, false, Option, Some, ◌⊎◌}
use Rattle.xs_model.specs.declared.stage.Stage.{Stage}
use Rattle.xs_model.specs.declared.stage.Stage.TheVariants.{Unborn, Ready, Turn, Stopped, Waiting, Ended}
use Rattle.xs_model.specs.State.{lives, is_active}

-- it lives and is not stopped
abbrev pub goes : Stage → Bool
goes Unborn = false
goes Ready = true
goes (Turn cpu ran) = true
goes Stopped = false
goes (Waiting child) = true
goes Ended = false

-- it was born
abbrev pub is_born : Stage → Bool
is_born Unborn = false
is_born Ready = true
is_born (Turn cpu ran) = true
is_born Stopped = true
is_born (Waiting child) = true
is_born Ended = true

-- The blocks, by their stages and parents, are a family.
pub record IsFamily (stage : ℕ → Stage) (parent : ℕ → Option ℕ) : Type 0 where
  pub rank : ℕ → ℕ
  pub most : ℕ
  pub bounded : (v : ℕ) → rank v ≤ most
  pub parents : (v p : ℕ) → parent v ≡ Some p → (is_born (stage p) ≡ true) × (rank p < rank v)
  pub waits : (v c : ℕ) → stage v ≡ Waiting c → (parent c ≡ Some v) × (goes (stage c) ≡ true)
  pub stops : (v : ℕ) → stage v ≡ Stopped → (p : ℕ) × (parent v ≡ Some p) × (lives (stage p) ≡ true)

-- Block t goes to a new stage; another block stays as it is, or is ready again.
pub record Moves (old new : ℕ → Stage) (parent : ℕ → Option ℕ) (t : ℕ) : Type 0 where
  pub others : (v : ℕ) → (v ≡ t → ⊥) → (new v ≡ old v) ⊎ ((new v ≡ Ready) × (is_born (old v) ≡ true))
  pub born : is_born (new t) ≡ true
  pub unwaited : goes (new t) ≡ false → (v : ℕ) → (v ≡ t → ⊥) → new v ≡ Waiting t → ⊥
  pub released : lives (new t) ≡ false → (v : ℕ) → (v ≡ t → ⊥) → new v ≡ Stopped → parent v ≡ Some t → ⊥
  pub stopped : new t ≡ Stopped → (p : ℕ) × (parent t ≡ Some p) × (lives (old p) ≡ true)
  pub waiting : (c : ℕ) → new t ≡ Waiting c → (parent c ≡ Some t) × (goes (old c) ≡ true)

-- Block t makes block c its child, and both are ready.
pub record Bears (old new : ℕ → Stage) (before now : ℕ → Option ℕ) (t c : ℕ) : Type 0 where
  pub unborn : old c ≡ Unborn
  pub turning : is_active (old t) ≡ true
  pub child : new c ≡ Ready
  pub mother : new t ≡ Ready
  pub others : (v : ℕ) → (v ≡ t → ⊥) → (v ≡ c → ⊥) → new v ≡ old v
  pub parent : now c ≡ Some t
  pub parents : (v : ℕ) → (v ≡ c → ⊥) → now v ≡ before v
