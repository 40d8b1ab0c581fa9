-- Whose turn is on a processor, by the blocks one by one.
use Rattle.std.proofs.Common.{◌≡◌, ℕ, zero, suc, ◌+◌, Bool, true, false, ◌||◌, List, [], ◌∷◌, length, refl, ap, ◌∙◌, arith}
use Rattle.std.specs.Prelude.{Option, Some, None, if◌then◌else◌}
use Rattle.xs_model.specs.State.{BlockState, has_turn, is_on_cpu, turn_cpu, turn_of}
use Rattle.xs_model.specs.Replay.{runner}

-- Block u is in a turn on the processor.
abbrev pub is_on : ℕ → List BlockState → ℕ → Bool
is_on cpu blocks u = is_on_cpu cpu (turn_of blocks u)

-- the same one, where each block is as little or as much on the processor as before
pub runner_alike : (cpu i : ℕ) (xs ys : List BlockState) → length ys ≡ length xs → ((u : ℕ) → is_on cpu ys u ≡ is_on cpu xs u) → runner cpu i ys ≡ runner cpu i xs
runner_alike cpu i [] [] len same = refl
runner_alike cpu i [] (y ∷ ys) len same = absurd (omega (arith, len))
runner_alike cpu i (x ∷ xs) [] len same = absurd (omega (arith, len))
runner_alike cpu i (x ∷ xs) (y ∷ ys) len same =
    let here : is_on_cpu cpu (turn_cpu y.stage) ≡ is_on_cpu cpu (turn_cpu x.stage) = same 0 in
    ap (λ (b : Bool). if b then Some i else runner cpu (i + 1) ys) here
    ∙ ap (λ (rest : Option ℕ). if is_on_cpu cpu (turn_cpu x.stage) then Some i else rest) (runner_alike cpu (i + 1) xs ys (omega (arith, len)) (λ u. same (suc u)))

-- nobody's, where no block is on it
pub runner_none : (cpu i : ℕ) (blocks : List BlockState) → ((u : ℕ) → is_on cpu blocks u ≡ false) → runner cpu i blocks ≡ None
runner_none cpu i [] off = refl
runner_none cpu i (first ∷ blocks) off = ap (λ (b : Bool). if b then Some i else runner cpu (i + 1) blocks) (off 0) ∙ runner_none cpu (i + 1) blocks (λ u. off (suc u))

-- the one block's that is on it
pub runner_is : (cpu i t n : ℕ) (blocks : List BlockState) → n ≡ i + t → is_on cpu blocks t ≡ true → ((u : ℕ) → (u ≡ t → ⊥) → is_on cpu blocks u ≡ false) → runner cpu i blocks ≡ Some n
runner_is cpu i t n [] sum on alone = absurd (cc on)
runner_is cpu i zero n (first ∷ blocks) sum on alone =
    let number : i ≡ n = omega (arith, sum) in
    ap (λ (b : Bool). if b then Some i else runner cpu (i + 1) blocks) on ∙ ap Some number
runner_is cpu i (suc t) n (first ∷ blocks) sum on alone =
    ap (λ (b : Bool). if b then Some i else runner cpu (i + 1) blocks) (alone 0 (λ (e : zero ≡ suc t). absurd (cc e)))
    ∙ runner_is cpu (i + 1) t n blocks (omega (arith, sum)) on (λ u other. alone (suc u) (λ (e : suc u ≡ suc t). other (omega (arith, e))))

-- no block is on it where it is nobody's
pub runner_off : (cpu i : ℕ) (blocks : List BlockState) → runner cpu i blocks ≡ None → (u : ℕ) → is_on cpu blocks u ≡ false
runner_off cpu i [] none u = refl
runner_off cpu i (first ∷ blocks) none u = by_test (runner_off cpu (i + 1) blocks) (is_on_cpu cpu (turn_cpu first.stage)) refl none u
  where
    by_test : (runner cpu (i + 1) blocks ≡ None → (v : ℕ) → is_on cpu blocks v ≡ false) → (b : Bool) → is_on_cpu cpu (turn_cpu first.stage) ≡ b → (if b then Some i else runner cpu (i + 1) blocks) ≡ None → (v : ℕ) → is_on cpu (first ∷ blocks) v ≡ false
    by_test rest true on none v = absurd (cc none)
    by_test rest false off none zero = off
    by_test rest false off none (suc v) = rest none v

-- it has no turn then
pub no_runner : (cpu i : ℕ) (blocks : List BlockState) → runner cpu i blocks ≡ None → has_turn blocks cpu ≡ false
no_runner cpu i [] none = refl
no_runner cpu i (block ∷ blocks) none = by_test (no_runner cpu (i + 1) blocks) (is_on_cpu cpu (turn_cpu block.stage)) none
  where
    by_test : (runner cpu (i + 1) blocks ≡ None → has_turn blocks cpu ≡ false) → (b : Bool) → (if b then Some i else runner cpu (i + 1) blocks) ≡ None → (b || has_turn blocks cpu) ≡ false
    by_test rest true none = absurd (cc)
    by_test rest false none = rest none
