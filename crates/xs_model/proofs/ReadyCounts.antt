-- How often a number stands in the ready list, and in the list of those whom an event makes ready.
use Rattle.std.proofs.Common.{◌≡◌, ℕ, zero, suc, ◌+◌, ◌<◌, ◌==◌, Bool, true, false, ◌&&◌, List, [], ◌∷◌, ◌++◌, length, refl, sym, ap, ◌∙◌, arith, eq-eqb, ne_eqb, eqb-true}
use Rattle.std.specs.Prelude.{if◌then◌else◌}
use Rattle.xs_model.specs.declared.stage.Stage.{Stage}
use Rattle.xs_model.specs.declared.stage.Stage.TheVariants.{Unborn, Ready, Turn, Stopped, Waiting, Ended}
use Rattle.xs_model.specs.State.{BlockState, is_ready, stage_at}
use Rattle.xs_model.specs.Ready.{one_if, occurs, without, was_waiting, was_idle, was_in_turn, risen, risers, ready_from}

-- lists in a row
pub occurs_append : (t : ℕ) (us vs : List ℕ) → occurs t (us ++ vs) ≡ occurs t us + occurs t vs
occurs_append t [] vs = omega arith
occurs_append t (u ∷ us) vs = let rest = occurs_append t us vs in omega arith

-- ---- who rises

-- a number below the first place doesn't rise
below_none : (was : Stage → Bool) (i t : ℕ) (before now : List BlockState) → t < i → occurs t (risen was i before now) ≡ 0
below_none was i t [] now low = refl
below_none was i t (b ∷ before) [] low = refl
below_none was i t (b ∷ before) (a ∷ now) low = by_test (below_none was (i + 1) t before now (omega arith)) (was b.stage && is_ready a.stage)
  where
    by_test : occurs t (risen was (i + 1) before now) ≡ 0 → (test : Bool) → occurs t (if test then i ∷ risen was (i + 1) before now else risen was (i + 1) before now) ≡ 0
    by_test rest true = let off = ap one_if (ne_eqb i t (λ (same : i ≡ t). omega arith)) in omega arith
    by_test rest false = rest

-- a block rises once, where it was such and is ready
risen_there : (was : Stage → Bool) (i j t : ℕ) (before now : List BlockState) → length before ≡ length now → t ≡ i + j → occurs t (risen was i before now) ≡ one_if (was (stage_at before j) && is_ready (stage_at now j))
risen_there was i j t [] [] many at = empty (was Unborn)
  where
    empty : (b : Bool) → 0 ≡ one_if (b && false)
    empty true = refl
    empty false = refl
risen_there was i j t [] (a ∷ now) many at = absurd (omega arith)
risen_there was i j t (b ∷ before) [] many at = absurd (omega arith)
risen_there was i zero t (b ∷ before) (a ∷ now) many at = by_test (was b.stage && is_ready a.stage)
  where
    by_test : (test : Bool) → occurs t (if test then i ∷ risen was (i + 1) before now else risen was (i + 1) before now) ≡ one_if test
    by_test true = let rest = below_none was (i + 1) t before now (omega arith) in let here = ap one_if (eq-eqb i t (omega arith)) in omega arith
    by_test false = below_none was (i + 1) t before now (omega arith)
risen_there was i (suc j) t (b ∷ before) (a ∷ now) many at = by_test (risen_there was (i + 1) j t before now (omega arith) (omega arith)) (was b.stage && is_ready a.stage)
  where
    by_test : occurs t (risen was (i + 1) before now) ≡ one_if (was (stage_at before j) && is_ready (stage_at now j)) → (test : Bool) → occurs t (if test then i ∷ risen was (i + 1) before now else risen was (i + 1) before now) ≡ one_if (was (stage_at before j) && is_ready (stage_at now j))
    by_test rest true = let off = ap one_if (ne_eqb i t (λ (same : i ≡ t). omega arith)) in omega arith
    by_test rest false = rest

-- a stage that a step besides a Start may lead to
pub record Onward (old new : Stage) : Type 0 where
  pub ready : old ≡ Ready → new ≡ Ready
  pub ended : old ≡ Ended → is_ready new ≡ false

-- who is ready now was ready or rises once
onward_count : (old new : Stage) → Onward old new → one_if (is_ready old) + (one_if (was_waiting old && is_ready new) + (one_if (was_idle old && is_ready new) + one_if (was_in_turn old && is_ready new))) ≡ one_if (is_ready new)
onward_count Unborn new onward = omega arith
onward_count Ready new onward = let is = ap (λ (s : Stage). one_if (is_ready s)) (onward.ready refl) in omega arith
onward_count (Turn cpu ran) new onward = omega arith
onward_count Stopped new onward = omega arith
onward_count (Waiting child) new onward = omega arith
onward_count Ended new onward = let is = ap one_if (onward.ended refl) in omega arith

-- a block that is ready after the event was so before it, or rises
pub risers_there : (t : ℕ) (before now : List BlockState) → length before ≡ length now → Onward (stage_at before t) (stage_at now t) → one_if (is_ready (stage_at before t)) + occurs t (risers before now) ≡ one_if (is_ready (stage_at now t))
risers_there t before now many onward =
    let a = risen_there was_waiting 0 t t before now many (omega arith) in
    let b = risen_there was_idle 0 t t before now many (omega arith) in
    let c = risen_there was_in_turn 0 t t before now many (omega arith) in
    let two = occurs_append t (risen was_idle 0 before now) (risen was_in_turn 0 before now) in
    let three = occurs_append t (risen was_waiting 0 before now) (risen was_idle 0 before now ++ risen was_in_turn 0 before now) in
    let all = onward_count (stage_at before t) (stage_at now t) onward in
    omega arith

-- the first of this number taken out
pub without_other : (t u : ℕ) (list : List ℕ) → (t ≡ u → ⊥) → occurs u (without t list) ≡ occurs u list
without_other t u [] other = refl
without_other t u (v ∷ list) other = by_test (without_other t u list other) (v == t) refl
  where
    by_test : occurs u (without t list) ≡ occurs u list → (test : Bool) → (v == t) ≡ test → occurs u (if test then list else v ∷ without t list) ≡ one_if (v == u) + occurs u list
    by_test rest true is = let off = ap one_if (ne_eqb v u (λ (same : v ≡ u). other (sym (eqb-true v t is) ∙ same))) in omega arith
    by_test rest false is = omega arith

-- a number that stands there once is gone
pub without_same : (t : ℕ) (list : List ℕ) → occurs t list ≡ 1 → occurs t (without t list) ≡ 0
without_same t [] once = absurd (omega arith)
without_same t (v ∷ list) once = by_test (λ (later : occurs t list ≡ 1). without_same t list later) (v == t) refl
  where
    by_test : (occurs t list ≡ 1 → occurs t (without t list) ≡ 0) → (test : Bool) → (v == t) ≡ test → occurs t (if test then list else v ∷ without t list) ≡ 0
    by_test rest true is = let here = ap one_if is in omega arith
    by_test rest false is = let here = ap one_if is in let tail = rest (omega arith) in omega arith

-- ---- at the opening

-- a number below the first place doesn't stand there
ready_below : (i t : ℕ) (blocks : List BlockState) → t < i → occurs t (ready_from i blocks) ≡ 0
ready_below i t [] low = refl
ready_below i t (b ∷ blocks) low = by_test (ready_below (i + 1) t blocks (omega arith)) (is_ready b.stage)
  where
    by_test : occurs t (ready_from (i + 1) blocks) ≡ 0 → (test : Bool) → occurs t (if test then i ∷ ready_from (i + 1) blocks else ready_from (i + 1) blocks) ≡ 0
    by_test rest true = let off = ap one_if (ne_eqb i t (λ (same : i ≡ t). omega arith)) in omega arith
    by_test rest false = rest

-- a ready block stands there once
pub ready_there : (i j t : ℕ) (blocks : List BlockState) → t ≡ i + j → occurs t (ready_from i blocks) ≡ one_if (is_ready (stage_at blocks j))
ready_there i j t [] at = refl
ready_there i zero t (b ∷ blocks) at = by_test (ready_below (i + 1) t blocks (omega arith)) (is_ready b.stage)
  where
    by_test : occurs t (ready_from (i + 1) blocks) ≡ 0 → (test : Bool) → occurs t (if test then i ∷ ready_from (i + 1) blocks else ready_from (i + 1) blocks) ≡ one_if test
    by_test rest true = let here = ap one_if (eq-eqb i t (omega arith)) in omega arith
    by_test rest false = rest
ready_there i (suc j) t (b ∷ blocks) at = by_test (ready_there (i + 1) j t blocks (omega arith)) (is_ready b.stage)
  where
    by_test : occurs t (ready_from (i + 1) blocks) ≡ one_if (is_ready (stage_at blocks j)) → (test : Bool) → occurs t (if test then i ∷ ready_from (i + 1) blocks else ready_from (i + 1) blocks) ≡ one_if (is_ready (stage_at blocks j))
    by_test rest true = let off = ap one_if (ne_eqb i t (λ (same : i ≡ t). omega arith)) in omega arith
    by_test rest false = rest
