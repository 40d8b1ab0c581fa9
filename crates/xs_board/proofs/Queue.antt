-- The ready list has no more numbers than there are blocks, since each stands in it once.
use Rattle.std.proofs.Common.{◌≡◌, ℕ, zero, suc, ◌+◌, ◌==◌, ◌≤◌, Bool, true, false, List, [], ◌∷◌, length, refl, sym, ap, ◌∙◌, arith, inl, inr, eq-eqb, ne_eqb}
use Rattle.std.proofs.lemmas.Bool.{cases_eq, eqb-true}
use Rattle.std.specs.Prelude.{if◌then◌else◌}
use Rattle.xs_model.specs.declared.event.Event.{Event}
use Rattle.xs_model.specs.declared.script.Script.{Script}
use Rattle.xs_model.specs.Laws.{MachineKnown, ReadyOnce}
use Rattle.xs_model.specs.Machine.{machine, IsLegalPast}
use Rattle.xs_model.specs.Ready.{occurs, one_if, ready_list}
use Rattle.xs_model.specs.State.{BlockState, is_ready, stage_at}

-- the list without a number
abbrev without_all : ℕ → List ℕ → List ℕ
without_all m [] = []
without_all m (u ∷ us) = if u == m then without_all m us else u ∷ without_all m us

-- it is so much shorter
split_length : (m : ℕ) (list : List ℕ) → length list ≡ length (without_all m list) + occurs m list
split_length m [] = refl
split_length m (u ∷ us) = by_test (u == m) (split_length m us)
  where
    by_test : (b : Bool) → length us ≡ length (without_all m us) + occurs m us → length (u ∷ us) ≡ length (if b then without_all m us else u ∷ without_all m us) + (one_if b + occurs m us)
    by_test true rest = omega (arith, rest)
    by_test false rest = omega (arith, rest)

-- the number isn't in it
none_left : (m : ℕ) (list : List ℕ) → occurs m (without_all m list) ≡ 0
none_left m [] = refl
none_left m (u ∷ us) = by_test (u == m) refl (none_left m us)
  where
    by_test : (b : Bool) → (u == m) ≡ b → occurs m (without_all m us) ≡ 0 → occurs m (if b then without_all m us else u ∷ without_all m us) ≡ 0
    by_test true is rest = rest
    by_test false is rest = let off : one_if (u == m) ≡ 0 = ap one_if is in omega (arith, off, rest)

-- the others are
others_left : (m t : ℕ) (list : List ℕ) → (t ≡ m → ⊥) → occurs t (without_all m list) ≡ occurs t list
others_left m t [] other = refl
others_left m t (u ∷ us) other = by_test (u == m) refl (others_left m t us other)
  where
    by_test : (b : Bool) → (u == m) ≡ b → occurs t (without_all m us) ≡ occurs t us → occurs t (if b then without_all m us else u ∷ without_all m us) ≡ one_if (u == t) + occurs t us
    by_test true is rest =
        let same : u ≡ m = eqb-true u m is in
        let off : one_if (u == t) ≡ 0 = ap one_if (ne_eqb u t (λ (e : u ≡ t). other (sym e ∙ same))) in
        omega (arith, off, rest)
    by_test false is rest = ap (λ (n : ℕ). one_if (u == t) + n) rest

-- numbers below n, each once
few_once : (n : ℕ) (list : List ℕ) → ((t : ℕ) → occurs t list ≤ 1) → ((t : ℕ) → n ≤ t → occurs t list ≡ 0) → length list ≤ n
few_once zero [] once none = omega arith
few_once zero (u ∷ us) once none =
    let here : one_if (u == u) + occurs u us ≡ 0 = none u (omega arith) in
    let one : one_if (u == u) ≡ 1 = ap one_if (eq-eqb u u refl) in
    absurd (omega (arith, here, one))
few_once (suc m) list once none =
    let parts = split_length m list in
    let at_most = once m in
    let rest = few_once m (without_all m list) fewer beyond in
    omega (arith, parts, at_most, rest)
  where
    fewer : (t : ℕ) → occurs t (without_all m list) ≤ 1
    fewer t = elim (cases_eq t m) [
      | inl same ↦ let is = ap (λ (v : ℕ). occurs v (without_all m list)) same in let here = none_left m list in omega (arith, is, here)
      | inr other ↦ let is = others_left m t list other in let most = once t in omega (arith, is, most)
    ]

    beyond : (t : ℕ) → m ≤ t → occurs t (without_all m list) ≡ 0
    beyond t above = elim (cases_eq t m) [
      | inl same ↦ ap (λ (v : ℕ). occurs v (without_all m list)) same ∙ none_left m list
      | inr other ↦ others_left m t list other ∙ none t (omega (arith, above, other))
    ]

-- no block is there beyond the last
absent_stage : (blocks : List BlockState) (t : ℕ) → length blocks ≤ t → is_ready (stage_at blocks t) ≡ false
absent_stage [] t beyond = refl
absent_stage (b ∷ blocks) zero beyond = absurd (omega (arith, beyond))
absent_stage (b ∷ blocks) (suc t) beyond = absent_stage blocks t (omega (arith, beyond))

at_most_one : (b : Bool) → one_if b ≤ 1
at_most_one true = omega arith
at_most_one false = omega arith

-- the ready list
pub queue_fits : ReadyOnce → MachineKnown → (script : Script) (past : List Event) → IsLegalPast script past → length (ready_list script past) ≤ length script.blocks
queue_fits law known script past legal =
    few_once (length script.blocks) (ready_list script past)
    (λ t. let is = law script past t legal in let most = at_most_one (is_ready (stage_at (machine script past).blocks t)) in omega (arith, is, most))
    (λ t above. let same = (known script past).2 in law script past t legal ∙ ap one_if (absent_stage (machine script past).blocks t (omega (arith, above, same))))
