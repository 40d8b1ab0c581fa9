-- A family of which a member lives has one that is ready or in a turn, and each move and each birth leaves a family.
use Rattle.std.proofs.Common.{◌≡◌, ℕ, zero, suc, ◌+◌, ◌≤◌, ◌<◌, Bool, true, false, refl, sym, ap, ◌∙◌, subst, inl, inr, ◌⊎◌, ⊎_elim, arith, ◌==◌, eq-eqb, ne_eqb}
use Rattle.std.proofs.lemmas.Bool.{cases_eq, both_ways, cases_Bool}
use Rattle.std.specs.Prelude.{Option, Some, if◌then◌else◌}
use Rattle.xs_model.specs.declared.stage.Stage.{Stage}
use Rattle.xs_model.specs.declared.stage.Stage.TheVariants.{Unborn, Ready, Turn, Stopped, Waiting, Ended}
use Rattle.xs_model.specs.State.{lives, is_active}
use Rattle.xs_model.proofs.Family.{goes, is_born, IsFamily, Moves, Bears}

-- ---- a family has an active member

-- down from a block that goes
down_from : (stage : ℕ → Stage) (parent : ℕ → Option ℕ) (fuel v : ℕ) (s : Stage) → stage v ≡ s → goes s ≡ true → (family : IsFamily stage parent) → family.most ≤ family.rank v + fuel → (u : ℕ) × (is_active (stage u) ≡ true)
down_from stage parent fuel v Unborn at going family near = absurd (cc)
down_from stage parent fuel v Ready at going family near = (v, ap is_active at)
down_from stage parent fuel v (Turn cpu ran) at going family near = (v, ap is_active at)
down_from stage parent fuel v Stopped at going family near = absurd (cc)
down_from stage parent fuel v Ended at going family near = absurd (cc)
down_from stage parent zero v (Waiting child) at going family near =
    let wait = family.waits v child at in
    let below = (family.parents child v wait.0).1 in
    let top = family.bounded child in
    absurd (omega arith)
down_from stage parent (suc fuel) v (Waiting child) at going family near =
    let wait = family.waits v child at in
    let below : family.rank v < family.rank child = (family.parents child v wait.0).1 in
    down_from stage parent fuel child (stage child) refl wait.1 family (omega arith)

-- down from a block that goes one is active
active_below : (stage : ℕ → Stage) (parent : ℕ → Option ℕ) (family : IsFamily stage parent) (v : ℕ) → goes (stage v) ≡ true → (u : ℕ) × (is_active (stage u) ≡ true)
active_below stage parent family v going = down_from stage parent family.most v (stage v) refl going family (omega arith)

-- a living block goes or is stopped
goes_or_stopped : (s : Stage) → lives s ≡ true → (goes s ≡ true) ⊎ (s ≡ Stopped)
goes_or_stopped Unborn alive = absurd (cc)
goes_or_stopped Ready alive = inl refl
goes_or_stopped (Turn cpu ran) alive = inl refl
goes_or_stopped Stopped alive = inr refl
goes_or_stopped (Waiting child) alive = inl refl
goes_or_stopped Ended alive = absurd (cc)

-- up from a stopped block, and down from one that goes
up_from : (stage : ℕ → Stage) (parent : ℕ → Option ℕ) (family : IsFamily stage parent) (fuel v : ℕ) → family.rank v < fuel → lives (stage v) ≡ true → (u : ℕ) × (is_active (stage u) ≡ true)
up_from stage parent family zero v near alive = absurd (omega arith)
up_from stage parent family (suc fuel) v near alive = ⊎_elim
    (λ (going : goes (stage v) ≡ true). active_below stage parent family v going)
    (λ (stopped : stage v ≡ Stopped).
    let p = family.stops v stopped in
    let below : family.rank p.0 < family.rank v = (family.parents v p.0 p.1).1 in
    up_from stage parent family fuel p.0 (omega arith) p.2)
    (goes_or_stopped (stage v) alive)

-- where one lives one is active
pub one_is_active : (stage : ℕ → Stage) (parent : ℕ → Option ℕ) (family : IsFamily stage parent) (v : ℕ) → lives (stage v) ≡ true → (u : ℕ) × (is_active (stage u) ≡ true)
one_is_active stage parent family v alive = up_from stage parent family (suc (family.rank v)) v (omega arith) alive

-- ---- a move keeps the family

-- a test that holds of a ready block goes on to hold
kept_by : (test : Stage → Bool) (old new : Stage) → test Ready ≡ true → (new ≡ old) ⊎ ((new ≡ Ready) × (is_born old ≡ true)) → test old ≡ true → test new ≡ true
kept_by test old new ready soft holds = ⊎_elim
    (λ (same : new ≡ old). ap test same ∙ holds)
    (λ (risen : (new ≡ Ready) × (is_born old ≡ true)). ap test risen.0 ∙ ready)
    soft

-- a block that isn't ready was so before
soft_back : (old new s : Stage) → (s ≡ Ready → ⊥) → (new ≡ old) ⊎ ((new ≡ Ready) × (is_born old ≡ true)) → new ≡ s → old ≡ s
soft_back old new s unready soft is = ⊎_elim
    (λ (same : new ≡ old). sym same ∙ is)
    (λ (risen : (new ≡ Ready) × (is_born old ≡ true)). absurd (unready (sym is ∙ risen.0)))
    soft

-- a move leaves a family
pub family_next : (old new : ℕ → Stage) (parent : ℕ → Option ℕ) (t : ℕ) → IsFamily old parent → Moves old new parent t → IsFamily new parent
family_next old new parent t family moves = record {
  rank = family.rank;
  most = family.most;
  bounded = family.bounded;
  parents = λ v p is. (born_next p (family.parents v p is).0, (family.parents v p is).1);
  waits = λ v c is. ⊎_elim (λ (same : v ≡ t). waits_own v c same is) (λ (other : v ≡ t → ⊥). waits_other v c other is) (cases_eq v t);
  stops = λ v is. ⊎_elim (λ (same : v ≡ t). stops_own v same is) (λ (other : v ≡ t → ⊥). stops_other v other is) (cases_eq v t);
}
  where
    born_next : (p : ℕ) → is_born (old p) ≡ true → is_born (new p) ≡ true
    born_next p before = ⊎_elim
        (λ (same : p ≡ t). subst (λ (x : ℕ). is_born (new x) ≡ true) (sym same) moves.born)
        (λ (other : p ≡ t → ⊥). kept_by is_born (old p) (new p) refl (moves.others p other) before)
        (cases_eq p t)

    not_self : (v p : ℕ) → parent v ≡ Some p → v ≡ p → ⊥
    not_self v p is same = let below : family.rank p < family.rank v = (family.parents v p is).1 in let equal : family.rank v ≡ family.rank p = ap family.rank same in omega arith

    goes_next : (c v : ℕ) → (v ≡ t → ⊥) → new v ≡ Waiting c → goes (old c) ≡ true → goes (new c) ≡ true
    goes_next c v other is before = ⊎_elim
        (λ (same : c ≡ t). ⊎_elim
        (λ (yes : goes (new t) ≡ true). subst (λ (x : ℕ). goes (new x) ≡ true) (sym same) yes)
        (λ (no : goes (new t) ≡ false). absurd (moves.unwaited no v other (is ∙ ap Waiting same)))
        (cases_Bool (goes (new t))))
        (λ (apart : c ≡ t → ⊥). kept_by goes (old c) (new c) refl (moves.others c apart) before)
        (cases_eq c t)

    waits_other : (v c : ℕ) → (v ≡ t → ⊥) → new v ≡ Waiting c → (parent c ≡ Some v) × (goes (new c) ≡ true)
    waits_other v c other is =
        let before = family.waits v c (soft_back (old v) (new v) (Waiting c) (λ (e : Waiting c ≡ Ready). cc) (moves.others v other) is) in
        (before.0, goes_next c v other is before.1)

    waits_own : (v c : ℕ) → v ≡ t → new v ≡ Waiting c → (parent c ≡ Some v) × (goes (new c) ≡ true)
    waits_own v c same is =
        let now = moves.waiting c (subst (λ (x : ℕ). new x ≡ Waiting c) same is) in
        (now.0 ∙ ap Some (sym same), kept_by goes (old c) (new c) refl (moves.others c (not_self c t now.0)) now.1)

    lives_next : (p v : ℕ) → (v ≡ t → ⊥) → new v ≡ Stopped → parent v ≡ Some p → lives (old p) ≡ true → lives (new p) ≡ true
    lives_next p v other is child before = ⊎_elim
        (λ (same : p ≡ t). ⊎_elim
        (λ (yes : lives (new t) ≡ true). subst (λ (x : ℕ). lives (new x) ≡ true) (sym same) yes)
        (λ (no : lives (new t) ≡ false). absurd (moves.released no v other is (child ∙ ap Some same)))
        (cases_Bool (lives (new t))))
        (λ (apart : p ≡ t → ⊥). kept_by lives (old p) (new p) refl (moves.others p apart) before)
        (cases_eq p t)

    stops_other : (v : ℕ) → (v ≡ t → ⊥) → new v ≡ Stopped → (p : ℕ) × (parent v ≡ Some p) × (lives (new p) ≡ true)
    stops_other v other is =
        let before = family.stops v (soft_back (old v) (new v) Stopped (λ (e : Stopped ≡ Ready). cc) (moves.others v other) is) in
        (before.0, before.1, lives_next before.0 v other is before.1 before.2)

    stops_own : (v : ℕ) → v ≡ t → new v ≡ Stopped → (p : ℕ) × (parent v ≡ Some p) × (lives (new p) ≡ true)
    stops_own v same is =
        let now = moves.stopped (subst (λ (x : ℕ). new x ≡ Stopped) same is) in
        let apart : now.0 ≡ t → ⊥ = λ (e : now.0 ≡ t). not_self t now.0 now.1 (sym e) in
        (now.0, ap parent same ∙ now.1, kept_by lives (old now.0) (new now.0) refl (moves.others now.0 apart) now.2)

-- ---- a birth keeps the family

-- the ranks with a new one above all
above : (ℕ → ℕ) → ℕ → ℕ → ℕ → ℕ
above rank most c v = if v == c then most + 1 else rank v

-- the new one's rank
above_new : (rank : ℕ → ℕ) (most c : ℕ) → above rank most c c ≡ most + 1
unfolding above
above_new rank most c = rw (eq-eqb c c refl) refl

-- an old one's rank
above_old : (rank : ℕ → ℕ) (most c v : ℕ) → (v ≡ c → ⊥) → above rank most c v ≡ rank v
unfolding above
above_old rank most c v other = rw (ne_eqb v c other) refl

-- a test that fails of unborn blocks
not_born : (s : Stage) (test : Stage → Bool) → test Unborn ≡ false → s ≡ Unborn → test s ≡ true → ⊥
not_born s test unlike is holds = both_ways (test s) (ap test is ∙ unlike) holds

-- a birth leaves a family
pub family_born : (old new : ℕ → Stage) (before now : ℕ → Option ℕ) (t c : ℕ) → IsFamily old before → Bears old new before now t c → IsFamily new now
family_born old new before now t c family bears = record {
  rank = above family.rank family.most c;
  most = family.most + 1;
  bounded = λ v. ⊎_elim
      (λ (same : v ≡ c). let is : above family.rank family.most c v ≡ family.most + 1 = ap (above family.rank family.most c) same ∙ above_new family.rank family.most c in omega arith)
      (λ (other : v ≡ c → ⊥). let is = above_old family.rank family.most c v other in let b = family.bounded v in omega arith)
      (cases_eq v c);
  parents = λ v p is. ⊎_elim (λ (same : v ≡ c). parents_new v p same is) (λ (other : v ≡ c → ⊥). parents_old v p other is) (cases_eq v c);
  waits = λ v k is.
      let was : old v ≡ Waiting k = old_stage v (Waiting k) (λ (e : Waiting k ≡ Ready). cc) is in
      let wait = family.waits v k was in
      let apart : k ≡ c → ⊥ = λ (same : k ≡ c). not_born (old k) goes refl (ap old same ∙ bears.unborn) wait.1 in
      (bears.parents k apart ∙ wait.0, still goes refl k wait.1);
  stops = λ v is.
      let was : old v ≡ Stopped = old_stage v Stopped (λ (e : Stopped ≡ Ready). cc) is in
      let stop = family.stops v was in
      let apart : v ≡ c → ⊥ = λ (same : v ≡ c). let e : old v ≡ Unborn = ap old same ∙ bears.unborn in let clash : Unborn ≡ Stopped = sym e ∙ was in cc in
      (stop.0, bears.parents v apart ∙ stop.1, still lives refl stop.0 stop.2);
}
  where
    old_stage : (v : ℕ) (s : Stage) → (s ≡ Ready → ⊥) → new v ≡ s → old v ≡ s
    old_stage v s unready is = ⊎_elim
        (λ (same : v ≡ t). absurd (unready (sym is ∙ ap new same ∙ bears.mother)))
        (λ (other : v ≡ t → ⊥). ⊎_elim
        (λ (same : v ≡ c). absurd (unready (sym is ∙ ap new same ∙ bears.child)))
        (λ (apart : v ≡ c → ⊥). sym (bears.others v other apart) ∙ is)
        (cases_eq v c))
        (cases_eq v t)

    still : (test : Stage → Bool) → test Ready ≡ true → (v : ℕ) → test (old v) ≡ true → test (new v) ≡ true
    still test ready v holds = ⊎_elim
        (λ (same : v ≡ t). ap test (ap new same ∙ bears.mother) ∙ ready)
        (λ (other : v ≡ t → ⊥). ⊎_elim
        (λ (same : v ≡ c). ap test (ap new same ∙ bears.child) ∙ ready)
        (λ (apart : v ≡ c → ⊥). ap test (bears.others v other apart) ∙ holds)
        (cases_eq v c))
        (cases_eq v t)

    mother_old : t ≡ c → ⊥
    mother_old same = not_born (old t) is_active refl (ap old same ∙ bears.unborn) bears.turning

    parents_new : (v p : ℕ) → v ≡ c → now v ≡ Some p → (is_born (new p) ≡ true) × (above family.rank family.most c p < above family.rank family.most c v)
    parents_new v p same is =
        let who : Some t ≡ Some p = sym bears.parent ∙ ap now (sym same) ∙ is in
        let mother : t ≡ p = cc in
        let high : above family.rank family.most c v ≡ family.most + 1 = ap (above family.rank family.most c) same ∙ above_new family.rank family.most c in
        let low : above family.rank family.most c p ≡ family.rank t = ap (above family.rank family.most c) (sym mother) ∙ above_old family.rank family.most c t mother_old in
        let b = family.bounded t in
        (ap is_born (ap new (sym mother) ∙ bears.mother), omega arith)

    parents_old : (v p : ℕ) → (v ≡ c → ⊥) → now v ≡ Some p → (is_born (new p) ≡ true) × (above family.rank family.most c p < above family.rank family.most c v)
    parents_old v p other is =
        let had = family.parents v p (sym (bears.parents v other) ∙ is) in
        let apart : p ≡ c → ⊥ = λ (same : p ≡ c). not_born (old p) is_born refl (ap old same ∙ bears.unborn) had.0 in
        let low = above_old family.rank family.most c p apart in
        let high = above_old family.rank family.most c v other in
        let less = had.1 in
        (still is_born refl p had.0, omega arith)
