-- Signals that are pending, in the order of their numbers.
use Rattle.std.proofs.Common.{◌≡◌, ℕ, suc, ◌+◌, ◌==◌, ◌<◌, ◌≤◌, Bool, true, false, List, [], ◌∷◌, ◌++◌, length, take, drop, refl, sym, ap, ◌∙◌, arith, eq-eqb, ne_eqb, length-append}
use Rattle.std.proofs.lemmas.List.{take-append-drop}
use Rattle.std.proofs.lemmas.Bool.{eqb-true, eqb-false, le-ltb, lt-ltb, ltb-false, ltb-true}
use Rattle.std.specs.Prelude.{if◌then◌else◌, nat_lt, slice_get, Result, Ok, Err, IsOk, is_ok}
use Rattle.xs_base.specs.declared.words.Signo.{Signo}
use Rattle.xs_model.specs.Laws.{ArePending}
use Rattle.xs_model.specs.Outer.{insert}
use Rattle.xs_model.specs.Pending.{below, is_signal}

-- at most 31 are pending
pub few_pending : (last : ℕ) (pending : List Signo) → ArePending last pending → last ≤ 31 → length pending + last ≤ 31
few_pending last [] rising most = omega (arith, most)
few_pending last (signo ∷ pending) rising most =
    let above = rising.0 in
    let rest = few_pending signo.number pending rising.1 signo.in_range.1 in
    omega (arith, above, rest)

-- a test that holds
if_true : {A : Type 0} (b : Bool) (x y : A) → b ≡ true → (if b then x else y) ≡ x
if_true true x y on = refl
if_true false x y on = absurd (cc on)

-- a test that does not
if_false : {A : Type 0} (b : Bool) (x y : A) → b ≡ false → (if b then x else y) ≡ y
if_false true x y off = absurd (cc off)
if_false false x y off = refl

-- behind a lower one it joins the rest
behind : (signo other : Signo) (pending : List Signo) → other.number < signo.number → insert signo (other ∷ pending) ≡ other ∷ insert signo pending
behind signo other pending lower =
    if_false (nat_lt signo.number other.number) _ _ (le-ltb signo.number other.number (omega (arith, lower)))
    ∙ if_false (signo.number == other.number) _ _ (ne_eqb signo.number other.number (λ (e : signo.number ≡ other.number). omega (arith, lower, e)))

-- one that isn't pending yet is inserted at its place
pub insert_new : (signo : Signo) (pending : List Signo) → is_signal (slice_get pending (below signo pending)) signo ≡ false → take (below signo pending) pending ++ signo ∷ drop (below signo pending) pending ≡ insert signo pending
insert_new signo [] none = refl
insert_new signo (other ∷ pending) none = by_test (nat_lt other.number signo.number) refl none (insert_new signo pending)
  where
    by_test : (lower : Bool) → nat_lt other.number signo.number ≡ lower → is_signal (slice_get (other ∷ pending) (if lower then suc (below signo pending) else 0)) signo ≡ false
        → (is_signal (slice_get pending (below signo pending)) signo ≡ false → take (below signo pending) pending ++ signo ∷ drop (below signo pending) pending ≡ insert signo pending)
        → take (if lower then suc (below signo pending) else 0) (other ∷ pending) ++ signo ∷ drop (if lower then suc (below signo pending) else 0) (other ∷ pending) ≡ insert signo (other ∷ pending)
    by_test true is none rest =
        ap (λ (list : List Signo). other ∷ list) (rest none) ∙ sym (behind signo other pending (ltb-true other.number signo.number is))
    by_test false is none rest =
        let least = ltb-false other.number signo.number is in
        let apart = eqb-false other.number signo.number none in
        sym (if_true (nat_lt signo.number other.number) _ _ (lt-ltb signo.number other.number (omega (arith, least, apart))))

-- it is one more
pub insert_longer : (signo : Signo) (pending : List Signo) → is_signal (slice_get pending (below signo pending)) signo ≡ false → length (insert signo pending) ≡ length pending + 1
insert_longer signo pending none =
    let n = below signo pending in
    let all = length-append (take n pending) (signo ∷ drop n pending) in
    let parts = length-append (take n pending) (drop n pending) in
    let same = ap length (take-append-drop n pending) in
    let is = ap length (insert_new signo pending none) in
    omega (arith, all, parts, same, is)

-- one that is pending stays
pub insert_same : (signo : Signo) (pending : List Signo) → is_signal (slice_get pending (below signo pending)) signo ≡ true → pending ≡ insert signo pending
insert_same signo [] there = absurd (cc there)
insert_same signo (other ∷ pending) there = by_test (nat_lt other.number signo.number) refl there (insert_same signo pending)
  where
    by_test : (lower : Bool) → nat_lt other.number signo.number ≡ lower → is_signal (slice_get (other ∷ pending) (if lower then suc (below signo pending) else 0)) signo ≡ true
        → (is_signal (slice_get pending (below signo pending)) signo ≡ true → pending ≡ insert signo pending) → other ∷ pending ≡ insert signo (other ∷ pending)
    by_test true is there rest =
        ap (λ (list : List Signo). other ∷ list) (rest there) ∙ sym (behind signo other pending (ltb-true other.number signo.number is))
    by_test false is there rest =
        let same = eqb-true other.number signo.number there in
        sym (if_false (nat_lt signo.number other.number) _ _ (le-ltb signo.number other.number (omega (arith, same))) ∙ if_true (signo.number == other.number) _ _ (eq-eqb signo.number other.number (sym same)))

-- what comes where a call succeeds
pub when_ok : {A E X : Type 0} (answer : Result A E) (x y : X) → IsOk answer → (if is_ok answer then x else y) ≡ x
when_ok (Ok a) x y ok = refl
when_ok (Err e) x y ok = absurd (cc ok)

-- a signal that was looked for at its place
pub stood : (signo : Signo) (pending one other : List Signo) (n : ℕ) (answer : Bool) → one ≡ pending → other ≡ pending → n ≡ below signo one → answer ≡ is_signal (slice_get other n) signo → answer ≡ is_signal (slice_get pending (below signo pending)) signo
stood signo pending one other n answer first second at is =
    is ∙ ap (λ (list : List Signo). is_signal (slice_get list n) signo) second ∙ ap (λ (m : ℕ). is_signal (slice_get pending m) signo) (at ∙ ap (below signo) first)
