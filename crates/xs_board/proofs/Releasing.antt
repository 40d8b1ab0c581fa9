-- The stopped children of a block that has ended, one by one.
use Rattle.std.proofs.Common.{◌≡◌, ℕ, suc, ◌+◌, ◌<◌, ◌≤◌, List, ◌++◌, length, drop, get_or, sym, ap, ◌∙◌, arith, inl, inr, drop-cons, length-append}
use Rattle.std.proofs.lemmas.Bool.{cases_eq}
use Rattle.std.proofs.lemmas.List.{get_or_default, get_or-set_other, get_or-set_same}
use Rattle.std.specs.Prelude.{slice_set}
use Rattle.xs_board.specs.Member.{Member, absent, child_if, member_at, released}
use Rattle.xs_board.specs.Putting.{children_in}

-- the numbers from a block on
pub children_step : (t i : ℕ) (members : List Member) → i < length members → children_in t i (drop i members) ≡ child_if t i (member_at members i) ++ children_in t (i + 1) (drop (i + 1) members)
children_step t i members within =
    let next : suc i ≡ i + 1 = omega arith in
    ap (children_in t i) (drop-cons members i absent within)
    ∙ ap (λ (n : ℕ). child_if t i (member_at members i) ++ children_in t (i + 1) (drop n members)) next

-- one member more is released
pub one_released : (t i : ℕ) (now before : List Member) (member new : Member) → i < length now → member ≡ get_or now i member → new ≡ released t member
    → ((u : ℕ) → u < i → member_at now u ≡ released t (member_at before u)) → ((u : ℕ) → i ≤ u → member_at now u ≡ member_at before u)
    → (u : ℕ) → u < i + 1 → member_at (slice_set now i new) u ≡ released t (member_at before u)
one_released t i now before member new within is new_is done rest u below = elim (cases_eq u i) [
  | inl same ↦
      ap (member_at (slice_set now i new)) same
      ∙ get_or-set_same now i new absent within
      ∙ new_is
      ∙ ap (released t) (is ∙ get_or_default now i member absent within ∙ rest i (omega arith))
      ∙ sym (ap (λ (v : ℕ). released t (member_at before v)) same)
  | inr other ↦ get_or-set_other now i u new absent other ∙ done u (omega (arith, below, other))
]

-- those behind it are as they were
pub behind_released : (i : ℕ) (now before : List Member) (new : Member) → ((u : ℕ) → i ≤ u → member_at now u ≡ member_at before u) → (u : ℕ) → i + 1 ≤ u → member_at (slice_set now i new) u ≡ member_at before u
behind_released i now before new rest u above = get_or-set_other now i u new absent (λ (e : u ≡ i). omega (arith, above, e)) ∙ rest u (omega (arith, above))

-- the rest of the queue begins with the next block, if it is a stopped child
pub children_next : (t i : ℕ) (now before : List Member) (member : Member) → i < length now → length now ≡ length before → member ≡ get_or now i member → ((u : ℕ) → i ≤ u → member_at now u ≡ member_at before u)
    → children_in t i (drop i before) ≡ child_if t i member ++ children_in t (i + 1) (drop (i + 1) before)
children_next t i now before member within same is rest =
    children_step t i before (omega (arith, within, same))
    ∙ ap (λ (m : Member). child_if t i m ++ children_in t (i + 1) (drop (i + 1) before)) (sym (is ∙ get_or_default now i member absent within ∙ rest i (omega arith)))

-- there is room for it
pub room_next : (t i capacity : ℕ) (now before : List Member) (member : Member) (queue first : List ℕ) → children_in t i (drop i before) ≡ child_if t i member ++ children_in t (i + 1) (drop (i + 1) before)
    → queue ++ children_in t i (drop i before) ≡ first ++ children_in t 0 before → length first + length (children_in t 0 before) ≤ capacity
    → length queue + length (child_if t i member) ≤ capacity
room_next t i capacity now before member queue first next ready room =
    let more = children_in t (i + 1) (drop (i + 1) before) in
    let long = ap length ready in
    let left = length-append queue (children_in t i (drop i before)) in
    let right = length-append first (children_in t 0 before) in
    let parts = ap length next in
    let both = length-append (child_if t i member) more in
    omega (arith, long, left, right, parts, both, room)
