-- The rule of the table that holds the kept value, over plain data, and what each step does to a view.
use Rattle.std.specs.Prelude.{◌≡◌, ◌≢◌, ℕ, ◌+◌, ◌<◌, ◌≤◌, Bool, true, false, List, [], ◌∷◌, length, slice_index, All, Option, Some, None}
use mathlib.Core.Option.{some}
use lib.ListN.{get_elem?}
use Rattle.atomic_table.specs.Table.{State, Me, Step}
use Rattle.xs_share.specs.declared.rule.View.{View}

-- a seat's view, with the slots that it holds
abbrev Known : Type 0 → Type 0
Known K = Me (Option K) (View K)

module _ {K : Type 0} where
  abbrev pub keeper : K → View K
  keeper k = record { keeps = true; made = 0; out = 0; first = k; ended = []; works = false; number = 0; turn = false; mark = 0; last = k }

  -- the keeper, when it has made one more pass, and that pass
  abbrev pub with_pass : View K → View K
  with_pass v = record v { made = v.made + 1; out = v.out + 1 }

  abbrev pub new_pass : View K → View K
  new_pass v = record { keeps = false; made = 0; out = 0; first = v.first; ended = []; works = true; number = v.made; turn = false; mark = 0; last = v.first }

  -- the keeper, when it has taken the pass w back, and what is left in that pass's seat
  abbrev pub without_pass : View K → View K → View K
  without_pass v w = record v { out = w.number; ended = (w.number, w.last) ∷ v.ended }

  abbrev pub spent : K → View K
  spent k = record { keeps = false; made = 0; out = 0; first = k; ended = []; works = false; number = 0; turn = false; mark = 0; last = k }

  -- a pass that takes the value k, gives it, or stores the word n as its mark
  abbrev pub took : View K → K → View K
  took v k = record v { turn = true; last = k }

  abbrev pub gave : View K → K → View K
  gave v k = record v { turn = false; last = k }

  abbrev pub marked : View K → ℕ → View K
  marked v n = record v { mark = n }

  -- what a pass carries between two calls: while it has the turn, the empty slot
  abbrev pub carried : Bool → List (ℕ × Option K)
  carried true = (0, None) ∷ []
  carried false = []

  abbrev pub Gave : Step (Option K) → Known K → ℕ → Known K → Type 0
  Gave st m n w = (k : K) → m.1 ≡ (0, Some k) ∷ [] → w ≡ (gave m.0 k, [])

  abbrev pub Marked : Step (Option K) → Known K → ℕ → Known K → Type 0
  Marked st m n w = w ≡ (marked m.0 n, m.1)

module _ {K : Type 0} (follows : ℕ → K → K → Type 0) where
  abbrev pub Took : Step (Option K) → Known K → ℕ → Known K → Type 0
  Took st m n w = (n ≡ 0 → (k : K) × (w ≡ (took m.0 k, (0, Some k) ∷ m.1)) × follows m.0.number m.0.last k) × (n ≢ 0 → w ≡ m)

  -- What the view v of seat j has to do with the table. `last` is the last kept value: the one at home, or else the one that the pass with the turn took
  pub record Knows (last : K) (words : List ℕ) (made out j : ℕ) (v : View K) : Type 0 where
    pub keeper : v.keeps ≡ true → (j ≡ 0) × (v.made ≡ made) × (v.out ≡ out)
    pub unmade : v.keeps ≡ true → (c : ℕ) → made ≤ c → follows c v.first last
    pub ended : v.keeps ≡ true → All (λ p. (out ≤ p.0) × follows p.0 p.1 last) v.ended
    pub seat : v.works ≡ true → (j ≡ v.number + 1) × (v.number < out)
    pub since : v.works ≡ true → follows v.number v.last last
    pub turn : v.works ≡ true → v.turn ≡ true → (slice_index words 0 ≡ v.number + 1) × (v.last ≡ last)
    pub mark : v.works ≡ true → slice_index words (v.number + 1) ≡ v.mark

  pub record Ruled (s : State (Option K) (View K)) : Type 0 where
    pub last : K
    pub made : ℕ
    pub out : ℕ
    pub order : (out ≤ made) × (made ≤ 16)
    pub count : length s.views ≡ made + 1
    pub wide : length s.words ≡ 17
    pub deep : length s.homes ≡ 1
    pub home : slice_index s.words 0 ≡ 0 → get_elem? s.homes 0 ≡ some (some (Some last))
    pub away : slice_index s.words 0 ≢ 0 → (v : View K) × (get_elem? s.views (slice_index s.words 0) ≡ some v) × (v.works ≡ true) × (v.turn ≡ true)
    pub unmarked : (c : ℕ) → made ≤ c → c < 16 → slice_index s.words (c + 1) ≡ 0
    pub each : (j : ℕ) (v : View K) → get_elem? s.views j ≡ some v → Knows last s.words made out j v
