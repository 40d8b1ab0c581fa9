-- The events of a history, one after the other.
use Rattle.std.proofs.Common.{◌≡◌, ℕ, zero, suc, ◌+◌, ◌<◌, List, [], ◌∷◌, ◌++◌, length, take, drop, reverse, get_or, slice_get, Some, refl, sym, ap, ◌∙◌, append_assoc, take-append-drop, subst, arith, inl, inr}
use Rattle.std.proofs.Math.Seq.{take-suc}
use Rattle.std.proofs.lemmas.Bool.{cases_order}
use Rattle.std.proofs.lemmas.List.{drop_more, reverse-append}
use Rattle.std.proofs.lemmas.Option.{get_or_from_slice_get, slice_get_within}
use Rattle.xs_model.specs.declared.event.Event.{Event}
use Rattle.xs_model.specs.declared.script.Script.{Script}
use Rattle.xs_model.specs.History.{IsLegal, IsWhole, machine_of}
use Rattle.xs_model.specs.Machine.{IsLegalPast, IsStep}
use Rattle.xs_text.specs.Reading.{IsFirstBadLine, IsHistoryOf}
use Rattle.xs_check.specs.declared.following.Finding.{Finding}
use Rattle.xs_check.specs.declared.following.Finding.TheVariants as findings
use Rattle.xs_check.specs.Verdict.{Breaks, BreaksAt, IsBroken, IsFollowed, IsFound, Misspelled, NoStep, Unfinished}

-- the events up to the next one, the latest first
pub next_past : (xs : List Event) (i : ℕ) (d : Event) → i < length xs → reverse (take (i + 1) xs) ≡ get_or xs i d ∷ reverse (take i xs)
next_past xs i d lt =
    let next : i + 1 ≡ suc i = omega arith in
    ap (λ (n : ℕ). reverse (take n xs)) next ∙ ap reverse (take-suc xs i d lt) ∙ reverse-append (take i xs) (get_or xs i d ∷ [])

-- a history around one of its events, the latest first
around : (xs : List Event) (k : ℕ) (x : Event) → slice_get xs k ≡ Some x → reverse xs ≡ reverse (drop (k + 1) xs) ++ x ∷ reverse (take k xs)
around xs k x at =
    let lt = slice_get_within xs k x at in
    let rest = drop (k + 1) xs in
    let from : drop k xs ≡ x ∷ rest = drop_more xs k x lt ∙ ap (λ (y : Event). y ∷ rest) (get_or_from_slice_get xs k x x at) in
    ap reverse (sym (take-append-drop k xs)) ∙ reverse-append (take k xs) (drop k xs)
    ∙ ap (λ (l : List Event). reverse l ++ reverse (take k xs)) from
    ∙ ap (λ (l : List Event). l ++ reverse (take k xs)) (reverse-append (x ∷ []) rest)
    ∙ append_assoc (reverse rest) (x ∷ []) (reverse (take k xs))

earlier : (script : Script) (newer past : List Event) → IsLegalPast script (newer ++ past) → IsLegalPast script past
earlier script [] past legal = legal
earlier script (event ∷ newer) past legal = earlier script newer past legal.0

-- each event of a legal history is a step after those before it
pub each_is_step : (script : Script) (history : List Event) (k : ℕ) (event : Event) → IsLegal script history → slice_get history k ≡ Some event → IsStep (machine_of script (take k history)) event
each_is_step script history k event legal at =
    let whole : IsLegalPast script (reverse (drop (k + 1) history) ++ event ∷ reverse (take k history)) = subst (IsLegalPast script) (around history k event at) legal in
    (earlier script (reverse (drop (k + 1) history)) (event ∷ reverse (take k history)) whole).1

-- an event of a front
front_at : (xs : List Event) (j k : ℕ) → j < k → slice_get (take k xs) j ≡ slice_get xs j
front_at xs j zero lt = absurd (omega arith)
front_at [] j (suc k) lt = refl
front_at (x ∷ xs) zero (suc k) lt = refl
front_at (x ∷ xs) (suc j) (suc k) lt = front_at xs j k (omega arith)

front_of_front : (xs : List Event) (j k : ℕ) → j < k → take j (take k xs) ≡ take j xs
front_of_front xs zero zero lt = absurd (omega arith)
front_of_front xs zero (suc k) lt = refl
front_of_front xs (suc j) zero lt = absurd (omega arith)
front_of_front [] (suc j) (suc k) lt = refl
front_of_front (x ∷ xs) (suc j) (suc k) lt = ap (λ (l : List Event). x ∷ l) (front_of_front xs j k (omega arith))

-- what isn't a step stands before no event of a legal front
before_none : (script : Script) (history : List Event) (j k : ℕ) (event : Event) → j < k → IsLegal script (take k history) → slice_get history j ≡ Some event
    → (IsStep (machine_of script (take j history)) event → ⊥) → ⊥
before_none script history j k event lt legal at wrong =
    wrong (subst (λ (l : List Event). IsStep (machine_of script l) event) (front_of_front history j k lt)
    (each_is_step script (take k history) j event legal (front_at history j k lt ∙ at)))

-- ---- one line breaks a history, and none a whole one

pub one_break : (script : Script) (history : List Event) (m n : ℕ) → BreaksAt script history m → BreaksAt script history n → m ≡ n
one_break script history m n (NoStep j one one_at one_legal one_wrong) (NoStep k other other_at other_legal other_wrong) = elim (cases_order j k) [
  | inl same ↦ ap (λ (i : ℕ). i + 1) same
  | inr apart ↦ elim apart [
    | inl below ↦ absurd (before_none script history j k one below other_legal one_at one_wrong)
    | inr above ↦ absurd (before_none script history k j other above one_legal other_at other_wrong)
  ]
]
one_break script history m n (NoStep j event at legal wrong) (Unfinished whole lives) = absurd (wrong (each_is_step script history j event whole at))
one_break script history m n (Unfinished whole lives) (NoStep j event at legal wrong) = absurd (wrong (each_is_step script history j event whole at))
one_break script history m n (Unfinished one one_lives) (Unfinished other other_lives) = refl

pub whole_unbroken : (script : Script) (history : List Event) (line : ℕ) → IsWhole script history → BreaksAt script history line → ⊥
whole_unbroken script history line whole (NoStep j event at legal wrong) = wrong (each_is_step script history j event whole.legal at)
whole_unbroken script history line whole (Unfinished legal lives) = cc (whole.ended, lives)

-- ---- what is found of a text

pub found : (script : Script) (text : List ℕ) (history : List Event) (finding : Finding) → IsHistoryOf script text history → IsFollowed script history finding → IsFound script text finding
found script text history (findings.Whole lines) is whole = (history, is, whole.0, whole.1)
found script text history (findings.Broken line) is broken = Breaks history line is broken

pub misspelled : (script : Script) (text : List ℕ) (line : ℕ) → IsFirstBadLine script text line → IsBroken script text line
misspelled script text line bad = Misspelled line bad
