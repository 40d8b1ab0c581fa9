-- The first line of a text that is badly spelled: the lines before it are read one by one, and there is at most one.
use Rattle.std.proofs.Common.{◌≡◌, ℕ, ◌<◌, List, [], ◌∷◌, ◌++◌, length, refl, sym, ap, ◌∙◌, arith, append-nil, ◌+◌, zero, suc, ◌≤◌, length-append}
use Rattle.std.proofs.lemmas.List.{append_assoc}
use Rattle.xs_model.specs.declared.script.Script.{Script}
use Rattle.xs_model.specs.declared.event.Event.{Event}
use Rattle.xs_model.specs.Script.{IsValid}
use Rattle.xs_text.specs.Text.{event_line, history_text, IsEvent, AreEvents}
use Rattle.xs_text.specs.Reading.{IsEventOf, IsHistoryOf, IsFirstBadLine}
use Rattle.xs_text.proofs.SpacedWords.{cut_same, no_cut}
use Rattle.xs_text.proofs.Cuts.{shorter}
use Rattle.xs_text.proofs.OneSpelling.{above_line}

-- ---- the lines so far

-- The text begins with the lines of these events, and goes on with the rest.
pub record IsFrontOf (script : Script) (text : List ℕ) (done : List Event) (rest : List ℕ) : Type 0 where
  pub events : AreEvents script done
  pub parts : text ≡ history_text script done ++ rest

events_push : (script : Script) (done : List Event) (event : Event) → AreEvents script done → IsEvent script event → AreEvents script (done ++ event ∷ [])
events_push script [] event h fits = (fits, tt)
events_push script (d ∷ done) event h fits = (h.0, events_push script done event h.1 fits)

-- one line more
text_push : (script : Script) (done : List Event) (event : Event) (rest : List ℕ)
    → history_text script (done ++ event ∷ []) ++ rest ≡ history_text script done ++ (event_line script event ++ 10 ∷ rest)
text_push script [] event rest = ap (λ (t : List ℕ). t ++ rest) (append-nil (event_line script event ++ 10 ∷ [])) ∙ append_assoc (event_line script event) (10 ∷ []) rest
text_push script (d ∷ done) event rest =
    append_assoc (event_line script d ++ 10 ∷ []) (history_text script (done ++ event ∷ [])) rest
    ∙ ap (λ (t : List ℕ). (event_line script d ++ 10 ∷ []) ++ t) (text_push script done event rest)
    ∙ sym (append_assoc (event_line script d ++ 10 ∷ []) (history_text script done) (event_line script event ++ 10 ∷ rest))

pub front_on : (script : Script) (text : List ℕ) (done : List Event) (event : Event) (left rest : List ℕ) → IsFrontOf script text done left → IsEventOf script left event rest → IsFrontOf script text (done ++ event ∷ []) rest
front_on script text done event left rest front read = record {
  events = events_push script done event front.events read.0;
  parts = front.parts ∙ ap (λ (t : List ℕ). history_text script done ++ t) read.1 ∙ sym (text_push script done event rest);
}

-- Where a text begins with the lines of these events, it is that of a history or has a first bad line: it isn't so that it is
-- neither.
answered : (script : Script) (text : List ℕ) (bound : ℕ) (done : List Event) (rest : List ℕ) → length rest ≤ bound → IsFrontOf script text done rest → length done ≤ 1048576
    → ((history : List Event) → IsHistoryOf script text history → ⊥) → ((n : ℕ) → IsFirstBadLine script text n → ⊥) → ⊥
answered script text bound done [] short front few no_history no_bad =
    no_history done (record { events = front.events; few = few; spelled = front.parts ∙ append-nil (history_text script done) })
answered script text zero done (b ∷ rest) short front few no_history no_bad = absurd (omega arith)
answered script text (suc bound) done (b ∷ rest) short front few no_history no_bad =
    no_bad (length done + 1) (record {
      done = done;
      rest = b ∷ rest;
      events = front.events;
      few = few;
      parts = front.parts;
      number_is = refl;
      more = λ e. cc;
      bad = λ room event later fits e.
          let long = length-append done (event ∷ []) in
          answered script text bound (done ++ event ∷ []) later (omega (arith, short, shorter 10 (b ∷ rest) (event_line script event) later e)) (front_on script text done event (b ∷ rest) later front (fits, e)) (omega (arith, long, room)) no_history no_bad;
    })

-- So is each text.
pub every_text : (script : Script) (text : List ℕ) → ((history : List Event) → IsHistoryOf script text history → ⊥) → ((n : ℕ) → IsFirstBadLine script text n → ⊥) → ⊥
every_text script text = answered script text (length text) [] text (omega arith) (record { events = tt; parts = refl }) (omega arith)

-- ---- two fronts of one text

-- The text begins with an event's line.
abbrev Begins : Script → List ℕ → Type 0
Begins script text = (event : Event) × (later : List ℕ) × IsEventOf script text event later

-- Two fronts of a text are the same, or where the shorter one ends comes an event's line.
data Meet (script : Script) (xs ys : List Event) (rest more : List ℕ) : Type 0 where
  Same : length xs ≡ length ys → rest ≡ more → Meet script xs ys rest more
  First : length xs < length ys → Begins script rest → Meet script xs ys rest more
  Second : length ys < length xs → Begins script more → Meet script xs ys rest more

-- the text of a history from its first event on, before another text
from_first : (script : Script) (event : Event) (later : List Event) (rest : List ℕ) → history_text script (event ∷ later) ++ rest ≡ event_line script event ++ 10 ∷ (history_text script later ++ rest)
from_first script event later rest =
    append_assoc (event_line script event ++ 10 ∷ []) (history_text script later) rest ∙ append_assoc (event_line script event) (10 ∷ []) (history_text script later ++ rest)

module _ (script : Script) (valid : IsValid script) where
  meet_more : (x y : Event) (xs ys : List Event) (rest more : List ℕ) → Meet script xs ys rest more → Meet script (x ∷ xs) (y ∷ ys) rest more
  meet_more x y xs ys rest more (Same long e) = Same (omega (arith, long)) e
  meet_more x y xs ys rest more (First long b) = First (omega (arith, long)) b
  meet_more x y xs ys rest more (Second long b) = Second (omega (arith, long)) b

  fronts_meet : (xs ys : List Event) (rest more : List ℕ) → AreEvents script xs → AreEvents script ys → history_text script xs ++ rest ≡ history_text script ys ++ more → Meet script xs ys rest more
  fronts_meet [] [] rest more h k e = Same refl e
  fronts_meet [] (y ∷ ys) rest more h k e = First (omega arith) (y, history_text script ys ++ more, (k.0, e ∙ from_first script y ys more))
  fronts_meet (x ∷ xs) [] rest more h k e = Second (omega arith) (x, history_text script xs ++ rest, (h.0, sym e ∙ from_first script x xs rest))
  fronts_meet (x ∷ xs) (y ∷ ys) rest more h k e =
      let cut = cut_same 10 (event_line script x) (event_line script y) (history_text script xs ++ rest) (history_text script ys ++ more)
      (above_line script valid x h.0) (above_line script valid y k.0) (sym (from_first script x xs rest) ∙ e ∙ from_first script y ys more) in
      meet_more x y xs ys rest more (fronts_meet xs ys rest more h.1 k.1 cut.1)

  -- no text of nothing begins with a line
  nothing_begins : Begins script [] → ⊥
  nothing_begins (event, later, read) = no_cut 10 [] (event_line script event) later tt read.1

  -- A text has one first bad line.
  pub one_bad_line : (text : List ℕ) (m n : ℕ) → IsFirstBadLine script text m → IsFirstBadLine script text n → m ≡ n
  one_bad_line text m n r s = by_meet (fronts_meet r.done s.done r.rest s.rest r.events s.events (sym r.parts ∙ s.parts))
    where
      by_meet : Meet script r.done s.done r.rest s.rest → m ≡ n
      by_meet (Same long e) = omega (arith, long, r.number_is, s.number_is)
      by_meet (First long b) = let few = s.few in absurd (r.bad (omega (arith, long, few)) b.0 b.1 b.2.0 b.2.1)
      by_meet (Second long b) = let few = r.few in absurd (s.bad (omega (arith, long, few)) b.0 b.1 b.2.0 b.2.1)

  -- The text of a history has none.
  pub not_both : (text : List ℕ) (history : List Event) (n : ℕ) → IsHistoryOf script text history → IsFirstBadLine script text n → ⊥
  not_both text history n h r = by_meet (fronts_meet history r.done [] r.rest h.events r.events (append-nil (history_text script history) ∙ sym h.spelled ∙ r.parts))
    where
      by_meet : Meet script history r.done [] r.rest → ⊥
      by_meet (Same long e) = r.more (sym e)
      by_meet (First long b) = nothing_begins b
      by_meet (Second long b) = let few = h.few in r.bad (omega (arith, long, few)) b.0 b.1 b.2.0 b.2.1
