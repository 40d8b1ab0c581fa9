-- A history's text up to an event and from it on.
use Rattle.std.proofs.Common.{◌≡◌, ℕ, ◌+◌, ◌<◌, List, [], ◌∷◌, ◌++◌, length, take, drop, get_or, sym, ap, ◌∙◌, append_assoc, take-append-drop}
use Rattle.std.specs.Prelude.{Option}
use Rattle.std.specs.Io.KnownBytes.{Appends}
use Rattle.std.proofs.lemmas.List.{drop_more}
use Rattle.std.proofs.lemmas.Grind.{flat_map-append}
use Rattle.xs_model.specs.declared.script.Script.{Script}
use Rattle.xs_model.specs.declared.event.Event.{Event}
use Rattle.xs_text.specs.Text.{event_line, history_text}
use Rattle.xs_outside.specs.Outside.{AppendsFront}
use Rattle.xs_top.proofs.KnownBytes.{AppendsFront_then, AppendsFront_more}

-- the text is the lines before an event, its line, and the lines after it
pub history_cut : (script : Script) (history : List Event) (i : ℕ) (x : Event) → i < length history → x ≡ get_or history i x
    → history_text script history ≡ (history_text script (take i history) ++ (event_line script x ++ 10 ∷ [])) ++ history_text script (drop (i + 1) history)
history_cut script history i x lt e =
    let line : Event → List ℕ = λ event. event_line script event ++ 10 ∷ [] in
    let rest = history_text script (drop (i + 1) history) in
    let from : history_text script (drop i history) ≡ line x ++ rest = ap (history_text script) (drop_more history i x lt) ∙ ap (λ event. line event ++ rest) (sym e) in
    ap (history_text script) (sym (take-append-drop i history)) ∙ flat_map-append line (take i history) (drop i history)
    ∙ ap (λ l. history_text script (take i history) ++ l) from ∙ sym (append_assoc (history_text script (take i history)) (line x) rest)

-- Where the write of a line failed, a front of the text was written.
pub fault_in_line : (script : Script) (history : List Event) (i : ℕ) (x : Event) (line : List ℕ) (old before now : Option (List ℕ))
    → i < length history → x ≡ get_or history i x → line ≡ event_line script x ++ 10 ∷ []
    → Appends old before (history_text script (take i history)) → AppendsFront before now line → AppendsFront old now (history_text script history)
fault_in_line script history i x line old before now lt e spelled written front =
    let lines = AppendsFront_then old before now (history_text script (take i history)) line written front in
    let more = AppendsFront_more old now (history_text script (take i history) ++ line) (history_text script (drop (i + 1) history)) lines in
    rw (history_cut script history i x lt e) (rw spelled at more)
