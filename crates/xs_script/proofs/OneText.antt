-- A text spells one script, or has one refusal.
use Rattle.std.proofs.Common.{◌≡◌, ℕ, ◌≤◌, List, ◌∷◌, ◌++◌, length, sym, ◌∙◌, ap, subst, arith}
use Rattle.xs_model.specs.declared.script.Script.{Script}
use Rattle.xs_model.specs.Bound.{most_events}
use Rattle.xs_script.specs.declared.line.Line.{Line}
use Rattle.xs_script.specs.declared.line.Line.TheVariants as lines
use Rattle.xs_script.specs.declared.refusal.Kind.{Kind}
use Rattle.xs_script.specs.declared.refusal.Kind.TheVariants.{TooMuch}
use Rattle.xs_script.specs.Grammar.{script_lines, Spells}
use Rattle.xs_script.specs.Refusal.{scope_of, AreKnown, RefusesCommand, RefusesEvents, IsScriptOf, Refuses, ByLine, ByCommand, ByEvents}
use Rattle.xs_script.proofs.OneRefusal.{one_lines, one_line_refusal, passes_not_refused, known_not_refused, one_command_refusal}
use Rattle.xs_script.proofs.SpelledLines.{spelled_read}
use Rattle.xs_script.proofs.OneScript.{one_script_of}
use Rattle.xs_script.proofs.EveryText.{known_read}

-- the text of a script isn't refused by a command
script_no_command : (text : List ℕ) (script : Script) (number : ℕ) (kind : Kind) → IsScriptOf text script → RefusesCommand text number kind → ⊥
script_no_command text script number kind h r =
    let lined = script_lines script h.groups in
    let mine = r.done ++ lines.Order r.command ∷ r.later in
    let same : lined ≡ mine = one_lines lined mine h.passes.lines_fit r.passes.lines_fit (sym h.passes.spelled ∙ r.passes.spelled) in
    let known = subst (λ (ls : List Line). AreKnown (scope_of ls) ls) same h.known in
    known_not_refused (scope_of mine) r.done r.later r.command kind known r.fails

-- nor is it by a line, or by its events where they are few enough
script_not_events : (text : List ℕ) (script : Script) (number : ℕ) (kind : Kind) → IsScriptOf text script → most_events script ≤ 1048576 → RefusesEvents text number kind → ⊥
script_not_events text script number kind h few r =
    let same = ap most_events (one_script_of text script r.script h r.read) in
    let many = r.many in
    omega (arith, few, same, many)

-- What is refused spells no script.
pub not_both : (text : List ℕ) (script : Script) (number : ℕ) (kind : Kind) → Spells text script → Refuses text number kind → ⊥
not_both text script number kind h (ByLine r) = let read = spelled_read text script h in passes_not_refused text (script_lines script read.groups) number kind read.passes r
not_both text script number kind h (ByCommand r) = script_no_command text script number kind (spelled_read text script h) r
not_both text script number kind h (ByEvents r) = script_not_events text script number kind (spelled_read text script h) h.valid.events r

-- a script as a whole has one refusal
one_events_refusal : (text : List ℕ) (m n : ℕ) (k j : Kind) → RefusesEvents text m k → RefusesEvents text n j → (m ≡ n) × (k ≡ j)
one_events_refusal text m n k j r s =
    let same = one_script_of text r.script s.script r.read s.read in
    (r.number_is ∙ sym s.number_is, r.kind_is ∙ ap (λ (script : Script). TooMuch (most_events script)) same ∙ sym s.kind_is)

pub one_refusal : (text : List ℕ) (m n : ℕ) (k j : Kind) → Refuses text m k → Refuses text n j → (m ≡ n) × (k ≡ j)
one_refusal text m n k j (ByLine r) (ByLine s) = one_line_refusal text m n k j r s
one_refusal text m n k j (ByLine r) (ByCommand s) = absurd (passes_not_refused text _ m k s.passes r)
one_refusal text m n k j (ByLine r) (ByEvents s) = absurd (passes_not_refused text _ m k s.read.passes r)
one_refusal text m n k j (ByCommand r) (ByLine s) = absurd (passes_not_refused text _ n j r.passes s)
one_refusal text m n k j (ByCommand r) (ByCommand s) = one_command_refusal text m n k j r s
one_refusal text m n k j (ByCommand r) (ByEvents s) = absurd (script_no_command text s.script m k s.read r)
one_refusal text m n k j (ByEvents r) (ByLine s) = absurd (passes_not_refused text _ n j r.read.passes s)
one_refusal text m n k j (ByEvents r) (ByCommand s) = absurd (script_no_command text r.script n j r.read s)
one_refusal text m n k j (ByEvents r) (ByEvents s) = one_events_refusal text m n k j r s

-- Where nothing is found, the text spells the script.
pub read_spells : (text : List ℕ) (script : Script) → length text ≤ 1048576 → IsScriptOf text script → most_events script ≤ 1048576 → Spells text script
read_spells text script short h few =
    let (other, r) = known_read text (script_lines script h.groups) short h.passes h.known in
    let same : other ≡ script = one_script_of text other script r.read h in
    subst (Spells text) same (r.spells (subst (λ (s : Script). most_events s ≤ 1048576) (sym same) few))
