-- What was found so far in the blocks of a text, and one line more.
use Rattle.std.proofs.Common.{◌≡◌, ℕ, ◌+◌, ◌<◌, nat_le, true, false, List, [], ◌∷◌, ◌++◌, length, Option, Some, None, Ok, Err, refl, sym, ◌∙◌, ap, subst, arith, length-append}
use Rattle.std.specs.Prelude.{bytes_eq}
use Rattle.std.specs.List.{list_any}
use Rattle.std.specs.Option.{is_some}
use Rattle.std.proofs.lemmas.Bool.{lt-leb}
use Rattle.xs_model.specs.declared.script.BlockKind.{BlockKind}
use Rattle.xs_script.specs.declared.block_part.BlockPart.TheVariants as places
use Rattle.xs_script.specs.declared.outline.Opened.{Opened}
use Rattle.xs_script.specs.declared.line.Line.{Line}
use Rattle.xs_script.specs.declared.line.Line.TheVariants as lines
use Rattle.xs_script.specs.declared.outline.Outline.{Outline}
use Rattle.xs_script.specs.declared.refusal.Kind.TheVariants.{BadLine, Repeated}
use Rattle.xs_script.specs.declared.refusal.ScriptError.{ScriptError}
use Rattle.xs_script.specs.declared.refusal.ScriptError.TheVariants as errors
use Rattle.xs_script.specs.ScriptLine.{kept_line}
use Rattle.xs_script.specs.LineOrder.{AtBlock, InBlock, takes_sched, may_end, next}
use Rattle.xs_script.specs.Refusal.{Early, Fails, Here, table_fault, child_of_line, children_of, last_name, handled_name, handled_of}
use Rattle.xs_script.specs.Front.{IsNext, ExplainsFrom, ExplainsLine, ExplainsNext}
use Rattle.xs_script.specs.Outline.{block_stand, outline_stand, LooksOn, IsLooked, AreWholeBlocks}
use Rattle.xs_script.proofs.Fronts.{front_push, line_explains}
use Rattle.xs_script.proofs.KeptOrder.{kept_next}
use Rattle.xs_script.proofs.HeadSteps.{next_fails}
use Rattle.xs_script.proofs.Children.{children_push, kept_child, last_push, kept_last, handled_push, kept_handled}

-- among the blocks there is no table to test
pub no_table : (begun : Option Opened) (names : List (List ℕ)) (text : List ℕ) → table_fault (block_stand begun names) text ≡ None
no_table (Some opened) names text = refl
no_table None names text = refl

-- nor may a schedule come
pub no_sched_here : (begun : Option Opened) (names : List (List ℕ)) → takes_sched (block_stand begun names) ≡ false
no_sched_here (Some opened) names = refl
no_sched_here None names = refl

-- ---- what a line of each kind leads to

-- a name that a block has, where none has begun
pub begin_repeats : (begun : Option Opened) (names : List (List ℕ)) (kind : BlockKind) (name : List ℕ) → is_some begun ≡ false → length names < 64 → list_any (λ other. bytes_eq other name) names ≡ true → next (block_stand begun names) (lines.Begin kind name) ≡ Err Repeated
begin_repeats (Some other) names kind name between few found = cc between
begin_repeats None names kind name between few found =
    let fewer : nat_le 64 (length names) ≡ false = lt-leb 64 (length names) few in
    rw (fewer, found) refl

-- another name
pub begins_on : (begun : Option Opened) (names : List (List ℕ)) (kind : BlockKind) (name : List ℕ) → is_some begun ≡ false → length names < 64 → list_any (λ other. bytes_eq other name) names ≡ false → next (block_stand begun names) (lines.Begin kind name) ≡ Ok (InBlock places.Body kind (names ++ name ∷ []))
begins_on (Some other) names kind name between few new = cc between
begins_on None names kind name between few new =
    let fewer : nat_le 64 (length names) ≡ false = lt-leb 64 (length names) few in
    rw (fewer, new) refl

-- what the line that is kept is refused with
pub next_explains : (outline : Outline) (number : ℕ) (text : List ℕ) (kept : Line) (rest : List ℕ) (e : ScriptError) → IsNext text kept rest → ExplainsNext (next (outline_stand outline) kept) number e → ExplainsLine (outline_stand outline) number text e
next_explains outline number text kept rest (errors.Refused line kind) first h =
    subst (λ (n : ℕ). Fails (outline_stand outline) number text n kind) (sym h.0) (next_fails (outline_stand outline) number text kept rest kind (no_table outline.begun outline.names text) first h.1)
next_explains outline number text kept rest errors.Memory first h = tt

-- ---- the lines so far

-- one line more
pub looked_on : (first number : ℕ) (text left rest : List ℕ) (outline after : Outline) → IsLooked first text outline number left → LooksOn outline left after rest → IsLooked first text after (number + 1) rest
looked_on first number text left rest outline after h step = record {
  lines = h.lines ++ step.line ∷ [];
  front = front_push (AtBlock []) (outline_stand outline) (outline_stand after) text left rest h.lines step.line h.front step.fits step.spelled (sym (kept_next (outline_stand outline) step.line) ∙ step.taken.leads);
  children = step.taken.children ∙ ap (λ (names : List (List ℕ)). names ++ child_of_line (kept_line step.line)) h.children ∙ ap (λ (names : List (List ℕ)). children_of h.lines ++ names) (kept_child step.line) ∙ sym (children_push h.lines step.line);
  handled =
      step.taken.handled ∙ ap (λ (names : List (List ℕ)). outline.handled ++ names) (kept_handled outline.last step.line) ∙ ap (λ (names : List (List ℕ)). names ++ handled_name outline.last step.line) h.handled
      ∙ ap (λ (name : List ℕ). handled_of h.lines ++ handled_name name step.line) h.last ∙ sym (handled_push [] h.lines step.line);
  last = step.taken.last ∙ kept_last outline.last step.line ∙ ap (λ (name : List ℕ). last_name name step.line) h.last ∙ sym (last_push [] h.lines step.line);
  number_is = rw length-append (omega (arith, h.number_is));
}

-- all of them
pub looked_through : (first number : ℕ) (text left : List ℕ) (outline : Outline) (children handled : List (List ℕ)) → length left ≡ 0 → IsLooked first text outline number left → children ≡ outline.children → handled ≡ outline.handled → may_end (outline_stand outline) ≡ true → AreWholeBlocks text children handled
looked_through first number text [] outline children handled over h same alike ends = record {
  lines = h.lines;
  stand = outline_stand outline;
  front = h.front;
  ends = ends;
  children_are = same ∙ h.children;
  handled_are = alike ∙ h.handled;
}
looked_through first number text (b ∷ left) outline children handled over h same alike ends = absurd (omega arith)

-- ---- refusals

-- a refusal of the next line
pub looked_explains : (first number : ℕ) (text left : List ℕ) (outline : Outline) (e : ScriptError) → IsLooked first text outline number left → ExplainsLine (outline_stand outline) number left e → ExplainsFrom (AtBlock []) first text e
looked_explains first number text left outline e h why = line_explains (AtBlock []) (outline_stand outline) first number text left h.lines e h.front h.number_is why

-- a refusal at the end
pub end_explains : (first number : ℕ) (text left : List ℕ) (outline : Outline) (e : ScriptError) → length left ≡ 0 → IsLooked first text outline number left → ExplainsLine (outline_stand outline) number [] e → ExplainsFrom (AtBlock []) first text e
end_explains first number text [] outline e over h why = looked_explains first number text [] outline e h why
end_explains first number text (b ∷ left) outline e over h why = absurd (omega arith)

-- a block that has begun isn't over
pub begun_early : (begun : Option Opened) (names : List (List ℕ)) → is_some begun ≡ true → may_end (block_stand begun names) ≡ false
begun_early None names h = cc h
begun_early (Some kind) names h = refl

-- there is a block at least
pub none_early : (begun : Option Opened) (names : List (List ℕ)) → is_some begun ≡ false → names ≡ [] → may_end (block_stand begun names) ≡ false
none_early None names h none = rw none refl
none_early (Some kind) names h none = cc h

-- and that the blocks are over
pub none_open : (begun : Option Opened) (names : List (List ℕ)) → is_some begun ≡ false → (names ≡ [] → ⊥) → may_end (block_stand begun names) ≡ true
none_open None [] h some = absurd (some refl)
none_open None (n ∷ names) h some = refl
none_open (Some kind) names h some = cc h

-- A text may not end there.
pub ends_early : (number : ℕ) (outline : Outline) → may_end (outline_stand outline) ≡ false → Fails (outline_stand outline) number [] number BadLine
ends_early number outline h = Here BadLine (no_table outline.begun outline.names []) (Early refl h)
