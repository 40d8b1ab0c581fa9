-- One line more of the blocks, where the second pass finds nothing wrong with it, and what it finds.
use Rattle.std.proofs.Common.{◌≡◌, ℕ, ◌+◌, true, false, List, [], ◌∷◌, ◌++◌, length, ◌<◌, Option, Some, None, Ok, Err, Result, OnOk, IfErr, inl, inr, refl, sym, ◌∙◌, ap, subst, arith, length-append}
use Rattle.std.specs.List.{flat_map}
use Rattle.std.proofs.lemmas.List.{append-nil}
use Rattle.xs_model.specs.declared.script.Block.{Block}
use Rattle.xs_model.specs.declared.script.Command.{Command}
use Rattle.xs_model.specs.Names.{forked_name}
use Rattle.xs_model.specs.Script.{AreBlocksNumbered}
use Rattle.xs_script.specs.declared.begun.Begun.{Begun}
use Rattle.xs_script.specs.declared.body.Body.{Body}
use Rattle.xs_script.specs.declared.commands.Scope.{Scope}
use Rattle.xs_script.specs.declared.own_child.OwnChild.{OwnChild}
use Rattle.xs_script.specs.declared.line.Line.{Line}
use Rattle.xs_script.specs.declared.line.Line.TheVariants as lines
use Rattle.xs_script.specs.declared.refusal.Kind.{Kind}
use Rattle.xs_script.specs.declared.refusal.ScriptError.{ScriptError}
use Rattle.xs_script.specs.declared.refusal.ScriptError.TheVariants as errors
use Rattle.xs_script.specs.ScriptLine.{IsLine, line_text, kept_line}
use Rattle.xs_script.specs.Grammar.{lines_text, block_lines}
use Rattle.xs_script.specs.LineOrder.{Stand, AtBlock, may_end, next}
use Rattle.xs_script.specs.Before.{in_handler_after, fork_of_line, forks_of, earlier_with, earlier_after, Before, before_of}
use Rattle.xs_script.specs.Refusal.{AreLines, Fails, rows_of_line, is_outer_line, LineReachesOwn, CommandFails, IsKnown, AreKnown}
use Rattle.xs_script.specs.Front.{IsFront, IsNext, ExplainsLine, ExplainsNext}
use Rattle.xs_script.specs.Commands.{PassesCommand}
use Rattle.xs_script.specs.Outline.{AreWholeBlocks}
use Rattle.xs_script.specs.Body.{names_of, begun_stand, begun_inside, body_stand, begun_own, own_with, body_before, AreOwn, begun_lines, lines_of_body, TakesLine, PassesLine, Adds, ReadsLine, LineNames, ExplainsAdded, FailsHere, ExplainsBody, IsReadSoFar, ByBlockLine, ByBlockCommand, ExplainsBlocks, AreBlocksOf}
use Rattle.xs_script.proofs.Fronts.{lines_more, front_none, front_push, front_fails}
use Rattle.xs_script.proofs.KeptOrder.{kept_next}
use Rattle.xs_script.proofs.HeadSteps.{next_fails}
use Rattle.xs_script.proofs.Spellings.{one_first_line}
use Rattle.xs_script.proofs.BodyLines.{no_table}
use Rattle.xs_script.proofs.Children.{forks_push}
use Rattle.xs_script.proofs.OwnChildren.{own_line, same_before}
use Rattle.xs_script.proofs.RightLines.{IsRightLine, local_right, earlier_push, known_push}
use Rattle.xs_script.proofs.KnownLines.{known_command, kept_fails}
use Rattle.xs_script.proofs.OneRefusal.{not_over}
use Rattle.xs_script.proofs.WholeScripts.{IsAmongBlocks, among_step}
use Rattle.xs_script.proofs.Stands.{HasNoLimit, step_within, body_inside, leads_inside}

-- ---- a line with which nothing is wrong

-- It is kept whole, and nothing is wrong with it.
pub record IsKept (scope : Scope) (before : Before) (l : Line) (after : List (List ℕ)) : Type 0 where
  pub whole : kept_line l ≡ l
  pub right : IsRightLine scope before l
  pub forked_is : after ≡ before.forked ++ fork_of_line l

plain_kept : (scope : Scope) (before : Before) (after : List (List ℕ)) (l : Line) → kept_line l ≡ l → IsKnown scope l → fork_of_line l ≡ [] → is_outer_line l ≡ false → LineReachesOwn before.own before.awaited l → after ≡ before.forked → IsKept scope before l after
plain_kept scope before after l whole known none local reaches same = record {
  whole = whole;
  right = local_right scope before l known none local reaches;
  forked_is = rw none (same ∙ sym (append-nil before.forked));
}

line_kept : (scope : Scope) (before : Before) (after : List (List ℕ)) (l : Line) → IsLine l → HasNoLimit l → rows_of_line (kept_line l) ≡ [] → PassesLine scope before (kept_line l) after → IsKept scope before l after
line_kept scope before after (lines.Row r) fits within bare h = absurd (cc bare)
line_kept scope before after (lines.Order command) fits within bare h =
    let k = known_command scope before command fits within h.0 in
    record {
      whole = ap lines.Order k.0;
      right = k.1;
      forked_is = h.1 ∙ ap (λ (c : Command). before.forked ++ forked_name c) k.0;
    }
line_kept scope before after lines.Version fits within bare h = plain_kept scope before after lines.Version refl tt refl refl tt h
line_kept scope before after (lines.Machine named) fits within bare h = plain_kept scope before after (lines.Machine named) refl tt refl refl tt h
line_kept scope before after (lines.Cpus n) fits within bare h = plain_kept scope before after (lines.Cpus n) refl tt refl refl tt h
line_kept scope before after (lines.Quantum n) fits within bare h = plain_kept scope before after (lines.Quantum n) refl tt refl refl tt h
line_kept scope before after (lines.Large n) fits within bare h = plain_kept scope before after (lines.Large n) refl tt refl refl tt h
line_kept scope before after (lines.Sched entries) fits within bare h = plain_kept scope before after (lines.Sched entries) refl tt refl refl tt h
line_kept scope before after (lines.Begin kind name) fits within bare h = plain_kept scope before after (lines.Begin kind name) refl tt refl refl tt h
line_kept scope before after (lines.NoSignal name number) fits within bare h = plain_kept scope before after (lines.NoSignal name number) refl tt refl refl tt h
line_kept scope before after lines.Handler fits within bare h = plain_kept scope before after lines.Handler refl tt refl refl tt h
line_kept scope before after lines.End fits within bare h = plain_kept scope before after lines.End refl tt refl refl tt h

body_among : (blocks : List Block) (begun : Option Begun) → IsAmongBlocks (begun_stand blocks begun)
body_among blocks None = tt
body_among blocks (Some b) = tt

-- no line yet
pub reads_none : (scope : Scope) (first : ℕ) (text : List ℕ) (body : Body) → body.blocks ≡ [] → body.begun ≡ None → body.forked ≡ [] → IsReadSoFar scope first text body first text
reads_none scope first text body blocks begun forked =
    rw (blocks, begun, forked) record {
      numbered = record { whole = tt; begun = tt };
      front = front_none (AtBlock []) text;
      known = record { each = tt; once = tt; outside = tt; reaching = tt };
      forked_is = refl;
      own = λ name. (refl, refl);
      next = omega arith;
    }

some_blocks : (blocks : List Block) → may_end (AtBlock (names_of blocks)) ≡ true → 0 < length blocks
some_blocks [] h = absurd (cc h)
some_blocks (b ∷ blocks) h = omega arith

-- all of them
pub reads_all : (scope : Scope) (first number : ℕ) (text left : List ℕ) (body : Body) (blocks : List Block) → length left ≡ 0 → IsReadSoFar scope first text body number left → body.blocks ≡ blocks → body.begun ≡ None → may_end (body_stand body) ≡ true → AreBlocksOf scope first text blocks
reads_all scope first number text [] body blocks over h is none ends =
    let later = flat_map block_lines blocks in
    let lined : lines_of_body body ≡ later = ap (λ (begun : Option Begun). flat_map block_lines body.blocks ++ begun_lines begun) none ∙ append-nil (flat_map block_lines body.blocks) ∙ ap (λ (bs : List Block). flat_map block_lines bs) is in
    let stand : body_stand body ≡ AtBlock (names_of blocks) = ap (begun_stand body.blocks) none ∙ ap (λ (bs : List Block). AtBlock (names_of bs)) is in
    record {
      numbered = subst (AreBlocksNumbered first) is h.numbered.whole;
      some = some_blocks blocks (sym (ap may_end stand) ∙ ends);
      front = subst (λ (s : Stand). IsFront (AtBlock []) text later s []) stand (subst (λ (ls : List Line). IsFront (AtBlock []) text ls (body_stand body) []) lined h.front);
      known = subst (AreKnown scope) lined h.known;
    }
reads_all scope first number text (b ∷ left) body blocks over h is none ends = absurd (omega arith)

-- what is known before the next line is what the lines tell
body_tells : (scope : Scope) (first number : ℕ) (text left : List ℕ) (body : Body) → IsReadSoFar scope first text body number left → body_before body ≡ before_of (lines_of_body body)
body_tells scope first number text left body h =
    let so_far = lines_of_body body in
    same_before (begun_inside body.begun) (in_handler_after false so_far) body.forked (forks_of so_far) (begun_own body.begun) (earlier_after [] so_far)
    (body_inside body.blocks body.begun ∙ leads_inside (AtBlock []) (body_stand body) so_far tt h.front.leads) h.forked_is h.own

-- one line more
pub reads_on : (scope : Scope) (first number : ℕ) (text left rest : List ℕ) (body after : Body) → IsReadSoFar scope first text body number left → ReadsLine scope number body left after rest → IsReadSoFar scope first text after (number + 1) rest
reads_on scope first number text left rest body after h step =
    let taken = step.adds.taken in
    let stand = body_stand body in
    let so_far = lines_of_body body in
    let before = before_of so_far in
    let leads = sym (kept_next stand step.line) ∙ taken.leads in
    let bare = (among_step stand (body_stand after) (kept_line step.line) (body_among body.blocks body.begun) taken.leads).0 in
    let passes = subst (λ (b : Before). PassesLine scope b (kept_line step.line) after.forked) (body_tells scope first number text left body h) step.adds.passes in
    let k = line_kept scope before after.forked step.line step.fits (step_within stand (body_stand after) step.line leads) bare passes in
    let came : lines_of_body after ≡ so_far ++ step.line ∷ [] = taken.came ∙ ap (λ (l : Line). so_far ++ l ∷ []) k.whole in
    let forks : after.forked ≡ forks_of (lines_of_body after) = k.forked_is ∙ sym (ap forks_of came ∙ forks_push so_far step.line) in
    let own : begun_own after.begun ≡ own_with (begun_own body.begun) step.line = taken.own ∙ ap (own_with (begun_own body.begun)) k.whole in
    let tells : earlier_after [] (lines_of_body after) ≡ earlier_with (earlier_after [] so_far) step.line = ap (earlier_after []) came ∙ earlier_push [] so_far step.line in
    let long : length (lines_of_body after) ≡ length so_far + 1 = ap length came ∙ length-append so_far (step.line ∷ []) in
    record {
      numbered = taken.numbered first h.next h.numbered;
      front = subst (λ (ls : List Line). IsFront (AtBlock []) text ls (body_stand after) rest) (sym came)
          (front_push (AtBlock []) stand (body_stand after) text left rest so_far step.line h.front step.fits step.spelled leads);
      known = subst (AreKnown scope) (sym came) (known_push scope so_far step.line h.known k.right);
      forked_is = forks;
      own = subst (λ (o : List OwnChild). AreOwn o (earlier_after [] (lines_of_body after))) (sym own)
          (subst (AreOwn (own_with (begun_own body.begun) step.line)) (sym tells) (own_line (begun_own body.begun) (earlier_after [] so_far) step.line h.own k.right.reaches));
      next = omega (arith, h.next, long);
    }

-- ---- what is found

-- a command that is taken, whatever was forked
pub order_adds : (scope : Scope) (number : ℕ) (body after : Body) (forked : List (List ℕ)) (command : Command) → PassesCommand scope (body_before body) command → forked ≡ body.forked ++ forked_name command → TakesLine number (record { blocks = body.blocks; begun = body.begun; forked = forked }) (lines.Order command) after → after.forked ≡ forked → Adds scope number body (lines.Order command) after
order_adds scope number body after forked command passes more t same = record {
  taken = record { leads = t.leads; came = t.came; own = t.own; numbered = λ first here h. let n = t.numbered first here (record { whole = h.whole; begun = h.begun }) in record { whole = n.whole; begun = n.begun } };
  passes = (passes, same ∙ more);
}

-- whatever its end is
pub order_added : (scope : Scope) (number : ℕ) (body after : Body) (forked : List (List ℕ)) (command : Command) (r : Result Unit ScriptError) → PassesCommand scope (body_before body) command → forked ≡ body.forked ++ forked_name command → OnOk r (TakesLine number (record { blocks = body.blocks; begun = body.begun; forked = forked }) (lines.Order command) after) → after.forked ≡ forked → OnOk r (Adds scope number body (lines.Order command) after)
order_added scope number body after forked command (Ok u) passes more t same = order_adds scope number body after forked command passes more t same
order_added scope number body after forked command (Err e) passes more t same = tt

pub order_refused : (scope : Scope) (number : ℕ) (body : Body) (command : Command) (r : Result Unit ScriptError) → IfErr r (ExplainsNext (next (body_stand body) (lines.Order command)) number) → IfErr r (ExplainsAdded scope body number (lines.Order command))
order_refused scope number body command (Ok u) h = tt
order_refused scope number body command (Err (errors.Refused at kind)) h = (h.0, inl h.1)
order_refused scope number body command (Err errors.Memory) h = tt

kept_here : (scope : Scope) (before : Before) (l : Line) (text rest : List ℕ) (kind : Kind) → IsLine l → text ≡ line_text l ++ 10 ∷ rest → LineNames scope before (kept_line l) kind → FailsHere scope before text kind
kept_here scope before (lines.Order command) text rest kind fits e why =
    record { command = command; rest = rest; fits = fits; spelled = e; fails = kept_fails scope before command kind why }
kept_here scope before lines.Version text rest kind fits e why = absurd why
kept_here scope before (lines.Machine named) text rest kind fits e why = absurd why
kept_here scope before (lines.Row r) text rest kind fits e why = absurd why
kept_here scope before (lines.Cpus n) text rest kind fits e why = absurd why
kept_here scope before (lines.Quantum n) text rest kind fits e why = absurd why
kept_here scope before (lines.Large n) text rest kind fits e why = absurd why
kept_here scope before (lines.Sched entries) text rest kind fits e why = absurd why
kept_here scope before (lines.Begin block name) text rest kind fits e why = absurd why
kept_here scope before (lines.NoSignal name number) text rest kind fits e why = absurd why
kept_here scope before lines.Handler text rest kind fits e why = absurd why
kept_here scope before lines.End text rest kind fits e why = absurd why

-- what the line that is kept is refused with
pub added_explains : (scope : Scope) (body : Body) (number : ℕ) (text : List ℕ) (kept : Line) (rest : List ℕ) (e : ScriptError) → IsNext text kept rest → ExplainsAdded scope body number kept e → ExplainsBody scope body number text e
added_explains scope body number text kept rest (errors.Refused at kind) first (here, inl leads) =
    inl (subst (λ (n : ℕ). Fails (body_stand body) number text n kind) (sym here) (next_fails (body_stand body) number text kept rest kind (no_table body.blocks body.begun text) first leads))
added_explains scope body number text kept rest (errors.Refused at kind) first (here, inr why) =
    inr (here, kept_here scope (body_before body) first.line text rest kind first.fits first.spelled (subst (λ (l : Line). LineNames scope (body_before body) l kind) first.kept_is why))
added_explains scope body number text kept rest errors.Memory first h = tt

-- the lines that a text is, after some of them and one more
lines_split : (a b : List Line) (l : Line) (rest : List ℕ) → AreLines a → AreLines b → IsLine l → lines_text a ≡ lines_text b ++ (line_text l ++ 10 ∷ rest) → (later : List Line) × (a ≡ b ++ l ∷ later)
lines_split [] [] l rest fa fb fl e = absurd (not_over l [] rest e refl)
lines_split [] (m ∷ b) l rest fa fb fl e = absurd (not_over m [] (lines_text b ++ (line_text l ++ 10 ∷ rest)) (e ∙ lines_more m b (line_text l ++ 10 ∷ rest)) refl)
lines_split (k ∷ a) [] l rest fa fb fl e =
    let same = one_first_line k l (lines_text a ++ []) rest fa.0 fl (sym (lines_more k a []) ∙ append-nil (lines_text (k ∷ a)) ∙ e) in
    (a, ap (λ (x : Line). x ∷ a) same.0)
lines_split (k ∷ a) (m ∷ b) l rest fa fb fl e =
    let more = line_text l ++ 10 ∷ rest in
    let same = one_first_line k m (lines_text a ++ []) (lines_text b ++ more) fa.0 fb.0 (sym (lines_more k a []) ∙ append-nil (lines_text (k ∷ a)) ∙ e ∙ lines_more m b more) in
    let r = lines_split a b l rest fa.1 fb.1 fl (sym (append-nil (lines_text a)) ∙ same.1) in
    (r.0, cc (same.0, r.1))

-- a refusal of the next line
pub body_explains : (scope : Scope) (first number : ℕ) (text left : List ℕ) (body : Body) (e : ScriptError) → AreWholeBlocks text scope.children scope.handled → IsReadSoFar scope first text body number left → ExplainsBody scope body number left e → ExplainsBlocks scope first text e
body_explains scope first number text left body (errors.Refused at kind) whole h (inl why) =
    ByBlockLine (front_fails (AtBlock []) (body_stand body) first text left (lines_of_body body) at kind h.front (subst (λ (n : ℕ). Fails (body_stand body) n left at kind) h.next why))
body_explains scope first number text left body (errors.Refused at kind) whole h (inr (here, f)) =
    let e : lines_text whole.lines ≡ lines_text (lines_of_body body) ++ (line_text (lines.Order f.command) ++ 10 ∷ f.rest) =
    sym (append-nil (lines_text whole.lines)) ∙ sym whole.front.parts ∙ h.front.parts ∙ ap (λ (bs : List ℕ). lines_text (lines_of_body body) ++ bs) f.spelled in
    let s = lines_split whole.lines (lines_of_body body) (lines.Order f.command) f.rest whole.front.lines_fit h.front.lines_fit f.fits e in
    ByBlockCommand whole.lines whole.stand whole.front whole.ends whole.children_are whole.handled_are (record {
      done = lines_of_body body;
      command = f.command;
      later = s.0;
      split = s.1;
      known = h.known;
      fails = subst (λ (b : Before). CommandFails scope b f.command kind) (body_tells scope first number text left body h) f.fails;
      number_is = here ∙ h.next;
    })
body_explains scope first number text left body errors.Memory whole h why = tt

-- a refusal at the end
pub body_end : (scope : Scope) (first number : ℕ) (text left : List ℕ) (body : Body) (e : ScriptError) → length left ≡ 0 → IsReadSoFar scope first text body number left → ExplainsLine (body_stand body) number [] e → ExplainsBlocks scope first text e
body_end scope first number text [] body (errors.Refused at kind) over h why =
    ByBlockLine (front_fails (AtBlock []) (body_stand body) first text [] (lines_of_body body) at kind h.front (subst (λ (n : ℕ). Fails (body_stand body) n [] at kind) h.next why))
body_end scope first number text [] body errors.Memory over h why = tt
body_end scope first number text (b ∷ left) body e over h why = absurd (omega arith)
