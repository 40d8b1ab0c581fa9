-- A text has one refusal by a line or by a command at most.
use Rattle.std.proofs.Common.{◌≡◌, ℕ, ◌+◌, Bool, true, false, ◌&&◌, List, [], ◌∷◌, ◌++◌, length, Option, Some, None, Ok, codes, refl, sym, ◌∙◌, ap, subst, arith}
use Rattle.std.specs.Prelude.{bytes_eq}
use Rattle.std.specs.List.{AllByRecursion}
use Rattle.std.proofs.lemmas.List.{append_assoc, append-nil}
use Rattle.xs_base.specs.declared.component.Row.{Row}
use Rattle.xs_base.specs.declared.component.Place.{Place}
use Rattle.xs_base.specs.declared.layout_error.LayoutError.{LayoutError}
use Rattle.xs_base.specs.Layout.{table_error}
use Rattle.xs_base.specs.Register.{IsRegister}
use Rattle.xs_base.proofs.Registers.{one_place}
use Rattle.xs_model.specs.declared.script.Command.{Command}
use Rattle.xs_model.specs.declared.script.Command.TheVariants as commands
use Rattle.xs_model.specs.Names.{forked_name}
use Rattle.xs_model.specs.Script.{AreDistinct, is_outer, fits_register}
use Rattle.xs_script.specs.declared.commands.Scope.{Scope}
use Rattle.xs_script.specs.declared.line.Line.{Line}
use Rattle.xs_script.specs.declared.line.Line.TheVariants as lines
use Rattle.xs_script.specs.declared.refusal.Kind.{Kind}
use Rattle.xs_script.specs.ScriptLine.{line_text, IsLine}
use Rattle.xs_script.specs.Grammar.{lines_text}
use Rattle.xs_script.specs.LineOrder.{Stand, AtVersion, AtMachine, AtRow, AtCpus, AtQuantum, AtLarge, AtSched, AtBlock, InBlock, next, may_end, after_rows, Leads}
use Rattle.xs_script.specs.Refusal.{AreLines, first_word, table_fault, LineFails, Early, Misspelled, Misplaced, Fails, Table, Here, RefusesLine, Passes, scope_of, is_outer_line, NamesOne, outer_fault, name_fault, AreOutside, ReachesOwn, LineReachesOwn, AreReaching, IsKnown, IsKnownCommand, AreKnown, register_of, CommandFails, RefusesCommand}
use Rattle.xs_script.specs.Before.{in_handler, in_handler_after, fork_of_line, forks_of, earlier_with, earlier_after, forks_child, awaits_child, Before, told, before_of}
use Rattle.xs_script.specs.Refusal as refusals
use Rattle.xs_script.proofs.FirstLines.{row_begins, is_row_line}
use Rattle.xs_script.proofs.Spellings.{one_first_line}
use Rattle.xs_script.proofs.Fronts.{lines_more}
use Rattle.xs_script.proofs.BodyLines.{another, distinct_front}

-- ---- one line

-- where a line is next, the text isn't over
pub not_over : (l : Line) (text rest : List ℕ) → text ≡ line_text l ++ 10 ∷ rest → text ≡ [] → ⊥
not_over l text rest e none = some (line_text l) rest (sym e ∙ none)
  where
    some : (xs ys : List ℕ) → xs ++ 10 ∷ ys ≡ [] → ⊥
    some [] ys h = cc h
    some (x ∷ xs) ys h = cc h

leads_after_rows : (n : ℕ) (e : Option LayoutError) (mid : Stand) → after_rows n e ≡ Ok mid → e ≡ None
leads_after_rows n None mid h = refl
leads_after_rows n (Some e) mid h = absurd (cc h)

-- among the rows no table fails before a line that leads on
rows_no_fault : (rows : List Row) (mid : Stand) (l : Line) (text : List ℕ) → bytes_eq (first_word text) (codes "row") ≡ is_row_line l → next (AtRow rows) l ≡ Ok mid → table_fault (AtRow rows) text ≡ None
rows_no_fault rows mid lines.Version text word leads = absurd (cc leads)
rows_no_fault rows mid (lines.Machine named) text word leads = absurd (cc leads)
rows_no_fault rows mid (lines.Row r) text word leads = rw word refl
rows_no_fault rows mid (lines.Cpus n) text word leads = rw word (leads_after_rows n (table_error rows) mid leads)
rows_no_fault rows mid (lines.Quantum n) text word leads = absurd (cc leads)
rows_no_fault rows mid (lines.Large n) text word leads = absurd (cc leads)
rows_no_fault rows mid (lines.Sched entries) text word leads = absurd (cc leads)
rows_no_fault rows mid (lines.Begin kind name) text word leads = absurd (cc leads)
rows_no_fault rows mid (lines.Order command) text word leads = absurd (cc leads)
rows_no_fault rows mid (lines.NoSignal name number) text word leads = absurd (cc leads)
rows_no_fault rows mid lines.Handler text word leads = absurd (cc leads)
rows_no_fault rows mid lines.End text word leads = absurd (cc leads)

no_fault : (stand mid : Stand) (l : Line) (text rest : List ℕ) → IsLine l → text ≡ line_text l ++ 10 ∷ rest → next stand l ≡ Ok mid → table_fault stand text ≡ None
no_fault AtVersion mid l text rest fits e leads = refl
no_fault AtMachine mid l text rest fits e leads = refl
no_fault (AtRow rows) mid l text rest fits e leads = rows_no_fault rows mid l text (row_begins l text rest fits e) leads
no_fault AtCpus mid l text rest fits e leads = refl
no_fault (AtQuantum cpus) mid l text rest fits e leads = refl
no_fault (AtLarge cpus) mid l text rest fits e leads = refl
no_fault (AtSched cpus count) mid l text rest fits e leads = refl
no_fault (AtBlock names) mid l text rest fits e leads = refl
no_fault (InBlock part kind names) mid l text rest fits e leads = refl

-- a line that leads on doesn't fail
leads_not_line : (stand mid : Stand) (l : Line) (text rest : List ℕ) (kind : Kind) → IsLine l → text ≡ line_text l ++ 10 ∷ rest → next stand l ≡ Ok mid → LineFails stand text kind → ⊥
leads_not_line stand mid l text rest _ fits e leads (Early none early) = not_over l text rest e none
leads_not_line stand mid l text rest _ fits e leads (Misspelled some none) = none l rest fits e
leads_not_line stand mid l text rest _ fits e leads (Misplaced line more kind fit here fails) =
    let same = one_first_line l line rest more fits fit (sym e ∙ here) in
    cc (sym leads ∙ ap (next stand) same.0 ∙ fails)

pub leads_not_fails : (stand mid : Stand) (l : Line) (text rest : List ℕ) (first number : ℕ) (kind : Kind) → IsLine l → text ≡ line_text l ++ 10 ∷ rest → next stand l ≡ Ok mid → Fails stand first text number kind → ⊥
leads_not_fails stand mid l text rest first _ _ fits e leads (Table error fault) = cc (sym (no_fault stand mid l text rest fits e leads) ∙ fault)
leads_not_fails stand mid l text rest first _ _ fits e leads (Here kind none why) = leads_not_line stand mid l text rest kind fits e leads why

-- a text that may end doesn't fail at its end
no_fault_at_end : (stand : Stand) (text : List ℕ) → may_end stand ≡ true → table_fault stand text ≡ None
no_fault_at_end AtVersion text h = absurd (cc h)
no_fault_at_end AtMachine text h = absurd (cc h)
no_fault_at_end (AtRow rows) text h = absurd (cc h)
no_fault_at_end AtCpus text h = absurd (cc h)
no_fault_at_end (AtQuantum cpus) text h = absurd (cc h)
no_fault_at_end (AtLarge cpus) text h = absurd (cc h)
no_fault_at_end (AtSched cpus count) text h = absurd (cc h)
no_fault_at_end (AtBlock names) text h = refl
no_fault_at_end (InBlock part kind names) text h = absurd (cc h)

end_not_line : (stand : Stand) (text : List ℕ) (kind : Kind) → text ≡ [] → may_end stand ≡ true → LineFails stand text kind → ⊥
end_not_line stand text _ e end (Early none early) = cc (sym end ∙ early)
end_not_line stand text _ e end (Misspelled some none) = some e
end_not_line stand text _ e end (Misplaced line more kind fit here fails) = not_over line text more here e

end_not_fails : (stand : Stand) (text : List ℕ) (first number : ℕ) (kind : Kind) → text ≡ [] → may_end stand ≡ true → Fails stand first text number kind → ⊥
end_not_fails stand text first _ _ e end (Table error fault) = cc (sym (no_fault_at_end stand text end) ∙ fault)
end_not_fails stand text first _ _ e end (Here kind none why) = end_not_line stand text kind e end why

-- a line fails with one kind
one_line_cause : (stand : Stand) (text : List ℕ) (k j : Kind) → LineFails stand text k → LineFails stand text j → k ≡ j
one_line_cause stand text _ _ (Early a b) (Early c d) = refl
one_line_cause stand text _ _ (Early a b) (Misspelled some none) = absurd (some a)
one_line_cause stand text _ _ (Early a b) (Misplaced line more kind fit here fails) = absurd (not_over line text more here a)
one_line_cause stand text _ _ (Misspelled some none) (Early a b) = absurd (some a)
one_line_cause stand text _ _ (Misspelled some none) (Misspelled some' none') = refl
one_line_cause stand text _ _ (Misspelled some none) (Misplaced line more kind fit here fails) = absurd (none line more fit here)
one_line_cause stand text _ _ (Misplaced line more kind fit here fails) (Early a b) = absurd (not_over line text more here a)
one_line_cause stand text _ _ (Misplaced line more kind fit here fails) (Misspelled some none) = absurd (none line more fit here)
one_line_cause stand text _ _ (Misplaced line more kind fit here fails) (Misplaced line' more' kind' fit' here' fails') =
    let same = one_first_line line line' more more' fit fit' (sym here ∙ here') in
    let both = sym fails ∙ ap (next stand) same.0 ∙ fails' in
    cc both

one_cause : (stand : Stand) (first : ℕ) (text : List ℕ) (m n : ℕ) (k j : Kind) → Fails stand first text m k → Fails stand first text n j → (m ≡ n) × (k ≡ j)
one_cause stand first text _ _ _ _ (Table e is) (Table f is') = (refl, cc (sym is ∙ is'))
one_cause stand first text _ _ _ _ (Table e is) (Here kind none why) = absurd (cc (sym none ∙ is))
one_cause stand first text _ _ _ _ (Here kind none why) (Table e is) = absurd (cc (sym none ∙ is))
one_cause stand first text _ _ _ _ (Here kind none why) (Here kind' none' why') = (refl, one_line_cause stand text kind kind' why why')

-- ---- the first pass

-- Lines that a text begins with, as far as both go.
same_step : (stand mid mid' : Stand) (l l' : Line) → l ≡ l' → next stand l ≡ Ok mid → next stand l' ≡ Ok mid' → mid ≡ mid'
same_step stand mid mid' l l' same h h' =
    let both = sym h ∙ ap (next stand) same ∙ h' in
    cc both

one_walk : (stand : Stand) (first : ℕ) (text : List ℕ) (a b : List Line) (ra rb : List ℕ) (sa sb : Stand) (m n : ℕ) (k j : Kind) → AreLines a → AreLines b → text ≡ lines_text a ++ ra → text ≡ lines_text b ++ rb → Leads stand a sa → Leads stand b sb → Fails sa (first + length a) ra m k → Fails sb (first + length b) rb n j → (m ≡ n) × (k ≡ j)
one_walk stand first text [] [] ra rb sa sb m n k j fa fb ea eb la lb ha hb =
    let here : Fails sa (first + 0) ra n j = subst (λ (bs : List ℕ). Fails sa (first + 0) bs n j) (sym eb ∙ ea) (subst (λ (s : Stand). Fails s (first + 0) rb n j) (lb ∙ sym la) hb) in
    one_cause sa (first + 0) ra m n k j ha here
one_walk stand first text [] (l ∷ b) ra rb sa sb m n k j fa fb ea eb la (mid, leads, lb) ha hb =
    absurd (leads_not_fails stand mid l text (lines_text b ++ rb) (first + 0) m k fb.0 (eb ∙ lines_more l b rb) leads (subst (λ (bs : List ℕ). Fails stand (first + 0) bs m k) (sym ea) (subst (λ (s : Stand). Fails s (first + 0) ra m k) la ha)))
one_walk stand first text (l ∷ a) [] ra rb sa sb m n k j fa fb ea eb (mid, leads, la) lb ha hb =
    absurd (leads_not_fails stand mid l text (lines_text a ++ ra) (first + 0) n j fa.0 (ea ∙ lines_more l a ra) leads (subst (λ (bs : List ℕ). Fails stand (first + 0) bs n j) (sym eb) (subst (λ (s : Stand). Fails s (first + 0) rb n j) lb hb)))
one_walk stand first text (l ∷ a) (l' ∷ b) ra rb sa sb m n k j fa fb ea eb (mid, leads, la) (mid', leads', lb) ha hb =
    let same = one_first_line l l' (lines_text a ++ ra) (lines_text b ++ rb) fa.0 fb.0 (sym (ea ∙ lines_more l a ra) ∙ eb ∙ lines_more l' b rb) in
    let stands = same_step stand mid mid' l l' same.0 leads leads' in
    let at : (ls : List Line) → first + length (l ∷ ls) ≡ first + 1 + length ls = λ ls. omega arith in
    one_walk mid (first + 1) (lines_text a ++ ra) a b ra rb sa sb m n k j fa.1 fb.1 refl same.1 la (subst (λ (s : Stand). Leads s b sb) (sym stands) lb) (rw (at a) at ha) (rw (at b) at hb)

pub one_line_refusal : (text : List ℕ) (m n : ℕ) (k j : Kind) → RefusesLine text m k → RefusesLine text n j → (m ≡ n) × (k ≡ j)
one_line_refusal text m n k j r s =
    let at : (ls : List Line) → length ls + 1 ≡ 1 + length ls = λ ls. omega arith in
    one_walk AtVersion 1 text r.done s.done r.rest s.rest r.stand s.stand m n k j r.lines_fit s.lines_fit r.parts s.parts r.leads s.leads (rw (at r.done) at r.fails) (rw (at s.done) at s.fails)

-- ---- a text that passes

pass_walk : (stand : Stand) (first : ℕ) (text : List ℕ) (a b : List Line) (ra : List ℕ) (sa sb : Stand) (m : ℕ) (k : Kind) → AreLines a → AreLines b → text ≡ lines_text a ++ ra → text ≡ lines_text b → Leads stand a sa → Leads stand b sb → may_end sb ≡ true → Fails sa (first + length a) ra m k → ⊥
pass_walk stand first text [] [] ra sa sb m k fa fb ea eb la lb end ha =
    end_not_fails sa ra (first + 0) m k (sym ea ∙ eb) (rw (la ∙ sym lb) end) ha
pass_walk stand first text [] (l ∷ b) ra sa sb m k fa fb ea eb la (mid, leads, lb) end ha =
    leads_not_fails stand mid l text (lines_text b ++ []) (first + 0) m k fb.0 (eb ∙ sym (append-nil (lines_text (l ∷ b))) ∙ lines_more l b []) leads (subst (λ (bs : List ℕ). Fails stand (first + 0) bs m k) (sym ea) (subst (λ (s : Stand). Fails s (first + 0) ra m k) la ha))
pass_walk stand first text (l ∷ a) [] ra sa sb m k fa fb ea eb (mid, leads, la) lb end ha = not_over l text (lines_text a ++ ra) (ea ∙ lines_more l a ra) eb
pass_walk stand first text (l ∷ a) (l' ∷ b) ra sa sb m k fa fb ea eb (mid, leads, la) (mid', leads', lb) end ha =
    let same = one_first_line l l' (lines_text a ++ ra) (lines_text b ++ []) fa.0 fb.0 (sym (ea ∙ lines_more l a ra) ∙ eb ∙ sym (append-nil (lines_text (l' ∷ b))) ∙ lines_more l' b []) in
    let stands = same_step stand mid mid' l l' same.0 leads leads' in
    let at : first + length (l ∷ a) ≡ first + 1 + length a = omega arith in
    pass_walk mid (first + 1) (lines_text a ++ ra) a b ra sa sb m k fa.1 fb.1 refl (same.1 ∙ append-nil (lines_text b)) la (subst (λ (s : Stand). Leads s b sb) (sym stands) lb) end (rw at at ha)

-- It isn't refused by a line.
pub passes_not_refused : (text : List ℕ) (ls : List Line) (number : ℕ) (kind : Kind) → Passes text ls → RefusesLine text number kind → ⊥
passes_not_refused text ls number kind p r =
    let at : length r.done + 1 ≡ 1 + length r.done = omega arith in
    pass_walk AtVersion 1 text r.done ls r.rest r.stand p.stand number kind r.lines_fit p.lines_fit r.parts p.spelled r.leads p.leads p.whole (rw at at r.fails)

-- It is one list of lines.
pub one_lines : (a b : List Line) → AreLines a → AreLines b → lines_text a ≡ lines_text b → a ≡ b
one_lines [] [] fa fb e = refl
one_lines [] (l ∷ b) fa fb e = absurd (not_over l (lines_text (l ∷ b)) (lines_text b ++ []) (sym (append-nil (lines_text (l ∷ b))) ∙ lines_more l b []) (sym e))
one_lines (l ∷ a) [] fa fb e = absurd (not_over l (lines_text (l ∷ a)) (lines_text a ++ []) (sym (append-nil (lines_text (l ∷ a))) ∙ lines_more l a []) e)
one_lines (l ∷ a) (l' ∷ b) fa fb e =
    let same = one_first_line l l' (lines_text a ++ []) (lines_text b ++ []) fa.0 fb.0 (sym (lines_more l a []) ∙ append-nil (lines_text (l ∷ a)) ∙ e ∙ sym (append-nil (lines_text (l' ∷ b))) ∙ lines_more l' b []) in
    let rest = one_lines a b fa.1 fb.1 (sym (append-nil (lines_text a)) ∙ same.1 ∙ append-nil (lines_text b)) in
    cc (same.0, rest)

-- ---- the second pass

-- the register that a command names is one
one_register : (command : Command) (a b : List ℕ) → register_of command ≡ Some a → register_of command ≡ Some b → a ≡ b
one_register command a b h g = let both : Some a ≡ Some b = sym h ∙ g in cc both

-- a known command has its register
known_register : (scope : Scope) (command : Command) (reg : List ℕ) → register_of command ≡ Some reg → IsKnownCommand scope command → (place : Place) × IsRegister scope.layout reg place
known_register scope (commands.Set word bytes) reg named ((place, here, fits, bytes_are), child) =
    let same : word ≡ reg = cc named in
    (place, subst (λ (r : List ℕ). IsRegister scope.layout r place) same here)
known_register scope (commands.Get word) reg named ((place, here), child) =
    let same : word ≡ reg = cc named in
    (place, subst (λ (r : List ℕ). IsRegister scope.layout r place) same here)
known_register scope other reg named known = absurd (cc named)

-- a value fits its register, where both are known
known_fits : (scope : Scope) (reg bytes : List ℕ) (q : Place) → IsKnownCommand scope (commands.Set reg bytes) → IsRegister scope.layout reg q → fits_register q bytes ≡ false → ⊥
known_fits scope reg bytes q ((place, here, fits, bytes_are), child) there wrong =
    cc (sym fits ∙ ap (λ (p : Place). fits_register p bytes) (one_place reg place q here.0 there.0) ∙ wrong)

-- a command with a register names no block
register_unnamed : (scope : Scope) (before : Before) (command : Command) (reg : List ℕ) → register_of command ≡ Some reg → name_fault scope before command ≡ None
register_unnamed scope before (commands.Set word bytes) reg named = refl
register_unnamed scope before (commands.Get word) reg named = refl
register_unnamed scope before other reg named = absurd (cc named)

-- an outer command that isn't in a handler
outside : (inside : Bool) → (inside && true) ≡ false → inside ≡ false
outside true h = absurd (cc h)
outside false h = refl

-- nor is a command with which nothing is wrong refused by the block that it names
right_named : (scope : Scope) (before : Before) (command : Command) → NamesOne scope command → AreDistinct (before.forked ++ forked_name command) → (before.inside && is_outer command) ≡ false → ReachesOwn before.own before.awaited command → name_fault scope before command ≡ None
right_named scope before (commands.Fork name) named once out reaches = rw (named, another before.forked [] name once) (ap outer_fault (outside before.inside out))
right_named scope before (commands.Kill name signo) named once out reaches = rw named (ap outer_fault (outside before.inside out))
right_named scope before commands.Stop named once out reaches = ap outer_fault (outside before.inside out)
right_named scope before (commands.Wait name) named once out reaches = rw (outside before.inside out, reaches) refl
right_named scope before (commands.Getregs name set) named once out reaches = rw (outside before.inside out, reaches.0, reaches.1) refl
right_named scope before (commands.Setregs name set count) named once out reaches = rw (outside before.inside out, reaches.0, reaches.1) refl
right_named scope before (commands.Cont name) named once out reaches = rw (outside before.inside out, reaches.0, reaches.1) refl
right_named scope before other named once out reaches = refl

-- a known command that forks no child again, is no outer one in a handler and reaches its body's own children doesn't fail
pub right_not_fails : (scope : Scope) (before : Before) (command : Command) (kind : Kind) → IsKnownCommand scope command → AreDistinct (before.forked ++ forked_name command) → (before.inside && is_outer command) ≡ false → ReachesOwn before.own before.awaited command → CommandFails scope before command kind → ⊥
right_not_fails scope before command _ known once out reaches (refusals.Unknown _ reg named none) =
    let h = known_register scope command reg named known in
    none h.0 h.1
right_not_fails scope before _ _ known once out reaches (refusals.Misfit reg bytes q there wrong) = known_fits scope reg bytes q known there wrong
right_not_fails scope before command kind known once out reaches (refusals.Misnamed _ _ why) = cc (sym (right_named scope before command known.1 once out reaches) ∙ why)

-- a command fails with one kind
one_command_cause : (scope : Scope) (before : Before) (command : Command) (k j : Kind) → CommandFails scope before command k → CommandFails scope before command j → k ≡ j
one_command_cause scope before command _ _ (refusals.Unknown _ reg named none) (refusals.Unknown _ reg' named' none') = refl
one_command_cause scope before command _ _ (refusals.Unknown _ reg named none) (refusals.Misfit reg' bytes q there wrong) =
    absurd (none q (subst (λ (r : List ℕ). IsRegister scope.layout r q) (one_register (commands.Set reg' bytes) reg' reg refl named) there))
one_command_cause scope before command _ _ (refusals.Unknown _ reg named none) (refusals.Misnamed _ kind why) = absurd (cc (sym (register_unnamed scope before command reg named) ∙ why))
one_command_cause scope before command _ _ (refusals.Misfit reg bytes p here wrong) (refusals.Unknown _ reg' named' none) =
    absurd (none p (subst (λ (r : List ℕ). IsRegister scope.layout r p) (one_register (commands.Set reg bytes) reg reg' refl named') here))
one_command_cause scope before command _ _ (refusals.Misfit reg bytes p here wrong) (refusals.Misfit _ _ q there wrong') = refl
one_command_cause scope before command _ _ (refusals.Misfit reg bytes p here wrong) (refusals.Misnamed _ kind why) = absurd (cc why)
one_command_cause scope before command _ _ (refusals.Misnamed _ kind why) (refusals.Unknown _ reg named none) = absurd (cc (sym (register_unnamed scope before command reg named) ∙ why))
one_command_cause scope before command _ _ (refusals.Misnamed _ kind why) (refusals.Misfit reg bytes p here wrong) = absurd (cc why)
one_command_cause scope before command _ _ (refusals.Misnamed _ kind why) (refusals.Misnamed _ other why') = cc (sym why ∙ why')

-- where lines fork no child again, the first of them doesn't
first_once : (forked : List (List ℕ)) (l : Line) (ls : List Line) (command : Command) → l ≡ lines.Order command → AreDistinct (forked ++ forks_of (l ∷ ls)) → AreDistinct (forked ++ forked_name command)
first_once forked l ls command same h =
    let here : forks_of (l ∷ ls) ≡ forked_name command ++ forks_of ls = ap (λ (x : Line). fork_of_line x ++ forks_of ls) same in
    distinct_front (forked ++ forked_name command) (forks_of ls) (subst AreDistinct (ap (λ (names : List (List ℕ)). forked ++ names) here ∙ sym (append_assoc forked (forked_name command) (forks_of ls))) h)

-- Nothing is wrong with these lines, which follow others that leave a reader in a handler or not, fork children, and have
-- these commands in the open body.
record AreRight (scope : Scope) (inside : Bool) (forked : List (List ℕ)) (earlier : List Command) (ls : List Line) : Type 0 where
  each : AllByRecursion (IsKnown scope) ls
  once : AreDistinct (forked ++ forks_of ls)
  outside : AreOutside inside ls
  reaching : AreReaching earlier ls

-- what they tell
abbrev told_after : Bool → List (List ℕ) → List Command → List Line → Before
told_after inside forked earlier ls = told (in_handler_after inside ls) (forked ++ forks_of ls) (earlier_after earlier ls)

module _ (scope : Scope) where
  -- the lines after the first
  right_rest : (inside : Bool) (forked : List (List ℕ)) (earlier : List Command) (l : Line) (ls : List Line) → AreRight scope inside forked earlier (l ∷ ls) → AreRight scope (in_handler inside l) (forked ++ fork_of_line l) (earlier_with earlier l) ls
  right_rest inside forked earlier l ls h = record {
    each = h.each.1;
    once = subst AreDistinct (sym (append_assoc forked (fork_of_line l) (forks_of ls))) h.once;
    outside = h.outside.1;
    reaching = h.reaching.1;
  }

  rest_tells : (inside : Bool) (forked : List (List ℕ)) (earlier : List Command) (l : Line) (ls : List Line) → told_after inside forked earlier (l ∷ ls) ≡ told_after (in_handler inside l) (forked ++ fork_of_line l) (earlier_with earlier l) ls
  rest_tells inside forked earlier l ls =
      ap (λ (names : List (List ℕ)). told (in_handler_after (in_handler inside l) ls) names (earlier_after (earlier_with earlier l) ls)) (sym (append_assoc forked (fork_of_line l) (forks_of ls)))

  -- the first of them doesn't fail
  first_right : (inside : Bool) (forked : List (List ℕ)) (earlier : List Command) (l : Line) (ls : List Line) (c : Command) (k : Kind) → l ≡ lines.Order c → AreRight scope inside forked earlier (l ∷ ls) → CommandFails scope (told_after inside forked earlier []) c k → ⊥
  first_right inside forked earlier l ls c k same h fails =
      right_not_fails scope (told inside forked earlier) c k (subst (IsKnown scope) same h.each.0) (first_once forked l ls c same h.once)
      (ap (λ (x : Line). inside && is_outer_line x) (sym same) ∙ h.outside.0) (subst (LineReachesOwn (forks_child earlier) (awaits_child earlier)) same h.reaching.0)
      (subst (λ (names : List (List ℕ)). CommandFails scope (told inside names earlier) c k) (append-nil forked) fails)

  -- among lines the first command that fails is one
  first_command : (inside : Bool) (forked : List (List ℕ)) (earlier : List Command) (a b la lb : List Line) (c d : Command) (k j : Kind) → a ++ lines.Order c ∷ la ≡ b ++ lines.Order d ∷ lb → AreRight scope inside forked earlier a → AreRight scope inside forked earlier b → CommandFails scope (told_after inside forked earlier a) c k → CommandFails scope (told_after inside forked earlier b) d j → (length a ≡ length b) × (k ≡ j)
  first_command inside forked earlier [] [] la lb c d k j e ha hb fc fd =
      let same : d ≡ c = cc e in
      (refl, one_command_cause scope (told_after inside forked earlier []) c k j fc (subst (λ (x : Command). CommandFails scope (told_after inside forked earlier []) x j) same fd))
  first_command inside forked earlier [] (l ∷ b) la lb c d k j e ha hb fc fd =
      let same : l ≡ lines.Order c = cc e in
      absurd (first_right inside forked earlier l b c k same hb fc)
  first_command inside forked earlier (l ∷ a) [] la lb c d k j e ha hb fc fd =
      let same : l ≡ lines.Order d = cc e in
      absurd (first_right inside forked earlier l a d j same ha fd)
  first_command inside forked earlier (l ∷ a) (m ∷ b) la lb c d k j e ha hb fc fd =
      let same : m ≡ l = cc e in
      let rest : a ++ lines.Order c ∷ la ≡ b ++ lines.Order d ∷ lb = cc e in
      let right = subst (λ (x : Line). AreRight scope inside forked earlier (x ∷ b)) same hb in
      let failed = subst (λ (x : Line). CommandFails scope (told_after inside forked earlier (x ∷ b)) d j) same fd in
      let r = first_command (in_handler inside l) (forked ++ fork_of_line l) (earlier_with earlier l) a b la lb c d k j rest
      (right_rest inside forked earlier l a ha) (right_rest inside forked earlier l b right)
      (subst (λ (x : Before). CommandFails scope x c k) (rest_tells inside forked earlier l a) fc)
      (subst (λ (x : Before). CommandFails scope x d j) (rest_tells inside forked earlier l b) failed) in
      (omega (arith, r.0), r.1)

  -- lines in which nothing is wrong have no such command
  right_not_refused : (inside : Bool) (forked : List (List ℕ)) (earlier : List Command) (a later : List Line) (c : Command) (k : Kind) → AreRight scope inside forked earlier (a ++ lines.Order c ∷ later) → CommandFails scope (told_after inside forked earlier a) c k → ⊥
  right_not_refused inside forked earlier [] later c k h fails = first_right inside forked earlier (lines.Order c) later c k refl h fails
  right_not_refused inside forked earlier (l ∷ a) later c k h fails =
      right_not_refused (in_handler inside l) (forked ++ fork_of_line l) (earlier_with earlier l) a later c k (right_rest inside forked earlier l (a ++ lines.Order c ∷ later) h)
      (subst (λ (x : Before). CommandFails scope x c k) (rest_tells inside forked earlier l a) fails)

  known_right : (ls : List Line) → AreKnown scope ls → AreRight scope false [] [] ls
  known_right ls h = record { each = h.each; once = h.once; outside = h.outside; reaching = h.reaching }

  pub known_not_refused : (a later : List Line) (c : Command) (k : Kind) → AreKnown scope (a ++ lines.Order c ∷ later) → CommandFails scope (before_of a) c k → ⊥
  known_not_refused a later c k h fails = right_not_refused false [] [] a later c k (known_right (a ++ lines.Order c ∷ later) h) fails

pub one_command_refusal : (text : List ℕ) (m n : ℕ) (k j : Kind) → RefusesCommand text m k → RefusesCommand text n j → (m ≡ n) × (k ≡ j)
one_command_refusal text m n k j r s =
    let mine = r.done ++ lines.Order r.command ∷ r.later in
    let yours = s.done ++ lines.Order s.command ∷ s.later in
    let same : mine ≡ yours = one_lines mine yours r.passes.lines_fit s.passes.lines_fit (sym r.passes.spelled ∙ s.passes.spelled) in
    let scope : scope_of yours ≡ scope_of mine = ap scope_of (sym same) in
    let known = subst (λ (x : Scope). AreKnown x s.done) scope s.known in
    let fails = subst (λ (x : Scope). CommandFails x (before_of s.done) s.command j) scope s.fails in
    let first = first_command (scope_of mine) false [] [] r.done s.done r.later s.later r.command s.command k j same (known_right (scope_of mine) r.done r.known) (known_right (scope_of mine) s.done known) r.fails fails in
    (omega (arith, r.number_is, s.number_is, first.0), first.1)
