-- Every text passes or is refused by a line, and lines that pass have known registers or a first command that fails.
use Rattle.std.proofs.Common.{◌≡◌, ◌⊎◌, ℕ, zero, suc, ◌+◌, ◌<◌, ◌≤◌, ◌^◌, Bool, true, false, nat_le, List, [], ◌∷◌, ◌++◌, length, Option, Some, None, Result, Ok, Err, inl, inr, refl, sym, ◌∙◌, ap, subst, arith, length-append}
use Rattle.std.proofs.lemmas.Bool.{cases_lt}
use Rattle.std.proofs.lemmas.List.{append_assoc, append-nil, length-map}
use Rattle.std.specs.List.{AllByRecursion, flat_map}
use Rattle.xs_base.specs.declared.component.Row.{Row}
use Rattle.xs_base.specs.declared.component.Place.{Place}
use Rattle.xs_base.specs.declared.words.Signo.{Signo}
use Rattle.xs_base.specs.declared.layout_error.LayoutError.{LayoutError}
use Rattle.xs_base.specs.Register.{IsRegister}
use Rattle.xs_base.specs.Task.{frame_length, buffer_length}
use Rattle.xs_model.specs.declared.script.Command.{Command}
use Rattle.xs_model.specs.declared.script.Command.TheVariants as commands
use Rattle.xs_model.specs.declared.script.Named.{Named}
use Rattle.xs_model.specs.declared.script.Block.{Block}
use Rattle.xs_model.specs.declared.script.Script.{Script}
use Rattle.xs_model.specs.Names.{all_forked_names}
use Rattle.xs_model.specs.Bound.{most_events}
use Rattle.xs_model.specs.Script.{AreDistinct, AreBlocksNumbered, is_caught, fits_memory, fits_register}
use Rattle.xs_script.specs.declared.commands.Scope.{Scope}
use Rattle.xs_script.specs.declared.line.Line.{Line}
use Rattle.xs_script.specs.declared.line.Line.TheVariants as lines
use Rattle.xs_script.specs.declared.refusal.Kind.{Kind}
use Rattle.xs_script.specs.declared.refusal.Kind.TheVariants.{BadLine, Layout, Repeated, UnknownName, OuterInHandler, NotAwaited, TooMuch}
use Rattle.xs_script.specs.declared.refusal.LimitName.TheVariants as limits
use Rattle.xs_script.specs.ScriptLine.{IsLine, IsCommandLine, line_text}
use Rattle.xs_script.specs.Grammar.{lines_text, block_lines, row_lines, head_lines, sched_lines, script_lines, AreGroups, Spells}
use Rattle.xs_script.specs.LineOrder.{Stand, AtVersion, AtBlock, command_limit, may_end, next}
use Rattle.xs_script.specs.Body.{names_of}
use Rattle.xs_script.specs.Refusal as refusals
use Rattle.xs_script.specs.Before.{forks_of, Before, before_of}
use Rattle.xs_script.specs.Refusal.{AreLines, Early, Misspelled, Misplaced, Fails, Table, Here, table_fault, RefusesLine, Passes, scope_of, is_among, reach_fault, name_fault, AreOutside, AreReaching, IsKnown, IsKnownCommand, AreKnown, CommandFails, IsScriptOf, Refuses, ByLine, ByCommand, ByEvents}
use Rattle.xs_script.specs.Front.{IsFront}
use Rattle.xs_script.proofs.Fronts.{front_push, front_none}
use Rattle.xs_script.proofs.Decisions.{first_or_none}
use Rattle.xs_script.proofs.Places.{place_or_none}
use Rattle.xs_script.proofs.BlockParts.{all_parts}
use Rattle.xs_script.proofs.Children.{block_scope, outside_front, no_forks, front_no_names, blocks_forks}
use Rattle.xs_script.proofs.Reaching.{reaching_front, blocks_named}
use Rattle.xs_script.proofs.RightLines.{IsRightLine, local_right, outer_right, fork_right, known_push}
use Rattle.xs_script.proofs.EventBound.{lines_short}
use Rattle.xs_script.proofs.Numbering.{blocks_rise}
use Rattle.xs_script.proofs.KnownLines.{within_limit, names_fit, numbers_fit, ordered_forks, blocks_known}
use Rattle.xs_script.proofs.EntryTests.{joined, at_most}
use Rattle.xs_script.proofs.WholeScripts.{parted_lines, script_scope}
use Rattle.xs_script.proofs.Stands.{HasNoLimit, leads_within}
use Rattle.xs_script.proofs.ReadBlocks.{AreLater, blocks_read}
use Rattle.xs_script.proofs.ReadScripts.{IsMachine, script_read}

-- ---- the first pass

-- what follows from each case
module _ (A : Type 0) where
  -- a table that fails is a refusal
  step_table : (stand : Stand) (number : ℕ) (rest : List ℕ) (t : Option LayoutError) → table_fault stand rest ≡ t → ((n : ℕ) (kind : Kind) → Fails stand number rest n kind → A) → (table_fault stand rest ≡ None → A) → A
  step_table stand number rest (Some e) is fails go = fails 2 (Layout e) (Table e is)
  step_table stand number rest None is fails go = go is

  -- a line leads on or is refused
  step_next : (stand : Stand) (number : ℕ) (rest more : List ℕ) (l : Line) (r : Result Stand Kind) → next stand l ≡ r → table_fault stand rest ≡ None → IsLine l → rest ≡ line_text l ++ 10 ∷ more → ((n : ℕ) (kind : Kind) → Fails stand number rest n kind → A) → ((mid : Stand) → next stand l ≡ Ok mid → A) → A
  step_next stand number rest more l (Ok mid) is none fits e fails go = go mid is
  step_next stand number rest more l (Err kind) is none fits e fails go = fails number kind (Here kind none (Misplaced l more kind fits e is))

  -- the end passes or is refused
  step_end : (text : List ℕ) (ls : List Line) (stand : Stand) (b : Bool) → may_end stand ≡ b → table_fault stand [] ≡ None → IsFront AtVersion text ls stand [] → ((n : ℕ) (kind : Kind) → Fails stand (length ls + 1) [] n kind → A) → ((ls : List Line) → Passes text ls → A) → A
  step_end text ls stand true is none front fails passed = passed ls (record {
    lines_fit = front.lines_fit;
    spelled = front.parts ∙ append-nil (lines_text ls);
    stand = stand;
    leads = front.leads;
    whole = is;
  })
  step_end text ls stand false is none front fails passed = fails (length ls + 1) BadLine (Here BadLine none (Early refl is))

  -- what comes after a front, with fewer bytes than the fuel
  walk : (text : List ℕ) (fuel : ℕ) (rest : List ℕ) (ls : List Line) (stand : Stand) → length rest < fuel → IsFront AtVersion text ls stand rest → ((n : ℕ) (kind : Kind) → RefusesLine text n kind → A) → ((ls : List Line) → Passes text ls → A) → A
  walk text zero rest ls stand room front refused passed = absurd (omega arith)
  walk text (suc fuel) [] ls stand room front refused passed =
      let fails = λ (n : ℕ) (kind : Kind) (f : Fails stand (length ls + 1) [] n kind). refused n kind (record { done = ls; rest = []; stand = stand; lines_fit = front.lines_fit; parts = front.parts; leads = front.leads; fails = f }) in
      step_table stand (length ls + 1) [] (table_fault stand []) refl fails (λ none. step_end text ls stand (may_end stand) refl none front fails passed)
  walk text (suc fuel) (b ∷ bs) ls stand room front refused passed =
      let rest = b ∷ bs in
      let fails = λ (n : ℕ) (kind : Kind) (f : Fails stand (length ls + 1) rest n kind). refused n kind (record { done = ls; rest = rest; stand = stand; lines_fit = front.lines_fit; parts = front.parts; leads = front.leads; fails = f }) in
      step_table stand (length ls + 1) rest (table_fault stand rest) refl fails (λ none.
      elim (first_or_none rest) [
        | inr other ↦ fails (length ls + 1) BadLine (Here BadLine none (Misspelled (λ e. cc e) other))
        | inl h ↦
            let e = h.3 in
            step_next stand (length ls + 1) rest h.1 h.0 (next stand h.0) refl none h.2 e fails (λ mid leads.
            let long : length rest ≡ length (line_text h.0) + length (10 ∷ h.1) = ap length e ∙ length-append (line_text h.0) (10 ∷ h.1) in
            walk text fuel h.1 (ls ++ h.0 ∷ []) mid (omega (arith, long)) (front_push AtVersion stand mid text rest h.1 ls h.0 front h.2 e leads) refused passed)
      ])

-- A text passes or is refused by a line.
pub passes_or_not : (text : List ℕ) → ((n : ℕ) × (kind : Kind) × RefusesLine text n kind) ⊎ ((ls : List Line) × Passes text ls)
passes_or_not text = walk _ text (suc (length text)) text [] AtVersion (omega arith) (front_none AtVersion text) (λ n kind r. inl (n, kind, r)) (λ ls p. inr (ls, p))

-- ---- the second pass

-- what follows from each case
module _ (A : Type 0) where
  -- a value fits its register or fails
  step_value : (scope : Scope) (before : Before) (reg bytes : List ℕ) (place : Place) (b : Bool) → fits_register place bytes ≡ b → IsRegister scope.layout reg place → AllByRecursion (λ byte. byte < 256) bytes → (IsKnownCommand scope (commands.Set reg bytes) → A) → ((kind : Kind) → CommandFails scope before (commands.Set reg bytes) kind → A) → A
  step_value scope before reg bytes place true is here small known fails = known ((place, here, is, small), tt)
  step_value scope before reg bytes place false is here small known fails = fails BadLine (refusals.Misfit reg bytes place here is)

  -- a fork names a child that none before it forks, outside of handlers, or fails
  step_fork : (scope : Scope) (before : Before) (name : List ℕ) (b c d : Bool) → is_among name scope.children ≡ b → is_among name before.forked ≡ c → before.inside ≡ d → (is_among name scope.children ≡ true → is_among name before.forked ≡ false → before.inside ≡ false → A) → ((kind : Kind) → CommandFails scope before (commands.Fork name) kind → A) → A
  step_fork scope before name false c d child again in_one known fails = fails UnknownName (refusals.Misnamed (commands.Fork name) UnknownName (rw child refl))
  step_fork scope before name true true d child again in_one known fails = fails Repeated (refusals.Misnamed (commands.Fork name) Repeated (rw (child, again) refl))
  step_fork scope before name true false true child again in_one known fails = fails OuterInHandler (refusals.Misnamed (commands.Fork name) OuterInHandler (rw (child, again, in_one) refl))
  step_fork scope before name true false false child again in_one known fails = known child again in_one

  -- a signal goes to a block with a handler, from outside of handlers, or the line fails
  step_kill : (scope : Scope) (before : Before) (name : List ℕ) (signo : Signo) (b d : Bool) → is_among name scope.handled ≡ b → before.inside ≡ d → (is_among name scope.handled ≡ true → before.inside ≡ false → A) → ((kind : Kind) → CommandFails scope before (commands.Kill name signo) kind → A) → A
  step_kill scope before name signo false d handled in_one known fails = fails UnknownName (refusals.Misnamed (commands.Kill name signo) UnknownName (rw handled refl))
  step_kill scope before name signo true true handled in_one known fails = fails OuterInHandler (refusals.Misnamed (commands.Kill name signo) OuterInHandler (rw (handled, in_one) refl))
  step_kill scope before name signo true false handled in_one known fails = known handled in_one

  -- a stop stands outside of handlers, or fails
  step_stop : (scope : Scope) (before : Before) (d : Bool) → before.inside ≡ d → (before.inside ≡ false → A) → ((kind : Kind) → CommandFails scope before commands.Stop kind → A) → A
  step_stop scope before true in_one known fails = fails OuterInHandler (refusals.Misnamed commands.Stop OuterInHandler (rw in_one refl))
  step_stop scope before false in_one known fails = known in_one

  -- a wait is for a child of its own body, outside of handlers, or fails
  step_wait : (scope : Scope) (before : Before) (name : List ℕ) (d b : Bool) → before.inside ≡ d → before.own name ≡ b → (before.inside ≡ false → before.own name ≡ true → A) → ((kind : Kind) → CommandFails scope before (commands.Wait name) kind → A) → A
  step_wait scope before name true b in_one own known fails = fails OuterInHandler (refusals.Misnamed (commands.Wait name) OuterInHandler (rw in_one refl))
  step_wait scope before name false false in_one own known fails = fails UnknownName (refusals.Misnamed (commands.Wait name) UnknownName (rw (in_one, own) refl))
  step_wait scope before name false true in_one own known fails = known in_one own

  -- what reaches a child reaches one that is awaited, or fails
  step_reach : (scope : Scope) (before : Before) (command : Command) (name : List ℕ) (d b c : Bool) → before.inside ≡ d → before.own name ≡ b → before.awaited name ≡ c → name_fault scope before command ≡ reach_fault before.inside (before.own name) (before.awaited name) → (before.inside ≡ false → before.own name ≡ true → before.awaited name ≡ true → A) → ((kind : Kind) → CommandFails scope before command kind → A) → A
  step_reach scope before command name true b c in_one own awaited is known fails = fails OuterInHandler (refusals.Misnamed command OuterInHandler (is ∙ rw in_one refl))
  step_reach scope before command name false false c in_one own awaited is known fails = fails UnknownName (refusals.Misnamed command UnknownName (is ∙ rw (in_one, own) refl))
  step_reach scope before command name false true false in_one own awaited is known fails = fails NotAwaited (refusals.Misnamed command NotAwaited (is ∙ rw (in_one, own, awaited) refl))
  step_reach scope before command name false true true in_one own awaited is known fails = known in_one own awaited

  -- Nothing is wrong with a command, or it fails.
  right_or_fails : (scope : Scope) (before : Before) (command : Command) → IsCommandLine command → command_limit command ≡ None → (IsRightLine scope before (lines.Order command) → A) → ((kind : Kind) → CommandFails scope before command kind → A) → A
  right_or_fails scope before (commands.Set reg bytes) fits within right fails = elim (place_or_none scope.layout reg) [
    | inr none ↦ fails UnknownName (refusals.Unknown (commands.Set reg bytes) reg refl none)
    | inl p ↦
        step_value scope before reg bytes p.0 (fits_register p.0 bytes) refl p.1 fits.2 (λ k. right (local_right scope before (lines.Order (commands.Set reg bytes)) k refl refl tt)) fails
  ]
  right_or_fails scope before (commands.Get reg) fits within right fails = elim (place_or_none scope.layout reg) [
    | inr none ↦ fails UnknownName (refusals.Unknown (commands.Get reg) reg refl none)
    | inl p ↦ right (local_right scope before (lines.Order (commands.Get reg)) ((p.0, p.1), tt) refl refl tt)
  ]
  right_or_fails scope before (commands.Ksec byte) fits within right fails = right (local_right scope before (lines.Order (commands.Ksec byte)) (fits, tt) refl refl tt)
  right_or_fails scope before commands.Tilerelease fits within right fails = right (local_right scope before (lines.Order commands.Tilerelease) (tt, tt) refl refl tt)
  right_or_fails scope before (commands.Perm feature) fits within right fails = right (local_right scope before (lines.Order (commands.Perm feature)) (tt, tt) refl refl tt)
  right_or_fails scope before commands.Yield fits within right fails = right (local_right scope before (lines.Order commands.Yield) (tt, tt) refl refl tt)
  right_or_fails scope before (commands.Peek at len) fits within right fails =
      right (local_right scope before (lines.Order (commands.Peek at len)) (within_limit limits.Frame (fits_memory frame_length at len) within, tt) refl refl tt)
  right_or_fails scope before (commands.Poke at bytes) fits within right fails =
      right (local_right scope before (lines.Order (commands.Poke at bytes)) ((within_limit limits.Frame (fits_memory frame_length at (length bytes)) within, fits.2), tt) refl refl tt)
  right_or_fails scope before (commands.Bpeek at len) fits within right fails =
      right (local_right scope before (lines.Order (commands.Bpeek at len)) (within_limit limits.Buffer (fits_memory buffer_length at len) within, tt) refl refl tt)
  right_or_fails scope before (commands.Bpoke at bytes) fits within right fails =
      right (local_right scope before (lines.Order (commands.Bpoke at bytes)) ((within_limit limits.Buffer (fits_memory buffer_length at (length bytes)) within, fits.2), tt) refl refl tt)
  right_or_fails scope before commands.Sigreturn fits within right fails = right (local_right scope before (lines.Order commands.Sigreturn) (tt, tt) refl refl tt)
  right_or_fails scope before (commands.Fork name) fits within right fails =
      step_fork scope before name (is_among name scope.children) (is_among name before.forked) before.inside refl refl refl
      (λ child new out. right (fork_right scope before name child new out)) fails
  right_or_fails scope before (commands.Kill name signo) fits within right fails =
      step_kill scope before name signo (is_among name scope.handled) before.inside refl refl
      (λ handled out. right (outer_right scope before (commands.Kill name signo) (within_limit limits.Signal (is_caught signo.number) within, handled) refl out tt)) fails
  right_or_fails scope before commands.Stop fits within right fails = step_stop scope before before.inside refl (λ out. right (outer_right scope before commands.Stop (tt, tt) refl out tt)) fails
  right_or_fails scope before (commands.Wait name) fits within right fails =
      step_wait scope before name before.inside (before.own name) refl refl (λ out own. right (outer_right scope before (commands.Wait name) (tt, tt) refl out own)) fails
  right_or_fails scope before (commands.Getregs name set) fits within right fails =
      step_reach scope before (commands.Getregs name set) name before.inside (before.own name) (before.awaited name) refl refl refl refl
      (λ out own awaited. right (outer_right scope before (commands.Getregs name set) (tt, tt) refl out (own, awaited))) fails
  right_or_fails scope before (commands.Setregs name set count) fits within right fails =
      let few = at_most count buffer_length (within_limit limits.Count (nat_le count buffer_length) within) in
      step_reach scope before (commands.Setregs name set count) name before.inside (before.own name) (before.awaited name) refl refl refl refl
      (λ out own awaited. right (outer_right scope before (commands.Setregs name set count) (few, tt) refl out (own, awaited))) fails
  right_or_fails scope before (commands.Cont name) fits within right fails =
      step_reach scope before (commands.Cont name) name before.inside (before.own name) (before.awaited name) refl refl refl refl
      (λ out own awaited. right (outer_right scope before (commands.Cont name) (tt, tt) refl out (own, awaited))) fails

  -- So nothing is wrong with a line, or it is a command that fails.
  line_right_or_fails : (scope : Scope) (before : Before) (l : Line) → IsLine l → HasNoLimit l → (IsRightLine scope before l → A) → ((command : Command) (kind : Kind) → l ≡ lines.Order command → CommandFails scope before command kind → A) → A
  line_right_or_fails scope before (lines.Order command) fits within right fails = right_or_fails scope before command fits within right (λ kind f. fails command kind refl f)
  line_right_or_fails scope before lines.Version fits within right fails = right (local_right scope before lines.Version tt refl refl tt)
  line_right_or_fails scope before (lines.Machine named) fits within right fails = right (local_right scope before (lines.Machine named) tt refl refl tt)
  line_right_or_fails scope before (lines.Row r) fits within right fails = right (local_right scope before (lines.Row r) tt refl refl tt)
  line_right_or_fails scope before (lines.Cpus n) fits within right fails = right (local_right scope before (lines.Cpus n) tt refl refl tt)
  line_right_or_fails scope before (lines.Quantum n) fits within right fails = right (local_right scope before (lines.Quantum n) tt refl refl tt)
  line_right_or_fails scope before (lines.Large n) fits within right fails = right (local_right scope before (lines.Large n) tt refl refl tt)
  line_right_or_fails scope before (lines.Sched entries) fits within right fails = right (local_right scope before (lines.Sched entries) tt refl refl tt)
  line_right_or_fails scope before (lines.Begin kind name) fits within right fails = right (local_right scope before (lines.Begin kind name) tt refl refl tt)
  line_right_or_fails scope before (lines.NoSignal name number) fits within right fails = right (local_right scope before (lines.NoSignal name number) tt refl refl tt)
  line_right_or_fails scope before lines.Handler fits within right fails = right (local_right scope before lines.Handler tt refl refl tt)
  line_right_or_fails scope before lines.End fits within right fails = right (local_right scope before lines.End tt refl refl tt)

  -- Nothing is wrong with lines, or one of them is the first command that fails.
  pub lines_known_or_fail : (scope : Scope) (done ls : List Line) → AreKnown scope done → AreLines ls → AllByRecursion HasNoLimit ls → (AreKnown scope (done ++ ls) → A) → ((d : List Line) (command : Command) (later : List Line) (kind : Kind) → done ++ ls ≡ d ++ lines.Order command ∷ later → AreKnown scope d → CommandFails scope (before_of d) command kind → A) → A
  lines_known_or_fail scope done [] front fits within known fails = known (subst (λ (xs : List Line). AreKnown scope xs) (sym (append-nil done)) front)
  lines_known_or_fail scope done (l ∷ ls) front fits within known fails =
      line_right_or_fails scope (before_of done) l fits.0 within.0
      (λ right.
      let same : (done ++ l ∷ []) ++ ls ≡ done ++ l ∷ ls = append_assoc done (l ∷ []) ls in
      lines_known_or_fail scope (done ++ l ∷ []) ls (known_push scope done l front right) fits.1 within.1
      (λ all. known (subst (λ (xs : List Line). AreKnown scope xs) same all))
      (λ d command later kind e front f. fails d command later kind (sym same ∙ e) front f))
      (λ command kind is f. fails done command ls kind (ap (λ (x : Line). done ++ x ∷ ls) is) front f)

-- ---- the passes together

-- the script of these numbers
abbrev script_of : Named → List Row → ℕ → ℕ → ℕ → List ℕ → List Block → Script
script_of machine layout cpus quantum large sched blocks = record { machine = machine; layout = layout; cpus = cpus; quantum = quantum; large = large; sched = sched; blocks = blocks }

-- the script of a machine and its schedule, with these blocks
abbrev whole_of : (ls : List Line) (end : Stand) → IsMachine ls end → List Block → Script
whole_of ls end m blocks = script_of m.machine m.layout m.numbers.cpus m.numbers.quantum m.numbers.large (joined m.numbers.sched.groups) blocks

-- the lines before the schedule
abbrev front_of : (ls : List Line) (end : Stand) → IsMachine ls end → List Line
front_of ls end m = head_lines (whole_of ls end m [])

front_split : (ls : List Line) (end : Stand) (m : IsMachine ls end) → ls ≡ front_of ls end m ++ (sched_lines m.numbers.sched.groups ++ m.numbers.sched.later)
front_split ls end m =
    m.split
    ∙ ap (λ (xs : List Line). lines.Version ∷ lines.Machine m.machine ∷ (row_lines m.machine m.layout ++ xs)) m.numbers.split
    ∙ ap (λ (xs : List Line). lines.Version ∷ lines.Machine m.machine ∷ xs) (sym (append_assoc (row_lines m.machine m.layout) (lines.Cpus m.numbers.cpus ∷ lines.Quantum m.numbers.quantum ∷ lines.Large m.numbers.large ∷ []) m.numbers.after))
    ∙ ap (λ (xs : List Line). front_of ls end m ++ xs) m.numbers.sched.split

some_block : (blocks : List Block) (end : Stand) → end ≡ AtBlock (names_of blocks) → may_end end ≡ true → 0 < length blocks
some_block [] end e h = cc (sym h ∙ ap may_end e)
some_block (b ∷ blocks) end e h = omega arith

few_blocks : (blocks : List Block) (end : Stand) → AreLater [] blocks end → length blocks ≤ 64
few_blocks blocks end h = let few = h.few (omega arith) in omega (arith, few)

-- each line of a schedule has an entry
groups_some : (groups : List (List ℕ)) → AreLines (sched_lines groups) → AllByRecursion (λ group. 0 < length group) groups
groups_some [] h = tt
groups_some (g ∷ groups) h = (h.0.0, groups_some groups h.1)

-- Lines in which nothing is wrong are those of a script, which they spell where it hasn't too many events.
pub record IsRead (text : List ℕ) (script : Script) : Type 0 where
  pub read : IsScriptOf text script
  pub spells : most_events script ≤ 1048576 → Spells text script

-- the script of a machine, its schedule and its blocks, where the lines are known
blocks_spell : (text : List ℕ) (ls : List Line) → (p : Passes text ls) (m : IsMachine ls p.stand) (blocks : List Block) → m.numbers.sched.later ≡ flat_map block_lines blocks → AreBlocksNumbered (length (front_of ls p.stand m) + length m.numbers.sched.groups + 1) blocks → AreLater [] blocks p.stand → AreKnown (scope_of ls) ls → IsRead text (whole_of ls p.stand m blocks)
blocks_spell text ls p m blocks is numbered h known =
    let script = whole_of ls p.stand m blocks in
    let front = front_of ls p.stand m in
    let groups = m.numbers.sched.groups in
    let bodies = flat_map block_lines blocks in
    let before = front ++ sched_lines groups in
    let lines_are : ls ≡ script_lines script groups = front_split ls p.stand m ∙ ap (λ (xs : List Line). front ++ (sched_lines groups ++ xs)) is in
    let parted : ls ≡ before ++ bodies = lines_are ∙ parted_lines script groups in
    let bare = front_no_names script groups in
    let forks : forks_of ls ≡ all_forked_names blocks = ap forks_of parted ∙ no_forks before bodies bare ∙ blocks_forks blocks (ordered_forks blocks h.ordered) in
    let scope = block_scope m.layout blocks in
    let scope_is : scope_of ls ≡ scope = ap scope_of lines_are ∙ script_scope script groups m.is_table in
    let all = subst (λ (xs : List Line). AllByRecursion (IsKnown scope) xs) parted (subst (λ (x : Scope). AllByRecursion (IsKnown x) ls) scope_is known.each) in
    let commands = blocks_known scope blocks h.ordered (all_parts (IsKnown scope) before bodies all).1 in
    let later_fits = (all_parts IsLine front (sched_lines groups ++ bodies) (subst AreLines lines_are p.lines_fit)).1 in
    let fit = all_parts IsLine (sched_lines groups) bodies later_fits in
    let grouped : AreGroups groups (joined groups) = record { some = groups_some groups fit.0; joined = refl } in
    let distinct = h.distinct tt in
    let reaching = reaching_front [] before bodies bare (subst (AreReaching []) parted known.reaching) in
    record {
      read = record {
        groups = groups;
        grouped = grouped;
        table = m.is_table;
        numbered = numbered;
        passes = subst (Passes text) lines_are p;
        known = subst (λ (xs : List Line). AreKnown (scope_of xs) xs) lines_are known;
      };
      spells = λ events. record {
        valid = record {
          layout = m.layout_fits;
          machine = m.is_table;
          cpus = m.numbers.cpus_fits;
          quantum = m.numbers.quantum_fits;
          large = m.numbers.large_fits;
          entries = m.numbers.sched.below;
          schedule = omega (arith, m.numbers.sched.few);
          some = some_block blocks p.stand h.ends p.whole;
          few = few_blocks blocks p.stand h;
          names = names_fit blocks fit.1;
          distinct = distinct;
          rising = blocks_rise 0 (length front + length groups + 1) blocks (omega arith) numbered;
          bodies = commands.bodies;
          named = blocks_named m.layout blocks blocks distinct commands.named reaching;
          forked = subst AreDistinct forks known.once;
          events = events;
        };
        numbers = numbers_fit blocks fit.1;
        groups = groups;
        grouped = grouped;
        numbered = numbered;
        spelled = p.spelled ∙ ap lines_text lines_are;
      };
    }

machine_spells : (text : List ℕ) (ls : List Line) → length text ≤ 1048576 → (p : Passes text ls) → IsMachine ls p.stand → AreKnown (scope_of ls) ls → (script : Script) × IsRead text script
machine_spells text ls short p m known =
    let few : length ls ≤ length text = rw p.spelled (lines_short ls) in
    let sched = m.numbers.sched in
    let front = front_of ls p.stand m in
    let before = front ++ sched_lines sched.groups in
    let split = front_split ls p.stand m in
    let long : length ls ≡ length front + length (sched_lines sched.groups ++ sched.later) = ap length split ∙ length-append front (sched_lines sched.groups ++ sched.later) in
    let parts : length (sched_lines sched.groups ++ sched.later) ≡ length (sched_lines sched.groups) + length sched.later = length-append (sched_lines sched.groups) sched.later in
    let groups : length (sched_lines sched.groups) ≡ length sched.groups = length-map sched.groups lines.Sched in
    let room : length front + length sched.groups + 1 + length sched.later < 2 ^ 32 = omega (arith, short, few, long, parts, groups) in
    let joined : ls ≡ before ++ sched.later = split ∙ sym (append_assoc front (sched_lines sched.groups) sched.later) in
    let out = outside_front before sched.later (front_no_names (whole_of ls p.stand m []) sched.groups) (subst (AreOutside false) joined known.outside) in
    let (blocks, is, numbered, h) = blocks_read (AtBlock []) sched.later p.stand (length front + length sched.groups + 1) room sched.leads out p.whole in
    (whole_of ls p.stand m blocks, blocks_spell text ls p m blocks is numbered h known)

-- Such a text is that of a script.
pub known_read : (text : List ℕ) (ls : List Line) → length text ≤ 1048576 → Passes text ls → AreKnown (scope_of ls) ls → (script : Script) × IsRead text script
known_read text ls short p known = machine_spells text ls short p (script_read ls p.stand p.leads p.whole) known

-- A script has too many events, or its text spells it.
bounded : (text : List ℕ) (script : Script) → IsRead text script → ((script : Script) × Spells text script) ⊎ ((number : ℕ) × (kind : Kind) × Refuses text number kind)
bounded text script h = elim (cases_lt 1048576 (most_events script)) [
  | inl many ↦ inr (0, TooMuch (most_events script), ByEvents (record { script = script; read = h.read; many = many; number_is = refl; kind_is = refl }))
  | inr few ↦ inl (script, h.spells (omega arith))
]

-- A text within the limit spells a script or is refused.
pub every_text : (text : List ℕ) → length text ≤ 1048576 → ((script : Script) × Spells text script) ⊎ ((number : ℕ) × (kind : Kind) × Refuses text number kind)
every_text text short = elim (passes_or_not text) [
  | inl r ↦ inr (r.0, r.1, ByLine r.2)
  | inr p ↦ lines_known_or_fail _ (scope_of p.0) [] p.0 (record { each = tt; once = tt; outside = tt; reaching = tt }) p.1.lines_fit (leads_within AtVersion p.1.stand p.0 p.1.leads)
      (λ known. let r = known_read text p.0 short p.1 known in bounded text r.0 r.1)
      (λ d command later kind e front f.
      let scope : scope_of p.0 ≡ scope_of (d ++ lines.Order command ∷ later) = ap scope_of e in
      inr (
        length d + 1,
        kind,
        ByCommand (record {
          done = d;
          command = command;
          later = later;
          passes = subst (λ (xs : List Line). Passes text xs) e p.1;
          known = subst (λ (x : Scope). AreKnown x d) scope front;
          fails = subst (λ (x : Scope). CommandFails x (before_of d) command kind) scope f;
          number_is = refl;
        }),
      ))
]
