-- A turn after one more of its lines, or after its end.
use Rattle.std.proofs.Common.{◌≡◌, ℕ, ◌+◌, ◌<◌, Bool, true, false, not, ◌&&◌, List, [], ◌∷◌, ◌++◌, length, map, reverse, Option, Some, None, if◌then◌else◌, refl, sym, ap, ◌∙◌, inl, inr, length-append}
use Rattle.std.proofs.lemmas.Bool.{and_parts, cases_Bool, ltb-true}
use Rattle.std.proofs.lemmas.List.{map-append, reverse-append}
use Rattle.std.specs.Option.{MatchOption, IfNone}
use Rattle.xs_base.specs.declared.component.Row.{Row}
use Rattle.xs_base.specs.declared.header.HeaderError.{HeaderError}
use Rattle.xs_base.specs.Counts.{save_if}
use Rattle.xs_base.specs.Task.{PrivateTask}
use Rattle.xs_bank.specs.declared.cpu.Cpu.{Cpu}
use Rattle.xs_bank.specs.Bank as banks
use Rattle.xs_bank.specs.Bank.{counts_of}
use Rattle.xs_model.specs.declared.event.Event.{Event}
use Rattle.xs_model.specs.declared.event.Event.TheVariants as events
use Rattle.xs_model.specs.declared.event.Reply.{Reply}
use Rattle.xs_model.specs.declared.script.Command.{Command}
use Rattle.xs_model.specs.declared.script.Order.{Order}
use Rattle.xs_model.specs.declared.script.Script.{Script}
use Rattle.xs_model.specs.Due.{violation}
use Rattle.xs_model.specs.Line.{frame_cause, local_after}
use Rattle.xs_model.specs.Machine.{goes_on, machine}
use Rattle.xs_model.specs.Script.{command_at, is_outer, is_user, is_yield}
use Rattle.xs_task.specs.declared.task.Task.{Task}
use Rattle.xs_board.specs.declared.turn.Close.{Close}
use Rattle.xs_board.specs.declared.turn.Close.TheVariants.{Quantum, Yield, Outer, Refused, Trap, End}
use Rattle.xs_board.specs.declared.turn.Entry.{Entry}
use Rattle.xs_board.specs.Turn.{Answer, AreLines, HaveRun, IsEntry, IsRefusedReturn, IsTrapLine, trap_end, closed_by, entry_event, line_of, past_with, task_after, task_handed}
use Rattle.xs_machine.specs.Line.{CameBack, Halted, IsOn, RanLine, StandsAt}
use Rattle.xs_machine.specs.Turn.{AfterLine, AreOver, AreRunning, IsTurning, past_after}
use Rattle.xs_machine.proofs.ScriptLemmas.{turn_known}
use Rattle.xs_machine.proofs.TurnLemmas.{line_turned, end_turned, outer_turned, refused_turned, trap_turned}

-- ---- pasts

reverse_more : (xs ys : List Event) (x : Event) → reverse (xs ++ x ∷ []) ++ ys ≡ x ∷ (reverse xs ++ ys)
reverse_more xs ys x = simp reverse-append

pub past_more : (t : ℕ) (entries : List Entry) (entry : Entry) (first : List Event) → past_with t (entries ++ entry ∷ []) first ≡ entry_event t entry ∷ past_with t entries first
past_more t entries entry first = ap (λ es. reverse es ++ first) (map-append (entry_event t) entries (entry ∷ [])) ∙ reverse_more (map (entry_event t) entries) first (entry_event t entry)

past_end : (t : ℕ) (entries : List Entry) (answer : Answer) (first : List Event) → past_after t entries End answer first ≡ events.End t ∷ past_with t entries first
past_end t entries answer first = reverse_more (map (entry_event t) entries) first (events.End t)

past_outer : (t line : ℕ) (entries : List Entry) (answer : Answer) (first : List Event) → past_after t entries (Outer line) answer first ≡ events.Outer t line answer.reply ∷ past_with t entries first
past_outer t line entries answer first = reverse_more (map (entry_event t) entries) first (events.Outer t line answer.reply)

past_refused : (t : ℕ) (error : HeaderError) (entries : List Entry) (answer : Answer) (first : List Event) → past_after t entries (Refused error) answer first ≡ events.Kill t violation (frame_cause error) ∷ past_with t entries first
past_refused t error entries answer first = reverse_more (map (entry_event t) entries) first (events.Kill t violation (frame_cause error))

pub past_trap : (t : ℕ) (entries : List Entry) (answer : Answer) (first : List Event) → past_after t entries Trap answer first ≡ trap_end t answer.fate ∷ past_with t entries first
past_trap t entries answer first = reverse_more (map (entry_event t) entries) first (trap_end t answer.fate)

append_none : (xs : List Event) → xs ++ [] ≡ xs
append_none [] = refl
append_none (x ∷ xs) = ap (λ ys. x ∷ ys) (append_none xs)

past_closed : (t : ℕ) (entries : List Entry) (answer : Answer) (first : List Event) (command : Command) → past_after t entries (closed_by command) answer first ≡ past_with t entries first
past_closed t entries answer first command = by_yield (is_yield command) refl
  where
    by_yield : (b : Bool) → is_yield command ≡ b → past_after t entries (closed_by command) answer first ≡ past_with t entries first
    by_yield true yields = rw yields (ap (λ es. reverse es ++ first) (append_none (map (entry_event t) entries)))
    by_yield false other = rw other (ap (λ es. reverse es ++ first) (append_none (map (entry_event t) entries)))

-- a local line hands the task over as it left it
handed_closed : (command : Command) (p : PrivateTask) → task_handed (closed_by command) p ≡ p
handed_closed command p = by_yield (is_yield command)
  where
    by_yield : (b : Bool) → task_handed (if b then Yield else Quantum) p ≡ p
    by_yield true = refl
    by_yield false = refl

-- ---- places

place_on : (user : Bool) (rows : List Row) (task : Task) (bank : banks.Bank) (p : PrivateTask) → IsOn user rows task bank p → task.place ≡ p.place
place_on true rows task bank p on = sym (ap (λ (q : PrivateTask). q.place) on.running.form)
place_on false rows task bank p on = on.home.place

inside_on : (user : Bool) (rows : List Row) (task : Task) (bank : banks.Bank) (p : PrivateTask) → IsOn user rows task bank p → p.handling ≡ (user && task.handling)
inside_on true rows task bank p on = ap (λ (q : PrivateTask). q.handling) on.running.form
inside_on false rows task bank p on = on.outside

outside_on : (user : Bool) (rows : List Row) (task : Task) (bank : banks.Bank) (p : PrivateTask) → user ≡ false → IsOn user rows task bank p → p.handling ≡ false
outside_on true rows task bank p kernel on = absurd (cc)
outside_on false rows task bank p kernel on = on.outside

-- the task handles a signal where its private task does
handles : (user handling inside : Bool) → inside ≡ (user && handling) → inside ≡ true → handling ≡ true
handles true handling inside is on = sym is ∙ on
handles false handling inside is on = absurd (cc)

-- ---- the turn

any_ran : {B : Type 0} (script : Script) (t c : ℕ) (first past : List Event) (before : banks.Bank) (over : Bool) (ran : ℕ) (p : PrivateTask) (task : Task) (cpu : Cpu B) (bank : banks.Bank)
    → over ≡ true → IsTurning script t c first past before over ran p task cpu bank → IsTurning script t c first past before true 0 p task cpu bank
any_ran script t c first past before over ran p task cpu bank is turn = record {
  follows = turn.follows;
  stage = λ no. absurd (cc);
  number = turn.number;
  layout = turn.layout;
  set_up = turn.set_up;
  name = turn.name;
  on = turn.on;
  flag = turn.flag;
  mark_is = turn.mark_is;
  own = turn.own;
  holds = turn.holds;
  alien = turn.alien;
  latest = turn.latest;
  counts = turn.counts ∙ ap (λ o. save_if (o && is_user script t && not task.need_load) (counts_of bank)) is;
}

module _ {B : Type 0} (script : Script) (t c : ℕ) (first : List Event) (before : banks.Bank) (start : PrivateTask) (entries : List Entry) (p : PrivateTask) (task task1 : Task) (cpu cpu1 : Cpu B) (bank bank1 : banks.Bank)
    (are : AreRunning script t c first before start entries p task cpu bank) (back : CameBack (is_user script t) task task1 cpu cpu1 bank bank1) where
  -- no line is left
  pub body_over : AreLines script t start 0 entries End → AreOver script t c first before start entries End task1 cpu1 bank1
  body_over lines = record {
    lines = lines;
    turning = λ answer _. rw (past_end t entries answer first, are.run.task_is) (end_turned script t c first (past_with t entries first) before (length entries) p task cpu bank are.turning task1 cpu1 bank1 back);
  }

  -- an outer line is left to the board
  pub outer_over : (line : ℕ) → AreLines script t start 0 entries (Outer line) → AreOver script t c first before start entries (Outer line) task1 cpu1 bank1
  outer_over line lines = record {
    lines = lines;
    turning = λ answer _. rw (past_outer t line entries answer first, are.run.task_is) (outer_turned script t c first (past_with t entries first) before (length entries) p task cpu bank are.turning task1 cpu1 bank1 back line answer.reply);
  }

  -- a return was refused, or a line trapped
  pub halted_over : (command : Command) (close : Close) (task2 : Task) (cpu2 : Cpu B) (bank2 : banks.Bank) → Halted (is_user script t) command close task1 task2 cpu1 cpu2 bank1 bank2
      → AreLines script t start 0 entries close → AreOver script t c first before start entries close task2 cpu2 bank2
  halted_over command (Refused error) task2 cpu2 bank2 halted lines = record {
    lines = lines;
    turning = λ answer _. rw (past_refused t error entries answer first, are.run.task_is) (refused_turned script t c first (past_with t entries first) before (length entries) p task cpu bank are.turning task1 cpu1 bank1 back command error task2 cpu2 bank2 halted);
  }
  halted_over command Trap task2 cpu2 bank2 halted lines = record {
    lines = lines;
    turning = λ answer fits. rw (past_trap t entries answer first, are.run.task_is) (trap_turned script t c first (past_with t entries first) before (length entries) p task cpu bank are.turning task1 cpu1 bank1 back command answer.fate fits task2 cpu2 bank2 halted);
  }
  halted_over command other task2 cpu2 bank2 halted lines = absurd halted

  -- one more line ran
  module _ (order : Order) (found : command_at script t order.number ≡ Some order.command) (entry : Entry) (line : entry.line ≡ order.number)
      (inside : (local_after p order.command).handling ≡ true → line_of script t (local_after p order.command) ≡ None → ⊥)
      (more : goes_on script order.command (length entries) ≡ true → HaveRun script t start (entries ++ entry ∷ []) (local_after p order.command) (length entries + 1))
      (last : goes_on script order.command (length entries) ≡ false → AreLines script t start 0 (entries ++ entry ∷ []) (closed_by order.command))
      (last_task : task_after script t start (entries ++ entry ∷ []) ≡ local_after p order.command)
      (task2 : Task) (cpu2 : Cpu B) (bank2 : banks.Bank)
      (done : RanLine (is_user script t) order.command entry.reply task1 task2 cpu1 cpu2 bank1 bank2) where
    turned : IsTurning script t c first (past_with t (entries ++ entry ∷ []) first) before (not (goes_on script order.command (length entries))) (length entries + 1) (local_after p order.command) task2 cpu2 bank2
    turned =
        rw (past_more t entries entry first, line)
        (line_turned script t c first (past_with t entries first) before (length entries) p task cpu bank are.turning task1 cpu1 bank1 back order.number order.command found entry.reply task2 cpu2 bank2 done)

    fewer : goes_on script order.command (length entries) ≡ true → length entries + 1 < script.quantum
    fewer goes = ltb-true (length entries + 1) script.quantum (and_parts (not (is_yield order.command)) _ goes).1

    one_longer : length (entries ++ entry ∷ []) ≡ length entries + 1
    one_longer = length-append entries (entry ∷ [])

    pub after_line : (o : Option Close) → MatchOption o (goes_on script order.command (length entries) ≡ true) (λ close. (goes_on script order.command (length entries) ≡ false) × (close ≡ closed_by order.command))
        → AfterLine script t c first before start (entries ++ entry ∷ []) o task2 cpu2 bank2
    after_line None goes = (
      local_after p order.command,
      record {
        run = rw one_longer (more goes);
        few = rw one_longer (fewer goes);
        inside = inside;
        turning = rw one_longer (rw goes at turned);
      },
    )
    after_line (Some close) over = record {
      lines = rw over.1 (last over.0);
      turning = λ answer _. rw (over.1, past_closed t (entries ++ entry ∷ []) answer first order.command, last_task, handed_closed order.command (local_after p order.command)) (any_ran script t c first (past_with t (entries ++ entry ∷ []) first) before (not (goes_on script order.command (length entries))) (length entries + 1) (local_after p order.command) task2 cpu2 bank2 (ap not over.0) turned);
    }

-- ---- the line of a turn that runs

module _ {B : Type 0} (script : Script) (t c : ℕ) (first : List Event) (before : banks.Bank) (start : PrivateTask) (entries : List Entry) (p : PrivateTask) (task : Task) (cpu : Cpu B) (bank : banks.Bank) (are : AreRunning script t c first before start entries p task cpu bank) where
  pub block_known : ((past : List Event) → length (machine script past).blocks ≡ length script.blocks) → t < length script.blocks
  block_known count = turn_known script (past_with t entries first) t c (length entries) (count (past_with t entries first)) (are.turning.stage refl)

  module _ (task1 : Task) (cpu1 : Cpu B) (bank1 : banks.Bank) (user : Bool) (same : user ≡ is_user script t) (came : CameBack user task task1 cpu cpu1 bank bank1) where
    pub back_here : CameBack (is_user script t) task task1 cpu cpu1 bank bank1
    back_here = rw same at came

    pub name_here : task1.name ≡ t
    name_here = came.name ∙ are.turning.name

    pub place_here : task1.place ≡ p.place
    place_here = came.place ∙ place_on (is_user script t) script.layout task bank p are.turning.on

    pub layout_here : cpu1.layout ≡ script.layout
    layout_here = ap (λ (x : Cpu B). x.layout) came.cpu ∙ are.turning.layout

    pub on_here : IsOn user cpu1.layout task1 bank1 p
    on_here = rw (layout_here, sym are.turning.layout) (came.on p (rw (same, are.turning.layout) are.turning.on))

    pub outside_here : user ≡ false → p.handling ≡ false
    outside_here kernel = outside_on user cpu1.layout task1 bank1 p kernel on_here

    pub handles_here : p.handling ≡ true → task1.handling ≡ true
    handles_here inside = handles user task1.handling p.handling (inside_on user cpu1.layout task1 bank1 p on_here) inside

    stands_here : StandsAt user task1 p
    stands_here = record { inside = inside_on user cpu1.layout task1 bank1 p on_here; place = place_here }

    pub none_here : ((q : PrivateTask) → StandsAt user task1 q → line_of script task1.name q ≡ None) → line_of script t p ≡ None
    none_here none = rw name_here at (none p stands_here)

    pub line_here : (order : Order) → ((q : PrivateTask) → StandsAt user task1 q → line_of script task1.name q ≡ Some order) → line_of script t p ≡ Some order
    line_here order at = rw name_here at (at p stands_here)

    pub entry_here : (order : Order) (reply : Reply) (task2 : Task) (cpu2 : Cpu B) (bank2 : banks.Bank) → line_of script t p ≡ Some order → is_outer order.command ≡ false
        → RanLine user order.command reply task1 task2 cpu1 cpu2 bank1 bank2 → IsEntry script t p (record { line = order.number; reply = reply }) order
    entry_here order reply task2 cpu2 bank2 at inner done = record {
      at = at;
      inner = inner;
      free = done.free p on_here;
      whole = done.whole p on_here;
      line = refl;
      reply = done.reply_is p on_here;
    }

    -- how the turn closes at a line that didn't run
    pub halted_lines : (order : Order) (close : Close) (task2 : Task) (cpu2 : Cpu B) (bank2 : banks.Bank) → line_of script t p ≡ Some order → Halted user order.command close task1 task2 cpu1 cpu2 bank1 bank2
        → ((error : HeaderError) → IsRefusedReturn script t p error order → AreLines script t start 0 entries (Refused error)) → (IsTrapLine script t p order → AreLines script t start 0 entries Trap) → AreLines script t start 0 entries close
    halted_lines order (Refused error) task2 cpu2 bank2 at halted refused trap = refused error (record { at = at; why = halted.why p on_here })
    halted_lines order Trap task2 cpu2 bank2 at halted refused trap = trap (record { at = at; trap = halted.why p on_here })
    halted_lines order other task2 cpu2 bank2 at halted refused trap = absurd halted

  -- No line is left: no handler runs, as one that runs has a line left.
  pub handler_over : line_of script t p ≡ None → p.handling ≡ false
  handler_over none = elim (cases_Bool p.handling) [ inl inside ↦ absurd (are.inside inside none) | inr outside ↦ outside ]

pub if_longer : (entries : List Entry) (entry : Entry) (o : Option Close) → IfNone o (length (entries ++ entry ∷ []) ≡ length entries + 1)
if_longer entries entry None = length-append entries (entry ∷ [])
if_longer entries entry (Some close) = tt
