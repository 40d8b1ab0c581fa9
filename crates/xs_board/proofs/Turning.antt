-- The lines of a turn, one after another, up to the event that closes it.
use Rattle.std.proofs.Common.{◌≡◌, ℕ, suc, ◌+◌, ◌<◌, Bool, true, false, not, List, [], ◌∷◌, map, refl, sym, ap, ◌∙◌, subst, arith, inl, inr, eq-eqb}
use Rattle.std.proofs.lemmas.Bool.{and_parts, cases_Bool, cases_eq, ltb-true}
use Rattle.std.proofs.lemmas.Option.{same_Some}
use Rattle.std.specs.Prelude.{Option, Some, None, if◌then◌else◌, slice_get, nat_lt}
use Rattle.xs_base.specs.declared.header.HeaderError.{HeaderError}
use Rattle.xs_base.specs.Task.{PrivateTask}
use Rattle.xs_model.specs.declared.script.Block.{Block}
use Rattle.xs_model.specs.declared.script.Command.{Command}
use Rattle.xs_model.specs.declared.script.Order.{Order}
use Rattle.xs_model.specs.declared.script.Script.{Script}
use Rattle.xs_model.specs.declared.event.Event.{Event}
use Rattle.xs_model.specs.declared.event.Event.TheVariants as events
use Rattle.xs_model.specs.declared.event.Reply.{Reply}
use Rattle.xs_model.specs.declared.stage.Stage.{Stage}
use Rattle.xs_model.specs.declared.stage.Stage.TheVariants.{Turn}
use Rattle.xs_model.specs.Script.{IsValid, command_at, is_outer, is_yield}
use Rattle.xs_model.specs.Laws.{IsInTurn}
use Rattle.xs_model.specs.Line.{line_at, local_after, frame_cause, killed, traps}
use Rattle.xs_model.specs.Note.{Section, Plain, is_section, last, last_after}
use Rattle.xs_model.specs.State.{BlockState, turn_cpu, stage_of}
use Rattle.xs_model.specs.declared.event.Why.{Why}
use Rattle.xs_model.specs.declared.event.Why.TheVariants.{Permission, Area}
use Rattle.xs_model.specs.Due.{due, illegal, large_count, trap_event, violation}
use Rattle.xs_model.specs.Machine.{machine, goes_on, ran_line, ran_in, may_act, open_commit, IsStep, IsLegalPast}
use Rattle.xs_model.specs.Ready.{ready_list}
use Rattle.xs_model.specs.Replay.{finish, told}
use Rattle.xs_board.specs.declared.turn.Entry.{Entry}
use Rattle.xs_board.specs.declared.turn.Close.{Close}
use Rattle.xs_board.specs.declared.turn.Close.TheVariants.{Quantum, Yield, Outer, Refused, Trap, End}
use Rattle.xs_board.specs.Laws.{Laws}
use Rattle.xs_board.specs.Member.{life_of, member_of}
use Rattle.xs_board.specs.Starts.{AreInOrder}
use Rattle.xs_board.specs.Turn.{IsEntry, AreAfter, AreLines, Answer, IsOuterLine, IsRefusedReturn, IsTrapLine, after_line, close_reply, closed_by, entry_event, line_answer, line_in, line_of, task_after, trap_end, trap_fate, turn_events}
use Rattle.xs_board.proofs.Events.{onto}
use Rattle.xs_board.proofs.Tests.{if_true}

-- the past after a turn
abbrev pub past_closed : ℕ → List Entry → Close → Answer → List Event → List Event
past_closed t entries close answer past = onto (turn_events t entries close answer) past

-- the past after its entries
abbrev pub past_ran : ℕ → List Entry → List Event → List Event
past_ran t entries past = onto (map (entry_event t) entries) past

-- ---- lines with which the turn goes on

-- The block is in a turn in which so many lines ran.
pub record IsTurning (script : Script) (t cpu : ℕ) (past : List Event) (ran : ℕ) (block : BlockState) (lines : Block) : Type 0 where
  pub turn : IsInTurn script past t cpu ran block lines
  pub within : ran < script.quantum
  pub acts : may_act (machine script past).committing t ≡ true
  pub legal : IsLegalPast script past

-- From one past to a later one block t stays in its turn, and nothing else has changed.
pub record HasGone (script : Script) (past later : List Event) (t : ℕ) : Type 0 where
  pub others : (u : ℕ) → (u ≡ t → ⊥) → slice_get (machine script later).blocks u ≡ slice_get (machine script past).blocks u
  pub members : (u : ℕ) → member_of (slice_get (machine script later).blocks u) ≡ member_of (slice_get (machine script past).blocks u)
  pub ready : ready_list script later ≡ ready_list script past
  pub last_is : (u : ℕ) → last script later u ≡ last script past u
  pub order : AreInOrder script past → AreInOrder script later
  pub large : large_count (machine script later).blocks ≡ large_count (machine script past).blocks

-- no line
not_gone : (script : Script) (past : List Event) (t : ℕ) → HasGone script past past t
not_gone script past t = record { others = λ u other. refl; members = λ u. refl; ready = refl; last_is = λ u. refl; order = λ before. before; large = refl }

-- more lines
gone_on : (script : Script) (past mid later : List Event) (t : ℕ) → HasGone script past mid t → HasGone script mid later t → HasGone script past later t
gone_on script past mid later t first second = record {
  others = λ u other. second.others u other ∙ first.others u other;
  members = λ u. second.members u ∙ first.members u;
  ready = second.ready ∙ first.ready;
  last_is = λ u. second.last_is u ∙ first.last_is u;
  order = λ before. second.order (first.order before);
  large = second.large ∙ first.large;
}

-- no line of a replay
told_so_far : (script : Script) (t : ℕ) (past : List Event) (n most : ℕ) → most ≡ n + 0 → finish script most t past ≡ finish script n t past
told_so_far script t past n most is = let same : most ≡ n = omega (arith, is) in ap (λ (k : ℕ). finish script k t past) same

-- ---- the event that closes the turn

-- It is that of a line after which the turn doesn't go on.
pub record IsLastLine (script : Script) (t ran : ℕ) (event : Event) (before after : PrivateTask) : Type 0 where
  pub line : ℕ
  pub reply : Reply
  pub command : Command
  pub event_is : event ≡ events.Local t line reply
  pub found : command_at script t line ≡ Some command
  pub off : goes_on script command ran ≡ false
  pub task_is : after ≡ local_after before command

-- It is that of an outer line.
pub record IsOuterEnd (script : Script) (t line : ℕ) (lines : Block) (reply : Reply) (event : Event) (before after : PrivateTask) : Type 0 where
  pub order : Order
  pub at : line_at lines before ≡ Some order
  pub outer : is_outer order.command ≡ true
  pub found : command_at script t line ≡ Some order.command
  pub event_is : event ≡ events.Outer t line reply
  pub task_is : after ≡ before

-- It is that of a line that traps.
pub record IsTrapEnd (script : Script) (t : ℕ) (lines : Block) (fate : Option Why) (event : Event) (before after : PrivateTask) : Type 0 where
  pub order : Order
  pub at : line_at lines before ≡ Some order
  pub trap : traps before order.command ≡ true
  pub event_is : event ≡ trap_end t fate
  pub task_is : after ≡ before
  pub stays : (why : Why) → fate ≡ Some why → killed why before ≡ before

abbrev pub Closes : Script → ℕ → ℕ → Block → Answer → Event → PrivateTask → PrivateTask → Close → Type 0
Closes script t ran lines answer event before after Quantum = IsLastLine script t ran event before after
Closes script t ran lines answer event before after Yield = IsLastLine script t ran event before after
Closes script t ran lines answer event before after (Outer line) = IsOuterEnd script t line lines answer.reply event before after
Closes script t ran lines answer event before after (Refused error) = (event ≡ events.Kill t violation (frame_cause error)) × (after ≡ before)
Closes script t ran lines answer event before after Trap = IsTrapEnd script t lines answer.fate event before after
Closes script t ran lines answer event before after End = (event ≡ events.End t) × (after ≡ before)

-- what holds of a close that no line of the block itself makes
abbrev pub IfOpen : Close → Type 0 → Type 0
IfOpen Quantum Holds = Unit {0}
IfOpen Yield Holds = Unit {0}
IfOpen (Outer line) Holds = Holds
IfOpen (Refused error) Holds = Holds
IfOpen Trap Holds = Holds
IfOpen End Holds = Holds

-- The lines of a turn in which so many ran led to its closing event, by which the block has this task; the replay tells them.
pub record HasCome (script : Script) (past : List Event) (t cpu start : ℕ) (entries : List Entry) (close : Close) (answer : Answer) (task : PrivateTask) (later : List Event) : Type 0 where
  pub mid : List Event
  pub block : BlockState
  pub ran : ℕ
  pub lines : Block
  pub event : Event
  pub turning : IsTurning script t cpu mid ran block lines
  pub gone : HasGone script past mid t
  pub step : IsStep (machine script mid) event
  pub later_is : later ≡ event ∷ mid
  pub closes : Closes script t ran lines answer event block.task task close
  pub mid_is : IfOpen close (mid ≡ past_ran t entries past)
  pub steps : ℕ
  pub ran_is : ran ≡ start + steps
  pub follow : (n most : ℕ) → most ≡ n + steps → finish script most t past ≡ finish script n t mid

-- ---- one line

module _ (laws : Laws) (script : Script) (valid : IsValid script) (t cpu : ℕ) where
  module _ (past : List Event) (ran : ℕ) (block : BlockState) (lines : Block) (turning : IsTurning script t cpu past ran block lines) (entry : Entry) (order : Order) (is : IsEntry script t block.task entry order) where
    -- its event
    abbrev line_event : Event
    line_event = entry_event t entry

    -- the line of the block
    line_is : line_at lines block.task ≡ Some order
    line_is = sym (ap (λ (l : Option Block). line_in l block.task) turning.turn.lines_are) ∙ is.at

    -- it is found by its number
    line_found : command_at script t entry.line ≡ Some order.command
    line_found = ap (command_at script t) is.line ∙ laws.found script t lines block.task order valid turning.turn.lines_are line_is

    -- it is a step
    line_step : IsStep (machine script past) line_event
    line_step =
        subst (λ (n : ℕ). IsStep (machine script past) (events.Local t n entry.reply)) (sym is.line)
        (subst (λ (r : Reply). IsStep (machine script past) (events.Local t order.number r)) (sym is.reply)
        (laws.local_is script past t cpu ran block lines order turning.acts turning.turn turning.within line_is is.inner is.free is.whole))

    -- it leaves the last processors
    line_last : (u : ℕ) → last script (line_event ∷ past) u ≡ last script past u
    line_last u = cases (is_section (command_at script t entry.line))
      where
        cases : (b : Bool) → last_after t (if b then Section else Plain) u (last script past u) ≡ last script past u
        cases true = refl
        cases false = refl

    abbrev went_on : BlockState
    went_on = record block { stage = Turn cpu (ran + 1); task = local_after block.task order.command }

    module _ (on : goes_on script order.command ran ≡ true) where
      on_block : slice_get (machine script (line_event ∷ past)).blocks t ≡ Some went_on
      on_block =
          laws.ran script past t entry.line entry.reply block turning.turn.state
          ∙ ap (λ (c : Option Command). Some (ran_line script c block)) line_found
          ∙ ap (λ (s : Stage). Some (ran_in script order.command s block)) turning.turn.stage
          ∙ ap Some (if_true (goes_on script order.command ran) _ _ on)

      -- nothing else changes
      on_gone : HasGone script past (line_event ∷ past) t
      on_gone = record {
        others = line_others;
        members = λ u. elim (cases_eq u t) [
          | inl same ↦
              ap (λ (v : ℕ). member_of (slice_get (machine script (line_event ∷ past)).blocks v)) same
              ∙ ap member_of on_block
              ∙ sym (ap (λ (v : ℕ). member_of (slice_get (machine script past).blocks v)) same ∙ ap member_of turning.turn.state ∙ ap (λ (s : Stage). record { life = life_of s; parent = block.parent; pending = block.pending }) turning.turn.stage)
          | inr other ↦ ap member_of (line_others u other)
        ];
        ready = laws.local_keeps script past t entry.line cpu ran entry.reply block lines order.command turning.turn line_found on;
        last_is = line_last;
        order = λ before. (before, tt);
        large = laws.large_stays script past line_event (turning.legal, line_step) refl;
      }
        where
          line_others : (u : ℕ) → (u ≡ t → ⊥) → slice_get (machine script (line_event ∷ past)).blocks u ≡ slice_get (machine script past).blocks u
          line_others u other = laws.local_others script past t entry.line u entry.reply (λ (e : t ≡ u). other (sym e))

      on_turning : IsTurning script t cpu (line_event ∷ past) (ran + 1) went_on lines
      on_turning = record {
        turn = record { state = on_block; lines_are = turning.turn.lines_are; stage = refl };
        within = ltb-true (ran + 1) script.quantum (and_parts (not (is_yield order.command)) (nat_lt (ran + 1) script.quantum) on).1;
        acts = ap (λ (b : Option BlockState). may_act (open_commit t (turn_cpu (stage_of b))) t) on_block ∙ eq-eqb t t refl;
        legal = (turning.legal, line_step);
      }

    -- it was the last line
    over_come : goes_on script order.command ran ≡ false → (answer : Answer) → HasCome script past t cpu ran (entry ∷ []) (closed_by order.command) answer (local_after block.task order.command) (past_closed t (entry ∷ []) (closed_by order.command) answer past)
    over_come off answer = by_yield (is_yield order.command)
      where
        last_line : IsLastLine script t ran line_event block.task (local_after block.task order.command)
        last_line = record { line = entry.line; reply = entry.reply; command = order.command; event_is = refl; found = line_found; off = off; task_is = refl }

        by_yield : (b : Bool) → HasCome script past t cpu ran (entry ∷ []) (if b then Yield else Quantum) answer (local_after block.task order.command) (past_closed t (entry ∷ []) (if b then Yield else Quantum) answer past)
        by_yield true = record { mid = past; block = block; ran = ran; lines = lines; event = line_event; turning = turning; gone = not_gone script past t; step = line_step; later_is = refl; closes = last_line; mid_is = tt; steps = 0; ran_is = omega arith; follow = told_so_far script t past }
        by_yield false = record { mid = past; block = block; ran = ran; lines = lines; event = line_event; turning = turning; gone = not_gone script past t; step = line_step; later_is = refl; closes = last_line; mid_is = tt; steps = 0; ran_is = omega arith; follow = told_so_far script t past }

  -- ---- the closes that have an event of their own

  -- the event of a line that traps, by its cause
  trap_told : (t : ℕ) (permitted free : Bool) → (if not permitted then events.Kill t illegal Permission else if free then events.Grow t else events.Kill t violation Area) ≡ trap_end t (if not permitted then Some Permission else if free then None else Some Area)
  trap_told t true true = refl
  trap_told t true false = refl
  trap_told t false free = refl

  -- a task that is killed at such a line is left as it is
  trap_kills : (task : PrivateTask) (permitted free : Bool) (why : Why) → (if not permitted then Some Permission else if free then None else Some Area) ≡ Some why → killed why task ≡ task
  trap_kills task true true why is = absurd (cc is)
  trap_kills task true false why is = ap (λ (w : Why). killed w task) (sym (same_Some Area why is))
  trap_kills task false free why is = ap (λ (w : Why). killed w task) (sym (same_Some Permission why is))

  module _ (past : List Event) (ran : ℕ) (block : BlockState) (lines : Block) (turning : IsTurning script t cpu past ran block lines) where
    outer_come : (line : ℕ) (order : Order) → IsOuterLine script t block.task line order → (answer : Answer) → answer.reply ≡ close_reply script (machine script past).blocks t (Outer line)
        → HasCome script past t cpu ran [] (Outer line) answer block.task (past_closed t [] (Outer line) answer past)
    outer_come line order is answer reply_is =
        let at : line_at lines block.task ≡ Some order = sym (ap (λ (l : Option Block). line_in l block.task) turning.turn.lines_are) ∙ is.at in
        let found : command_at script t line ≡ Some order.command = sym (ap (command_at script t) is.number) ∙ laws.found script t lines block.task order valid turning.turn.lines_are at in
        let step = laws.outer_is script past t cpu ran block lines order turning.acts turning.turn at is.outer in
        record {
          mid = past;
          block = block;
          ran = ran;
          lines = lines;
          event = events.Outer t line answer.reply;
          turning = turning;
          gone = not_gone script past t;
          step = subst (λ (n : ℕ). IsStep (machine script past) (events.Outer t n answer.reply)) is.number
              (subst (λ (r : Reply). IsStep (machine script past) (events.Outer t order.number r)) (sym (reply_is ∙ ap (line_answer script (machine script past).blocks t) found)) step);
          later_is = refl;
          closes = record { order = order; at = at; outer = is.outer; found = found; event_is = refl; task_is = refl };
          mid_is = refl;
          steps = 0;
          ran_is = omega arith;
          follow = told_so_far script t past;
        }

    refused_come : (error : HeaderError) (order : Order) → IsRefusedReturn script t block.task error order → (answer : Answer) → HasCome script past t cpu ran [] (Refused error) answer block.task (past_closed t [] (Refused error) answer past)
    refused_come error order is answer = record {
      mid = past;
      block = block;
      ran = ran;
      lines = lines;
      event = events.Kill t violation (frame_cause error);
      turning = turning;
      gone = not_gone script past t;
      step = laws.refused_is script past t cpu ran block lines order (frame_cause error) turning.acts turning.turn (sym (ap (λ (l : Option Block). line_in l block.task) turning.turn.lines_are) ∙ is.at) is.why;
      later_is = refl;
      closes = (refl, refl);
      mid_is = refl;
      steps = 0;
      ran_is = omega arith;
      follow = told_so_far script t past;
    }

    trap_come : (order : Order) → IsTrapLine script t block.task order → (answer : Answer) → answer.fate ≡ trap_fate script (machine script past).blocks block.task → HasCome script past t cpu ran [] Trap answer block.task (past_closed t [] Trap answer past)
    trap_come order is answer fate_is =
        let m = machine script past in
        let at : line_at lines block.task ≡ Some order = sym (ap (λ (l : Option Block). line_in l block.task) turning.turn.lines_are) ∙ is.at in
        let told : trap_event m t block.task ≡ trap_end t answer.fate =
        trap_told t block.task.permitted (nat_lt (large_count m.blocks) m.script.large)
        ∙ ap (λ (s : Script). trap_end t (trap_fate s m.blocks block.task)) (laws.machine script past).0
        ∙ ap (trap_end t) (sym fate_is) in
        record {
          mid = past;
          block = block;
          ran = ran;
          lines = lines;
          event = trap_end t answer.fate;
          turning = turning;
          gone = not_gone script past t;
          step = subst (IsStep m) told (laws.trap_is script past t cpu ran block lines order turning.acts turning.turn at is.trap);
          later_is = refl;
          closes = record { order = order; at = at; trap = is.trap; event_is = refl; task_is = refl; stays = λ why cause. trap_kills block.task block.task.permitted (nat_lt (large_count m.blocks) script.large) why (sym fate_is ∙ cause) };
          mid_is = refl;
          steps = 0;
          ran_is = omega arith;
          follow = told_so_far script t past;
        }

    end_come : line_of script t block.task ≡ None → block.task.handling ≡ false → (answer : Answer) → HasCome script past t cpu ran [] End answer block.task (past_closed t [] End answer past)
    end_come none outside answer = record {
      mid = past;
      block = block;
      ran = ran;
      lines = lines;
      event = events.End t;
      turning = turning;
      gone = not_gone script past t;
      step = laws.end_is script past t cpu ran block lines turning.acts turning.turn turning.within (sym (ap (λ (l : Option Block). line_in l block.task) turning.turn.lines_are) ∙ none) outside;
      later_is = refl;
      closes = (refl, refl);
      mid_is = refl;
      steps = 0;
      ran_is = omega arith;
      follow = told_so_far script t past;
    }

  -- ---- the whole turn

  -- the lines after one with which the turn goes on
  goes : (b : Bool) (command : Command) (entries : List Entry) (close : Close) (Lines : Type 0) → b ≡ true → AreAfter b command entries close Lines → Lines
  goes true command entries close Lines on after = after
  goes false command entries close Lines on after = absurd (cc on)

  -- no line after the last
  stops : (b : Bool) (command : Command) (entries : List Entry) (close : Close) (Lines : Type 0) → b ≡ false → AreAfter b command entries close Lines → (entries ≡ []) × (close ≡ closed_by command)
  stops true command entries close Lines off after = absurd (cc off)
  stops false command entries close Lines off after = after

  -- a line more before the rest
  more_come : (past : List Event) (ran : ℕ) (entry : Entry) (entries : List Entry) (close : Close) (answer : Answer) (task : PrivateTask) → HasGone script past (entry_event t entry ∷ past) t → due (machine script past) t ≡ Some (entry_event t entry)
      → HasCome script (entry_event t entry ∷ past) t cpu (ran + 1) entries close answer task (past_closed t entries close answer (entry_event t entry ∷ past))
      → HasCome script past t cpu ran (entry ∷ entries) close answer task (past_closed t (entry ∷ entries) close answer past)
  more_come past ran entry entries close answer task first is_due rest = record {
    mid = rest.mid;
    block = rest.block;
    ran = rest.ran;
    lines = rest.lines;
    event = rest.event;
    turning = rest.turning;
    gone = gone_on script past (entry_event t entry ∷ past) rest.mid t first rest.gone;
    step = rest.step;
    later_is = rest.later_is;
    closes = rest.closes;
    mid_is = rest.mid_is;
    steps = suc rest.steps;
    ran_is = let is = rest.ran_is in omega (arith, is);
    follow = λ n most is.
        let one_less : most ≡ suc (n + rest.steps) = omega (arith, is) in
        ap (λ (k : ℕ). finish script k t past) one_less ∙ ap (λ (d : Option Event). finish script (n + rest.steps) t (told d past)) is_due ∙ rest.follow n (n + rest.steps) refl;
  }

  -- The lines of a turn lead to its close.
  pub turn_comes : (entries : List Entry) (close : Close) (answer : Answer) (past : List Event) (ran : ℕ) (block : BlockState) (lines : Block) → IsTurning script t cpu past ran block lines → AreLines script t block.task ran entries close
      → answer.reply ≡ close_reply script (machine script (past_ran t entries past)).blocks t close → answer.fate ≡ trap_fate script (machine script (past_ran t entries past)).blocks (task_after script t block.task entries)
      → HasCome script past t cpu ran entries close answer (task_after script t block.task entries) (past_closed t entries close answer past)
  turn_comes [] Quantum answer past ran block lines turning are reply_is fate_is = absurd are
  turn_comes [] Yield answer past ran block lines turning are reply_is fate_is = absurd are
  turn_comes [] (Outer line) answer past ran block lines turning are reply_is fate_is = outer_come past ran block lines turning line are.0 are.1 answer reply_is
  turn_comes [] (Refused error) answer past ran block lines turning are reply_is fate_is = refused_come past ran block lines turning error are.0 are.1 answer
  turn_comes [] Trap answer past ran block lines turning are reply_is fate_is = trap_come past ran block lines turning are.0 are.1 answer fate_is
  turn_comes [] End answer past ran block lines turning are reply_is fate_is = end_come past ran block lines turning are.0 are.1 answer
  turn_comes (entry ∷ entries) close answer past ran block lines turning are reply_is fate_is =
      let order = are.0 in
      let is = are.1 in
      let now = local_after block.task order.command in
      let Rest = AreLines script t now (ran + 1) entries close in
      let same : now ≡ after_line block.task (line_of script t block.task) = sym (ap (after_line block.task) is.at) in
      subst (λ (x : PrivateTask). HasCome script past t cpu ran (entry ∷ entries) close answer (task_after script t x entries) (past_closed t (entry ∷ entries) close answer past)) same
      (elim (cases_Bool (goes_on script order.command ran)) [
        | inl on ↦ more_come past ran entry entries close answer (task_after script t now entries) (on_gone past ran block lines turning entry order is on) (line_step past ran block lines turning entry order is).is_due
            (turn_comes entries close answer (entry_event t entry ∷ past) (ran + 1) (went_on past ran block lines turning entry order is) lines (on_turning past ran block lines turning entry order is on) (goes (goes_on script order.command ran) order.command entries close Rest on are.2) reply_is
            (fate_is ∙ ap (λ (x : PrivateTask). trap_fate script (machine script (past_ran t (entry ∷ entries) past)).blocks (task_after script t x entries)) (sym same)))
        | inr off ↦
            let none = stops (goes_on script order.command ran) order.command entries close Rest off are.2 in
            subst (λ (es : List Entry). HasCome script past t cpu ran (entry ∷ es) close answer (task_after script t now es) (past_closed t (entry ∷ es) close answer past)) (sym none.0)
            (subst (λ (c : Close). HasCome script past t cpu ran (entry ∷ []) c answer now (past_closed t (entry ∷ []) c answer past)) (sym none.1)
            (over_come past ran block lines turning entry order is off answer))
      ])
