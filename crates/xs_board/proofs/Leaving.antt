-- What the event that closes a turn makes of each block, whom it makes ready, and what the whole turn leaves.
use Rattle.std.proofs.Common.{◌≡◌, ℕ, ◌+◌, Bool, true, false, List, [], ◌∷◌, ◌++◌, refl, sym, ap, ◌∙◌, subst}
use Rattle.std.specs.Prelude.{Option, Some, None, if◌then◌else◌, slice_get}
use Rattle.xs_base.specs.declared.header.HeaderError.{HeaderError}
use Rattle.xs_base.specs.declared.header.HeaderError.TheVariants as errors
use Rattle.xs_base.specs.Frame.{refused_file}
use Rattle.xs_base.specs.Task.{PrivateTask, parked}
use Rattle.xs_base.specs.Tile.{grown}
use Rattle.xs_model.specs.declared.script.Block.{Block}
use Rattle.xs_model.specs.declared.script.Command.{Command}
use Rattle.xs_model.specs.declared.script.Command.TheVariants.{Stop, Wait}
use Rattle.xs_model.specs.declared.script.Script.{Script}
use Rattle.xs_model.specs.declared.event.Event.{Event}
use Rattle.xs_model.specs.declared.event.Event.TheVariants as events
use Rattle.xs_model.specs.declared.event.Reply.{Reply}
use Rattle.xs_model.specs.declared.stage.Stage.{Stage}
use Rattle.xs_model.specs.declared.stage.Stage.TheVariants.{Ready, Stopped, Waiting}
use Rattle.xs_model.specs.declared.event.Why.{Why}
use Rattle.xs_model.specs.Due.{large_count, violation}
use Rattle.xs_model.specs.Effects.{reached, outer_risers, freed_by}
use Rattle.xs_model.specs.Laws.{KeepsBlock}
use Rattle.xs_model.specs.Line.{local_after, frame_cause, killed}
use Rattle.xs_model.specs.Machine.{machine, ran_line, ran_in, ended_with, goes_on, open_commit, IsStep, IsLegalPast}
use Rattle.xs_model.specs.Note.{Act, Section, Grows, Plain, is_count, is_section, last, last_after, set_act, set_target, task_of}
use Rattle.xs_model.specs.Outer.{freed, is_blocked, is_held, outer_own}
use Rattle.xs_model.specs.Ready.{one_if, ready_list}
use Rattle.xs_model.specs.Script.{IsValid, block_named, command_at}
use Rattle.xs_model.specs.State.{BlockState, turn_cpu, stage_of}
use Rattle.xs_board.specs.declared.turn.Close.{Close}
use Rattle.xs_board.specs.declared.turn.Close.TheVariants.{Quantum, Yield, Outer, Refused, Trap, End}
use Rattle.xs_board.specs.Laws.{Laws}
use Rattle.xs_board.specs.Putting.{ends}
use Rattle.xs_board.specs.Starts.{AreInOrder}
use Rattle.xs_board.specs.Turn.{Answer, close_command, trap_end, trap_signal}
use Rattle.xs_board.proofs.Turning.{Closes, IsLastLine, IsTurning}
use Rattle.xs_board.proofs.Tests.{if_false}

-- ---- by the close

-- what an outer line makes of block u beside its turn
abbrev pub reached_by : Script → List BlockState → ℕ → Option Command → Reply → ℕ → BlockState → BlockState
reached_by script blocks t None reply u block = block
reached_by script blocks t (Some command) reply u block = reached script blocks t command reply u block

-- what the close makes of another block
abbrev pub others_by : Script → List BlockState → ℕ → Close → Answer → ℕ → BlockState → BlockState
others_by script blocks t close answer u block = if ends close answer.fate then freed t block else reached_by script blocks t (close_command script t close) answer.reply u block

-- what a line that traps makes of its own
abbrev pub trapped_by : Option Why → PrivateTask → BlockState → BlockState
trapped_by None task block = record block { stage = Ready; task = parked (grown task) }
trapped_by (Some why) task block = ended_with task block

-- and the close of its own, which has this task before it
abbrev pub own_by : Script → List BlockState → ℕ → Close → Answer → PrivateTask → BlockState → BlockState
own_by script blocks t Quantum answer task block = record block { stage = Ready; task = parked task }
own_by script blocks t Yield answer task block = record block { stage = Ready; task = parked task }
own_by script blocks t (Outer line) answer task block = outer_own script (command_at script t line) answer.reply (reached_by script blocks t (command_at script t line) answer.reply t block)
own_by script blocks t (Refused error) answer task block = ended_with (record task { file = refused_file task }) block
own_by script blocks t Trap answer task block = trapped_by answer.fate task block
own_by script blocks t End answer task block = ended_with task block

-- whom it makes ready
abbrev pub line_risers : Script → List BlockState → ℕ → Option Command → Reply → List ℕ
line_risers script blocks t None reply = t ∷ []
line_risers script blocks t (Some command) reply = outer_risers script blocks t command reply

abbrev pub risers_by : Script → List BlockState → ℕ → Close → Answer → List ℕ
risers_by script blocks t close answer = if ends close answer.fate then freed_by blocks t else line_risers script blocks t (close_command script t close) answer.reply

-- the last processor of block u
abbrev pub trap_act : Option Why → Act
trap_act None = Grows
trap_act (Some why) = Plain

abbrev pub act_by : Script → ℕ → Close → Answer → Act
act_by script t Quantum answer = Plain
act_by script t Yield answer = Plain
act_by script t (Outer line) answer = set_act (set_target script (command_at script t line)) (is_count answer.reply)
act_by script t (Refused error) answer = Plain
act_by script t Trap answer = trap_act answer.fate
act_by script t End answer = Plain

abbrev pub last_by : Script → ℕ → Close → Answer → ℕ → Option ℕ → Option ℕ
last_by script t close answer u older = last_after t (act_by script t close answer) u older

-- how many living blocks have room for TILEDATA, where the block's task had it or not
abbrev pub CountsTrap : Option Why → Bool → ℕ → ℕ → Type 0
CountsTrap None large before after = after ≡ before + 1
CountsTrap (Some why) large before after = after + one_if large ≡ before

abbrev pub CountsLarge : Close → Option Why → Bool → ℕ → ℕ → Type 0
CountsLarge Quantum fate large before after = after ≡ before
CountsLarge Yield fate large before after = after ≡ before
CountsLarge (Outer line) fate large before after = after ≡ before
CountsLarge (Refused error) fate large before after = after + one_if large ≡ before
CountsLarge Trap fate large before after = CountsTrap fate large before after
CountsLarge End fate large before after = after + one_if large ≡ before

-- its turn is over
pub own_off : (script : Script) (blocks : List BlockState) (t : ℕ) (close : Close) (answer : Answer) (task : PrivateTask) (block : BlockState) → turn_cpu (own_by script blocks t close answer task block).stage ≡ None
own_off script blocks t Quantum answer task block = refl
own_off script blocks t Yield answer task block = refl
own_off script blocks t (Outer line) answer task block = by_command (command_at script t line) (reached_by script blocks t (command_at script t line) answer.reply t block)
  where
    held : (b : Bool) → turn_cpu (if b then Stopped else Ready) ≡ None
    held true = refl
    held false = refl

    waits : (b : Bool) (child : ℕ) → turn_cpu (if b then Waiting child else Ready) ≡ None
    waits true child = refl
    waits false child = refl

    by_command : (c : Option Command) (b : BlockState) → turn_cpu (outer_own script c answer.reply b).stage ≡ None
    by_command None b = refl
    by_command (Some Stop) b = held (is_held answer.reply)
    by_command (Some (Wait name)) b = waits (is_blocked answer.reply) (block_named script name)
    by_command (Some other) b = refl
own_off script blocks t (Refused error) answer task block = refl
own_off script blocks t Trap answer task block = by_fate answer.fate
  where
    by_fate : (fate : Option Why) → turn_cpu (trapped_by fate task block).stage ≡ None
    by_fate None = refl
    by_fate (Some why) = refl
own_off script blocks t End answer task block = refl

-- The event closed the turn of block t, which was in this state.
pub record HasClosed (script : Script) (past later : List Event) (t : ℕ) (close : Close) (answer : Answer) (task : PrivateTask) (block : BlockState) : Type 0 where
  pub legal : IsLegalPast script later
  pub order : AreInOrder script past → AreInOrder script later
  pub closed : (machine script later).committing ≡ None
  pub own : slice_get (machine script later).blocks t ≡ Some (own_by script (machine script past).blocks t close answer task block)
  pub others : (u : ℕ) (b : BlockState) → (u ≡ t → ⊥) → slice_get (machine script past).blocks u ≡ Some b → slice_get (machine script later).blocks u ≡ Some (others_by script (machine script past).blocks t close answer u b)
  pub ready : ready_list script later ≡ ready_list script past ++ risers_by script (machine script past).blocks t close answer
  pub last_is : (u : ℕ) → last script later u ≡ last_by script t close answer u (last script past u)
  pub keeps : (u : ℕ) → (u ≡ t → ⊥) → KeepsBlock script past later u
  pub large : CountsLarge close answer.fate block.task.large (large_count (machine script past).blocks) (large_count (machine script later).blocks)

-- ---- event by event

-- the task that a refused return leaves
refused_task : (error : HeaderError) (task : PrivateTask) → killed (frame_cause error) task ≡ record task { file = refused_file task }
refused_task errors.Features task = refl
refused_task errors.Compacted task = refl
refused_task errors.Reserved task = refl
refused_task errors.Mxcsr task = refl

module _ (laws : Laws) (script : Script) (valid : IsValid script) (t cpu : ℕ) (past : List Event) (ran : ℕ) (block : BlockState) (lines : Block) (turning : IsTurning script t cpu past ran block lines) where
  abbrev blocks : List BlockState
  blocks = (machine script past).blocks

  -- every other block keeps what it has
  others_keep : (event : Event) → task_of event ≡ t → IsStep (machine script past) event → (u : ℕ) → (u ≡ t → ⊥) → KeepsBlock script past (event ∷ past) u
  others_keep event own step u other = laws.others_keep script past event u valid (turning.legal, step) (λ (e : task_of event ≡ u). other (sym e ∙ own))

  -- ---- the last line

  module _ (line : ℕ) (said : Reply) (command : Command) (found : command_at script t line ≡ Some command) (off : goes_on script command ran ≡ false) (step : IsStep (machine script past) (events.Local t line said)) where
    abbrev local : Event
    local = events.Local t line said

    local_own : slice_get (machine script (local ∷ past)).blocks t ≡ Some (record block { stage = Ready; task = parked (local_after block.task command) })
    local_own =
        laws.ran script past t line said block turning.turn.state
        ∙ ap (λ (c : Option Command). Some (ran_line script c block)) found
        ∙ ap (λ (s : Stage). Some (ran_in script command s block)) turning.turn.stage
        ∙ ap Some (if_false (goes_on script command ran) _ _ off)

    local_last : (u : ℕ) → last script (local ∷ past) u ≡ last script past u
    local_last u = cases (is_section (command_at script t line))
      where
        cases : (b : Bool) → last_after t (if b then Section else Plain) u (last script past u) ≡ last script past u
        cases true = refl
        cases false = refl

    local_closed : (b : Bool) (answer : Answer) → HasClosed script past (local ∷ past) t (if b then Yield else Quantum) answer (local_after block.task command) block
    local_closed true answer = record {
      legal = (turning.legal, step);
      order = λ before. (before, tt);
      closed = ap (λ (b : Option BlockState). open_commit t (turn_cpu (stage_of b))) local_own;
      own = local_own;
      others = λ u b other at. laws.local_others script past t line u said (λ (e : t ≡ u). other (sym e)) ∙ at;
      ready = laws.local_rises script past t line cpu ran said block lines command turning.turn found off;
      last_is = local_last;
      keeps = others_keep local refl step;
      large = laws.large_stays script past local (turning.legal, step) refl;
    }
    local_closed false answer = record {
      legal = (turning.legal, step);
      order = λ before. (before, tt);
      closed = ap (λ (b : Option BlockState). open_commit t (turn_cpu (stage_of b))) local_own;
      own = local_own;
      others = λ u b other at. laws.local_others script past t line u said (λ (e : t ≡ u). other (sym e)) ∙ at;
      ready = laws.local_rises script past t line cpu ran said block lines command turning.turn found off;
      last_is = local_last;
      keeps = others_keep local refl step;
      large = laws.large_stays script past local (turning.legal, step) refl;
    }

  -- ---- an outer line

  outer_closed : (line : ℕ) (answer : Answer) (command : Command) (task : PrivateTask) → command_at script t line ≡ Some command → IsStep (machine script past) (events.Outer t line answer.reply)
      → HasClosed script past (events.Outer t line answer.reply ∷ past) t (Outer line) answer task block
  outer_closed line answer command task found step = record {
    legal = (turning.legal, step);
    order = λ before. (before, tt);
    closed = refl;
    own = laws.outer_own script past t line answer.reply command block found turning.turn.state
        ∙ ap (λ (c : Option Command). Some (outer_own script c answer.reply (reached_by script blocks t c answer.reply t block))) (sym found);
    others = λ u b other at. laws.outer_other script past t line u answer.reply command b found (λ (e : t ≡ u). other (sym e)) at
        ∙ ap (λ (c : Option Command). Some (reached_by script blocks t c answer.reply u b)) (sym found);
    ready = laws.outer_rises script past t line answer.reply command valid (turning.legal, step) found
        ∙ ap (λ (c : Option Command). ready_list script past ++ line_risers script blocks t c answer.reply) (sym found);
    last_is = λ u. refl;
    keeps = others_keep (events.Outer t line answer.reply) refl step;
    large = laws.large_stays script past (events.Outer t line answer.reply) (turning.legal, step) refl;
  }

  -- ---- the end, and a refused return

  end_closed : (answer : Answer) → IsStep (machine script past) (events.End t) → HasClosed script past (events.End t ∷ past) t End answer block.task block
  end_closed answer step = record {
    legal = (turning.legal, step);
    order = λ before. (before, tt);
    closed = refl;
    own = laws.ended script past t block turning.turn.state;
    others = λ u b other at. laws.end_others script past t u b (λ (e : t ≡ u). other (sym e)) at;
    ready = laws.end_rises script past t valid (turning.legal, step);
    last_is = λ u. refl;
    keeps = others_keep (events.End t) refl step;
    large = laws.large_ends script past t block (turning.legal, step) turning.turn.state;
  }

  kill_closed : (error : HeaderError) (answer : Answer) → IsStep (machine script past) (events.Kill t violation (frame_cause error)) → HasClosed script past (events.Kill t violation (frame_cause error) ∷ past) t (Refused error) answer block.task block
  kill_closed error answer step = record {
    legal = (turning.legal, step);
    order = λ before. (before, tt);
    closed = refl;
    own = laws.killed script past t violation (frame_cause error) block turning.turn.state ∙ ap (λ (task : PrivateTask). Some (ended_with task block)) (refused_task error block.task);
    others = λ u b other at. laws.kill_others script past t u violation (frame_cause error) b (λ (e : t ≡ u). other (sym e)) at;
    ready = laws.kill_rises script past t violation (frame_cause error) valid (turning.legal, step);
    last_is = λ u. refl;
    keeps = others_keep (events.Kill t violation (frame_cause error)) refl step;
    large = laws.large_killed script past t violation (frame_cause error) block (turning.legal, step) turning.turn.state;
  }

  -- ---- a line that traps

  trap_closed : (reply : Reply) (fate : Option Why) → ((why : Why) → fate ≡ Some why → killed why block.task ≡ block.task) → IsStep (machine script past) (trap_end t fate)
      → HasClosed script past (trap_end t fate ∷ past) t Trap (record { reply = reply; fate = fate }) block.task block
  trap_closed reply None stays step = record {
    legal = (turning.legal, step);
    order = λ before. (before, tt);
    closed = refl;
    own = laws.grew script past t block turning.turn.state;
    others = λ u b other at. laws.grow_others script past t u (λ (e : t ≡ u). other (sym e)) ∙ at;
    ready = laws.grow_rises script past t cpu ran block lines turning.turn;
    last_is = λ u. refl;
    keeps = others_keep (events.Grow t) refl step;
    large = laws.large_grows script past t (turning.legal, step);
  }
  trap_closed reply (Some why) stays step = record {
    legal = (turning.legal, step);
    order = λ before. (before, tt);
    closed = refl;
    own = laws.killed script past t (trap_signal why) why block turning.turn.state ∙ ap (λ (task : PrivateTask). Some (ended_with task block)) (stays why refl);
    others = λ u b other at. laws.kill_others script past t u (trap_signal why) why b (λ (e : t ≡ u). other (sym e)) at;
    ready = laws.kill_rises script past t (trap_signal why) why valid (turning.legal, step);
    last_is = λ u. refl;
    keeps = others_keep (events.Kill t (trap_signal why) why) refl step;
    large = laws.large_killed script past t (trap_signal why) why block (turning.legal, step) turning.turn.state;
  }

  -- ---- each of them

  -- the last line by its event
  last_closed : (b : Bool) (answer : Answer) (event : Event) (task : PrivateTask) → IsLastLine script t ran event block.task task → IsStep (machine script past) event → HasClosed script past (event ∷ past) t (if b then Yield else Quantum) answer task block
  last_closed b answer event task is step =
      subst (λ (e : Event). HasClosed script past (e ∷ past) t (if b then Yield else Quantum) answer task block) (sym is.event_is)
      (subst (λ (x : PrivateTask). HasClosed script past (events.Local t is.line is.reply ∷ past) t (if b then Yield else Quantum) answer x block) (sym is.task_is)
      (local_closed is.line is.reply is.command is.found is.off (subst (IsStep (machine script past)) is.event_is step) b answer))

  -- what the closing event makes of the blocks
  pub event_closed : (close : Close) (answer : Answer) (event : Event) (task : PrivateTask) → Closes script t ran lines answer event block.task task close → IsStep (machine script past) event → HasClosed script past (event ∷ past) t close answer task block
  event_closed Quantum answer event task closes step = last_closed false answer event task closes step
  event_closed Yield answer event task closes step = last_closed true answer event task closes step
  event_closed (Outer line) answer event task closes step =
      subst (λ (e : Event). HasClosed script past (e ∷ past) t (Outer line) answer task block) (sym closes.event_is)
      (outer_closed line answer closes.order.command task closes.found (subst (IsStep (machine script past)) closes.event_is step))
  event_closed (Refused error) answer event task closes step =
      subst (λ (e : Event). HasClosed script past (e ∷ past) t (Refused error) answer task block) (sym closes.0)
      (subst (λ (x : PrivateTask). HasClosed script past (events.Kill t violation (frame_cause error) ∷ past) t (Refused error) answer x block) (sym closes.1)
      (kill_closed error answer (subst (IsStep (machine script past)) closes.0 step)))
  event_closed Trap answer event task closes step =
      subst (λ (e : Event). HasClosed script past (e ∷ past) t Trap answer task block) (sym closes.event_is)
      (subst (λ (x : PrivateTask). HasClosed script past (trap_end t answer.fate ∷ past) t Trap answer x block) (sym closes.task_is)
      (trap_closed answer.reply answer.fate closes.stays (subst (IsStep (machine script past)) closes.event_is step)))
  event_closed End answer event task closes step =
      subst (λ (e : Event). HasClosed script past (e ∷ past) t End answer task block) (sym closes.0)
      (subst (λ (x : PrivateTask). HasClosed script past (events.End t ∷ past) t End answer x block) (sym closes.1)
      (end_closed answer (subst (IsStep (machine script past)) closes.0 step)))
