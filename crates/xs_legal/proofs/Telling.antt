-- What the laws of the machine tell of a step.
use Rattle.std.proofs.Common.{◌≡◌, ℕ, ◌<◌, ◌≤◌, Bool, true, false, List, length, take, Some, None, if◌then◌else◌, slice_get, refl, sym, ap, ◌∙◌, subst, arith}
use Rattle.std.proofs.lemmas.Option.{same_Some, slice_get_within}
use Rattle.std.specs.List.{AllByRecursion}
use Rattle.std.specs.Prelude.{Option}
use Rattle.xs_base.specs.declared.words.Set.{Set}
use Rattle.xs_base.specs.RegisterSet.{set_errno, set_result}
use Rattle.xs_base.specs.declared.words.Errno.{Errno}
use Rattle.xs_base.specs.Task.{IsPrivateTask, PrivateTask, buffer_length}
use Rattle.xs_model.specs.declared.event.Event.{Event}
use Rattle.xs_model.specs.declared.event.Event.TheVariants as events
use Rattle.xs_model.specs.declared.event.Reply.{Reply}
use Rattle.xs_model.specs.declared.script.Command.{Command}
use Rattle.xs_model.specs.declared.script.Command.TheVariants as commands
use Rattle.xs_model.specs.declared.script.Order.{Order}
use Rattle.xs_model.specs.declared.script.Script.{Script}
use Rattle.xs_model.specs.declared.stage.Stage.TheVariants.{Turn}
use Rattle.xs_model.specs.Due.{block_start, due, start_due}
use Rattle.xs_model.specs.Laws.{ForkBears, LinesFound, MachineKnown, NamedUser, TasksValid}
use Rattle.xs_model.specs.Line.{count_or_error, line_at}
use Rattle.xs_model.specs.Machine.{foreseen, machine}
use Rattle.xs_model.specs.Names.{named_block}
use Rattle.xs_model.specs.Note.{is_count, task_of}
use Rattle.xs_model.specs.Outer.{buffer_of, child_reply, get_reply, outer_reply, put_reply}
use Rattle.xs_model.specs.Script.{IsCommand, block_named, command_at}
use Rattle.xs_model.specs.State.{BlockState, Machine, is_stopped}
use Rattle.xs_legal.specs.declared.giving.Gift.TheVariants as gifts
use Rattle.xs_legal.specs.Gift.{ArePair}
use Rattle.xs_legal.specs.Step.{CanReach, IsAtLine, IsNext, LocalTold, OuterTold, StepValid, StepWithin}
use Rattle.xs_legal.proofs.Lines.{command_known, each_of, place_small}
use Rattle.xs_legal.proofs.Turning.{IsInPlace, due_in_place, local_at, outer_at}

-- ---- a child that is stopped

pub record IsStoppedThere (f : PrivateTask → Reply) (there : Option BlockState) : Type 0 where
  pub child : BlockState
  pub here : there ≡ Some child
  pub stopped : is_stopped child.stage ≡ true
  pub count : is_count (f child.task) ≡ true

stopped_there : (f : PrivateTask → Reply) (there : Option BlockState) → is_count (child_reply f there) ≡ true → IsStoppedThere f there
stopped_there f None count = absurd (cc count)
stopped_there f (Some child) count = by_stage (is_stopped child.stage) refl count
  where
    by_stage : (b : Bool) → is_stopped child.stage ≡ b → is_count (if b then f child.task else child_reply f None) ≡ true → IsStoppedThere f (Some child)
    by_stage true stopped count = record { child = child; here = refl; stopped = stopped; count = count }
    by_stage false stopped count = absurd (cc count)

-- a set that is counted isn't refused
not_refused : (count : ℕ) (error : Option Errno) → is_count (count_or_error count error) ≡ true → error ≡ None
not_refused count None is = refl
not_refused count (Some error) is = absurd (cc is)

-- a block in a turn isn't the one that is stopped
apart_stopped : (blocks : List BlockState) (t u cpu ran : ℕ) (block child : BlockState) → slice_get blocks t ≡ Some block → block.stage ≡ Turn cpu ran → slice_get blocks u ≡ Some child → is_stopped child.stage ≡ true → t ≡ u → ⊥
apart_stopped blocks t u cpu ran block child here stage there stopped same =
    let one : block ≡ child = same_Some block child (sym here ∙ ap (slice_get blocks) same ∙ there) in
    let clash : true ≡ false = sym stopped ∙ ap (λ (b : BlockState). is_stopped b.stage) (sym one) ∙ ap is_stopped stage in
    cc

-- ---- the block of a step

start_within : (m : Machine) (t cpu : ℕ) (event : Event) → start_due m t cpu ≡ Some event → t < length m.blocks
start_within m t cpu event is = by_block (slice_get m.blocks t) refl is
  where
    by_block : (there : Option BlockState) → slice_get m.blocks t ≡ there → block_start m t cpu there ≡ Some event → t < length m.blocks
    by_block None at is = absurd (cc is)
    by_block (Some block) at is = slice_get_within m.blocks t block at

due_within : (m : Machine) (t : ℕ) (event : Event) → due m t ≡ Some event → t < length m.blocks
due_within m t event is = let place = due_in_place m t event is in slice_get_within m.blocks t place.block place.state

foreseen_within : (m : Machine) (event told : Event) → foreseen m event ≡ Some told → task_of event < length m.blocks
foreseen_within m (events.Start t cpu how signal) told is = start_within m t cpu told is
foreseen_within m (events.Local t line reply) told is = due_within m t told is
foreseen_within m (events.Outer t line reply) told is = due_within m t told is
foreseen_within m (events.Grow t) told is = due_within m t told is
foreseen_within m (events.Kill t signo why) told is = due_within m t told is
foreseen_within m (events.End t) told is = due_within m t told is

pub step_within : StepWithin
step_within script blocks event next = subst (λ (bs : List BlockState). task_of event < length bs) (sym next.blocks_are) (foreseen_within (machine script next.past) event event next.step.is_due)

module _ (found : LinesFound) (machines : MachineKnown) (tasks : TasksValid) (named : NamedUser) (bears : ForkBears) where
  pub step_valid : StepValid
  step_valid script blocks event next = subst (AllByRecursion (λ (block : BlockState). IsPrivateTask script.layout block.task)) (sym next.blocks_are) (tasks script next.past next.valid next.legal).tasks

  module _ (script : Script) (blocks : List BlockState) (event : Event) (next : IsNext script blocks event) (t : ℕ) where
    abbrev m : Machine
    m = machine script next.past

    script_is : m.script ≡ script
    script_is = (machines script next.past).0

    valid_at : (u : ℕ) (block : BlockState) → slice_get blocks u ≡ Some block → IsPrivateTask script.layout block.task
    valid_at u block at = each_of (λ (b : BlockState). IsPrivateTask script.layout b.task) blocks u block (step_valid script blocks event next) at

    -- the line at its place
    module _ (place : IsInPlace m t event) (line : ℕ) (order : Order) (at : line_at place.lines place.block.task ≡ Some order) (number : order.number ≡ line) where
      lines_known : slice_get script.blocks t ≡ Some place.lines
      lines_known = ap (λ (s : Script). slice_get s.blocks t) (sym script_is) ∙ place.lines_are

      state_known : slice_get blocks t ≡ Some place.block
      state_known = ap (λ (bs : List BlockState). slice_get bs t) next.blocks_are ∙ place.state

      pub at_line : IsAtLine script blocks t line
      at_line = record {
        block = place.block;
        lines = place.lines;
        order = order;
        cpu = place.cpu;
        ran = place.ran;
        state = state_known;
        lines_are = lines_known;
        stage = place.stage;
        at = at;
        number = number;
        command = ap (command_at script t) (sym number) ∙ found script t place.lines place.block.task order next.valid lines_known at;
        known = command_known script next.valid t place.lines place.block.task order lines_known at;
        valid = valid_at t place.block state_known;
        place = place_small script next.valid t place.lines place.block.task order lines_known at;
      }

      -- the block that a command names is there
      named_within : (name : List ℕ) → named_block order.command ≡ Some name → block_named script name < length blocks
      named_within name is =
          let low = (named script t place.lines place.block.task order name next.valid lines_known at is).0 in
          let count = (machines script next.past).2 in
          let same : length blocks ≡ length m.blocks = ap length next.blocks_are in
          omega arith

      birth : (name : List ℕ) → order.command ≡ commands.Fork name → ArePair (gifts.Birth t) blocks t (block_named script name)
      birth name is =
          let born = bears script next.past t name place.block order next.valid next.legal (record {
            cpu = place.cpu;
            ran = place.ran;
            lines = place.lines;
            turn = record { state = place.state; lines_are = lines_known; stage = place.stage };
            at = at;
            is = is;
          }) in
          let there = ap (λ (bs : List BlockState). slice_get bs (block_named script name)) next.blocks_are ∙ born.1.here in
          record {
            giver = place.block;
            taker = born.0;
            from_is = state_known;
            to_is = there;
            apart = born.1.apart;
            rows = script.layout;
            giver_valid = valid_at t place.block state_known;
            taker_valid = valid_at (block_named script name) born.0 there;
            can = born.1.unborn;
          }

      read : (u : ℕ) (set : Set) → is_count (child_reply (get_reply set) (slice_get blocks u)) ≡ true → ArePair (gifts.Registers set) blocks u t
      read u set count =
          let child = stopped_there (get_reply set) (slice_get blocks u) count in
          record {
            giver = child.child;
            taker = place.block;
            from_is = child.here;
            to_is = state_known;
            apart = λ (same : u ≡ t). apart_stopped blocks t u place.cpu place.ran place.block child.child state_known place.stage child.here child.stopped (sym same);
            rows = script.layout;
            giver_valid = valid_at u child.child child.here;
            taker_valid = valid_at t place.block state_known;
            can = tt;
          }

      write : (u : ℕ) (set : Set) (few : ℕ) → few ≤ buffer_length → is_count (child_reply (put_reply set few (buffer_of (slice_get blocks t))) (slice_get blocks u)) ≡ true → ArePair (gifts.Bytes set few) blocks t u
      write u set few within count =
          let child = stopped_there (put_reply set few (buffer_of (slice_get blocks t))) (slice_get blocks u) count in
          let taken = not_refused few (set_errno (set_result child.child.task set (take few (buffer_of (slice_get blocks t))))) child.count in
          record {
            giver = place.block;
            taker = child.child;
            from_is = state_known;
            to_is = child.here;
            apart = λ (same : t ≡ u). apart_stopped blocks t u place.cpu place.ran place.block child.child state_known place.stage child.here child.stopped same;
            rows = script.layout;
            giver_valid = valid_at t place.block state_known;
            taker_valid = valid_at u child.child child.here;
            can = (within, ap (λ (b : Option BlockState). set_errno (set_result child.child.task set (take few (buffer_of b)))) (sym state_known) ∙ taken);
          }

      -- what it reaches is there
      reaches : (command : Command) (reply : Reply) → order.command ≡ command → IsCommand script.layout command → reply ≡ outer_reply script blocks t command → CanReach script blocks t command reply
      reaches (commands.Fork name) reply is known answer = birth name is
      reaches (commands.Kill name signo) reply is known answer = λ count. named_within name (ap named_block is)
      reaches (commands.Getregs name set) reply is known answer = λ count. read (block_named script name) set (ap is_count (sym answer) ∙ count)
      reaches (commands.Setregs name set few) reply is known answer = λ count. write (block_named script name) set few known (ap is_count (sym answer) ∙ count)
      reaches (commands.Cont name) reply is known answer = λ count. named_within name (ap named_block is)
      reaches other reply is known answer = tt

  pub local_told : LocalTold
  unfolding at_line
  local_told script blocks t line reply next =
      let m : Machine = machine script next.past in
      let place = due_in_place m t (events.Local t line reply) next.step.is_due in
      let told = local_at m t t place.ran line place.block.task (line_at place.lines place.block.task) reply place.event_is in
      record {
        here = at_line script blocks (events.Local t line reply) next t place line told.order told.at told.number;
        short = subst (λ (s : Script). place.ran < s.quantum) ((machines script next.past).0) told.short;
      }

  pub outer_told : OuterTold
  unfolding at_line
  outer_told script blocks t line reply next =
      let m : Machine = machine script next.past in
      let event : Event = events.Outer t line reply in
      let place = due_in_place m t event next.step.is_due in
      let told = outer_at m t t place.ran line place.block.task (line_at place.lines place.block.task) reply place.event_is in
      let here = at_line script blocks event next t place line told.order told.at told.number in
      let answer = told.reply_is ∙ ap (λ (s : Script). outer_reply s m.blocks t told.order.command) ((machines script next.past).0) ∙ ap (λ (bs : List BlockState). outer_reply script bs t told.order.command) (sym next.blocks_are) in
      record {
        here = here;
        reach = reaches script blocks event next t place line told.order told.at told.number told.order.command reply refl here.known answer;
      }
