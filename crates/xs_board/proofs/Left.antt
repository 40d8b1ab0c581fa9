-- What a turn leaves, seen from the past before it: its lines, and the event that closes it.
use Rattle.std.proofs.Common.{◌≡◌, ℕ, zero, suc, ◌+◌, ◌-◌, ◌*◌, ◌<◌, ◌≤◌, ◌^◌, Bool, true, false, not, ◌&&◌, List, [], ◌∷◌, ◌++◌, length, refl, sym, ap, ◌∙◌, subst, arith}
use Rattle.std.proofs.lemmas.Bool.{and_parts, not-true}
use Rattle.std.proofs.lemmas.Option.{same_Some, slice_get_within}
use Rattle.std.specs.Prelude.{Option, Some, None, if◌then◌else◌, slice_get}
use Rattle.xs_base.specs.declared.component.Place.{Place}
use Rattle.xs_base.specs.Component.{tiledata_number}
use Rattle.xs_base.specs.Layout.{has_row}
use Rattle.xs_base.specs.Register.{place_of}
use Rattle.xs_base.specs.Task.{PrivateTask}
use Rattle.xs_base.specs.Tile.{is_of_tiles, raises_nm}
use Rattle.xs_model.specs.declared.script.Block.{Block}
use Rattle.xs_model.specs.declared.script.Command.{Command}
use Rattle.xs_model.specs.declared.script.Command.TheVariants.{Fork, Get, Set}
use Rattle.xs_model.specs.declared.script.Order.{Order}
use Rattle.xs_model.specs.declared.script.Script.{Script}
use Rattle.xs_model.specs.declared.event.Event.{Event}
use Rattle.xs_model.specs.declared.event.Reply.{Reply}
use Rattle.xs_model.specs.declared.stage.Stage.{Stage}
use Rattle.xs_model.specs.declared.stage.Stage.TheVariants.{Unborn, Ready, Turn, Stopped, Waiting, Ended}
use Rattle.xs_model.specs.Bound.{all_kill_lines, body_lines, longest_handler}
use Rattle.xs_model.specs.Laws.{IsBirth, KeepsBlock}
use Rattle.xs_model.specs.Line.{traps}
use Rattle.xs_model.specs.declared.event.Why.{Why}
use Rattle.xs_model.specs.Due.{due, block_event, large_count, turn_event}
use Rattle.xs_model.specs.Machine.{machine, foreseen, IsLegalPast}
use Rattle.xs_model.specs.Replay.{finish, told}
use Rattle.xs_model.specs.Names.{named_block}
use Rattle.xs_model.specs.Note.{last}
use Rattle.xs_model.specs.Ready.{one_if, ready_list}
use Rattle.xs_model.specs.Script as scripts
use Rattle.xs_model.specs.Script.{IsBody, IsCommand, IsValid, block_named, command_of, is_user}
use Rattle.xs_model.specs.State.{BlockState, Machine, parent_of, stage_at, stage_of, task_of_state, turn_cpu}
use Rattle.xs_board.specs.declared.turn.Close.{Close}
use Rattle.xs_board.specs.declared.turn.Close.TheVariants.{Quantum, Yield, Outer, Refused, Trap, End}
use Rattle.xs_board.specs.declared.turn.Entry.{Entry}
use Rattle.xs_board.specs.Laws.{Laws}
use Rattle.xs_board.specs.Member.{member_of}
use Rattle.xs_board.specs.Putting.{is_outer}
use Rattle.xs_board.specs.Starts.{AreInOrder}
use Rattle.xs_board.specs.Turn.{Answer, body_command, body_order, close_command, trap_end}
use Rattle.xs_board.proofs.Blocks.{each_of}
use Rattle.xs_board.proofs.Leaving.{CountsLarge, CountsTrap, event_closed, last_by, others_by, own_by, own_off, risers_by}
use Rattle.xs_board.proofs.Turning.{Closes, HasCome, HasGone, IsOuterEnd, IsTurning}

-- ---- the line that closes it

-- What is known of the outer line with this command, at which block t stands with this task.
pub record IsLineOf (script : Script) (past : List Event) (t : ℕ) (task : PrivateTask) (command : Command) : Type 0 where
  pub outer : scripts.is_outer command ≡ true
  pub user : is_user script t ≡ true
  pub named : (name : List ℕ) → named_block command ≡ Some name → (block_named script name < length script.blocks) × (is_user script (block_named script name) ≡ true)
  pub born : (name : List ℕ) → command ≡ Fork name → (state : BlockState) × IsBirth script past t (block_named script name) state
  pub fits : IsCommand script.layout command
  pub body : body_command script t task.place ≡ Some command
  pub place : task.place + 1 < 2 ^ 32

-- a block's lines are among all lines
lines_few : (blocks : List Block) (t : ℕ) (lines : Block) → slice_get blocks t ≡ Some lines → length lines.body ≤ body_lines blocks
lines_few [] t lines at = absurd (cc at)
lines_few (first ∷ blocks) zero lines at =
    let same : first ≡ lines = same_Some first lines at in
    let long : length first.body ≡ length lines.body = ap (λ (b : Block). length b.body) same in
    omega (arith, long)
lines_few (first ∷ blocks) (suc t) lines at = let rest = lines_few blocks t lines at in omega (arith, rest)

-- a place in a body is a small number
place_small : (script : Script) (t place : ℕ) (lines : Block) (order : Order) → IsValid script → slice_get script.blocks t ≡ Some lines → slice_get lines.body place ≡ Some order → place + 1 < 2 ^ 32
place_small script t place lines order valid known at =
    let within = slice_get_within lines.body place order at in
    let few = lines_few script.blocks t lines known in
    by_bound (body_lines script.blocks) (all_kill_lines script.blocks * longest_handler script.blocks) (length script.blocks) valid.events (omega (arith, within, few))
  where
    by_bound : (lines kills count : ℕ) → 4 * lines + 2 * kills + 8 * count ≤ 1048576 → place + 1 ≤ lines → place + 1 < 2 ^ 32
    by_bound lines kills count bound within = omega (arith, bound, within)

module _ (laws : Laws) (script : Script) (valid : IsValid script) (t cpu : ℕ) where
  -- the line where the turn closes
  line_known : (past mid : List Event) (ran line : ℕ) (block : BlockState) (lines : Block) (reply : Reply) (event : Event) (task : PrivateTask) → IsTurning script t cpu mid ran block lines → HasGone script past mid t
      → (end : IsOuterEnd script t line lines reply event block.task task) → IsLineOf script past t task end.order.command
  line_known past mid ran line block lines reply event task turning gone end =
      let order = end.order in
      let known = turning.turn.lines_are in
      let outside = laws.outside script t lines block.task order valid known end.at end.outer in
      let in_body : slice_get lines.body block.task.place ≡ Some order = sym (ap (λ (b : Bool). slice_get (if b then lines.handler else lines.body) block.task.place) outside) ∙ end.at in
      let place : task.place ≡ block.task.place = ap (λ (p : PrivateTask). p.place) end.task_is in
      let all : IsBody script.layout lines = each_of (IsBody script.layout) script.blocks t lines valid.bodies known in
      let small = place_small script t block.task.place lines order valid known in_body in
      record {
        outer = end.outer;
        user = laws.outer_user script t lines block.task order valid known end.at end.outer;
        named = λ name names. laws.named script t lines block.task order name valid known end.at names;
        born = λ name forks.
            let birth = laws.bears script mid t name block order valid turning.legal (record { cpu = cpu; ran = ran; lines = lines; turn = turning.turn; at = end.at; is = forks }) in (
              birth.0,
              record {
                here = sym (gone.others (block_named script name) (λ (e : block_named script name ≡ t). birth.1.apart (sym e))) ∙ birth.1.here;
                unborn = birth.1.unborn;
                apart = birth.1.apart;
                parent_user = birth.1.parent_user;
                child_user = birth.1.child_user;
              },
            );
        fits = each_of (λ (o : Order). IsCommand script.layout o.command) lines.body block.task.place order all.body in_body;
        body = ap (λ (b : Option Block). command_of (body_order b task.place)) known ∙ ap (λ (n : ℕ). command_of (slice_get lines.body n)) place ∙ ap command_of in_body;
        place = omega (arith, place, small);
      }

-- ---- the whole turn

-- Block t is closed with this task, from one past to a later one, where the blocks stood so at the close.
pub record HasLeft (script : Script) (past later : List Event) (t cpu : ℕ) (close : Close) (answer : Answer) (task : PrivateTask) (blocks : List BlockState) : Type 0 where
  pub legal : IsLegalPast script later
  pub order : AreInOrder script past → AreInOrder script later
  pub closed : (machine script later).committing ≡ None
  pub count : length blocks ≡ length script.blocks
  pub state : BlockState
  pub here : slice_get blocks t ≡ Some state
  pub ran : ℕ
  pub turn : state.stage ≡ Turn cpu ran
  pub task_is : is_outer close ≡ true → task ≡ state.task
  pub same : (u : ℕ) → (u ≡ t → ⊥) → slice_get blocks u ≡ slice_get (machine script past).blocks u
  pub members : (u : ℕ) → member_of (slice_get blocks u) ≡ member_of (slice_get (machine script past).blocks u)
  pub waits : (u child : ℕ) → stage_at blocks u ≡ Waiting child → parent_of (slice_get blocks child) ≡ Some u
  pub line : (command : Command) → close_command script t close ≡ Some command → IsLineOf script past t task command
  pub some : is_outer close ≡ true → (command : Command) × (close_command script t close ≡ Some command)
  pub own : slice_get (machine script later).blocks t ≡ Some (own_by script blocks t close answer task state)
  pub others : (u : ℕ) (b : BlockState) → (u ≡ t → ⊥) → slice_get blocks u ≡ Some b → slice_get (machine script later).blocks u ≡ Some (others_by script blocks t close answer u b)
  pub ready : ready_list script later ≡ ready_list script past ++ risers_by script blocks t close answer
  pub last_is : (u : ℕ) → last script later u ≡ last_by script t close answer u (last script past u)
  pub keeps : (u : ℕ) → (u ≡ t → ⊥) → KeepsBlock script past later u
  pub large : CountsLarge close answer.fate task.large (large_count (machine script past).blocks) (large_count (machine script later).blocks)
  pub trapped : close ≡ Trap → (is_user script t ≡ true) × (task.large ≡ false)

-- a task whose line traps has no room for TILEDATA
raises_small : (task : PrivateTask) (place : Place) (is_write : Bool) → raises_nm task place is_write ≡ true → task.large ≡ false
raises_small task place is_write is = by_room (has_row task.file.rows tiledata_number) task.large (is_of_tiles place is_write) is
  where
    by_room : (row large tiles : Bool) → (row && not large && tiles) ≡ true → large ≡ false
    by_room row large tiles is = not-true large (and_parts row (not large) (and_parts (row && not large) tiles is).0).1

pub trap_small : (task : PrivateTask) (command : Command) → traps task command ≡ true → task.large ≡ false
trap_small task (Set reg bytes) is = raises_small task (place_of reg) true is
trap_small task (Get reg) is = raises_small task (place_of reg) false is
trap_small task other is = absurd (cc is)

-- lines that change nothing of a block let it keep what it has
kept_before : (script : Script) (past mid later : List Event) (t u : ℕ) → HasGone script past mid t → (u ≡ t → ⊥) → KeepsBlock script mid later u → KeepsBlock script past later u
kept_before script past mid later t u gone other keeps = record {
  turn = λ cpu ran at. keeps.turn cpu ran (ap (λ (b : Option BlockState). stage_of b) (gone.others u other) ∙ at);
  held = λ cpu at.
      let held = keeps.held cpu at in
      (sym (gone.last_is u) ∙ held.0, held.1 ∙ ap task_of_state (gone.others u other));
}

module _ (laws : Laws) (script : Script) (valid : IsValid script) (t cpu : ℕ) (past later : List Event) (entries : List Entry) (close : Close) (answer : Answer) (task : PrivateTask) (start : ℕ) (come : HasCome script past t cpu start entries close answer task later) where
  abbrev blocks : List BlockState
  blocks = (machine script come.mid).blocks

  -- the line that closes it
  close_line : (c : Close) → Closes script t come.ran come.lines answer come.event come.block.task task c → (command : Command) → close_command script t c ≡ Some command → IsLineOf script past t task command
  close_line Quantum closes command is = absurd (cc is)
  close_line Yield closes command is = absurd (cc is)
  close_line (Outer line) closes command is =
      subst (IsLineOf script past t task) (same_Some closes.order.command command (sym closes.found ∙ is)) (line_known laws script valid t cpu past come.mid come.ran line come.block come.lines answer.reply come.event task come.turning come.gone closes)
  close_line (Refused error) closes command is = absurd (cc is)
  close_line Trap closes command is = absurd (cc is)
  close_line End closes command is = absurd (cc is)

  close_some : (c : Close) → Closes script t come.ran come.lines answer come.event come.block.task task c → is_outer c ≡ true → ((command : Command) × (close_command script t c ≡ Some command)) × (task ≡ come.block.task)
  close_some Quantum closes is = absurd (cc is)
  close_some Yield closes is = absurd (cc is)
  close_some (Outer line) closes is = ((closes.order.command, closes.found), closes.task_is)
  close_some (Refused error) closes is = absurd (cc is)
  close_some Trap closes is = absurd (cc is)
  close_some End closes is = absurd (cc is)

  -- whether its task had room for TILEDATA, where that is asked
  close_counts : (c : Close) → Closes script t come.ran come.lines answer come.event come.block.task task c → (before after : ℕ) → CountsLarge c answer.fate come.block.task.large before after → CountsLarge c answer.fate task.large before after
  close_counts Quantum closes before after counts = counts
  close_counts Yield closes before after counts = counts
  close_counts (Outer line) closes before after counts = counts
  close_counts (Refused error) closes before after counts = subst (λ (x : PrivateTask). after + one_if x.large ≡ before) (sym closes.1) counts
  close_counts Trap closes before after counts = subst (λ (x : PrivateTask). CountsTrap answer.fate x.large before after) (sym closes.task_is) counts
  close_counts End closes before after counts = subst (λ (x : PrivateTask). after + one_if x.large ≡ before) (sym closes.1) counts

  -- a line that traps is one of a user task without that room
  close_trap : (c : Close) → Closes script t come.ran come.lines answer come.event come.block.task task c → c ≡ Trap → (is_user script t ≡ true) × (task.large ≡ false)
  close_trap Quantum closes is = absurd (cc is)
  close_trap Yield closes is = absurd (cc is)
  close_trap (Outer line) closes is = absurd (cc is)
  close_trap (Refused error) closes is = absurd (cc is)
  close_trap Trap closes is = (
    laws.trap_user script t come.lines come.block.task closes.order valid come.turning.turn.lines_are closes.at closes.trap,
    ap (λ (x : PrivateTask). x.large) closes.task_is ∙ trap_small come.block.task closes.order.command closes.trap,
  )
  close_trap End closes is = absurd (cc is)

  -- what the turn leaves
  pub turn_leaves : HasLeft script past later t cpu close answer task blocks
  turn_leaves =
      let mid = come.mid in
      let gone = come.gone in
      let closed = event_closed laws script valid t cpu mid come.ran come.block come.lines come.turning close answer come.event task come.closes come.step in
      subst (λ (all : List Event). HasLeft script past all t cpu close answer task blocks) (sym come.later_is) (record {
        legal = closed.legal;
        order = λ before. closed.order (gone.order before);
        closed = closed.closed;
        count = (laws.machine script mid).2;
        state = come.block;
        here = come.turning.turn.state;
        ran = come.ran;
        turn = come.turning.turn.stage;
        task_is = λ outer. (close_some close come.closes outer).1;
        same = gone.others;
        members = gone.members;
        waits = λ u child. laws.waits script mid u child valid come.turning.legal;
        line = close_line close come.closes;
        some = λ outer. (close_some close come.closes outer).0;
        own = closed.own;
        others = closed.others;
        ready = closed.ready ∙ ap (λ (list : List ℕ). list ++ risers_by script blocks t close answer) gone.ready;
        last_is = λ u. closed.last_is u ∙ ap (last_by script t close answer u) (gone.last_is u);
        keeps = λ u other. kept_before script past mid (come.event ∷ mid) t u gone other (closed.keeps u other);
        large = subst (λ (before : ℕ). CountsLarge close answer.fate task.large before (large_count (machine script (come.event ∷ mid)).blocks)) gone.large
            (close_counts close come.closes (large_count blocks) (large_count (machine script (come.event ∷ mid)).blocks) closed.large);
        trapped = close_trap close come.closes;
      })

  -- ---- the replay

  -- nothing more comes of a block that isn't in a turn
  out_due : (m : Machine) (block : BlockState) → slice_get m.blocks t ≡ Some block → turn_cpu block.stage ≡ None → due m t ≡ None
  out_due m block here out = ap (λ (b : Option BlockState). block_event m t b (slice_get m.script.blocks t)) here ∙ by_lines (slice_get m.script.blocks t)
    where
      by_stage : (lines : Block) (stage : Stage) → turn_cpu stage ≡ None → turn_event m t lines block.task stage ≡ None
      by_stage lines Unborn out = refl
      by_stage lines Ready out = refl
      by_stage lines (Turn cpu ran) out = absurd (cc out)
      by_stage lines Stopped out = refl
      by_stage lines (Waiting child) out = refl
      by_stage lines Ended out = refl

      by_lines : (lines : Option Block) → block_event m t (Some block) lines ≡ None
      by_lines None = refl
      by_lines (Some lines) = by_stage lines block.stage out

  -- the replay adds nothing where nothing is due
  finish_stays : (n : ℕ) (past : List Event) → due (machine script past) t ≡ None → finish script n t past ≡ past
  finish_stays zero past none = refl
  finish_stays (suc n) past none = ap (λ (d : Option Event). finish script n t (told d past)) none ∙ finish_stays n past none

  -- what is due is the event that closes the turn
  close_due : (c : Close) → Closes script t come.ran come.lines answer come.event come.block.task task c → foreseen (machine script come.mid) come.event ≡ Some come.event → due (machine script come.mid) t ≡ Some come.event
  close_due Quantum closes step = ap (foreseen (machine script come.mid)) (sym closes.event_is) ∙ step
  close_due Yield closes step = ap (foreseen (machine script come.mid)) (sym closes.event_is) ∙ step
  close_due (Outer line) closes step = ap (foreseen (machine script come.mid)) (sym closes.event_is) ∙ step
  close_due (Refused error) closes step = ap (foreseen (machine script come.mid)) (sym closes.0) ∙ step
  close_due Trap closes step = by_fate answer.fate closes.event_is
    where
      by_fate : (fate : Option Why) → come.event ≡ trap_end t fate → due (machine script come.mid) t ≡ Some come.event
      by_fate None is = ap (foreseen (machine script come.mid)) (sym is) ∙ step
      by_fate (Some why) is = ap (foreseen (machine script come.mid)) (sym is) ∙ step
  close_due End closes step = ap (foreseen (machine script come.mid)) (sym closes.0) ∙ step

  -- the replay tells the turn
  pub turn_told : (most : ℕ) → come.steps + 1 ≤ most → finish script most t past ≡ later
  turn_told most fuel =
      let left = turn_leaves in
      let event = come.event in
      let mid = come.mid in
      let n = most - (come.steps + 1) in
      come.follow (suc n) most (omega (arith, fuel))
      ∙ ap (λ (d : Option Event). finish script n t (told d mid)) (close_due close come.closes come.step.is_due)
      ∙ finish_stays n (event ∷ mid) (out_due (machine script (event ∷ mid)) (own_by script blocks t close answer task left.state) (subst (λ (all : List Event). slice_get (machine script all).blocks t ≡ Some (own_by script blocks t close answer task left.state)) come.later_is left.own) (own_off script blocks t close answer task left.state))
      ∙ sym come.later_is
