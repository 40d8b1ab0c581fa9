-- A board to which a task came back is a board again.
use Rattle.std.proofs.Common.{◌≡◌, ℕ, ◌+◌, ◌==◌, ◌<◌, ◌≤◌, Bool, true, false, ◌&&◌, List, ◌++◌, length, reverse, refl, sym, ap, ◌∙◌, subst, arith, inl, inr, eq-eqb, ne_eqb}
use Rattle.std.proofs.lemmas.Bool.{cases_Bool, cases_eq, eqb-true}
use Rattle.std.proofs.lemmas.List.{get_or-set_other, get_or-set_same, length-set}
use Rattle.std.specs.Prelude.{Option, Some, None, if◌then◌else◌, slice_get, slice_set}
use Rattle.xs_area.specs.declared.area.Lease.{Lease}
use Rattle.xs_base.specs.declared.component.Row.{Row}
use Rattle.xs_base.specs.declared.words.Set.{Set}
use Rattle.xs_base.specs.declared.class.Class.TheVariants.{Small, Large}
use Rattle.xs_base.specs.KernelArea.{class_size}
use Rattle.xs_base.specs.Task.{PrivateTask, parked}
use Rattle.xs_model.specs.declared.event.Event.{Event}
use Rattle.xs_model.specs.declared.event.Reply.{Reply}
use Rattle.xs_model.specs.declared.event.Why.{Why}
use Rattle.xs_model.specs.declared.script.Command.{Command}
use Rattle.xs_model.specs.declared.script.Command.TheVariants.{Fork, Kill, Stop, Wait, Getregs, Setregs, Cont}
use Rattle.xs_model.specs.declared.script.Script.{Script}
use Rattle.xs_model.specs.Bound.{most_events}
use Rattle.xs_model.specs.Due.{large_count}
use Rattle.xs_model.specs.Machine.{machine, IsLegalPast}
use Rattle.xs_model.specs.Note.{is_count, last, last_after, set_act, set_target}
use Rattle.xs_model.specs.Outer as outers
use Rattle.xs_model.specs.Outer.{outer_reply}
use Rattle.xs_model.specs.Ready.{ready_list}
use Rattle.xs_model.specs.Script.{block_named, is_user}
use Rattle.xs_model.specs.State.{BlockState, is_stopped, lives, stage_at, stage_of, task_of_state, turn_cpu}
use Rattle.xs_pool.specs.Pool.{Pool}
use Rattle.xs_task.specs.declared.task.Task.{Task}
use Rattle.xs_board.specs.declared.turn.Entry.{Entry}
use Rattle.xs_board.specs.declared.turn.Close.{Close}
use Rattle.xs_board.specs.declared.turn.Close.TheVariants.{Quantum, Yield, Outer, Refused, Trap, End}
use Rattle.xs_board.specs.Board.{Board, HasHome, IsBoard, IsKeptBeside, areas, holds_area, machine_in, past_of, private_after, private_in, private_with, stage_in, tally}
use Rattle.xs_board.specs.Deed.{IsDoneBy, deed_by, newborn, living_born, ready_by, task_home}
use Rattle.xs_board.specs.Home.{IsHome, is_resting}
use Rattle.xs_board.specs.Laws.{Laws}
use Rattle.xs_board.specs.Member.{Member, AreMembers, is_stopped_life, member_at}
use Rattle.xs_board.specs.Putting.{AreLeft, ends, home_after, is_outer, kills, living_after, pool_after, ready_after}
use Rattle.xs_board.specs.Starts.{AreInOrder}
use Rattle.xs_board.specs.Trapping.{IfTrap, pool_settled}
use Rattle.xs_board.specs.Turn.{Answer, close_command, line_answer, stage_closed, task_closed, trap_stage}
use Rattle.xs_board.proofs.Asked.{queue_is}
use Rattle.xs_board.proofs.Blocks.{existing}
use Rattle.xs_board.proofs.Areas.{HasOut, after_stays, back_out}
use Rattle.xs_board.proofs.Committing.{MayCommit, answer, answer_is, later, leaves, lease_known, some_lease, turn_in_range}
use Rattle.xs_board.proofs.Answered.{of_stopped, of_loose}
use Rattle.xs_board.proofs.Homes.{HasSlot, is_unborn, line_home, slot_stays, unborn_is}
use Rattle.xs_board.proofs.Kept.{left_members, performed}
use Rattle.xs_board.proofs.Left.{HasLeft}
use Rattle.xs_board.proofs.Leaving.{last_by, others_by, reached_by, trap_act}
use Rattle.xs_board.proofs.Others.{others_stage}
use Rattle.xs_board.proofs.Own.{write_counts}
use Rattle.xs_board.proofs.Returning.{Settles, after_is, at_close, back, back_last, back_name, back_stands, buffer_same, ends_same, last_left, trap_last}
use Rattle.xs_board.proofs.Tests.{if_false, if_true}
use Rattle.xs_board.proofs.Seen.{back_living, back_stage, blocks, closed_born, now, other_fact, other_is, own_private, was_born}

-- a stage in which a turn leaves a block that rests
closed_rests : (script : Script) (t : ℕ) (close : Close) (said : Answer) → is_resting (stage_closed script t close said) ≡ true → ends close said.fate ≡ false
closed_rests script t Quantum said is = refl
closed_rests script t Yield said is = refl
closed_rests script t (Outer line) said is = refl
closed_rests script t (Refused error) said is = absurd (cc is)
closed_rests script t Trap said is = by_fate said.fate is
  where
    by_fate : (fate : Option Why) → is_resting (trap_stage fate) ≡ true → kills fate ≡ false
    by_fate None is = refl
    by_fate (Some why) is = absurd (cc is)
closed_rests script t End said is = absurd (cc is)

-- the tasks are as many
pub done_length : (script : Script) (rows : List Row) (members : List Member) (t : ℕ) (c : Option Command) (reply : Reply) (old new : List (Option Task)) (before after : Task) → IsDoneBy rows members t (deed_by script c) reply old new before after → length new ≡ length old
done_length script rows members t None reply old new before after done = ap length done.1
done_length script rows members t (Some (Fork name)) reply old new before after done = ap length done.1.3 ∙ length-set old (block_named script name) (Some done.1.1)
done_length script rows members t (Some (Kill name signo)) reply old new before after done = ap length done.1
done_length script rows members t (Some Stop) reply old new before after done = ap length done.1
done_length script rows members t (Some (Wait name)) reply old new before after done = ap length done.1
done_length script rows members t (Some (Getregs name set)) reply old new before after done = ap length done.0
done_length script rows members t (Some (Setregs name set count)) reply old new before after done = elim (cases_Bool (is_stopped_life (member_at members (block_named script name)).life)) [
  | inl on ↦ let wrote = of_stopped (is_stopped_life (member_at members (block_named script name)).life) _ _ on done.1 in ap length wrote.3 ∙ length-set old (block_named script name) (Some wrote.1)
  | inr off ↦ ap length (of_loose (is_stopped_life (member_at members (block_named script name)).life) _ _ off done.1).1
]
done_length script rows members t (Some (Cont name)) reply old new before after done = ap length done.1
done_length script rows members t (Some other) reply old new before after done = ap length done.1

home_length : (end : Bool) (task : Task) (home : List (Option Task)) → length (home_after end task home) ≡ length home
home_length true task home = refl
home_length false task home = length-set home task.name (Some task)

home_other : (end : Bool) (task : Task) (home : List (Option Task)) (u : ℕ) → (u ≡ task.name → ⊥) → task_home (home_after end task home) u ≡ task_home home u
home_other true task home u other = refl
home_other false task home u other = get_or-set_other home task.name u (Some task) None other

module _ (laws : Laws) (old : Board) (t cpu : ℕ) (entries : List Entry) (close : Close) (may : MayCommit old t cpu entries close) where
  abbrev script : Script
  script = old.script

  abbrev private : PrivateTask
  private = private_with old t entries

  abbrev closing_blocks : List BlockState
  closing_blocks = blocks laws old t cpu entries close may

  abbrev answered : Answer
  answered = answer laws old t cpu entries close may

  abbrev past_then : List Event
  past_then = later laws old t cpu entries close may

  left : HasLeft script (past_of old) past_then t cpu close answered private closing_blocks
  left = leaves laws old t cpu entries close may

  -- the turn leaves the last processor of its own block
  pub own_last : last script past_then t ≡ last_left close answered.fate (Some cpu)
  own_last =
      left.last_is t
      ∙ by_close close refl
      ∙ ap (last_left close answered.fate) (laws.known script (past_of old) cpu t may.is_board.valid may.is_board.legal (ap turn_cpu may.turn)).1
    where
      written : (name : List ℕ) (set : Set) (count : ℕ) → close_command script t close ≡ Some (Setregs name set count) → is_count answered.reply ≡ true → (block_named script name == t) ≡ true → ⊥
      written name set count at counted here =
          let is = answer_is laws old t cpu entries close may ∙ ap (line_answer script closing_blocks t) at in
          let stopped = write_counts (outers.put_reply set count (outers.buffer_of (slice_get closing_blocks t))) (slice_get closing_blocks (block_named script name)) (sym (ap is_count is) ∙ counted) in
          let same : block_named script name ≡ t = eqb-true (block_named script name) t here in
          let on : is_stopped (left.state).stage ≡ true = ap (λ (b : Option BlockState). is_stopped (stage_of b)) (sym left.here) ∙ ap (λ (v : ℕ). is_stopped (stage_at closing_blocks v)) (sym same) ∙ stopped in
          let off : is_stopped (left.state).stage ≡ false = ap is_stopped left.turn in
          absurd (cc (on, off))

      by_tests : (counted here : Bool) → (counted ≡ true → here ≡ true → ⊥) → (v : ℕ) → (v == t) ≡ here → last_after t (set_act (Some v) counted) t (last script (past_of old) t) ≡ last script (past_of old) t
      by_tests true true never v is = absurd (never refl refl)
      by_tests true false never v is = ap (λ (b : Bool). if b then None else last script (past_of old) t) is
      by_tests false here never v is = refl

      by_command : (c : Option Command) → close_command script t close ≡ c → last_after t (set_act (set_target script c) (is_count answered.reply)) t (last script (past_of old) t) ≡ last script (past_of old) t
      by_command None at = refl
      by_command (Some (Setregs name set count)) at = by_tests (is_count answered.reply) (block_named script name == t) (written name set count at) (block_named script name) refl
      by_command (Some other) at = refl

      by_fate : (fate : Option Why) → last_after t (trap_act fate) t (last script (past_of old) t) ≡ trap_last fate (last script (past_of old) t)
      by_fate None = if_true (t == t) None (last script (past_of old) t) (eq-eqb t t refl)
      by_fate (Some why) = refl

      by_close : (c : Close) → close ≡ c → last_by script t c answered t (last script (past_of old) t) ≡ last_left c answered.fate (last script (past_of old) t)
      by_close Quantum is = refl
      by_close Yield is = refl
      by_close (Outer n) is = by_command (close_command script t (Outer n)) (ap (close_command script t) is)
      by_close (Refused error) is = refl
      by_close Trap is = by_fate answered.fate
      by_close End is = refl

  -- the area of a task that has ended
  pub ends_lease : (task : Task) → IsHome (is_user script t) script.layout task (private_after old t entries close) → (lease : Lease) → task.lease ≡ Some lease → (is_user script t ≡ true) × (lease.class ≡ (if private.large then Large else Small)) × (length lease.area.bytes.items ≡ class_size script.layout lease.class)
  ends_lease task home lease there =
      let known = lease_known (is_user script t) script.layout task (private_after old t entries close) home lease there in
      (known.0, known.1 ∙ ap (λ (large : Bool). if large then Large else Small) (handed_large close), known.2)
    where
      handed_large : (c : Close) → (private_after old t entries c).large ≡ private.large
      handed_large Quantum = refl
      handed_large Yield = refl
      handed_large (Outer n) = refl
      handed_large (Refused error) = refl
      handed_large Trap = refl
      handed_large End = refl

  module _ (task : Task) (name : task.name ≡ t) (home_now : IsHome (is_user script t) script.layout task (private_after old t entries close)) (last_is : is_user script t ≡ true → task.last ≡ Some cpu) (members : List Member) (each : length members ≡ length script.blocks) (are_past : AreMembers (machine_in old).blocks members) (tasks : List (Option Task)) (after : Task) (done : IsDoneBy script.layout members t (deed_by script (close_command script t close)) answered.reply old.home tasks task after) (settled_pool : Pool) (settled : Task) (settles : Settles close script.layout answered.fate old.pool settled_pool after settled) where
    -- as it goes back
    abbrev goes_back : Task
    goes_back = back laws old t cpu entries close may task home_now members each are_past tasks after done settled_pool settled settles

    named : goes_back.name ≡ t
    named = back_name laws old t cpu entries close may task home_now members each are_past tasks after done settled_pool settled settles ∙ name

    tasks_many : length tasks ≡ length old.home
    tasks_many = done_length script script.layout members t (close_command script t close) answered.reply old.home tasks task after done

    -- ---- other blocks

    -- a close without a deed leaves the task of another block
    plain_slot : (u : ℕ) (b : BlockState) (c : Close) (older : Option ℕ) → newborn (deed_by script (close_command script t c)) ≡ None → (others_by script closing_blocks t c answered u b).task ≡ b.task → last_by script t c answered u older ≡ older → tasks ≡ old.home → HasSlot script old.home u b.task older b.stage
        → HasSlot script tasks u (others_by script closing_blocks t c answered u b).task (last_by script t c answered u older) (others_by script closing_blocks t c answered u b).stage
    plain_slot u b c older none same same_last same_tasks has =
        slot_stays script old.home tasks u b.task (others_by script closing_blocks t c answered u b).task older (last_by script t c answered u older) b.stage (others_by script closing_blocks t c answered u b).stage (ap (λ (all : List (Option Task)). task_home all u) same_tasks) same same_last
        (λ e. unborn_is b.stage (sym (others_stage is_unborn (λ child. refl) refl script closing_blocks t c answered u b (λ n. absurd (cc (n, none)))) ∙ ap is_unborn e)) has

    -- the task of another block after the close
    slot_after : (u : ℕ) (b : BlockState) → (u ≡ t → ⊥) → slice_get (machine_in old).blocks u ≡ Some b → HasSlot script old.home u b.task (last script (past_of old) u) b.stage → (c : Close) → close ≡ c
        → IsDoneBy script.layout members t (deed_by script (close_command script t c)) answered.reply old.home tasks task after → IsHome (is_user script t) script.layout task (private_after old t entries c)
        → HasSlot script tasks u (others_by script closing_blocks t c answered u b).task (last_by script t c answered u (last script (past_of old) u)) (others_by script closing_blocks t c answered u b).stage
    slot_after u b other at has Quantum is done home = plain_slot u b Quantum (last script (past_of old) u) refl refl refl done.1 has
    slot_after u b other at has Yield is done home = plain_slot u b Yield (last script (past_of old) u) refl refl refl done.1 has
    slot_after u b other at has (Outer n) is done home =
        let outer : is_outer close ≡ true = ap is_outer is in
        let there = left.some outer in
        let command = there.0 in
        let found : close_command script t (Outer n) ≡ Some command = ap (close_command script t) (sym is) ∙ there.1 in
        let count = may.is_board.count in
        let all = left.count in
        let buffer = ap (λ (p : PrivateTask). p.buffer) (sym (left.task_is outer)) ∙ buffer_same laws old t cpu entries close may task home_now members each are_past tasks after outer in
        subst (λ (o : Option Command). HasSlot script tasks u (reached_by script closing_blocks t o answered.reply u b).task (last_after t (set_act (set_target script o) (is_count answered.reply)) u (last script (past_of old) u)) (reached_by script closing_blocks t o answered.reply u b).stage) (sym found)
        (line_home script (past_of old) closing_blocks members (at_close laws old t cpu entries close may task home_now members each are_past tasks after) t left.state left.here private answered.reply old.home tasks task after (omega (arith, count, all)) (left.task_is outer) left.same home command (left.line command there.1)
        (subst (λ (o : Option Command). IsDoneBy script.layout members t (deed_by script o) answered.reply old.home tasks task after) found done) buffer u b (last script (past_of old) u) other (left.same u other ∙ at)
        (λ unborn. (laws.unseen script (past_of old) u may.is_board.valid may.is_board.legal (ap stage_of at ∙ unborn)).last) has)
    slot_after u b other at has (Refused error) is done home = plain_slot u b (Refused error) (last script (past_of old) u) refl refl refl done.1 has
    slot_after u b other at has Trap is done home = plain_slot u b Trap (last script (past_of old) u) refl (by_kill (kills answered.fate)) (by_fate answered.fate) done.1 has
      where
        by_kill : (killed : Bool) → (if killed then outers.freed t b else b).task ≡ b.task
        by_kill true = refl
        by_kill false = refl

        by_fate : (fate : Option Why) → last_after t (trap_act fate) u (last script (past_of old) u) ≡ last script (past_of old) u
        by_fate None = if_false (t == u) None (last script (past_of old) u) (ne_eqb t u (λ (e : t ≡ u). other (sym e)))
        by_fate (Some why) = refl
    slot_after u b other at has End is done home = plain_slot u b End (last script (past_of old) u) refl refl refl done.1 has

    module _ (history : List Event) (is : reverse history ≡ past_then) (pool : Pool) (room : ℕ) where
      -- the board
      abbrev new : Board
      new = record { script = script; history = history; home = home_after (ends close answered.fate) goes_back tasks; pool = pool; room = room }

      same_blocks : (machine_in new).blocks ≡ now laws old t cpu entries close may
      same_blocks = ap (λ (past : List Event). (machine script past).blocks) is

      -- the pool as the trap left it
      settled_is : IfTrap close (settled_pool ≡ pool_settled answered.fate old.pool) (settled_pool ≡ old.pool)
      settled_is = by_close close settles
        where
          by_close : (c : Close) → Settles c script.layout answered.fate old.pool settled_pool after settled → IfTrap c (settled_pool ≡ pool_settled answered.fate old.pool) (settled_pool ≡ old.pool)
          by_close Quantum is = is.0
          by_close Yield is = is.0
          by_close (Outer line) is = is.0
          by_close (Refused error) is = is.0
          by_close Trap is = is.pool_is
          by_close End is = is.0

      settled_stays : (settled_pool.rows ≡ old.pool.rows) × (settled_pool.large.capacity ≡ old.pool.large.capacity) × (settled_pool.given ≤ old.pool.given + 1)
      settled_stays = by_close close settled_is
        where
          same : settled_pool ≡ old.pool → (settled_pool.rows ≡ old.pool.rows) × (settled_pool.large.capacity ≡ old.pool.large.capacity) × (settled_pool.given ≤ old.pool.given + 1)
          same is = (ap (λ (p : Pool). p.rows) is, ap (λ (p : Pool). p.large.capacity) is, let given : settled_pool.given ≡ old.pool.given = ap (λ (p : Pool). p.given) is in omega (arith, given))

          by_fate : (fate : Option Why) → settled_pool ≡ pool_settled fate old.pool → (settled_pool.rows ≡ old.pool.rows) × (settled_pool.large.capacity ≡ old.pool.large.capacity) × (settled_pool.given ≤ old.pool.given + 1)
          by_fate None is = (ap (λ (p : Pool). p.rows) is, ap (λ (p : Pool). p.large.capacity) is, let given : settled_pool.given ≡ old.pool.given + 1 = ap (λ (p : Pool). p.given) is in omega (arith, given))
          by_fate (Some why) is = same is

          by_close : (c : Close) → IfTrap c (settled_pool ≡ pool_settled answered.fate old.pool) (settled_pool ≡ old.pool) → (settled_pool.rows ≡ old.pool.rows) × (settled_pool.large.capacity ≡ old.pool.large.capacity) × (settled_pool.given ≤ old.pool.given + 1)
          by_close Quantum is = same is
          by_close Yield is = same is
          by_close (Outer line) is = same is
          by_close (Refused error) is = same is
          by_close Trap is = by_fate answered.fate is
          by_close End is = same is

      -- the area of a task that ends is its own
      lost_lease : ends close answered.fate ≡ true → settled.lease ≡ task.lease
      lost_lease end = ap (λ (x : Task). x.lease) ((ends_same laws old t cpu entries close may task home_now members each are_past tasks after done settled_pool settled settles end).1 ∙ after_is laws old t cpu entries close may task home_now members each are_past tasks after done)

      back_pool : HasOut (pool_after (ends close answered.fate) settled.lease settled_pool) (large_count (now laws old t cpu entries close may)) (tally (λ v stage. is_user script v && holds_area stage) 0 (now laws old t cpu entries close may))
      back_pool =
          back_out laws old t cpu entries close may settled.lease settled_pool settled_is
          (λ end none. some_lease (is_user script t) script.layout task (private_after old t entries close) home_now (sym (lost_lease end) ∙ none))
          (λ end lease there. let known = ends_lease task home_now lease (sym (lost_lease end) ∙ there) in (known.0, known.1))

      -- the task is home
      own_slot : is_resting (stage_in new t) ≡ true → HasHome new t
      own_slot rests =
          let stage : stage_in new t ≡ stage_closed script t close answered = ap (λ (all : List BlockState). stage_at all t) same_blocks ∙ back_stage laws old t cpu entries close may in
          let going = closed_rests script t close answered (sym (ap is_resting stage) ∙ rests) in
          let in_range = turn_in_range laws old t cpu may.is_board may.turn in
          let count = may.is_board.count in
          let private_now : private_in new t ≡ parked (task_closed script closing_blocks t close answered private) = ap (λ (all : List BlockState). task_of_state (slice_get all t)) same_blocks ∙ own_private laws old t cpu entries close may in (
            goes_back,
            ap (λ (b : Bool). task_home (home_after b goes_back tasks) t) going
                ∙ ap (λ (n : ℕ). task_home (slice_set tasks n (Some goes_back)) t) named
                ∙ get_or-set_same tasks t (Some goes_back) None (omega (arith, in_range, count, tasks_many)),
            record {
              name = named;
              stands = subst (λ (p : PrivateTask). IsHome (is_user script t) script.layout goes_back p) (sym private_now) (back_stands laws old t cpu entries close may task home_now members each are_past tasks after done settled_pool settled settles going);
              last = λ user. back_last laws old t cpu entries close may task home_now members each are_past tasks after done settled_pool settled settles ∙ ap (last_left close answered.fate) (last_is user) ∙ sym (ap (λ (past : List Event). last script past t) is ∙ own_last);
              clear = λ unborn. absurd (let born = closed_born script t close answered in let off : was_born (stage_closed script t close answered) ≡ false = ap was_born (sym stage ∙ unborn) in cc (born, off));
            },
          )

      -- another block's task stays home
      other_slot : (u : ℕ) → (u ≡ t → ⊥) → u < length script.blocks → is_resting (stage_in new u) ≡ true → HasHome new u
      other_slot u other known rests =
          let same = (laws.machine script (past_of old)).2 in
          let found = existing (machine_in old).blocks u (omega (arith, known, same)) in
          let b = found.0 in
          let at = found.1 in
          let rested : is_resting (stage_in old u) ≡ true = sym (ap (λ (all : List BlockState). is_resting (stage_at all u)) same_blocks ∙ other_fact laws old t cpu entries close may is_resting (λ k. refl) refl u other (λ e. refl)) ∙ rests in
          let was = may.is_board.home u rested known in
          let is_now : slice_get (machine_in new).blocks u ≡ Some (others_by script closing_blocks t close answered u b) = ap (λ (all : List BlockState). slice_get all u) same_blocks ∙ other_is laws old t cpu entries close may u b other at in
          let older = last script (past_of old) u in
          let slot = slot_after u b other at (
            was.0,
            was.1,
            record {
              name = was.2.name;
              stands = subst (λ (p : PrivateTask). IsHome (is_user script u) script.layout was.0 p) (ap task_of_state at) was.2.stands;
              last_is = was.2.last;
              clear = λ e. was.2.clear (ap stage_of at ∙ e);
            },
          ) close refl done home_now in (
            slot.0,
            home_other (ends close answered.fate) goes_back tasks u (λ (e : u ≡ goes_back.name). other (e ∙ named)) ∙ slot.1,
            record {
              name = slot.2.name;
              stands = subst (λ (p : PrivateTask). IsHome (is_user script u) script.layout slot.0 p) (sym (ap task_of_state is_now)) slot.2.stands;
              last = λ user. slot.2.last_is user ∙ sym (ap (λ (past : List Event). last script past u) is ∙ left.last_is u);
              clear = λ e. slot.2.clear (sym (ap stage_of is_now) ∙ e);
            },
          )

      -- the board is one again
      pub board_back : pool ≡ pool_after (ends close answered.fate) settled.lease settled_pool → room ≡ old.room → length old.history < length history → IsBoard new
      board_back pool_is_after same_room grows =
          let was = may.is_board in
          let stays = after_stays (ends close answered.fate) settled.lease settled_pool in
          let before = settled_stays in
          let out = back_pool in
          let counts : large_count (machine_in new).blocks ≡ large_count (now laws old t cpu entries close may) = ap large_count same_blocks in
          let sums : areas new ≡ tally (λ v stage. is_user script v && holds_area stage) 0 (now laws old t cpu entries close may) = ap (tally (λ v stage. is_user script v && holds_area stage) 0) same_blocks in
          let all : pool.small.out + pool.large.out ≡ tally (λ v stage. is_user script v && holds_area stage) 0 (now laws old t cpu entries close may) = ap (λ (p : Pool). p.small.out + p.large.out) pool_is_after ∙ out.all_is in
          let number : pool.given ≡ settled_pool.given = ap (λ (p : Pool). p.given) pool_is_after ∙ stays.given in
          let given = was.pool.given in
          let more = before.2 in
          record {
            valid = was.valid;
            legal = subst (IsLegalPast script) (sym is) left.legal;
            order = subst (AreInOrder script) (sym is) (left.order was.order);
            closed = ap (λ (past : List Event). (machine script past).committing) is ∙ left.closed;
            count = home_length (ends close answered.fate) goes_back tasks ∙ tasks_many ∙ was.count;
            home = λ u rests known. elim (cases_eq u t) [
              | inl same ↦ subst (λ (n : ℕ). HasHome new n) (sym same) (own_slot (ap (λ (n : ℕ). is_resting (stage_in new n)) (sym same) ∙ rests))
              | inr other ↦ other_slot u other known rests
            ];
            pool = record {
              rows = ap (λ (p : Pool). p.rows) pool_is_after ∙ stays.rows ∙ before.0 ∙ was.pool.rows;
              large = ap (λ (p : Pool). p.large.out) pool_is_after ∙ out.large_is ∙ sym counts;
              all = all ∙ sym sums;
              capacity = ap (λ (p : Pool). p.large.capacity) pool_is_after ∙ stays.capacity ∙ before.1 ∙ was.pool.capacity;
              given = omega (arith, number, given, more, grows);
            };
            room = subst (λ (n : ℕ). most_events script ≤ n) (sym same_room) was.room;
          }

      -- what is kept beside it
      pub beside_back : (list : List ℕ) (capacity count : ℕ) (kept : IsKeptBeside old list capacity count members) (final : List Member) → AreLeft (ends close answered.fate) t (performed script t members close) final → length final ≡ length members
          → IsKeptBeside new ((list ++ ready_by t (deed_by script (close_command script t close)) members) ++ ready_after (ends close answered.fate) t (performed script t members close)) capacity (living_after (ends close answered.fate) (living_born (newborn (deed_by script (close_command script t close))) count)) final
      beside_back list capacity count kept final are_left many_final = record {
        queue = sym (queue_is laws old t cpu entries close may list capacity count members kept) ∙ ap (ready_list script) (sym is);
        fits = kept.fits;
        alive = back_living laws old t cpu entries close may count kept.alive ∙ sym (ap (tally (λ v stage. lives stage) 0) same_blocks);
        each = many_final ∙ kept.each;
        member = subst (λ (all : List BlockState). AreMembers all final) (sym same_blocks) (left_members laws script (past_of old) past_then t cpu answered private closing_blocks may.is_board.valid may.is_board.legal members kept.each kept.member close left (answer_is laws old t cpu entries close may) final are_left many_final);
      }
