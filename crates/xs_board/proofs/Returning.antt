-- What a board is after a task came back.
use Rattle.std.proofs.Common.{◌≡◌, ℕ, Bool, true, false, not, List, length, refl, sym, ap, ◌∙◌, subst, inl, inr}
use Rattle.std.proofs.lemmas.Bool.{cases_eq}
use Rattle.std.proofs.lemmas.Option.{same_Some}
use Rattle.std.specs.Prelude.{Option, Some, None, if◌then◌else◌, nat_lt, slice_get}
use Rattle.xs_base.specs.declared.component.Row.{Row}
use Rattle.xs_base.specs.Task.{PrivateTask, IsPrivateTask, marks_after, parked}
use Rattle.xs_base.specs.Tile.{grown}
use Rattle.xs_model.specs.declared.event.Reply.{Reply}
use Rattle.xs_model.specs.declared.event.Why.{Why}
use Rattle.xs_model.specs.declared.script.Command.{Command}
use Rattle.xs_model.specs.declared.script.Script.{Script}
use Rattle.xs_model.specs.Due.{large_count}
use Rattle.xs_model.specs.Line.{next_line}
use Rattle.xs_model.specs.Outer.{stage_left}
use Rattle.xs_model.specs.Script.{is_user}
use Rattle.xs_model.specs.State.{BlockState, is_stopped}
use Rattle.xs_pool.specs.Pool.{Pool}
use Rattle.xs_task.specs.declared.task.Task.{Task}
use Rattle.xs_task.specs.Parked.{IsParked}
use Rattle.xs_board.specs.declared.member.Life.{Life}
use Rattle.xs_board.specs.declared.turn.Entry.{Entry}
use Rattle.xs_board.specs.declared.turn.Close.{Close}
use Rattle.xs_board.specs.declared.turn.Close.TheVariants.{Quantum, Yield, Outer, Refused, Trap, End}
use Rattle.xs_board.specs.Board.{Board, machine_in, past_of, private_after, private_with}
use Rattle.xs_board.specs.Deed.{IsDoneBy, deed_by, members_by}
use Rattle.xs_board.specs.Home.{IsHome}
use Rattle.xs_board.specs.Laws.{Laws}
use Rattle.xs_board.specs.Member.{Member, AreMembers, is_waiting, life_of, member_at}
use Rattle.xs_board.specs.Putting.{ends, is_outer, kills, moved_on, moves_on}
use Rattle.xs_board.specs.Trapping.{CanTrap, IfTrap, WasSettled, fate_by}
use Rattle.xs_board.specs.Turn.{Answer, close_command, close_reply, filled_by, line_answer, line_closed, task_closed, trap_closed}
use Rattle.xs_board.proofs.Answered.{AreParked, done_answers}
use Rattle.xs_board.proofs.Asked.{stopped_parked}
use Rattle.xs_board.proofs.Blocks.{each_of}
use Rattle.xs_board.proofs.Areas.{close_task, few_given, some_small}
use Rattle.xs_board.proofs.Committing.{MayCommit, answer, answer_is, fate_is, later, leaves}
use Rattle.xs_board.proofs.Moving.{parked_marks}
use Rattle.xs_board.proofs.Homes.{home_of, parked_of, whole_of}
use Rattle.xs_board.proofs.Kept.{are, changed, performed}
use Rattle.xs_board.proofs.Left.{HasLeft}
use Rattle.xs_board.proofs.Own.{left_moves, own_filled, own_home, own_task}
use Rattle.xs_board.proofs.Seen.{blocks, now}

-- ---- a close that nobody's line makes

-- a deed is that of an outer line
pub outer_of : (script : Script) (t : ℕ) (close : Close) (command : Command) → close_command script t close ≡ Some command → is_outer close ≡ true
outer_of script t Quantum command is = absurd (cc is)
outer_of script t Yield command is = absurd (cc is)
outer_of script t (Outer line) command is = refl
outer_of script t (Refused error) command is = absurd (cc is)
outer_of script t Trap command is = absurd (cc is)
outer_of script t End command is = absurd (cc is)

-- the last processor that a close leaves its block
abbrev pub trap_last : Option Why → Option ℕ → Option ℕ
trap_last None older = None
trap_last (Some why) older = older

abbrev pub last_left : Close → Option Why → Option ℕ → Option ℕ
last_left Quantum fate older = older
last_left Yield fate older = older
last_left (Outer line) fate older = older
last_left (Refused error) fate older = older
last_left Trap fate older = trap_last fate older
last_left End fate older = older

-- What a trap makes of its task and of the pool, and a close without a trap leaves as it is.
abbrev pub Settles : Close → List Row → Option Why → Pool → Pool → Task → Task → Type 0
Settles close rows fate pool pool_then before after = IfTrap close (WasSettled rows fate pool pool_then before after) ((pool_then ≡ pool) × (after ≡ before))

-- a parked task that has grown is the grown task that is parked
grown_parked : (p : PrivateTask) → parked (grown (parked p)) ≡ parked (grown p)
unfolding marks_after
grown_parked p = refl

module _ (laws : Laws) (old : Board) (t cpu : ℕ) (entries : List Entry) (close : Close) (may : MayCommit old t cpu entries close) where
  abbrev script : Script
  script = old.script

  abbrev private : PrivateTask
  private = private_with old t entries

  abbrev closing_blocks : List BlockState
  closing_blocks = blocks laws old t cpu entries close may

  abbrev answered : Answer
  answered = answer laws old t cpu entries close may

  abbrev later_blocks : List BlockState
  later_blocks = now laws old t cpu entries close may

  pub left : HasLeft script (past_of old) (later laws old t cpu entries close may) t cpu close answered private closing_blocks
  left = leaves laws old t cpu entries close may

  -- the stopped blocks at the close are those before it
  pub closing_parked : AreParked script script.layout closing_blocks old.home
  closing_parked u b task user at stopped there = elim (cases_eq u t) [
    | inl same ↦
        let mine : b ≡ left.state = same_Some b left.state (sym at ∙ ap (slice_get closing_blocks) same ∙ left.here) in
        absurd (let off : is_stopped b.stage ≡ false = ap (λ (x : BlockState). is_stopped x.stage) mine ∙ ap is_stopped left.turn in cc (off, stopped))
    | inr other ↦ stopped_parked laws old t cpu entries close may u b task user (sym (left.same u other) ∙ at) stopped there
  ]

  -- ---- the deed, and what it answers

  module _ (task : Task) (home : IsHome (is_user script t) script.layout task (private_after old t entries close)) (members : List Member) (each : length members ≡ length script.blocks) (are_past : AreMembers (machine_in old).blocks members) (tasks : List (Option Task)) (after : Task) where
    -- the buffer at an outer line
    pub buffer_same : is_outer close ≡ true → private.buffer ≡ task.buffer.items
    buffer_same outer =
        let there = left.some outer in
        let stands = parked_of (is_user script t) script.layout task (private_after old t entries close) (left.line there.0 there.1).user home in
        sym (handed_buffer close) ∙ ap (λ (p : PrivateTask). p.buffer) stands.form
      where
        handed_buffer : (c : Close) → (private_after old t entries c).buffer ≡ private.buffer
        handed_buffer Quantum = refl
        handed_buffer Yield = refl
        handed_buffer (Outer n) = refl
        handed_buffer (Refused error) = refl
        handed_buffer Trap = refl
        handed_buffer End = refl

    -- what the members tell at the close
    abbrev pub at_close : AreMembers closing_blocks members
    at_close = are laws script (past_of old) (later laws old t cpu entries close may) t cpu answered private closing_blocks may.is_board.valid may.is_board.legal members each are_past close left

    -- the code answers for the line
    pub reply_known : (code : Reply) → IsDoneBy script.layout members t (deed_by script (close_command script t close)) code old.home tasks task after → code ≡ answered.reply
    reply_known code done = by_command (close_command script t close) refl done ∙ sym (answer_is laws old t cpu entries close may)
      where
        by_command : (c : Option Command) → close_command script t close ≡ c → IsDoneBy script.layout members t (deed_by script c) code old.home tasks task after → code ≡ close_reply script closing_blocks t close
        by_command None at done = done.0 ∙ sym (ap (line_answer script closing_blocks t) at)
        by_command (Some command) at done =
            let outer = outer_of script t close command at in
            let buffer : (left.state).task.buffer ≡ task.buffer.items = ap (λ (p : PrivateTask). p.buffer) (sym (left.task_is outer)) ∙ buffer_same outer in
            done_answers script script.layout closing_blocks members at_close t left.state left.here old.home tasks task after buffer closing_parked command code (λ name names. ((left.line command at).named name names).1) done
            ∙ sym (ap (line_answer script closing_blocks t) at)

    module _ (done : IsDoneBy script.layout members t (deed_by script (close_command script t close)) answered.reply old.home tasks task after) where
      -- the deed changes the buffer of the task alone
      pub after_is : after ≡ record task { buffer = after.buffer }
      after_is = by_command (close_command script t close) refl done
        where
          by_command : (c : Option Command) → close_command script t close ≡ c → IsDoneBy script.layout members t (deed_by script c) answered.reply old.home tasks task after → after ≡ record task { buffer = after.buffer }
          by_command None at done = done.2 ∙ ap (λ (x : Task). record task { buffer = x.buffer }) (sym done.2)
          by_command (Some command) at done =
              let outer = outer_of script t close command at in
              (own_filled script script.layout closing_blocks members at_close t answered.reply old.home tasks task after private closing_parked (buffer_same outer) command (λ name names. ((left.line command at).named name names).1) done).0

      -- ---- a line that traps

      -- what holds of a line that traps
      if_trap : (Holds : Type 0) → (close ≡ Trap → Holds) → IfTrap close Holds (Unit {0})
      if_trap Holds holds = by_close close refl
        where
          by_close : (c : Close) → close ≡ c → IfTrap c Holds (Unit {0})
          by_close Quantum is = tt
          by_close Yield is = tt
          by_close (Outer line) is = tt
          by_close (Refused error) is = tt
          by_close Trap is = holds is
          by_close End is = tt

      -- its task is as it came
      trap_same : close ≡ Trap → after ≡ task
      trap_same trap = (subst (λ (c : Close). IsDoneBy script.layout members t (deed_by script (close_command script t c)) answered.reply old.home tasks task after) trap done).2

      trap_home : close ≡ Trap → IsHome (is_user script t) script.layout after (parked private)
      trap_home trap = subst (λ (x : Task). IsHome (is_user script t) script.layout x (parked private)) (sym (trap_same trap)) (subst (λ (c : Close). IsHome (is_user script t) script.layout task (private_after old t entries c)) trap home)

      pub can_trap : IfTrap close (CanTrap script.layout old.pool after) (Unit {0})
      can_trap = if_trap (CanTrap script.layout old.pool after) by_trap
        where
          by_trap : close ≡ Trap → CanTrap script.layout old.pool after
          by_trap trap =
              let trapped = left.trapped trap in
              let stands = trap_home trap in
              record {
                whole = whole_of (is_user script t) script.layout after (parked private) trapped.0 stands;
                small = sym (ap (λ (p : PrivateTask). p.large) (parked_of (is_user script t) script.layout after (parked private) trapped.0 stands).form) ∙ trapped.1;
                rows_are = may.is_board.pool.rows;
                given = few_given laws old may.is_board;
                out = some_small laws old t cpu entries close may trapped.0 (sym (ap (λ (p : PrivateTask). p.large) (close_task laws old t cpu entries close may (inr trap))) ∙ trapped.1);
              }

      -- the code finds the same fate
      pub fate_known : (fate : Option Why) (pool : Pool) (settled : Task) → WasSettled script.layout fate old.pool pool after settled → close ≡ Trap → fate ≡ answered.fate
      fate_known fate pool settled is trap =
          let trapped = left.trapped trap in
          let permitted : after.permitted ≡ private.permitted = sym (ap (λ (p : PrivateTask). p.permitted) (parked_of (is_user script t) script.layout after (parked private) trapped.0 (trap_home trap)).form) in
          is.fate_is
          ∙ ap (λ (b : Bool). fate_by b (nat_lt old.pool.large.out old.pool.large.capacity)) permitted
          ∙ ap (λ (n : ℕ). fate_by private.permitted (nat_lt n old.pool.large.capacity)) may.is_board.pool.large
          ∙ ap (λ (n : ℕ). fate_by private.permitted (nat_lt (large_count (machine_in old).blocks) n)) may.is_board.pool.capacity
          ∙ sym (fate_is laws old t cpu entries close may trap)

      -- ---- the task that goes back

      module _ (pool : Pool) (settled : Task) (settles : Settles close script.layout answered.fate old.pool pool after settled) where
        -- where the task ends nothing was settled
        pub ends_same : ends close answered.fate ≡ true → (pool ≡ old.pool) × (settled ≡ after)
        ends_same end = by_close close settles end
          where
            by_fate : (fate : Option Why) → WasSettled script.layout fate old.pool pool after settled → kills fate ≡ true → (pool ≡ old.pool) × (settled ≡ after)
            by_fate None is end = absurd (cc end)
            by_fate (Some why) is end = (is.pool_is, is.task_is)

            by_close : (c : Close) → Settles c script.layout answered.fate old.pool pool after settled → ends c answered.fate ≡ true → (pool ≡ old.pool) × (settled ≡ after)
            by_close Quantum is end = is
            by_close Yield is end = is
            by_close (Outer line) is end = is
            by_close (Refused error) is end = is
            by_close Trap is end = by_fate answered.fate is end
            by_close End is end = is

        -- its name, its place and its last processor
        settled_facts : (settled.name ≡ after.name) × (settled.place ≡ after.place) × (settled.last ≡ last_left close answered.fate after.last)
        settled_facts = by_close close settles
          where
            same : settled ≡ after → (settled.name ≡ after.name) × (settled.place ≡ after.place) × (settled.last ≡ after.last)
            same is = (ap (λ (x : Task). x.name) is, ap (λ (x : Task). x.place) is, ap (λ (x : Task). x.last) is)

            by_fate : (fate : Option Why) → WasSettled script.layout fate old.pool pool after settled → (settled.name ≡ after.name) × (settled.place ≡ after.place) × (settled.last ≡ trap_last fate after.last)
            by_fate None is = (ap (λ (x : Task). x.name) is.task_is.others, ap (λ (x : Task). x.place) is.task_is.others, ap (λ (x : Task). x.last) is.task_is.others)
            by_fate (Some why) is = same is.task_is

            by_close : (c : Close) → Settles c script.layout answered.fate old.pool pool after settled → (settled.name ≡ after.name) × (settled.place ≡ after.place) × (settled.last ≡ last_left c answered.fate after.last)
            by_close Quantum is = same is.1
            by_close Yield is = same is.1
            by_close (Outer line) is = same is.1
            by_close (Refused error) is = same is.1
            by_close Trap is = by_fate answered.fate is
            by_close End is = same is.1

        pub settled_name : settled.name ≡ task.name
        settled_name = settled_facts.0 ∙ ap (λ (x : Task). x.name) after_is

        pub settled_place : settled.place ≡ task.place
        settled_place = settled_facts.1 ∙ ap (λ (x : Task). x.place) after_is

        -- as it goes back
        abbrev pub back : Task
        back = moved_on (moves_on close (member_at (performed script t members close) t).life) settled

        moved_name : (b : Bool) (x : Task) → (moved_on b x).name ≡ x.name
        moved_name true x = refl
        moved_name false x = refl

        pub back_name : back.name ≡ task.name
        back_name = moved_name (moves_on close (member_at (performed script t members close) t).life) settled ∙ settled_name

        pub back_last : back.last ≡ last_left close answered.fate task.last
        back_last = moved_last (moves_on close (member_at (performed script t members close) t).life) settled ∙ settled_facts.2 ∙ ap (λ (x : Task). last_left close answered.fate x.last) after_is
          where
            moved_last : (b : Bool) (x : Task) → (moved_on b x).last ≡ x.last
            moved_last true x = refl
            moved_last false x = refl

        -- it stands for the private task after the close
        pub back_stands : ends close answered.fate ≡ false → IsHome (is_user script t) script.layout back (parked (task_closed script closing_blocks t close answered private))
        back_stands going = by_close close refl going done home settles
          where
            by_fate : close ≡ Trap → (fate : Option Why) → kills fate ≡ false → WasSettled script.layout fate old.pool pool after settled → IsHome (is_user script t) script.layout settled (parked (trap_closed fate private))
            by_fate trap (Some why) going is = absurd (cc going)
            by_fate trap None going is =
                let user = (left.trapped trap).0 in
                home_of (is_user script t) script.layout settled (parked (grown private)) user is.task_is.whole
                (subst (λ (p : PrivateTask). IsParked script.layout settled p) (grown_parked private)
                (is.task_is.stands (parked private) (parked_of (is_user script t) script.layout after (parked private) user (trap_home trap)) (sym (parked_marks private))))

            by_close : (c : Close) → close ≡ c → ends c answered.fate ≡ false → IsDoneBy script.layout members t (deed_by script (close_command script t c)) answered.reply old.home tasks task after → IsHome (is_user script t) script.layout task (private_after old t entries c) → Settles c script.layout answered.fate old.pool pool after settled
                → IsHome (is_user script t) script.layout (moved_on (moves_on c (member_at (performed script t members c) t).life) settled) (parked (task_closed script closing_blocks t c answered private))
            by_close Quantum is going done home same = subst (λ (x : Task). IsHome (is_user script t) script.layout x (parked private)) (sym (same.1 ∙ done.2)) home
            by_close Yield is going done home same = subst (λ (x : Task). IsHome (is_user script t) script.layout x (parked private)) (sym (same.1 ∙ done.2)) home
            by_close (Outer n) is going done home same =
                let outer : is_outer close ≡ true = ap is_outer is in
                let there = left.some outer in
                let command = there.0 in
                let at : close_command script t (Outer n) ≡ Some command = ap (close_command script t) (sym is) ∙ there.1 in
                let line = left.line command there.1 in
                let filled = own_filled script script.layout closing_blocks members at_close t answered.reply old.home tasks task after private closing_parked (buffer_same outer) command (λ name names. (line.named name names).1) (subst (λ (o : Option Command). IsDoneBy script.layout members t (deed_by script o) answered.reply old.home tasks task after) at done) in
                let moves = not (is_waiting (life_of (stage_left script command answered.reply))) in
                let fill = filled_by script closing_blocks command answered.reply private in
                let moved = changed laws script (past_of old) (later laws old t cpu entries close may) t cpu answered private closing_blocks may.is_board.valid may.is_board.legal members each are_past close left command there.1 (answer_is laws old t cpu entries close may ∙ ap (line_answer script closing_blocks t) there.1) in
                let life : (member_at (performed script t members (Outer n)) t).life ≡ life_of (stage_left script command answered.reply) = ap (λ (o : Option Command). (member_at (members_by t (deed_by script o) members) t).life) at ∙ ap (λ (m : Member). m.life) moved.own in
                let closed : task_closed script closing_blocks t (Outer n) answered private ≡ (if moves then next_line fill else fill) = ap (λ (o : Option Command). line_closed script closing_blocks o answered.reply private) at ∙ left_moves script command answered.reply fill in
                let valid : IsPrivateTask script.layout (parked (if moves then next_line fill else fill)) = subst (λ (p : PrivateTask). IsPrivateTask script.layout p)
                (own_task script (past_of old) closing_blocks t left.state left.here (ap is_stopped left.turn) close answered private left.task_is left.line left.some (answer_is laws old t cpu entries close may) ∙ ap (λ (c : Close). parked (task_closed script closing_blocks t c answered private)) is ∙ ap parked closed)
                (each_of (λ (b : BlockState). IsPrivateTask script.layout b.task) later_blocks t _ (laws.tasks script (later laws old t cpu entries close may) may.is_board.valid left.legal).tasks left.own) in
                let stands = own_home script.layout task after private fill moves (whole_of (is_user script t) script.layout task (parked private) line.user home) (parked_of (is_user script t) script.layout task (parked private) line.user home) filled.0 filled.1 valid in
                subst (λ (x : Task). IsHome (is_user script t) script.layout (moved_on (moves_on (Outer n) (member_at (performed script t members (Outer n)) t).life) x) (parked (task_closed script closing_blocks t (Outer n) answered private))) (sym same.1)
                (subst (λ (l : Life). IsHome (is_user script t) script.layout (moved_on (not (is_waiting l)) after) (parked (task_closed script closing_blocks t (Outer n) answered private))) (sym life)
                (subst (λ (p : PrivateTask). IsHome (is_user script t) script.layout (moved_on moves after) (parked p)) (sym closed)
                (home_of (is_user script t) script.layout (moved_on moves after) (parked (if moves then next_line fill else fill)) line.user stands.whole stands.parked)))
            by_close (Refused error) is going done home same = absurd (cc going)
            by_close Trap is going done home is_settled = by_fate is answered.fate going is_settled
            by_close End is going done home same = absurd (cc going)
