-- What the calls ask for that put a task back.
use Rattle.std.proofs.Common.{◌≡◌, ℕ, ◌+◌, ◌<◌, ◌≤◌, ◌^◌, Bool, true, false, List, ◌++◌, length, refl, sym, ap, ◌∙◌, subst, arith, length-append, append_assoc}
use Rattle.std.proofs.lemmas.Option.{same_Some}
use Rattle.std.specs.Prelude.{Option, Some, None, IfSome, if◌then◌else◌, slice_get}
use Rattle.xs_base.specs.declared.class.Class.TheVariants.{Small, Large}
use Rattle.xs_base.specs.Task.{PrivateTask}
use Rattle.xs_model.specs.declared.script.Command.{Command}
use Rattle.xs_model.specs.declared.script.Command.TheVariants.{Fork, Kill, Stop, Wait, Getregs, Setregs, Cont}
use Rattle.xs_model.specs.declared.script.Script.{Script}
use Rattle.xs_model.specs.declared.stage.Stage.TheVariants.{Stopped}
use Rattle.xs_model.specs.declared.stage.Stage.{Stage}
use Rattle.xs_model.specs.Names.{named_block}
use Rattle.xs_model.specs.Ready.{ready_list}
use Rattle.xs_model.specs.Script.{block_named, is_user}
use Rattle.xs_model.specs.State.{BlockState, is_stopped, lives, stage_of, task_of_state}
use Rattle.xs_task.specs.declared.task.Task.{Task}
use Rattle.xs_task.specs.Parked.{IsParked}
use Rattle.xs_task.specs.TaskArea.{IsTask}
use Rattle.xs_board.specs.declared.deed.Deed.{Deed}
use Rattle.xs_board.specs.declared.turn.Entry.{Entry}
use Rattle.xs_board.specs.declared.turn.Close.{Close}
use Rattle.xs_board.specs.declared.turn.Close.TheVariants.{Quantum, Yield, Outer, Refused, Trap, End}
use Rattle.xs_board.specs.Board.{Board, HasHome, IsKeptBeside, machine_in, past_of, private_after, private_in, private_with}
use Rattle.xs_board.specs.Deed.{CanDo, IfDeed, IsReached, deed_by, deed_of, named_in, ready_by}
use Rattle.xs_board.specs.Home.{IsHome, is_resting}
use Rattle.xs_board.specs.Laws.{Laws}
use Rattle.xs_board.specs.Member.{Member, AreMembers, is_stopped_life, member_at}
use Rattle.xs_board.specs.Putting.{at_outer, ends, is_outer, ready_after}
use Rattle.xs_board.specs.Turn.{body_command, close_command}
use Rattle.xs_board.proofs.Answered.{AreParked}
use Rattle.xs_board.proofs.Blocks.{existing, tally_most}
use Rattle.xs_board.proofs.Committing.{MayCommit, answer, answer_is, block_known, closing, later, lease_known, leaves, small_unborn}
use Rattle.xs_board.proofs.Homes.{parked_of, place_of, whole_of}
use Rattle.xs_board.proofs.Kept.{left_ready, performed}
use Rattle.xs_board.proofs.Left.{IsLineOf}
use Rattle.xs_board.proofs.Mirror.{stopped_at}
use Rattle.xs_board.proofs.Queue.{queue_fits}

-- what holds of the block that a line names holds of the block that its deed names
named_of : (script : Script) (P : ℕ → Type 0) (command : Command) → ((name : List ℕ) → named_block command ≡ Some name → P (block_named script name)) → IfDeed (deed_of script command) (λ deed. IfSome (named_in deed) P)
named_of script P (Fork name) each = each name refl
named_of script P (Kill name signo) each = each name refl
named_of script P Stop each = tt
named_of script P (Wait name) each = each name refl
named_of script P (Getregs name set) each = each name refl
named_of script P (Setregs name set count) each = each name refl
named_of script P (Cont name) each = each name refl
named_of script P other each = tt

module _ (laws : Laws) (old : Board) (t cpu : ℕ) (entries : List Entry) (close : Close) (may : MayCommit old t cpu entries close) where
  abbrev script : Script
  script = old.script

  abbrev private : PrivateTask
  private = private_with old t entries

  -- the line that closes the turn
  line : (command : Command) → close_command script t close ≡ Some command → IsLineOf script (past_of old) t private command
  line = (leaves laws old t cpu entries close may).line

  -- what holds of each deed that a line may do holds of that of the close
  each_deed : (Holds : Option Deed → Type 0) → Holds None → ((command : Command) → IsLineOf script (past_of old) t private command → Holds (deed_of script command)) → Holds (deed_by script (close_command script t close))
  each_deed Holds none some = by_command (close_command script t close) refl
    where
      by_command : (c : Option Command) → close_command script t close ≡ c → Holds (deed_by script c)
      by_command None at = none
      by_command (Some command) at = some command (line command at)

  -- ---- the blocks that are named

  pub deed_named : (members : List Member) → length members ≡ length script.blocks → IfDeed (deed_by script (close_command script t close)) (λ deed. IfSome (named_in deed) (λ u. (u < length members) × (u < length old.home)))
  deed_named members all =
      let count = may.is_board.count in
      each_deed (λ (d : Option Deed). IfDeed d (λ deed. IfSome (named_in deed) (λ u. (u < length members) × (u < length old.home)))) tt
      (λ command is. named_of script (λ u. (u < length members) × (u < length old.home)) command (λ name names. let known = (is.named name names).0 in (omega (arith, known, all), omega (arith, known, count))))

  -- the task of a block that rests
  pub resting_home : (u : ℕ) (b : BlockState) → slice_get (machine_in old).blocks u ≡ Some b → is_resting b.stage ≡ true → HasHome old u
  resting_home u b at rests = may.is_board.home u (ap (λ (x : Option BlockState). is_resting (stage_of x)) at ∙ rests) (block_known laws.machine old u b at)

  -- a stopped user task is parked
  pub stopped_parked : AreParked script script.layout (machine_in old).blocks old.home
  stopped_parked u b task user at stopped there =
      let home = resting_home u b at (stopped_rests b.stage stopped) in
      let same : home.0 ≡ task = same_Some home.0 task (sym home.1 ∙ there) in
      subst (λ (x : Task). IsParked script.layout x b.task) same
      (subst (λ (p : PrivateTask). IsParked script.layout home.0 p) (ap task_of_state at) (parked_of (is_user script u) script.layout home.0 (private_in old u) user home.2.stands))
    where
      stopped_rests : (s : Stage) → is_stopped s ≡ true → is_resting s ≡ true
      stopped_rests Stopped is = refl
      stopped_rests other is = absurd (cc is)

  -- ---- what a deed asks for

  module _ (task : Task) (home : IsHome (is_user script t) script.layout task (private_after old t entries close)) (members : List Member) (are : AreMembers (machine_in old).blocks members) where
    -- the target of a line that reaches registers
    reached_task : (v : ℕ) → is_user script v ≡ true → v < length script.blocks → is_stopped_life (member_at members v).life ≡ true → IsReached script.layout old.home v
    reached_task v user known held =
        let same = (laws.machine script (past_of old)).2 in
        let b = existing (machine_in old).blocks v (omega (arith, known, same)) in
        let stopped : is_stopped (b.0).stage ≡ true = ap (λ (x : Option BlockState). is_stopped (stage_of x)) (sym b.1) ∙ sym (stopped_at (machine_in old).blocks members are v) ∙ held in
        let has = resting_home v b.0 b.1 (stopped_rests (b.0).stage stopped) in
        record {
          task = has.0;
          there = has.1;
          whole = whole_of (is_user script v) script.layout has.0 (private_in old v) user has.2.stands;
          away = (parked_of (is_user script v) script.layout has.0 (private_in old v) user has.2.stands).flag;
        }
      where
        stopped_rests : (s : Stage) → is_stopped s ≡ true → is_resting s ≡ true
        stopped_rests Stopped is = refl
        stopped_rests other is = absurd (cc is)

    whole : is_user script t ≡ true → IsTask script.layout task
    whole user = whole_of (is_user script t) script.layout task (private_after old t entries close) user home

    can_do : (command : Command) → IsLineOf script (past_of old) t private command → IfDeed (deed_of script command) (CanDo script.layout old.home members task)
    can_do (Fork name) is =
        let c = block_named script name in
        let birth = is.born name refl in
        let state = birth.0 in
        let has = resting_home c state birth.1.here (ap is_resting birth.1.unborn) in
        let room : (private_in old c).large ≡ false = ap (λ (b : Option BlockState). (task_of_state b).large) birth.1.here ∙ small_unborn laws old c state may.is_board birth.1.here birth.1.unborn in (
          whole is.user,
          (
            has.0,
            has.1,
            record {
              whole = whole_of (is_user script c) script.layout has.0 (private_in old c) birth.1.child_user has.2.stands;
              small = λ lease there. (lease_known (is_user script c) script.layout has.0 (private_in old c) has.2.stands lease there).1 ∙ ap (λ (b : Bool). if b then Large else Small) room;
              clear = has.2.clear (ap stage_of birth.1.here ∙ birth.1.unborn);
            },
          ),
        )
    can_do (Kill name signo) is = tt
    can_do Stop is = tt
    can_do (Wait name) is = tt
    can_do (Getregs name set) is = let known = is.named name refl in ((whole is.user).buffer, reached_task (block_named script name) known.1 known.0)
    can_do (Setregs name set count) is =
        let known = is.named name refl in
        let fits = is.fits in
        let size = (whole is.user).buffer in
        (subst (λ (n : ℕ). count ≤ n) (sym size) fits, reached_task (block_named script name) known.1 known.0)
    can_do (Cont name) is = tt
    can_do other is = tt

    pub deed_can : IfDeed (deed_by script (close_command script t close)) (CanDo script.layout old.home members task)
    deed_can = each_deed (λ (d : Option Deed). IfDeed d (CanDo script.layout old.home members task)) tt can_do

    -- ---- the code finds the deed

    pub deed_found : at_outer close (deed_by script (body_command script t task.place)) ≡ deed_by script (close_command script t close)
    deed_found = by_close close refl (place_of (is_user script t) script.layout task (private_after old t entries close) home)
      where
        some : is_outer close ≡ true → (command : Command) × (close_command script t close ≡ Some command)
        some = (leaves laws old t cpu entries close may).some

        by_close : (c : Close) → close ≡ c → task.place ≡ (private_after old t entries close).place → at_outer c (deed_by script (body_command script t task.place)) ≡ deed_by script (close_command script t c)
        by_close Quantum is place = refl
        by_close Yield is place = refl
        by_close (Outer n) is place =
            let there = some (ap is_outer is) in
            let stands = line there.0 there.1 in
            let here : task.place ≡ private.place = place ∙ ap (λ (c : Close). (private_after old t entries c).place) is in
            ap (λ (k : ℕ). deed_by script (body_command script t k)) here
            ∙ ap (deed_by script) (stands.body ∙ sym there.1)
            ∙ ap (λ (c : Close). deed_by script (close_command script t c)) is
        by_close (Refused error) is place = refl
        by_close Trap is place = refl
        by_close End is place = refl

    -- the place behind an outer line
    pub next_place : is_outer close ≡ true → task.place + 1 < 2 ^ 32
    next_place outer =
        let there = (leaves laws old t cpu entries close may).some outer in
        let stands = line there.0 there.1 in
        let place = place_of (is_user script t) script.layout task (private_after old t entries close) home in
        let handed = handed_place close in
        let small = stands.place in
        omega (arith, place, handed, small)
      where
        handed_place : (c : Close) → (private_after old t entries c).place ≡ private.place
        handed_place Quantum = refl
        handed_place Yield = refl
        handed_place (Outer n) = refl
        handed_place (Refused error) = refl
        handed_place Trap = refl
        handed_place End = refl

  -- ---- the queue

  module _ (list : List ℕ) (capacity count : ℕ) (members : List Member) (kept : IsKeptBeside old list capacity count members) where
    -- whom the turn makes ready
    pub queue_is : ready_list script (later laws old t cpu entries close may) ≡ (list ++ ready_by t (deed_by script (close_command script t close)) members) ++ ready_after (ends close (answer laws old t cpu entries close may).fate) t (performed script t members close)
    queue_is =
        let left = leaves laws old t cpu entries close may in
        left.ready
        ∙ ap (λ (all : List ℕ). ready_list script (past_of old) ++ all) (left_ready laws script (past_of old) (later laws old t cpu entries close may) t cpu (answer laws old t cpu entries close may) private (closing laws old t cpu entries close may) may.is_board.valid may.is_board.legal members kept.each kept.member close left (answer_is laws old t cpu entries close may))
        ∙ sym (append_assoc (ready_list script (past_of old)) (ready_by t (deed_by script (close_command script t close)) members) (ready_after (ends close (answer laws old t cpu entries close may).fate) t (performed script t members close)))
        ∙ ap (λ (all : List ℕ). (all ++ ready_by t (deed_by script (close_command script t close)) members) ++ ready_after (ends close (answer laws old t cpu entries close may).fate) t (performed script t members close)) (sym kept.queue)

    queue_room : length ((list ++ ready_by t (deed_by script (close_command script t close)) members) ++ ready_after (ends close (answer laws old t cpu entries close may).fate) t (performed script t members close)) ≤ capacity
    queue_room =
        let most = queue_fits laws.once laws.machine script (later laws old t cpu entries close may) (leaves laws old t cpu entries close may).legal in
        let fits = kept.fits in
        let same = ap length queue_is in
        omega (arith, most, fits, same)

    -- the queue has room for those that the deed makes ready
    pub deed_room : length list + length (ready_by t (deed_by script (close_command script t close)) members) ≤ capacity
    deed_room =
        let first = ready_by t (deed_by script (close_command script t close)) members in
        let rest = ready_after (ends close (answer laws old t cpu entries close may).fate) t (performed script t members close) in
        let room = queue_room in
        let all = length-append (list ++ first) rest in
        let part = length-append list first in
        omega (arith, room, all, part)

    -- and for those that the close does
    pub put_room : length (list ++ ready_by t (deed_by script (close_command script t close)) members) + length (ready_after (ends close (answer laws old t cpu entries close may).fate) t (performed script t members close)) ≤ capacity
    put_room =
        let first = ready_by t (deed_by script (close_command script t close)) members in
        let rest = ready_after (ends close (answer laws old t cpu entries close may).fate) t (performed script t members close) in
        let room = queue_room in
        let all = length-append (list ++ first) rest in
        omega (arith, room, all)

    -- few blocks live
    pub few_live : count + 1 < 2 ^ 32
    few_live =
        let most = tally_most (λ v stage. lives stage) 0 (machine_in old).blocks in
        let same = (laws.machine script (past_of old)).2 in
        let few = may.is_board.valid.few in
        let alive = kept.alive in
        omega (arith, most, same, few, alive)
