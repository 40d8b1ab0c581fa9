-- The task of another block after an outer line, which is home.
use Rattle.std.proofs.Common.{◌≡◌, ℕ, ◌==◌, Bool, true, false, ◌&&◌, List, length, take, refl, sym, ap, ◌∙◌, subst, arith, inl, inr, eq-eqb, ne_eqb}
use Rattle.std.proofs.lemmas.Bool.{cases_Bool, cases_eq}
use Rattle.std.proofs.lemmas.List.{get_or-set_other, get_or-set_same}
use Rattle.std.proofs.lemmas.Option.{same_Some, slice_get_within}
use Rattle.std.specs.Prelude.{Option, Some, None, if◌then◌else◌, slice_get}
use Rattle.xs_base.specs.declared.component.Row.{Row}
use Rattle.xs_base.specs.declared.words.Set.{Set}
use Rattle.xs_base.specs.RegisterSet.{Accepted, Count, Fault, Header, SetResult, set_errno, set_result}
use Rattle.xs_base.specs.Task.{PrivateTask, child_of, parked}
use Rattle.xs_model.specs.declared.event.Reply.{Reply}
use Rattle.xs_model.specs.declared.script.Command.{Command}
use Rattle.xs_model.specs.declared.script.Command.TheVariants.{Fork, Kill, Stop, Wait, Getregs, Setregs, Cont}
use Rattle.xs_model.specs.declared.script.Script.{Script}
use Rattle.xs_model.specs.declared.stage.Stage.{Stage}
use Rattle.xs_model.specs.declared.stage.Stage.TheVariants.{Unborn, Ready}
use Rattle.xs_model.specs.declared.event.Event.{Event}
use Rattle.xs_model.specs.Effects.{reached}
use Rattle.xs_model.specs.Line.{count_or_error}
use Rattle.xs_model.specs.Machine.{machine}
use Rattle.xs_model.specs.Note.{is_count, last_after, set_act, set_target}
use Rattle.xs_model.specs.Outer as outers
use Rattle.xs_model.specs.Outer.{bear, born, buffer_of, no_block, set_task}
use Rattle.xs_model.specs.Script.{block_named, is_user}
use Rattle.xs_model.specs.State.{BlockState, is_stopped, stage_of}
use Rattle.xs_task.specs.declared.task.Task.{Task}
use Rattle.xs_task.specs.Parked.{IsParked}
use Rattle.xs_task.specs.TaskArea.{IsTask}
use Rattle.xs_board.specs.Deed.{HasBorn, HasWritten, IsDoneBy, deed_of, newborn, task_home}
use Rattle.xs_board.specs.Home.{IsClear, IsHome}
use Rattle.xs_board.specs.Member.{Member, AreMembers, is_stopped_life, member_at}
use Rattle.xs_board.proofs.Changed.{there_is}
use Rattle.xs_board.proofs.Answered.{of_stopped, of_loose}
use Rattle.xs_board.proofs.Left.{IsLineOf}
use Rattle.xs_board.proofs.Mirror.{stopped_at}
use Rattle.xs_board.proofs.Moving.{parked_child, parked_marks}
use Rattle.xs_board.proofs.Others.{reached_stage}
use Rattle.xs_board.proofs.Tests.{if_false, if_true}

-- ---- tasks that are home

-- a user task is whole
pub whole_of : (user : Bool) (rows : List Row) (task : Task) (private : PrivateTask) → user ≡ true → IsHome user rows task private → IsTask rows task
whole_of true rows task private user home = home.whole
whole_of false rows task private user home = absurd (cc user)

-- and parked
pub parked_of : (user : Bool) (rows : List Row) (task : Task) (private : PrivateTask) → user ≡ true → IsHome user rows task private → IsParked rows task private
parked_of true rows task private user home = home.parked
parked_of false rows task private user home = absurd (cc user)

-- such a one is home
pub home_of : (user : Bool) (rows : List Row) (task : Task) (private : PrivateTask) → user ≡ true → IsTask rows task → IsParked rows task private → IsHome user rows task private
home_of true rows task private user whole parked = record { whole = whole; parked = parked }
home_of false rows task private user whole parked = absurd (cc user)

-- it is at its private task's place
pub place_of : (user : Bool) (rows : List Row) (task : Task) (private : PrivateTask) → IsHome user rows task private → task.place ≡ private.place
place_of true rows task private home = sym (ap (λ (p : PrivateTask). p.place) home.parked.form)
place_of false rows task private home = home.place

-- The task is that of block u, which is at this stage, and has this private task and last processor.
pub record IsTaskFor (script : Script) (u : ℕ) (task : Task) (private : PrivateTask) (last : Option ℕ) (stage : Stage) : Type 0 where
  pub name : task.name ≡ u
  pub stands : IsHome (is_user script u) script.layout task private
  pub last_is : is_user script u ≡ true → task.last ≡ last
  pub clear : stage ≡ Unborn → IsClear task

-- Its place in the board has it.
abbrev pub HasSlot : Script → List (Option Task) → ℕ → PrivateTask → Option ℕ → Stage → Type 0
HasSlot script home u private last stage = (task : Task) × (task_home home u ≡ Some task) × IsTaskFor script u task private last stage

-- so it is where nothing of that changes
pub slot_stays : (script : Script) (old new : List (Option Task)) (u : ℕ) (before after : PrivateTask) (last_before last_after : Option ℕ) (was now : Stage) → task_home new u ≡ task_home old u → after ≡ before → last_after ≡ last_before → (now ≡ Unborn → was ≡ Unborn)
    → HasSlot script old u before last_before was → HasSlot script new u after last_after now
slot_stays script old new u before after last_before last_after was now slot same last_is unborn has = (
  has.0,
  slot ∙ has.1,
  record {
    name = has.2.name;
    stands = subst (λ (p : PrivateTask). IsHome (is_user script u) script.layout has.0 p) (sym same) has.2.stands;
    last_is = λ user. has.2.last_is user ∙ sym last_is;
    clear = λ is. has.2.clear (unborn is);
  },
)

-- ---- stages

abbrev pub is_unborn : Stage → Bool
is_unborn Unborn = true
is_unborn other = false

pub unborn_is : (s : Stage) → is_unborn s ≡ true → s ≡ Unborn
unborn_is Unborn is = refl
unborn_is other is = absurd (cc is)

-- a block that a line doesn't bear was unborn before, if it is
pub unborn_before : (script : Script) (blocks : List BlockState) (t : ℕ) (command : Command) (reply : Reply) (u : ℕ) (b : BlockState) → (newborn (deed_of script command) ≡ Some u → ⊥) → (reached script blocks t command reply u b).stage ≡ Unborn → b.stage ≡ Unborn
unborn_before script blocks t command reply u b other is =
    unborn_is b.stage (sym (reached_stage is_unborn (λ child. refl) refl script blocks t command reply u b (λ e. absurd (other e))) ∙ ap is_unborn is)

-- ---- a write

-- what is refused leaves the task
refused_stays : (count : ℕ) (result : SetResult) (task : PrivateTask) → is_count (count_or_error count (set_errno result)) ≡ false → set_task result task ≡ task
refused_stays count (Accepted new) task off = absurd (cc off)
refused_stays count Fault task off = refl
refused_stays count Count task off = refl
refused_stays count (Header error) task off = refl

-- ---- the task of block u

module _ (script : Script) (past : List Event) (blocks : List BlockState) (members : List Member) (are : AreMembers blocks members) (t : ℕ) (state : BlockState) (here : slice_get blocks t ≡ Some state) (task : PrivateTask) (reply : Reply) (old new : List (Option Task)) (before after : Task) (length_is : length old ≡ length blocks) (same_task : task ≡ state.task) (same_blocks : (u : ℕ) → (u ≡ t → ⊥) → slice_get blocks u ≡ slice_get (machine script past).blocks u) (home : IsHome (is_user script t) script.layout before (parked task)) where
  -- it stays where the line leaves it
  kept : (command : Command) (u : ℕ) (b : BlockState) (older : Option ℕ) → task_home new u ≡ task_home old u → (reached script blocks t command reply u b).task ≡ b.task → last_after t (set_act (set_target script (Some command)) (is_count reply)) u older ≡ older → (newborn (deed_of script command) ≡ Some u → ⊥)
      → HasSlot script old u b.task older b.stage
      → HasSlot script new u (reached script blocks t command reply u b).task (last_after t (set_act (set_target script (Some command)) (is_count reply)) u older) (reached script blocks t command reply u b).stage
  kept command u b older slot same last_is other has =
      slot_stays script old new u b.task (reached script blocks t command reply u b).task older (last_after t (set_act (set_target script (Some command)) (is_count reply)) u older) b.stage (reached script blocks t command reply u b).stage slot same last_is (unborn_before script blocks t command reply u b other) has

  slots : new ≡ old → (u : ℕ) → task_home new u ≡ task_home old u
  slots same u = ap (λ (all : List (Option Task)). task_home all u) same

  -- ---- the child of a fork

  child_slot : (name : List ℕ) (b : BlockState) (older : Option ℕ) → slice_get blocks (block_named script name) ≡ Some b → b.stage ≡ Unborn → is_user script t ≡ true → is_user script (block_named script name) ≡ true → older ≡ None → HasBorn script.layout before (block_named script name) old new
      → HasSlot script old (block_named script name) b.task older b.stage
      → HasSlot script new (block_named script name) (reached script blocks t (Fork name) reply (block_named script name) b).task older (reached script blocks t (Fork name) reply (block_named script name) b).stage
  child_slot name b older at unborn user child_user none born_is has =
      let c = block_named script name in
      let within = slice_get_within blocks c b at in
      let child = born_is.4 in
      let same : born_is.0 ≡ has.0 = same_Some born_is.0 has.0 (sym born_is.2 ∙ has.1) in
      let is : reached script blocks t (Fork name) reply c b ≡ bear t state.task Unborn b =
      if_true (c == c) _ _ (eq-eqb c c refl) ∙ ap (λ (parent : Option BlockState). born t parent b) here ∙ ap (λ (s : Stage). bear t state.task s b) unborn in
      let private : (reached script blocks t (Fork name) reply c b).task ≡ child_of (parked task) = ap (λ (x : BlockState). x.task) is ∙ ap child_of (sym same_task) ∙ sym (parked_child task) in (
        born_is.1,
        ap (λ (all : List (Option Task)). task_home all c) born_is.3 ∙ get_or-set_same old c (Some born_is.1) None (omega (arith, within, length_is)),
        record {
          name = child.name ∙ ap (λ (x : Task). x.name) same ∙ has.2.name;
          stands = subst (λ (p : PrivateTask). IsHome (is_user script c) script.layout born_is.1 p) (sym private)
              (home_of (is_user script c) script.layout born_is.1 (child_of (parked task)) child_user child.whole (child.stands (parked task) (parked_of (is_user script t) script.layout before (parked task) user home) (sym (parked_marks task))));
          last_is = λ user. child.last ∙ sym none;
          clear = λ e. absurd (let ready : Ready ≡ Unborn = sym (ap (λ (x : BlockState). x.stage) is) ∙ e in cc ready);
        },
      )

  -- ---- the target of a write

  target_slot : (name : List ℕ) (set : Set) (count : ℕ) (b : BlockState) (older : Option ℕ) → slice_get blocks (block_named script name) ≡ Some b → state.task.buffer ≡ before.buffer.items → is_user script (block_named script name) ≡ true
      → HasWritten script.layout set count (take count before.buffer.items) (block_named script name) reply old new → (b.stage ≡ Unborn → ⊥)
      → HasSlot script old (block_named script name) b.task older b.stage
      → HasSlot script new (block_named script name) (reached script blocks t (Setregs name set count) reply (block_named script name) b).task (last_after t (set_act (set_target script (Some (Setregs name set count))) (is_count reply)) (block_named script name) older) (reached script blocks t (Setregs name set count) reply (block_named script name) b).stage
  target_slot name set count b older at buffer user wrote born_already has =
      let v = block_named script name in
      let within = slice_get_within blocks v b at in
      let same : wrote.0 ≡ has.0 = same_Some wrote.0 has.0 (sym wrote.2 ∙ has.1) in
      let parked_before = subst (λ (x : Task). IsParked script.layout x b.task) (sym same) (parked_of (is_user script v) script.layout has.0 b.task user has.2.stands) in
      let bytes = take count before.buffer.items in
      let result = set_result b.task set bytes in
      let written = wrote.4 in
      let answer = written.reply_is b.task parked_before in
      let private : (reached script blocks t (Setregs name set count) reply v b).task ≡ set_task result b.task =
      ap (λ (x : Bool). (if is_count reply && x then outers.registers_set set count (buffer_of (slice_get blocks t)) b else b).task) (eq-eqb v v refl)
      ∙ ap (λ (all : List ℕ). (if is_count reply && true then outers.registers_set set count all b else b).task) (ap buffer_of here ∙ buffer)
      ∙ by_count (is_count reply) (sym (ap is_count answer)) result in (
        wrote.1,
        ap (λ (all : List (Option Task)). task_home all v) wrote.3 ∙ get_or-set_same old v (Some wrote.1) None (omega (arith, within, length_is)),
        record {
          name = written.name ∙ ap (λ (x : Task). x.name) same ∙ has.2.name;
          stands = subst (λ (p : PrivateTask). IsHome (is_user script v) script.layout wrote.1 p) (sym private)
              (home_of (is_user script v) script.layout wrote.1 (set_task result b.task) user written.whole (written.stands b.task parked_before));
          last_is = λ user. written.last ∙ by_last (is_count reply) v wrote.0.last older (ap (λ (x : Task). x.last) same ∙ has.2.last_is user);
          clear = λ e. absurd (born_already (unborn_before script blocks t (Setregs name set count) reply v b (λ n. cc n) e));
        },
      )
    where
      by_count : (counted : Bool) → is_count (count_or_error count (set_errno (set_result b.task set (take count before.buffer.items)))) ≡ counted → (result : SetResult)
          → (if counted && true then outers.registers_set set count before.buffer.items b else b).task ≡ set_task (set_result b.task set (take count before.buffer.items)) b.task
      by_count true is result = refl
      by_count false is result = sym (refused_stays count (set_result b.task set (take count before.buffer.items)) b.task is)

      by_last : (counted : Bool) (v : ℕ) (last older : Option ℕ) → last ≡ older → (if counted then None else last) ≡ last_after t (set_act (Some v) counted) v older
      by_last true v last older is = sym (if_true (v == v) None older (eq-eqb v v refl))
      by_last false v last older is = is

  -- ---- each line

  -- Of another block the task stays home.
  pub line_home : (command : Command) → IsLineOf script past t task command → IsDoneBy script.layout members t (deed_of script command) reply old new before after → state.task.buffer ≡ before.buffer.items → (u : ℕ) (b : BlockState) (older : Option ℕ) → (u ≡ t → ⊥) → slice_get blocks u ≡ Some b
      → (b.stage ≡ Unborn → older ≡ None) → HasSlot script old u b.task older b.stage
      → HasSlot script new u (reached script blocks t command reply u b).task (last_after t (set_act (set_target script (Some command)) (is_count reply)) u older) (reached script blocks t command reply u b).stage
  line_home (Fork name) line done buffer u b older other at unseen has = elim (cases_eq u c) [
    | inl same ↦
        let birth = line.born name refl in
        let there : slice_get blocks c ≡ Some b = ap (slice_get blocks) (sym same) ∙ at in
        let is : b.stage ≡ Unborn = ap (λ (x : BlockState). x.stage) (same_Some b birth.0 (sym there ∙ same_blocks c (λ (e : c ≡ t). birth.1.apart (sym e)) ∙ birth.1.here)) ∙ birth.1.unborn in
        subst (λ (v : ℕ). HasSlot script new v (reached script blocks t (Fork name) reply v b).task older (reached script blocks t (Fork name) reply v b).stage) (sym same)
        (child_slot name b older there is birth.1.parent_user birth.1.child_user (unseen is) done.1 (subst (λ (v : ℕ). HasSlot script old v b.task older b.stage) same has))
    | inr far ↦ kept (Fork name) u b older (ap (λ (all : List (Option Task)). task_home all u) done.1.3 ∙ get_or-set_other old c u (Some done.1.1) None far)
        (ap (λ (x : Bool). (if x then born t (slice_get blocks t) b else b).task) (ne_eqb c u (λ (e : c ≡ u). far (sym e)))) refl (λ n. far (sym (same_Some c u n))) has
  ]
    where
      c : ℕ
      c = block_named script name
  line_home (Kill name signo) line done buffer u b older other at unseen has = kept (Kill name signo) u b older (slots done.1 u) (by_test (is_count reply && (block_named script name == u))) refl (λ n. cc n) has
    where
      by_test : (x : Bool) → (if x then outers.signalled signo b else b).task ≡ b.task
      by_test true = refl
      by_test false = refl
  line_home Stop line done buffer u b older other at unseen has = kept Stop u b older (slots done.1 u) (by_test (outers.is_held reply)) refl (λ n. cc n) has
    where
      by_test : (x : Bool) → (if x then outers.woken t b else b).task ≡ b.task
      by_test true = refl
      by_test false = refl
  line_home (Wait name) line done buffer u b older other at unseen has = kept (Wait name) u b older (slots done.1 u) refl refl (λ n. cc n) has
  line_home (Getregs name set) line done buffer u b older other at unseen has =
      kept (Getregs name set) u b older (slots done.0 u) (by_test (is_count reply && (t == u)) (there_is (is_count reply) t u other)) refl (λ n. cc n) has
    where
      by_test : (x : Bool) → x ≡ false → (if x then outers.buffer_filled set (slice_get blocks (block_named script name)) b else b).task ≡ b.task
      by_test true off = absurd (cc off)
      by_test false off = refl
  line_home (Setregs name set count) line done buffer u b older other at unseen has = elim (cases_Bool (is_stopped_life (member_at members v).life)) [
    | inl on ↦
        let wrote = of_stopped (is_stopped_life (member_at members v).life) _ _ on done.1 in
        elim (cases_eq u v) [
          | inl same ↦
              let there : slice_get blocks v ≡ Some b = ap (slice_get blocks) (sym same) ∙ at in
              let stopped : is_stopped b.stage ≡ true = ap (λ (x : Option BlockState). is_stopped (stage_of x)) (sym there) ∙ sym (stopped_at blocks members are v) ∙ on in
              subst (λ (w : ℕ). HasSlot script new w (reached script blocks t (Setregs name set count) reply w b).task (last_after t (set_act (Some v) (is_count reply)) w older) (reached script blocks t (Setregs name set count) reply w b).stage) (sym same)
              (target_slot name set count b older there buffer (line.named name refl).1 wrote (λ (e : b.stage ≡ Unborn). absurd (let off : is_stopped b.stage ≡ false = ap is_stopped e in cc (off, stopped)))
              (subst (λ (w : ℕ). HasSlot script old w b.task older b.stage) same has))
          | inr far ↦ kept (Setregs name set count) u b older (ap (λ (all : List (Option Task)). task_home all u) wrote.3 ∙ get_or-set_other old v u (Some wrote.1) None far)
              (by_test (is_count reply && (v == u)) (there_is (is_count reply) v u far)) (by_last (is_count reply) (ne_eqb v u (λ (e : v ≡ u). far (sym e)))) (λ n. cc n) has
        ]
    | inr off ↦
        let refused = of_loose (is_stopped_life (member_at members v).life) _ _ off done.1 in
        let none : is_count reply ≡ false = ap is_count refused.0 in
        kept (Setregs name set count) u b older (slots refused.1 u) (by_test (is_count reply && (v == u)) (ap (λ (x : Bool). x && (v == u)) none)) (ap (λ (x : Bool). last_after t (set_act (Some v) x) u older) none) (λ n. cc n) has
  ]
    where
      v : ℕ
      v = block_named script name

      by_test : (x : Bool) → x ≡ false → (if x then outers.registers_set set count (buffer_of (slice_get blocks t)) b else b).task ≡ b.task
      by_test true off = absurd (cc off)
      by_test false off = refl

      by_last : (x : Bool) → (v == u) ≡ false → last_after t (set_act (Some v) x) u older ≡ older
      by_last true far = if_false (v == u) None older far
      by_last false far = refl
  line_home (Cont name) line done buffer u b older other at unseen has = kept (Cont name) u b older (slots done.1 u) (by_test (is_count reply && (block_named script name == u))) refl (λ n. cc n) has
    where
      by_test : (x : Bool) → (if x then outers.continued b else b).task ≡ b.task
      by_test true = refl
      by_test false = refl
  line_home other_line line done buffer u b older other at unseen has = absurd (let outer = line.outer in cc outer)
