-- What a deed answers is what the private machine answers.
use Rattle.std.proofs.Common.{◌≡◌, ℕ, Bool, true, false, List, refl, sym, ap, ◌∙◌, inl, inr}
use Rattle.std.proofs.lemmas.Bool.{cases_Bool}
use Rattle.std.specs.Prelude.{Option, Some, None, if◌then◌else◌, slice_get}
use Rattle.xs_base.specs.declared.component.Row.{Row}
use Rattle.xs_base.specs.Task.{PrivateTask}
use Rattle.xs_model.specs.declared.event.Reply.{Reply}
use Rattle.xs_model.specs.declared.event.Reply.TheVariants as replies
use Rattle.xs_model.specs.declared.script.Command.{Command}
use Rattle.xs_model.specs.declared.script.Command.TheVariants.{Fork, Kill, Stop, Wait, Getregs, Setregs, Cont}
use Rattle.xs_model.specs.declared.script.Script.{Script}
use Rattle.xs_model.specs.Names.{named_block}
use Rattle.xs_model.specs.Outer.{buffer_of, child_reply, get_reply, no_block, outer_reply, put_reply}
use Rattle.xs_model.specs.Script.{block_named, is_user}
use Rattle.xs_model.specs.State.{BlockState, is_stopped, stage_of}
use Rattle.xs_task.specs.declared.task.Task.{Task}
use Rattle.xs_task.specs.Parked.{IsParked}
use Rattle.xs_board.specs.Deed.{IfStopped, IsDoneBy, deed_of, task_home}
use Rattle.xs_board.specs.Member.{Member, AreMembers, is_stopped_life, member_at}
use Rattle.xs_board.proofs.Mirror.{alive_at, stopped_at, traced_at, wait_at}
use Rattle.xs_board.proofs.Tests.{if_false, if_true}

-- what holds of a stopped block
pub of_stopped : (held : Bool) (Reaches Refuses : Type 0) → held ≡ true → IfStopped held Reaches Refuses → Reaches
of_stopped true Reaches Refuses is holds = holds
of_stopped false Reaches Refuses is holds = absurd (cc is)

-- and of another
pub of_loose : (held : Bool) (Reaches Refuses : Type 0) → held ≡ false → IfStopped held Reaches Refuses → Refuses
of_loose true Reaches Refuses is holds = absurd (cc is)
of_loose false Reaches Refuses is holds = holds

-- The task of each stopped user task stands for its private task.
abbrev pub AreParked : Script → List Row → List BlockState → List (Option Task) → Type 0
AreParked script rows blocks home = (u : ℕ) (b : BlockState) (task : Task) → is_user script u ≡ true → slice_get blocks u ≡ Some b → is_stopped b.stage ≡ true → task_home home u ≡ Some task → IsParked rows task b.task

-- the reply of a line for a stopped child
child_answer : (f : PrivateTask → Reply) (there : Option BlockState) (reply : Reply) → ((b : BlockState) → there ≡ Some b → is_stopped b.stage ≡ true → reply ≡ f b.task) → (is_stopped (stage_of there) ≡ false → reply ≡ no_block) → reply ≡ child_reply f there
child_answer f None reply held loose = loose refl
child_answer f (Some b) reply held loose = elim (cases_Bool (is_stopped b.stage)) [
  | inl on ↦ held b refl on ∙ sym (if_true (is_stopped b.stage) _ _ on)
  | inr off ↦ loose off ∙ sym (if_false (is_stopped b.stage) _ _ off)
]

module _ (script : Script) (rows : List Row) (blocks : List BlockState) (members : List Member) (are : AreMembers blocks members) (t : ℕ) (state : BlockState) (here : slice_get blocks t ≡ Some state) (old new : List (Option Task)) (before after : Task) (same : state.task.buffer ≡ before.buffer.items) (parked : AreParked script rows blocks old) where
  -- the line answers that
  pub done_answers : (command : Command) (reply : Reply) → ((name : List ℕ) → named_block command ≡ Some name → is_user script (block_named script name) ≡ true) → IsDoneBy rows members t (deed_of script command) reply old new before after → reply ≡ outer_reply script blocks t command
  done_answers (Fork name) reply user done = done.0
  done_answers (Kill name signo) reply user done = done.0 ∙ ap (λ (b : Bool). if b then replies.Count 0 else no_block) (alive_at blocks members are (block_named script name))
  done_answers Stop reply user done = done.0 ∙ ap (λ (b : Bool). if b then replies.Held else replies.Done) (traced_at blocks members are t)
  done_answers (Wait name) reply user done = done.0 ∙ wait_at blocks members are t (block_named script name)
  done_answers (Getregs name set) reply user done =
      let target = block_named script name in
      let held = stopped_at blocks members are target in
      child_answer (get_reply set) (slice_get blocks target) reply
      (λ b at on.
      let read = of_stopped (is_stopped_life (member_at members target).life) _ _ (held ∙ ap (λ (b : Option BlockState). is_stopped (stage_of b)) at ∙ on) done.1 in
      read.2.reply_is b.task (parked target b read.0 (user name refl) at on read.1))
      (λ off. (of_loose (is_stopped_life (member_at members target).life) _ _ (held ∙ off) done.1).0)
  done_answers (Setregs name set count) reply user done =
      let target = block_named script name in
      let held = stopped_at blocks members are target in
      child_answer (put_reply set count (buffer_of (slice_get blocks t))) (slice_get blocks target) reply
      (λ b at on.
      let wrote = of_stopped (is_stopped_life (member_at members target).life) _ _ (held ∙ ap (λ (b : Option BlockState). is_stopped (stage_of b)) at ∙ on) done.1 in
      wrote.4.reply_is b.task (parked target b wrote.0 (user name refl) at on wrote.2)
      ∙ ap (λ (bytes : List ℕ). put_reply set count bytes b.task) (sym same ∙ sym (ap buffer_of here)))
      (λ off. (of_loose (is_stopped_life (member_at members target).life) _ _ (held ∙ off) done.1).0)
  done_answers (Cont name) reply user done = done.0 ∙ by_block (slice_get blocks (block_named script name)) (stopped_at blocks members are (block_named script name))
    where
      by_block : (b : Option BlockState) → is_stopped_life (member_at members (block_named script name)).life ≡ is_stopped (stage_of b) → (if is_stopped_life (member_at members (block_named script name)).life then replies.Count 0 else no_block) ≡ child_reply (λ task. replies.Count 0) b
      by_block None held = if_false (is_stopped_life (member_at members (block_named script name)).life) _ _ held
      by_block (Some b) held = ap (λ (x : Bool). if x then replies.Count 0 else no_block) held
  done_answers other reply user done = done.0
