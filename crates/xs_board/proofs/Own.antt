-- What a close leaves of its own block, and its task.
use Rattle.std.proofs.Common.{◌≡◌, ℕ, ◌+◌, ◌==◌, Bool, true, false, not, ◌&&◌, List, refl, sym, ap, ◌∙◌, subst, inl, inr, eq-eqb, ne_eqb}
use Rattle.std.proofs.lemmas.Bool.{cases_Bool, eqb-true, and_parts}
use Rattle.std.specs.Prelude.{Option, Some, None, if◌then◌else◌, slice_get}
use Rattle.xs_base.specs.declared.component.Row.{Row}
use Rattle.xs_base.specs.Bytes.{splice}
use Rattle.xs_base.specs.RegisterSet.{set_reply}
use Rattle.xs_base.specs.Task.{PrivateTask, IsPrivateTask, marks_after, parked}
use Rattle.xs_model.specs.declared.event.Event.{Event}
use Rattle.xs_model.specs.declared.event.Reply.{Reply}
use Rattle.xs_model.specs.declared.event.Why.{Why}
use Rattle.xs_model.specs.declared.script.Command.{Command}
use Rattle.xs_model.specs.declared.script.Command.TheVariants.{Fork, Kill, Stop, Wait, Getregs, Setregs, Cont}
use Rattle.xs_model.specs.declared.script.Script.{Script}
use Rattle.xs_model.specs.declared.stage.Stage.TheVariants as stages
use Rattle.xs_model.specs.Effects.{reached}
use Rattle.xs_model.specs.Line.{next_line}
use Rattle.xs_model.specs.Names.{named_block}
use Rattle.xs_model.specs.Note.{is_count}
use Rattle.xs_model.specs.Outer as outers
use Rattle.xs_model.specs.Outer.{child_reply, is_blocked, no_block, outer_own, outer_reply, stage_left, task_left, with_registers}
use Rattle.xs_model.specs.Script.{block_named, is_user}
use Rattle.xs_model.specs.State.{BlockState, is_stopped, stage_at, stage_of}
use Rattle.xs_task.specs.declared.task.Task.{Task}
use Rattle.xs_task.specs.Parked.{IsParked}
use Rattle.xs_task.specs.TaskArea.{IsTask}
use Rattle.xs_board.specs.declared.turn.Close.{Close}
use Rattle.xs_board.specs.declared.turn.Close.TheVariants.{Quantum, Yield, Outer, Refused, Trap, End}
use Rattle.xs_board.specs.Deed.{IsDoneBy, deed_of}
use Rattle.xs_board.specs.Home.{IsUserHome}
use Rattle.xs_board.specs.Member.{Member, AreMembers, is_stopped_life, is_waiting, life_of, member_at}
use Rattle.xs_board.specs.Putting.{is_outer, moved_on}
use Rattle.xs_board.specs.Turn.{Answer, close_command, close_reply, filled_by, line_answer, line_closed, line_stage, stage_closed, task_closed, trap_closed, trap_stage}
use Rattle.xs_board.proofs.Answered.{AreParked, of_stopped, of_loose}
use Rattle.xs_board.proofs.Leaving.{own_by, reached_by, trapped_by}
use Rattle.xs_board.proofs.Left.{IsLineOf}
use Rattle.xs_board.proofs.Mirror.{stopped_at}

-- ---- its stage

-- the stage in which the close leaves it
pub own_stage : (script : Script) (blocks : List BlockState) (t : ℕ) (close : Close) (answer : Answer) (task : PrivateTask) (state : BlockState) → (own_by script blocks t close answer task state).stage ≡ stage_closed script t close answer
own_stage script blocks t Quantum answer task state = refl
own_stage script blocks t Yield answer task state = refl
own_stage script blocks t (Outer line) answer task state = by_command (close_command script t (Outer line)) (reached_by script blocks t (close_command script t (Outer line)) answer.reply t state)
  where
    by_command : (c : Option Command) (b : BlockState) → (outer_own script c answer.reply b).stage ≡ line_stage script c answer.reply
    by_command None b = refl
    by_command (Some command) b = refl
own_stage script blocks t (Refused error) answer task state = refl
own_stage script blocks t Trap answer task state = by_fate answer.fate
  where
    by_fate : (fate : Option Why) → (trapped_by fate task state).stage ≡ trap_stage fate
    by_fate None = refl
    by_fate (Some why) = refl
own_stage script blocks t End answer task state = refl

-- ---- its private task

-- a write counts only where its target is stopped
pub write_counts : (f : PrivateTask → Reply) (b : Option BlockState) → is_count (child_reply f b) ≡ true → is_stopped (stage_of b) ≡ true
write_counts f None is = absurd (cc is)
write_counts f (Some b) is = by_test (is_stopped b.stage) refl is
  where
    by_test : (x : Bool) → is_stopped b.stage ≡ x → is_count (if x then f b.task else no_block) ≡ true → is_stopped b.stage ≡ true
    by_test true stopped is = stopped
    by_test false loose is = absurd (cc is)

module _ (script : Script) (past : List Event) (blocks : List BlockState) (t : ℕ) (state : BlockState) (here : slice_get blocks t ≡ Some state) (running : is_stopped state.stage ≡ false) (reply : Reply) (task : PrivateTask) (same_task : task ≡ state.task) where
  -- what its own line made of it
  pub own_reached : (command : Command) → IsLineOf script past t task command → reply ≡ outer_reply script blocks t command → (reached script blocks t command reply t state).task ≡ filled_by script blocks command reply task
  own_reached (Fork name) line is =
      let birth = line.born name refl in
      ap (λ (x : Bool). (if x then outers.born t (slice_get blocks t) state else state).task) (ne_eqb (block_named script name) t (λ (e : block_named script name ≡ t). birth.1.apart (sym e))) ∙ sym same_task
  own_reached (Kill name signo) line is = by_test (is_count reply && (block_named script name == t)) ∙ sym same_task
    where
      by_test : (x : Bool) → (if x then outers.signalled signo state else state).task ≡ state.task
      by_test true = refl
      by_test false = refl
  own_reached Stop line is = by_test (outers.is_held reply) ∙ sym same_task
    where
      by_test : (x : Bool) → (if x then outers.woken t state else state).task ≡ state.task
      by_test true = refl
      by_test false = refl
  own_reached (Getregs name set) line is = by_test (is_count reply) (t == t) (eq-eqb t t refl)
    where
      by_test : (counted own : Bool) → own ≡ true → (if counted && own then outers.buffer_filled set (slice_get blocks (block_named script name)) state else state).task ≡ (if counted then with_registers set (slice_get blocks (block_named script name)) task else task)
      by_test true true on = ap (with_registers set (slice_get blocks (block_named script name))) (sym same_task)
      by_test false true on = sym same_task
      by_test true false on = absurd (cc on)
      by_test false false on = absurd (cc on)
  own_reached (Setregs name set count) line is = by_test (is_count reply && (block_named script name == t)) refl ∙ sym same_task
    where
      by_test : (x : Bool) → (is_count reply && (block_named script name == t)) ≡ x → (if x then outers.registers_set set count (outers.buffer_of (slice_get blocks t)) state else state).task ≡ state.task
      by_test true on =
          let both = and_parts (is_count reply) (block_named script name == t) on in
          let stopped = write_counts (outers.put_reply set count (outers.buffer_of (slice_get blocks t))) (slice_get blocks (block_named script name)) (sym (ap is_count is) ∙ both.0) in
          let same : block_named script name ≡ t = eqb-true (block_named script name) t both.1 in
          absurd (let on_it : is_stopped state.stage ≡ true = ap (λ (b : Option BlockState). is_stopped (stage_of b)) (sym here) ∙ ap (λ (v : ℕ). is_stopped (stage_at blocks v)) (sym same) ∙ stopped in cc (on_it, running))
      by_test false off = refl
  own_reached (Cont name) line is = by_test (is_count reply && (block_named script name == t)) ∙ sym same_task
    where
      by_test : (x : Bool) → (if x then outers.continued state else state).task ≡ state.task
      by_test true = refl
      by_test false = refl
  own_reached other line is = sym same_task

-- what a close leaves of it
pub own_task : (script : Script) (past : List Event) (blocks : List BlockState) (t : ℕ) (state : BlockState) → slice_get blocks t ≡ Some state → is_stopped state.stage ≡ false → (close : Close) (answer : Answer) (task : PrivateTask) → (is_outer close ≡ true → task ≡ state.task) → ((command : Command) → close_command script t close ≡ Some command → IsLineOf script past t task command)
    → (is_outer close ≡ true → (command : Command) × (close_command script t close ≡ Some command)) → answer.reply ≡ close_reply script blocks t close → (own_by script blocks t close answer task state).task ≡ parked (task_closed script blocks t close answer task)
own_task script past blocks t state here running Quantum answer task same line some is = refl
own_task script past blocks t state here running Yield answer task same line some is = refl
own_task script past blocks t state here running (Outer n) answer task same line some is =
    let command = (some refl).0 in
    let at = (some refl).1 in
    subst (λ (c : Option Command). (outer_own script c answer.reply (reached_by script blocks t c answer.reply t state)).task ≡ parked (line_closed script blocks c answer.reply task)) (sym at)
    (ap (λ (x : PrivateTask). parked (task_left command answer.reply x)) (own_reached script past blocks t state here running answer.reply task (same refl) command (line command at) (is ∙ ap (line_answer script blocks t) at)))
own_task script past blocks t state here running (Refused error) answer task same line some is = refl
own_task script past blocks t state here running Trap answer task same line some is = by_fate answer.fate
  where
    by_fate : (fate : Option Why) → (trapped_by fate task state).task ≡ parked (trap_closed fate task)
    by_fate None = refl
    by_fate (Some why) = refl
own_task script past blocks t state here running End answer task same line some is = refl

-- it goes by the blocks at an outer line alone
pub task_same : (script : Script) (xs ys : List BlockState) (t : ℕ) (close : Close) (answer : Answer) (task : PrivateTask) → (is_outer close ≡ true → xs ≡ ys) → task_closed script xs t close answer task ≡ task_closed script ys t close answer task
task_same script xs ys t Quantum answer task same = refl
task_same script xs ys t Yield answer task same = refl
task_same script xs ys t (Outer line) answer task same = ap (λ (blocks : List BlockState). task_closed script blocks t (Outer line) answer task) (same refl)
task_same script xs ys t (Refused error) answer task same = refl
task_same script xs ys t Trap answer task same = refl
task_same script xs ys t End answer task same = refl

-- ---- the task that goes back

-- a task that is parked stays so with another buffer and at another place
like_parked : (rows : List Row) (before after : Task) (task : PrivateTask) → IsParked rows before (parked task) → IsPrivateTask rows (parked (record task { buffer = after.buffer.items; place = after.place }))
    → IsParked rows (record before { buffer = after.buffer; place = after.place }) (parked (record task { buffer = after.buffer.items; place = after.place }))
unfolding marks_after
like_parked rows before after task was valid = record {
  valid = valid;
  flag = was.flag;
  form = ap (λ (p : PrivateTask). record p { buffer = after.buffer.items; place = after.place }) was.form;
  stands = was.stands;
  pkru = was.pkru;
  marks = was.marks;
}

like_home : (rows : List Row) (before after : Task) (task filled : PrivateTask) → IsTask rows before → IsParked rows before (parked task) → after ≡ record before { buffer = after.buffer; place = after.place } → filled ≡ record task { buffer = after.buffer.items; place = after.place } → IsPrivateTask rows (parked filled) → IsUserHome rows after (parked filled)
like_home rows before after task filled whole was after_is filled_is valid =
    let valid_now = subst (λ (p : PrivateTask). IsPrivateTask rows (parked p)) filled_is valid in
    subst (λ (x : Task). IsUserHome rows x (parked filled)) (sym after_is)
    (subst (λ (p : PrivateTask). IsUserHome rows (record before { buffer = after.buffer; place = after.place }) (parked p)) (sym filled_is) (record {
      whole = record { frame = whole.frame; buffer = valid_now.buffer_size; some = whole.some; area = whole.area };
      parked = like_parked rows before after task was valid_now;
    }))

-- it goes behind its line, or not
pub own_home : (rows : List Row) (before after : Task) (task filled : PrivateTask) (moves : Bool) → IsTask rows before → IsParked rows before (parked task) → after ≡ record before { buffer = after.buffer } → filled ≡ record task { buffer = after.buffer.items }
    → IsPrivateTask rows (parked (if moves then next_line filled else filled)) → IsUserHome rows (moved_on moves after) (parked (if moves then next_line filled else filled))
own_home rows before after task filled true whole was after_is filled_is valid =
    let place : task.place + 1 ≡ after.place + 1 = ap (λ (p : PrivateTask). p.place + 1) was.form ∙ sym (ap (λ (x : Task). x.place + 1) after_is) in
    like_home rows before (moved_on true after) task (next_line filled) whole was (ap (λ (x : Task). record x { place = after.place + 1 }) after_is)
    (ap next_line filled_is ∙ ap (λ (n : ℕ). record task { buffer = after.buffer.items; place = n }) place) valid
own_home rows before after task filled false whole was after_is filled_is valid =
    let place : task.place ≡ after.place = ap (λ (p : PrivateTask). p.place) was.form ∙ sym (ap (λ (x : Task). x.place) after_is) in
    like_home rows before after task filled whole was (after_is ∙ ap (λ (n : ℕ). record before { buffer = after.buffer; place = n }) (sym (ap (λ (x : Task). x.place) after_is)))
    (filled_is ∙ ap (λ (n : ℕ). record task { buffer = after.buffer.items; place = n }) place) valid

-- ---- a line by its command

-- it waits where it blocks, and else goes behind its line
pub left_moves : (script : Script) (command : Command) (reply : Reply) (task : PrivateTask) → task_left command reply task ≡ (if not (is_waiting (life_of (stage_left script command reply))) then next_line task else task)
left_moves script Stop reply task = by_test (outers.is_held reply)
  where
    by_test : (x : Bool) → next_line task ≡ (if not (is_waiting (life_of (if x then stages.Stopped else stages.Ready))) then next_line task else task)
    by_test true = refl
    by_test false = refl
left_moves script (Wait name) reply task = by_test (is_blocked reply)
  where
    by_test : (x : Bool) → (if x then task else next_line task) ≡ (if not (is_waiting (life_of (if x then stages.Waiting (block_named script name) else stages.Ready))) then next_line task else task)
    by_test true = refl
    by_test false = refl
left_moves script other reply task = refl

module _ (script : Script) (rows : List Row) (blocks : List BlockState) (members : List Member) (are : AreMembers blocks members) (t : ℕ) (reply : Reply) (old new : List (Option Task)) (before after : Task) (task : PrivateTask) (home_parked : AreParked script rows blocks old) (same : task.buffer ≡ before.buffer.items) where
  -- nothing was put into the buffer
  unfilled : after ≡ before → (after ≡ record before { buffer = after.buffer }) × (task ≡ record task { buffer = after.buffer.items })
  unfilled is = (
    is ∙ ap (λ (x : Task). record before { buffer = x.buffer }) (sym is),
    ap (λ (bytes : List ℕ). record task { buffer = bytes }) (same ∙ sym (ap (λ (x : Task). x.buffer.items) is)),
  )

  -- the task and its private task have the same in their buffers
  pub own_filled : (command : Command) → ((name : List ℕ) → named_block command ≡ Some name → is_user script (block_named script name) ≡ true) → IsDoneBy rows members t (deed_of script command) reply old new before after → (after ≡ record before { buffer = after.buffer }) × (filled_by script blocks command reply task ≡ record task { buffer = after.buffer.items })
  own_filled (Fork name) user done = unfilled done.2
  own_filled (Kill name signo) user done = unfilled done.2
  own_filled Stop user done = unfilled done.2
  own_filled (Wait name) user done = unfilled done.2
  own_filled (Getregs name set) user done = by_block (slice_get blocks v) refl (stopped_at blocks members are v)
    where
      v : ℕ
      v = block_named script name

      refused : is_stopped_life (member_at members v).life ≡ false → (b : Option BlockState) → (after ≡ record before { buffer = after.buffer }) × ((if is_count reply then with_registers set b task else task) ≡ record task { buffer = after.buffer.items })
      refused off b =
          let none = of_loose (is_stopped_life (member_at members v).life) _ _ off done.1 in
          let plain = unfilled none.1 in
          (plain.0, ap (λ (x : Bool). if x then with_registers set b task else task) (ap is_count none.0) ∙ plain.1)

      by_block : (b : Option BlockState) → slice_get blocks v ≡ b → is_stopped_life (member_at members v).life ≡ is_stopped (stage_of b) → (after ≡ record before { buffer = after.buffer }) × ((if is_count reply then with_registers set b task else task) ≡ record task { buffer = after.buffer.items })
      by_block None at held = refused held None
      by_block (Some b) at held = elim (cases_Bool (is_stopped b.stage)) [
        | inr off ↦ refused (held ∙ off) (Some b)
        | inl on ↦
            let read = of_stopped (is_stopped_life (member_at members v).life) _ _ (held ∙ on) done.1 in
            let there = home_parked v b read.0 (user name refl) at on read.1 in
            let counted : is_count reply ≡ true = ap is_count (read.2.reply_is b.task there) in
            let bytes = read.2.bytes b.task there in (
              read.2.rest,
              ap (λ (x : Bool). if x then with_registers set (Some b) task else task) counted
                  ∙ ap (λ (old_bytes : List ℕ). record task { buffer = splice 0 (set_reply b.task set) old_bytes }) same
                  ∙ ap (λ (all : List ℕ). record task { buffer = all }) (sym bytes),
            )
      ]
  own_filled (Setregs name set count) user done = unfilled done.0
  own_filled (Cont name) user done = unfilled done.2
  own_filled other user done = unfilled done.2
