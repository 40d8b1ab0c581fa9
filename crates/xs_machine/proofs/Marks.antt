-- The owner mark after a line, and the pass whose word it is.
use Rattle.std.proofs.Common.{◌≡◌, ℕ, Bool, true, false, ◌&&◌, List, Option, Some, None, if◌then◌else◌, slice_get, refl, sym, ap, ◌∙◌, subst}
use Rattle.atomic_table.specs.Seated.{TableId}
use Rattle.xs_base.specs.Task.{PrivateTask}
use Rattle.xs_bank.specs.declared.cpu.Cpu.{Cpu}
use Rattle.xs_bank.specs.Bank as banks
use Rattle.xs_share.specs.declared.pass.Pass.{Pass}
use Rattle.xs_share.specs.declared.rule.View.{View}
use Rattle.xs_share.specs.Passes.{home_of, view, mark_word}
use Rattle.xs_share.specs.Rule.{took, gave, marked}
use Rattle.xs_model.specs.declared.script.Command.{Command}
use Rattle.xs_model.specs.declared.script.Command.TheVariants as commands
use Rattle.xs_model.specs.declared.script.Order.{Order}
use Rattle.xs_model.specs.declared.script.Script.{Script}
use Rattle.xs_model.specs.Counts.{in_section}
use Rattle.xs_model.specs.Note.{is_section}
use Rattle.xs_model.specs.Script.{is_outer, is_user}
use Rattle.xs_task.specs.declared.task.Task.{Task}
use Rattle.xs_board.specs.declared.turn.Close.{Close}
use Rattle.xs_board.specs.declared.turn.Close.TheVariants.{Refused, Trap}
use Rattle.xs_board.specs.declared.turn.Entry.{Entry}
use Rattle.xs_board.specs.Board.{Board}
use Rattle.xs_board.specs.Follows.{Runs}
use Rattle.xs_board.specs.Turn.{past_with}
use Rattle.xs_machine.specs.Line.{CameBack, Halted, IsOn, is_next_section, is_section_order, line_mark, next_order, order_in}
use Rattle.xs_machine.specs.Processors.{KeepsProcessor}
use Rattle.xs_machine.specs.Turn.{SomeRunning}
use Rattle.xs_machine.specs.Threads.{HasPass}

-- ---- commands

pub outer_plain : (command : Command) → is_outer command ≡ true → is_section (Some command) ≡ false
outer_plain (commands.Ksec byte) is = absurd (cc)
outer_plain other is = refl

halted_plain : {B : Type 0} (user : Bool) (command : Command) (close : Close) (old new : Task) (before after : Cpu B) (bank_before bank_after : banks.Bank) (p : PrivateTask) → IsOn user before.layout old bank_before p
    → Halted user command close old new before after bank_before bank_after → is_section (Some command) ≡ false
halted_plain user (commands.Ksec byte) (Refused error) old new before after bank_before bank_after p on halted = let why = halted.why p on in absurd (cc why)
halted_plain user (commands.Ksec byte) Trap old new before after bank_before bank_after p on halted = let why = halted.why p on in absurd (cc why)
halted_plain user (commands.Ksec byte) other old new before after bank_before bank_after p on halted = absurd halted
halted_plain user command close old new before after bank_before bank_after p on halted = refl

halted_mark : {B : Type 0} (user : Bool) (command : Command) (close : Close) (old new : Task) (before after : Cpu B) (bank_before bank_after : banks.Bank) → Halted user command close old new before after bank_before bank_after → after.mark ≡ before.mark
halted_mark user command (Refused error) old new before after bank_before bank_after halted = halted.mark
halted_mark {B} user command Trap old new before after bank_before bank_after halted = ap (λ (x : Cpu B). x.mark) halted.cpu
halted_mark user command other old new before after bank_before bank_after halted = absurd halted

pub halted_name : {B : Type 0} (user : Bool) (command : Command) (close : Close) (old new : Task) (before after : Cpu B) (bank_before bank_after : banks.Bank) → Halted user command close old new before after bank_before bank_after → new.name ≡ old.name
halted_name user command (Refused error) old new before after bank_before bank_after halted = halted.name
halted_name user command Trap old new before after bank_before bank_after halted = ap (λ (x : Task). x.name) halted.task
halted_name user command other old new before after bank_before bank_after halted = absurd halted

-- ---- the mark after a line

mark_by : (user need : Bool) (t : ℕ) (mark : Option ℕ) → (user ≡ true → need ≡ false → mark ≡ Some t) → (if user && need then Some t else mark) ≡ (if user then Some t else mark)
mark_by true true t mark own = refl
mark_by true false t mark own = own refl refl
mark_by false need t mark own = refl

own_mark : (section : Bool) (t : ℕ) → section ≡ false → (if section then None else Some t) ≡ Some t
own_mark true t out = absurd (cc)
own_mark false t out = refl

module _ {B : Type 0} (script : Script) (entries : List Entry) (task : Task) (cpu : Cpu B) (bank : banks.Bank) (r : SomeRunning script entries task cpu bank)
    (task1 : Task) (cpu1 : Cpu B) (bank1 : banks.Bank) (user : Bool) (same : user ≡ is_user script task.name) (came : CameBack user task task1 cpu cpu1 bank bank1) where
  -- a user task whose registers are in the bank is the processor's mark
  loaded_mark : is_user script task.name ≡ true → task.need_load ≡ false → cpu.mark ≡ Some task.name
  loaded_mark known loaded =
      let turn = r.running.turning in
      let in_turn : is_user script r.t ≡ true = ap (is_user script) (sym turn.name) ∙ known in
      let out : in_section script (past_with r.t entries r.first) r.t ≡ false = sym (turn.flag in_turn) ∙ loaded in
      turn.mark_is ∙ turn.own in_turn ∙ own_mark (in_section script (past_with r.t entries r.first) r.t) r.t out ∙ ap Some (sym turn.name)

  back_mark : cpu1.mark ≡ (if is_user script task.name then Some task.name else cpu.mark)
  back_mark = came.mark ∙ ap (λ (u : Bool). if u && task.need_load then Some task.name else cpu.mark) same ∙ mark_by (is_user script task.name) task.need_load task.name cpu.mark loaded_mark

  -- the line that the task found is its next one
  next_found : (o : Option Order) → o ≡ order_in (slice_get script.blocks task1.name) (user && task1.handling) task1.place → next_order script task ≡ o
  next_found o is = sym (is ∙ rw (came.name, came.handling, came.place, same) refl)

  plain_mark : is_next_section script task ≡ false → cpu1.mark ≡ line_mark script task cpu.mark
  plain_mark plain = rw plain back_mark

  pub end_mark : None ≡ order_in (slice_get script.blocks task1.name) (user && task1.handling) task1.place → cpu1.mark ≡ line_mark script task cpu.mark
  end_mark is = plain_mark (ap is_section_order (next_found None is))

  module _ (order : Order) (found : Some order ≡ order_in (slice_get script.blocks task1.name) (user && task1.handling) task1.place) where
    section_is : is_next_section script task ≡ is_section (Some order.command)
    section_is = ap is_section_order (next_found (Some order) found)

    pub outer_mark : is_outer order.command ≡ true → cpu1.mark ≡ line_mark script task cpu.mark
    outer_mark outer = plain_mark (section_is ∙ outer_plain order.command outer)

    on_back : IsOn user cpu1.layout task1 bank1 r.private
    on_back =
        let turn = r.running.turning in
        let layout : cpu1.layout ≡ cpu.layout = ap (λ (x : Cpu B). x.layout) came.cpu in
        let kind : user ≡ is_user script r.t = same ∙ ap (is_user script) turn.name in
        rw layout (came.on r.private (rw (kind, turn.layout) turn.on))

    pub halt_mark : (close : Close) (task2 : Task) (cpu2 : Cpu B) (bank2 : banks.Bank) → Halted user order.command close task1 task2 cpu1 cpu2 bank1 bank2 → cpu2.mark ≡ line_mark script task cpu.mark
    halt_mark close task2 cpu2 bank2 halted =
        halted_mark user order.command close task1 task2 cpu1 cpu2 bank1 bank2 halted
        ∙ plain_mark (section_is ∙ halted_plain user order.command close task1 task2 cpu1 cpu2 bank1 bank2 r.private on_back halted)

    pub ran_mark : (mark : Option ℕ) → mark ≡ (if is_section (Some order.command) then None else cpu1.mark) → mark ≡ line_mark script task cpu.mark
    ran_mark mark is = is ∙ rw (section_is, back_mark) refl

-- ---- the pass

module _ (name : TableId) (c : ℕ) (board : Board) (mark : Option ℕ) (pass : Pass Board) (has : HasPass name c board mark pass) where
  -- with another mark
  pub marks : (new_mark : Option ℕ) (new : Pass Board) → home_of new ≡ home_of pass → view new ≡ marked (view pass) (mark_word new_mark) → HasPass name c board new_mark new
  marks new_mark new home now = record {
    idle = record { home = home ∙ has.idle.home; number = ap (λ (v : View Board). v.number) now ∙ has.idle.number; turn = ap (λ (v : View Board). v.turn) now ∙ has.idle.turn };
    last = ap (λ (v : View Board). v.last) now ∙ has.last;
    word = ap (λ (v : View Board). v.mark) now;
  }

  -- after it took a board, and gave another
  pub passes : (found given : Board) (mid new : Pass Board) → home_of mid ≡ home_of pass → view mid ≡ took (view pass) found → home_of new ≡ home_of mid → view new ≡ gave (view mid) given → HasPass name c given mark new
  passes found given mid new mid_home mid_view home now = record {
    idle = record {
      home = home ∙ mid_home ∙ has.idle.home;
      number = ap (λ (v : View Board). v.number) now ∙ ap (λ (v : View Board). v.number) mid_view ∙ has.idle.number;
      turn = ap (λ (v : View Board). v.turn) now;
    };
    last = ap (λ (v : View Board). v.last) now;
    word = ap (λ (v : View Board). v.mark) now ∙ ap (λ (v : View Board). v.mark) mid_view ∙ has.word;
  }

  -- it is the pass of its own board
  pub own_board : HasPass name c (view pass).last mark pass
  own_board = record { idle = has.idle; last = refl; word = has.word }

-- ---- from line to line

module _ {B : Type 0} (name : TableId) (first now : Cpu B) (first_pass pass : Pass Board) (mark : Option ℕ) (kept : KeepsProcessor first now) (has : HasPass name first.number (view first_pass).last mark pass) where
  pub pass_now : HasPass name now.number (view pass).last mark pass
  pass_now = subst (λ (c : ℕ). HasPass name c (view pass).last mark pass) (sym kept.number) (own_board name first.number (view first_pass).last mark pass has)

  pub pass_on : (new_mark : Option ℕ) (new : Pass Board) → HasPass name now.number (view pass).last new_mark new → HasPass name first.number (view first_pass).last new_mark new
  pass_on new_mark new then_has =
      subst (λ (c : ℕ). HasPass name c (view first_pass).last new_mark new) kept.number
      (subst (λ (board : Board). HasPass name now.number board new_mark new) has.last then_has)

  pub runs_now : (t u : ℕ) → t ≡ u → Runs first.number (view first_pass).last u → Runs now.number (view pass).last t
  runs_now t u same runs =
      subst (λ (c : ℕ). Runs c (view pass).last t) (sym kept.number)
      (subst (λ (board : Board). Runs first.number board t) (sym has.last)
      (subst (Runs first.number (view first_pass).last) (sym same) runs))
