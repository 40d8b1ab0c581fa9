-- A turn goes on by a line, or comes to its end.
use Rattle.std.proofs.Common.{◌≡◌, ℕ, ◌+◌, Bool, true, false, not, ◌&&◌, ◌||◌, List, ◌∷◌, Option, Some, None, if◌then◌else◌, refl, sym, ap, ◌∙◌}
use Rattle.xs_base.specs.declared.header.HeaderError.{HeaderError}
use Rattle.xs_base.specs.declared.header.HeaderError.TheVariants as errors
use Rattle.xs_base.specs.Counts.{Counts, one_save, load_if, save_if}
use Rattle.xs_base.specs.Frame.{refused_file}
use Rattle.xs_base.specs.Task.{PrivateTask}
use Rattle.xs_bank.specs.declared.cpu.Cpu.{Cpu}
use Rattle.xs_bank.specs.Bank as banks
use Rattle.xs_bank.specs.Bank.{counts_of}
use Rattle.xs_bank.specs.Holds.{Holds}
use Rattle.xs_bank.specs.SetUp.{WasSetUp}
use Rattle.xs_model.specs.declared.event.Event.{Event}
use Rattle.xs_model.specs.declared.event.Event.TheVariants as events
use Rattle.xs_model.specs.declared.event.Reply.{Reply}
use Rattle.xs_model.specs.declared.event.Why.{Why}
use Rattle.xs_model.specs.declared.script.Command.{Command}
use Rattle.xs_model.specs.declared.script.Script.{Script}
use Rattle.xs_model.specs.Counts as told
use Rattle.xs_model.specs.Counts.{in_section, exec_of, numbers_of, reloads, saves, counted_by, is_return_line, is_section_act, ends_turn}
use Rattle.xs_model.specs.Due.{violation}
use Rattle.xs_model.specs.Line.{local_after, frame_cause, is_frame_cause}
use Rattle.xs_model.specs.Machine.{goes_on}
use Rattle.xs_model.specs.Note.{Section, Plain, act_of, task_of, cpu_of, notes_of, is_count, is_section, set_target, mark, mark_after, start_cpu}
use Rattle.xs_model.specs.Script.{command_at, is_user, is_return}
use Rattle.xs_task.specs.declared.task.Task.{Task}
use Rattle.xs_board.specs.Turn.{trap_end, trap_signal}
use Rattle.xs_machine.specs.Line.{IsOn, CameBack, KeepsCpu, RanLine, WasRefused, WasTrapped}
use Rattle.xs_machine.specs.Turn.{IsTurning, may_be_fate}
use Rattle.xs_machine.proofs.Histories.{IsClosing, plain_closes, grows_closes, outer_closes, one_event, then_on, counts_here, mark_here, section_here, file_here}
use Rattle.xs_machine.proofs.Stages.{line_stage, line_ends, end_ends, grow_ends, kill_ends, outer_ends}

-- ---- acts

section_by : (section : Bool) → is_section_act (if section then Section else Plain) ≡ section
section_by true = refl
section_by false = refl

pub start_by : (section : Bool) (older : Option ℕ) → start_cpu (if section then Section else Plain) older ≡ older
start_by true older = refl
start_by false older = refl

not_on : (b : Bool) → not b ≡ true → b ≡ false
not_on true on = absurd (cc)
not_on false on = refl

not_off : (b : Bool) → not b ≡ false → b ≡ true
not_off true off = refl
not_off false off = absurd (cc)

-- ---- counts

exec_save : (numbers : Option (List ℕ)) (counts : Counts) → exec_of numbers (one_save counts) ≡ one_save (exec_of numbers counts)
exec_save None counts = refl
exec_save (Some n) counts = refl

-- what a line counts, however its registers go
line_counts : (user section over : Bool) (numbers : Option (List ℕ)) (counts : Counts) →
    save_if (user && (section || over)) (exec_of numbers counts) ≡ save_if (over && user && not section) (exec_of numbers (save_if (user && section) counts))
line_counts true true true numbers counts = sym (exec_save numbers counts)
line_counts true true false numbers counts = sym (exec_save numbers counts)
line_counts true false true numbers counts = refl
line_counts true false false numbers counts = refl
line_counts false true true numbers counts = refl
line_counts false true false numbers counts = refl
line_counts false false true numbers counts = refl
line_counts false false false numbers counts = refl

end_counts : (user need : Bool) (counts : Counts) → (user ≡ true → need ≡ false) → save_if (user && (false || true)) counts ≡ save_if (true && user && not need) counts
end_counts true need counts loaded = rw (loaded refl) refl
end_counts false need counts loaded = refl

user_and : (user a b : Bool) → (user ≡ true → a ≡ b) → (user && a) ≡ (user && b)
user_and true a b same = same refl
user_and false a b same = refl

user_last : (over user a b : Bool) → (user ≡ true → a ≡ b) → (over && user && not a) ≡ (over && user && not b)
user_last true true a b same = ap not (same refl)
user_last true false a b same = refl
user_last false user a b same = refl

-- ---- marks

-- the mark after a line, and after an end
mark_ran : (user section need : Bool) (t : ℕ) (mark : Option ℕ) → (user ≡ true → need ≡ false → mark ≡ Some t) →
    (if section then None else (if user && need then Some t else mark)) ≡ mark_after user t (if section then Section else Plain) mark
mark_ran true true need t mark own = refl
mark_ran true false true t mark own = refl
mark_ran true false false t mark own = own refl refl
mark_ran false true need t mark own = refl
mark_ran false false need t mark own = refl

mark_own : (section : Bool) (t : ℕ) (older : Option ℕ) → mark_after true t (if section then Section else Plain) older ≡ (if section then None else Some t)
mark_own true t older = refl
mark_own false t older = refl

mark_alien : (section : Bool) (t u : ℕ) (older : Option ℕ) → mark_after false t (if section then Section else Plain) older ≡ Some u → (section ≡ false) × (older ≡ Some u)
mark_alien true t u older is = absurd (cc)
mark_alien false t u older is = (refl, is)

-- ---- what is left at a close

-- The task at the close of its turn, which may have loaded registers, and its processor.
record IsClosed {B : Type 0} (user loads : Bool) (private : PrivateTask) (old new : Task) (before after : Cpu B) (bank_before bank_after : banks.Bank) : Type 0 where
  set_up : WasSetUp before.layout bank_after after.initial
  cpu : KeepsCpu before after
  mark_is : after.mark ≡ before.mark
  name : new.name ≡ old.name
  loaded : user ≡ true → new.need_load ≡ false
  on : IsOn user before.layout new bank_after private
  holds : user ≡ true → Holds bank_after private
  still : user ≡ false → bank_after ≡ bank_before
  counts : counts_of bank_after ≡ load_if loads (counts_of bank_before)

is_cause : (error : HeaderError) → is_frame_cause (frame_cause error) ≡ true
is_cause errors.Features = refl
is_cause errors.Compacted = refl
is_cause errors.Reserved = refl
is_cause errors.Mxcsr = refl

-- ---- a line

module _ {B : Type 0} (script : Script) (t c : ℕ) (first past : List Event) (before : banks.Bank) (ran : ℕ) (p : PrivateTask) (task : Task) (cpu : Cpu B) (bank : banks.Bank)
    (turn : IsTurning script t c first past before false ran p task cpu bank)
    (task1 : Task) (cpu1 : Cpu B) (bank1 : banks.Bank) (back : CameBack (is_user script t) task task1 cpu cpu1 bank bank1) where
  need : is_user script t ≡ true → task.need_load ≡ false → mark script past c ≡ Some t
  need user loaded = turn.own user ∙ rw (sym (turn.flag user) ∙ loaded) refl

  cpu1_layout : cpu1.layout ≡ script.layout
  cpu1_layout = ap (λ (x : Cpu B). x.layout) back.cpu ∙ turn.layout

  mark1 : cpu1.mark ≡ (if is_user script t && task.need_load then Some t else mark script past c)
  mark1 = back.mark ∙ rw (turn.name, turn.mark_is) refl

  counts1 : counts_of bank1 ≡ load_if (is_user script t && in_section script past t) (told.counts_of script past c)
  counts1 = back.counts ∙ ap (λ b. load_if b (counts_of bank)) (user_and (is_user script t) task.need_load (in_section script past t) turn.flag) ∙ ap (load_if (is_user script t && in_section script past t)) (sym turn.counts)

  on1 : IsOn (is_user script t) script.layout task1 bank1 p
  on1 = rw turn.layout at (back.on p (rw turn.layout turn.on))

  module _ (line : ℕ) (command : Command) (found : command_at script t line ≡ Some command) (reply : Reply)
      (task2 : Task) (cpu2 : Cpu B) (bank2 : banks.Bank) (done : RanLine (is_user script t) command reply task1 task2 cpu1 cpu2 bank1 bank2) where
    event : Event
    event = events.Local t line reply

    act : act_of script (events.Local t line reply) ≡ (if is_section (Some command) then Section else Plain)
    act = rw found refl

    cpu_at : start_cpu (act_of script (events.Local t line reply)) (cpu_of (notes_of script past) t) ≡ Some c
    cpu_at = ap (λ a. start_cpu a (cpu_of (notes_of script past) t)) act ∙ start_by (is_section (Some command)) (cpu_of (notes_of script past) t) ∙ turn.follows.here

    section_new : in_section script (events.Local t line reply ∷ past) t ≡ is_section (Some command)
    section_new = section_here script past (events.Local t line reply) t c refl cpu_at ∙ ap is_section_act act ∙ section_by (is_section (Some command))

    mark_new : mark script (events.Local t line reply ∷ past) c ≡ mark_after (is_user script t) t (if is_section (Some command) then Section else Plain) (mark script past c)
    mark_new = mark_here script past (events.Local t line reply) t c refl cpu_at ∙ ap (λ a. mark_after (is_user script t) t a (mark script past c)) act

    -- the counts as functions of what the event's command, act and stage are
    counted : Option Command → Bool → Bool → Bool → Counts
    counted command section over return = save_if (is_user script t && (section || over)) (exec_of (numbers_of script command reply) (load_if return (load_if (is_user script t && in_section script past t) (told.counts_of script past c))))

    counts_new : told.counts_of script (events.Local t line reply ∷ past) c ≡ counted (Some command) (is_section (Some command)) (not (goes_on script command ran)) (is_return command)
    unfolding counted
    counts_new =
        counts_here script past (events.Local t line reply) t c refl cpu_at
        ∙ ap (λ (k : Option Command). counted k (is_section_act (act_of script (events.Local t line reply))) (ends_turn script past (events.Local t line reply)) (is_return_line k)) found
        ∙ ap (λ s. counted (Some command) s (ends_turn script past (events.Local t line reply)) (is_return command)) (ap is_section_act act ∙ section_by (is_section (Some command)))
        ∙ ap (λ o. counted (Some command) (is_section (Some command)) o (is_return command)) (line_ends script past t c ran line reply command found (turn.stage refl))

    -- the counts before the line's own instruction
    loaded : Counts
    loaded = load_if (is_return command) (load_if (is_user script t && in_section script past t) (told.counts_of script past c))

    counts2 : counts_of bank2 ≡ exec_of (numbers_of script (Some command) reply) (save_if (is_user script t && is_section (Some command)) loaded)
    unfolding loaded
    counts2 = done.counts script (sym cpu1_layout) ∙ ap (λ n. exec_of (numbers_of script (Some command) reply) (save_if (is_user script t && is_section (Some command)) (load_if (is_return command) n))) counts1

    counts_is : told.counts_of script (events.Local t line reply ∷ past) c ≡ save_if (not (goes_on script command ran) && is_user script t && not task2.need_load) (counts_of bank2)
    unfolding counted loaded
    counts_is =
        counts_new
        ∙ line_counts (is_user script t) (is_section (Some command)) (not (goes_on script command ran)) (numbers_of script (Some command) reply) loaded
        ∙ ap (save_if (not (goes_on script command ran) && is_user script t && not (is_section (Some command)))) (sym counts2)
        ∙ ap (λ b. save_if b (counts_of bank2)) (user_last (not (goes_on script command ran)) (is_user script t) (is_section (Some command)) task2.need_load (λ user. sym (done.loaded user)))

    pub line_turned : IsTurning script t c first (events.Local t line reply ∷ past) before (not (goes_on script command ran)) (ran + 1) (local_after p command) task2 cpu2 bank2
    line_turned = record {
      follows = then_on script t c first past (events.Local t line reply ∷ past) turn.follows (one_event script past (events.Local t line reply) t c refl cpu_at);
      stage = λ goes. line_stage script past t c ran line reply command found (turn.stage refl) (not_off (goes_on script command ran) goes);
      number = ap (λ (x : Cpu B). x.number) done.cpu ∙ ap (λ (x : Cpu B). x.number) back.cpu ∙ turn.number;
      layout = ap (λ (x : Cpu B). x.layout) done.cpu ∙ cpu1_layout;
      set_up = rw cpu1_layout at done.set_up;
      name = done.name ∙ back.name ∙ turn.name;
      on = rw cpu1_layout at (done.on p (rw cpu1_layout on1));
      flag = λ user. done.loaded user ∙ sym section_new;
      mark_is = done.mark ∙ ap (λ (m : Option ℕ). if is_section (Some command) then None else m) mark1 ∙ mark_ran (is_user script t) (is_section (Some command)) task.need_load t (mark script past c) need ∙ sym mark_new;
      own = λ user. mark_new ∙ ap (λ u. mark_after u t (if is_section (Some command) then Section else Plain) (mark script past c)) user ∙ mark_own (is_section (Some command)) t (mark script past c) ∙ ap (λ b. if b then None else Some t) (sym section_new);
      holds = λ user plain. done.holds user (sym section_new ∙ plain) p (rw cpu1_layout on1) (back.holds user p (rw turn.layout turn.on));
      alien = λ kernel v is.
          let m = mark_alien (is_section (Some command)) t v (mark script past c) (sym (ap (λ u. mark_after u t (if is_section (Some command) then Section else Plain) (mark script past c)) kernel) ∙ sym mark_new ∙ is) in
          let old = turn.alien kernel v m.1 in
          let same = done.still kernel m.0 ∙ back.still kernel in
          (old.0, ap (λ (b : banks.Bank). b.file) same ∙ old.1, ap (λ (b : banks.Bank). b.armed) same ∙ old.2);
      latest = file_here script past (events.Local t line reply) t c refl cpu_at;
      counts = counts_is;
    }

  -- ---- an event that closes the turn

  module _ (event : Event) (is : task_of event ≡ t) (closes : IsClosing (act_of script event)) (ends : ends_turn script past event ≡ true) (loads : Bool)
      (counted : (n : Counts) → counted_by script past event n ≡ save_if (saves script past event) (load_if loads (load_if (reloads script past t) n)))
      (q : PrivateTask) (task2 : Task) (cpu2 : Cpu B) (bank2 : banks.Bank) (closed : IsClosed (is_user script t) loads q task1 task2 cpu1 cpu2 bank1 bank2) where
    close_at : start_cpu (act_of script event) (cpu_of (notes_of script past) t) ≡ Some c
    close_at = closes.cpu (cpu_of (notes_of script past) t) ∙ turn.follows.here

    close_section : in_section script (event ∷ past) t ≡ false
    close_section = section_here script past event t c is close_at ∙ closes.section

    close_mark : mark script (event ∷ past) c ≡ mark_after (is_user script t) t Plain (mark script past c)
    close_mark = mark_here script past event t c is close_at ∙ closes.mark_is (is_user script t) t (mark script past c)

    close_saves : saves script past event ≡ (is_user script t && (false || true))
    close_saves =
        ap (λ u. is_user script u && (is_section_act (act_of script event) || ends_turn script past event)) is
        ∙ ap (λ section. is_user script t && (section || ends_turn script past event)) closes.section
        ∙ ap (λ e. is_user script t && (false || e)) ends

    close_counts : told.counts_of script (event ∷ past) c ≡ save_if (true && is_user script t && not task2.need_load) (counts_of bank2)
    close_counts =
        counts_here script past event t c is close_at
        ∙ counted (told.counts_of script past c)
        ∙ ap (λ b. save_if b (load_if loads (load_if (is_user script t && in_section script past t) (told.counts_of script past c)))) close_saves
        ∙ ap (λ n. save_if (is_user script t && (false || true)) (load_if loads n)) (sym counts1)
        ∙ ap (save_if (is_user script t && (false || true))) (sym closed.counts)
        ∙ end_counts (is_user script t) task2.need_load (counts_of bank2) closed.loaded

    close_turned : IsTurning script t c first (event ∷ past) before true 0 q task2 cpu2 bank2
    close_turned = record {
      follows = then_on script t c first past (event ∷ past) turn.follows (one_event script past event t c is close_at);
      stage = λ no. absurd (cc);
      number = ap (λ (x : Cpu B). x.number) closed.cpu ∙ ap (λ (x : Cpu B). x.number) back.cpu ∙ turn.number;
      layout = ap (λ (x : Cpu B). x.layout) closed.cpu ∙ cpu1_layout;
      set_up = rw cpu1_layout at closed.set_up;
      name = closed.name ∙ back.name ∙ turn.name;
      on = rw cpu1_layout at closed.on;
      flag = λ user. closed.loaded user ∙ sym close_section;
      mark_is = closed.mark_is ∙ mark1 ∙ mark_ran (is_user script t) false task.need_load t (mark script past c) need ∙ sym close_mark;
      own = λ user. close_mark ∙ ap (λ u. mark_after u t Plain (mark script past c)) user ∙ ap (λ b. if b then None else Some t) (sym close_section);
      holds = λ user plain_past. closed.holds user;
      alien = λ kernel v at.
          let m = sym (ap (λ u. mark_after u t Plain (mark script past c)) kernel) ∙ sym close_mark ∙ at in
          let old = turn.alien kernel v m in
          let same = closed.still kernel ∙ back.still kernel in
          (old.0, ap (λ (b : banks.Bank). b.file) same ∙ old.1, ap (λ (b : banks.Bank). b.armed) same ∙ old.2);
      latest = file_here script past event t c is close_at;
      counts = close_counts;
    }

  -- the task as it came to the line
  closed_here : IsClosed (is_user script t) false p task1 task1 cpu1 cpu1 bank1 bank1
  closed_here = record {
    set_up = rw (ap (λ (x : Cpu B). x.layout) back.cpu) back.set_up;
    cpu = refl;
    mark_is = refl;
    name = refl;
    loaded = back.loaded;
    on = rw cpu1_layout on1;
    holds = λ user. back.holds user p (rw turn.layout turn.on);
    still = λ kernel. refl;
    counts = refl;
  }

  -- the end of the body
  pub end_turned : IsTurning script t c first (events.End t ∷ past) before true 0 p task1 cpu1 bank1
  end_turned = close_turned (events.End t) refl plain_closes (end_ends script past t) false (λ n. refl) p task1 cpu1 bank1 closed_here

  -- an outer line, whatever it answers
  pub outer_turned : (line : ℕ) (reply : Reply) → IsTurning script t c first (events.Outer t line reply ∷ past) before true 0 p task1 cpu1 bank1
  outer_turned line reply = close_turned (events.Outer t line reply) refl (outer_closes (set_target script (command_at script t line)) (is_count reply)) (outer_ends script past t line reply) false (λ n. refl) p task1 cpu1 bank1 closed_here

  -- a return that is refused
  pub refused_turned : (command : Command) (error : HeaderError) (task2 : Task) (cpu2 : Cpu B) (bank2 : banks.Bank) → WasRefused (is_user script t) command error task1 task2 cpu1 cpu2 bank1 bank2
      → IsTurning script t c first (events.Kill t violation (frame_cause error) ∷ past) before true 0 (record p { file = refused_file p }) task2 cpu2 bank2
  refused_turned command error task2 cpu2 bank2 refused =
      let here : IsOn (is_user script t) cpu1.layout task1 bank1 p = rw cpu1_layout on1 in
      let closed : IsClosed (is_user script t) (is_frame_cause (frame_cause error)) (record p { file = refused_file p }) task1 task2 cpu1 cpu2 bank1 bank2 = record {
        set_up = refused.set_up;
        cpu = refused.cpu;
        mark_is = refused.mark;
        name = refused.name;
        loaded = λ user. refused.loaded;
        on = refused.on p here;
        holds = λ user. refused.holds p here;
        still = λ kernel. let no : true ≡ false = sym refused.known ∙ kernel in absurd (cc no);
        counts = refused.counts ∙ ap (λ b. load_if b (counts_of bank1)) (sym (is_cause error));
      } in
      close_turned (events.Kill t violation (frame_cause error)) refl plain_closes (kill_ends script past t violation (frame_cause error)) (is_frame_cause (frame_cause error)) (λ n. refl) (record p { file = refused_file p }) task2 cpu2 bank2 closed

  -- a line that traps, whatever becomes of its task
  trapped_here : (task2 : Task) (cpu2 : Cpu B) (bank2 : banks.Bank) (command : Command) → WasTrapped (is_user script t) command task1 task2 cpu1 cpu2 bank1 bank2 → IsClosed (is_user script t) false p task1 task2 cpu1 cpu2 bank1 bank2
  trapped_here task2 cpu2 bank2 command trapped =
      let mark : cpu2.mark ≡ cpu1.mark = ap (λ (x : Cpu B). x.mark) trapped.cpu in
      record {
        set_up = rw (trapped.bank, ap (λ (x : Cpu B). x.initial) trapped.cpu) closed_here.set_up;
        cpu = trapped.cpu ∙ ap (λ (m : Option ℕ). record cpu1 { bank = cpu2.bank; mark = m }) (sym mark);
        mark_is = mark;
        name = ap (λ (x : Task). x.name) trapped.task;
        loaded = λ user. ap (λ (x : Task). x.need_load) trapped.task ∙ back.loaded user;
        on = rw (trapped.task, trapped.bank) closed_here.on;
        holds = λ user. rw trapped.bank (closed_here.holds user);
        still = λ kernel. trapped.bank;
        counts = ap counts_of trapped.bank;
      }

  pub trap_turned : (command : Command) (fate : Option Why) → may_be_fate fate ≡ true → (task2 : Task) (cpu2 : Cpu B) (bank2 : banks.Bank) → WasTrapped (is_user script t) command task1 task2 cpu1 cpu2 bank1 bank2
      → IsTurning script t c first (trap_end t fate ∷ past) before true 0 p task2 cpu2 bank2
  trap_turned command None fits task2 cpu2 bank2 trapped =
      close_turned (events.Grow t) refl grows_closes (grow_ends script past t) false (λ n. refl) p task2 cpu2 bank2 (trapped_here task2 cpu2 bank2 command trapped)
  trap_turned command (Some why) fits task2 cpu2 bank2 trapped =
      close_turned (events.Kill t (trap_signal why) why) refl plain_closes (kill_ends script past t (trap_signal why) why) false
      (λ n. ap (λ b. save_if (saves script past (events.Kill t (trap_signal why) why)) (load_if b (load_if (reloads script past t) n))) (not_on (is_frame_cause why) fits)) p task2 cpu2 bank2 (trapped_here task2 cpu2 bank2 command trapped)
