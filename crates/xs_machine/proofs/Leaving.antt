-- A task leaves its processor after its turn.
use Rattle.std.proofs.Common.{◌≡◌, ℕ, Bool, true, false, not, ◌&&◌, List, Option, Some, None, if◌then◌else◌, refl, sym, ap, ◌∙◌}
use Rattle.xs_area.specs.declared.area.Lease.{Lease}
use Rattle.xs_base.specs.declared.component.Row.{Row}
use Rattle.xs_base.specs.Counts.{Counts, save_if}
use Rattle.xs_base.specs.File.{pkru_of}
use Rattle.xs_base.specs.Task.{PrivateTask, parked}
use Rattle.xs_bank.specs.declared.cpu.Cpu.{Cpu}
use Rattle.xs_bank.specs.Bank as banks
use Rattle.xs_bank.specs.Bank.{counts_of}
use Rattle.xs_bank.specs.SetUp.{WasSetUp}
use Rattle.xs_model.specs.declared.event.Event.{Event}
use Rattle.xs_model.specs.declared.script.Script.{Script}
use Rattle.xs_model.specs.Counts.{in_section}
use Rattle.xs_model.specs.Note.{mark}
use Rattle.xs_model.specs.Script.{is_user}
use Rattle.xs_switch.specs.Running.{IsRunning}
use Rattle.xs_task.specs.declared.task.Task.{Task}
use Rattle.xs_task.specs.Parked.{IsParked}
use Rattle.xs_task.specs.TaskArea.{IsTask}
use Rattle.xs_board.specs.Home.{IsHome}
use Rattle.xs_machine.specs.Line.{IsOn}
use Rattle.xs_machine.specs.Turn.{IsTurning, HasLeft}

home_on : (user : Bool) (rows : List Row) (task : Task) (bank : banks.Bank) (p : PrivateTask) → user ≡ true → IsOn user rows task bank p → IsRunning rows task bank p
home_on true rows task bank p is on = on.running
home_on false rows task bank p is on = absurd (cc)

home_user : (user : Bool) (rows : List Row) (task : Task) (p : PrivateTask) → user ≡ true → IsTask rows task → IsParked rows task p → IsHome user rows task p
home_user true rows task p is whole parked = record { whole = whole; parked = parked }
home_user false rows task p is whole parked = absurd (cc)

home_thread : (user : Bool) (rows : List Row) (task : Task) (bank : banks.Bank) (p : PrivateTask) → user ≡ false → IsOn user rows task bank p → IsHome user rows task (parked p)
home_thread true rows task bank p is on = absurd (cc)
home_thread false rows task bank p is on = record { lease = on.home.lease; frame = on.home.frame; buffer = on.home.buffer; place = on.home.place }

mark_left : (section : Bool) (t u : ℕ) (mark : Option ℕ) → mark ≡ (if section then None else Some t) → mark ≡ Some u → (section ≡ false) × (u ≡ t)
mark_left true t u mark is known = absurd (cc)
mark_left false t u mark is known = (refl, cc)

last_save : (user need : Bool) (counts : Counts) → user ≡ true → save_if (true && user && not need) counts ≡ save_if (not need) counts
last_save true need counts is = refl
last_save false need counts is = absurd (cc)

-- A user task is switched out.
pub user_left : {B : Type 0} (script : Script) (t c : ℕ) (first past : List Event) (before : banks.Bank) (p : PrivateTask) (task new_task : Task) (cpu new_cpu : Cpu B) (bank new : banks.Bank) (lease : Option Lease)
    → IsTurning script t c first past before true 0 p task cpu bank → is_user script task.name ≡ true
    → WasSetUp new_cpu.layout new new_cpu.initial → IsTask new_cpu.layout new_task
    → new_task ≡ record task { lease = lease; last = Some cpu.number; need_load = true; pkru = pkru_of bank.file }
    → ((q : PrivateTask) → IsRunning cpu.layout task bank q → IsParked new_cpu.layout new_task (parked q))
    → new_cpu ≡ record cpu { bank = new_cpu.bank } → new.file ≡ bank.file → new.armed ≡ bank.armed
    → counts_of new ≡ save_if (not task.need_load) (counts_of bank)
    → HasLeft script t c first past before p new_task new_cpu new
user_left {B} script t c first past before p task new_task cpu new_cpu bank new lease turn known set_up whole task_is parks cpu_is file armed counts =
    let user : is_user script t ≡ true = ap (is_user script) (sym turn.name) ∙ known in
    let layout : new_cpu.layout ≡ script.layout = ap (λ (x : Cpu B). x.layout) cpu_is ∙ turn.layout in
    let running : IsRunning script.layout task bank p = home_on (is_user script t) script.layout task bank p user turn.on in
    record {
      follows = turn.follows;
      number = ap (λ (x : Cpu B). x.number) cpu_is ∙ turn.number;
      layout = layout;
      set_up = rw layout at set_up;
      name = ap (λ (x : Task). x.name) task_is ∙ turn.name;
      home = home_user (is_user script t) script.layout new_task (parked p) user (rw layout at whole) (rw layout at (parks p (rw turn.layout running)));
      last_is = λ _. ap (λ (x : Task). x.last) task_is ∙ ap Some turn.number;
      mark_is = ap (λ (x : Cpu B). x.mark) cpu_is ∙ turn.mark_is;
      own = λ _ u is.
          let m = mark_left (in_section script past t) t u (mark script past c) (turn.own user) is in
          let held = turn.holds user m.0 in
          (m.1, record { file = rw file held.file; armed = armed ∙ held.armed });
      alien = λ kernel u is. let old = turn.alien kernel u is in (old.0, file ∙ old.1, armed ∙ old.2);
      latest = turn.latest;
      counts = turn.counts ∙ last_save (is_user script t) task.need_load (counts_of bank) user ∙ sym counts;
    }

-- A kernel thread has nothing to save.
pub thread_left : {B : Type 0} (script : Script) (t c : ℕ) (first past : List Event) (before : banks.Bank) (p : PrivateTask) (task : Task) (cpu : Cpu B) (bank : banks.Bank)
    → IsTurning script t c first past before true 0 p task cpu bank → is_user script task.name ≡ false → HasLeft script t c first past before p task cpu bank
thread_left script t c first past before p task cpu bank turn known =
    let kernel : is_user script t ≡ false = ap (is_user script) (sym turn.name) ∙ known in
    record {
      follows = turn.follows;
      number = turn.number;
      layout = turn.layout;
      set_up = turn.set_up;
      name = turn.name;
      home = home_thread (is_user script t) script.layout task bank p kernel turn.on;
      last_is = λ user. absurd (cc);
      mark_is = turn.mark_is;
      own = λ user. absurd (cc);
      alien = turn.alien;
      latest = turn.latest;
      counts = turn.counts ∙ ap (λ u. save_if (true && u && not task.need_load) (counts_of bank)) kernel;
    }
