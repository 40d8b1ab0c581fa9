-- A user task's registers come to the bank, as one fact.
use Rattle.std.proofs.Common.{◌≡◌, ◌⊎◌, ℕ, true, false, Option, Some, None, is_some, if◌then◌else◌, refl, sym, ap, subst, ◌∙◌, inl, inr, arith}
use Rattle.std.proofs.lemmas.Bool.{cases_Bool}
use Rattle.xs_base.specs.declared.words.How.TheVariants as hows
use Rattle.xs_base.specs.declared.words.How.{How}
use Rattle.xs_base.specs.declared.words.Signo.{Signo}
use Rattle.xs_base.specs.Counts.{Counts, load_if, one_load, one_save, after_start}
use Rattle.xs_base.specs.Frame.{delivered}
use Rattle.xs_base.specs.File.{File, IsFile, part, pkru_bytes, with_pkru}
use Rattle.xs_base.proofs.FileLemmas.{part_here}
use Rattle.xs_base.specs.Task.{PrivateTask, start_pkru}
use Rattle.xs_bank.specs.declared.cpu.Cpu.{Cpu}
use Rattle.xs_bank.specs.Bank as banks
use Rattle.xs_bank.specs.Bank.{counts_of}
use Rattle.xs_bank.specs.Holds.{Holds}
use Rattle.xs_bank.specs.SetUp.{WasSetUp}
use Rattle.xs_model.specs.Counts as told
use Rattle.xs_switch.specs.Pkru.{given_pkru}
use Rattle.xs_switch.specs.Running.{CanSave, IsRunning}
use Rattle.xs_task.specs.declared.task.Task.{Task}
use Rattle.xs_task.specs.Parked.{IsParked}
use Rattle.xs_task.specs.TaskArea.{IsTask}
use Rattle.xs_board.specs.declared.turn.Turn.{Turn}
use Rattle.xs_board.specs.Board.{begun}
use Rattle.xs_board.specs.Home.{IsHome}
use Rattle.xs_board.specs.Taken.{is_user_how}
use Rattle.xs_machine.specs.Line.{CameBack, IsUserOn}
use Rattle.xs_machine.specs.Running.{Begun, MayBegin}

-- the task with its registers in the bank
abbrev loaded_task : Task → ℕ → Task
loaded_task task cpu = if task.need_load then record task { last = Some cpu; need_load = false } else task

loaded_fields : (task : Task) (cpu : ℕ) → ((loaded_task task cpu).name ≡ task.name) × ((loaded_task task cpu).place ≡ task.place) × ((loaded_task task cpu).need_load ≡ false) × ((loaded_task task cpu).handling ≡ task.handling)
loaded_fields task cpu = elim (cases_Bool task.need_load) [ inl on ↦ rw on (refl, refl, refl, refl) | inr off ↦ rw off (refl, refl, refl, refl) ]

-- before a line
pub user_back : {B : Type 0} (cpu new_cpu : Cpu B) (task new_task : Task) (old new : banks.Bank)
    → WasSetUp new_cpu.layout new new_cpu.initial → IsTask new_cpu.layout new_task → new_task ≡ loaded_task task cpu.number
    → new_cpu.mark ≡ (if task.need_load then Some task.name else cpu.mark) → new_cpu ≡ record cpu { bank = new_cpu.bank; mark = new_cpu.mark }
    → CanSave new_cpu.layout new_task new
    → ((p : PrivateTask) → IsRunning cpu.layout task old p → IsRunning new_cpu.layout new_task new p)
    → ((p : PrivateTask) → IsRunning cpu.layout task old p → Holds new p)
    → counts_of new ≡ load_if task.need_load (counts_of old)
    → CameBack true task new_task cpu new_cpu old new
user_back {B} cpu new_cpu task new_task old new set_up whole task_is mark cpu_is ready running holds counts =
    let layout : new_cpu.layout ≡ cpu.layout = ap (λ (x : Cpu B). x.layout) cpu_is in
    let fields = loaded_fields task cpu.number in
    record {
      set_up = rw layout at set_up;
      cpu = cpu_is;
      mark = mark;
      name = ap (λ (x : Task). x.name) task_is ∙ fields.0;
      place = ap (λ (x : Task). x.place) task_is ∙ fields.1;
      handling = ap (λ (x : Task). x.handling) task_is ∙ fields.3;
      loaded = λ _. ap (λ (x : Task). x.need_load) task_is ∙ fields.2;
      on = λ p on. record { whole = rw layout at whole; ready = rw layout at ready; running = rw layout at (running p on.running) };
      holds = λ _ p on. holds p on.running;
      counts = counts;
      still = λ no. absurd (cc);
    }

pub how_cases : (how : How) → (how ≡ hows.Load) ⊎ ((how ≡ hows.Skip) ⊎ (how ≡ hows.Kern))
how_cases hows.Load = inl refl
how_cases hows.Skip = inr (inl refl)
how_cases hows.Kern = inr (inr refl)

not_kern : (how : How) → (how ≡ hows.Kern → ⊥) → is_user_how how ≡ true
not_kern hows.Load other = refl
not_kern hows.Skip other = refl
not_kern hows.Kern other = absurd (other refl)

pub kernel_how : (how : How) → how ≡ hows.Kern → is_user_how how ≡ false
kernel_how how is = rw is refl

-- the home of a user's task
pub user_home : {B : Type 0} (cpu : Cpu B) (turn : Turn) (bank : banks.Bank) (p : PrivateTask) → (turn.how ≡ hows.Kern → ⊥) → MayBegin cpu.layout turn bank p → IsHome true cpu.layout turn.task p
user_home cpu turn bank p other may = rw (not_kern turn.how other) at may.home

pub no_signal : (signal : Option Signo) → is_some signal ≡ false → signal ≡ None
no_signal None none = refl
no_signal (Some signo) none = absurd (cc)

-- at the start of a turn, where no signal is delivered
pub user_begun : {B : Type 0} (cpu new_cpu : Cpu B) (turn : Turn) (new_task : Task) (old new : banks.Bank) → (turn.how ≡ hows.Kern → ⊥) → turn.signal ≡ None
    → WasSetUp new_cpu.layout new new_cpu.initial → IsTask new_cpu.layout new_task → new_task ≡ record turn.task { last = Some cpu.number; need_load = false }
    → new_cpu ≡ record cpu { bank = new_cpu.bank; mark = Some turn.task.name }
    → CanSave new_cpu.layout new_task new
    → ((p : PrivateTask) → IsParked cpu.layout turn.task p → (turn.how ≡ hows.Skip → Holds old p) → IsRunning new_cpu.layout new_task new p)
    → ((p : PrivateTask) → IsParked cpu.layout turn.task p → (turn.how ≡ hows.Skip → Holds old p) → Holds new p)
    → counts_of new ≡ after_start turn.how (counts_of old)
    → Begun turn (record turn { task = new_task }) cpu new_cpu old new
user_begun {B} cpu new_cpu turn new_task old new other none set_up whole task_is cpu_is ready running holds counts =
    let layout : new_cpu.layout ≡ cpu.layout = ap (λ (x : Cpu B). x.layout) cpu_is in
    let mark : new_cpu.mark ≡ Some turn.task.name = ap (λ (x : Cpu B). x.mark) cpu_is in
    let user : is_user_how turn.how ≡ true = not_kern turn.how other in
    record {
      set_up = rw layout at set_up;
      cpu = cpu_is ∙ ap (λ (m : Option ℕ). record cpu { bank = new_cpu.bank; mark = m }) (sym mark);
      mark = rw user mark;
      name = ap (λ (x : Task). x.name) task_is;
      cpu_is = refl;
      loaded = λ _. ap (λ (x : Task). x.need_load) task_is;
      on = λ p may. let home = user_home cpu turn old p other may in rw (none, user) (record { whole = rw layout at whole; ready = rw layout at ready; running = rw layout at (running p home.parked may.held) });
      holds = λ _ p may. rw none (holds p (user_home cpu turn old p other may).parked may.held);
      counts = rw none counts;
      kernel = λ no. absurd (cc);
    }

-- what a signal makes of the task and of the counts
signal_begun : (signal : Option Signo) (p : PrivateTask) → is_some signal ≡ true → begun signal p ≡ delivered p
signal_begun None p some = absurd (cc)
signal_begun (Some signo) p some = refl

signal_counts : (signal : Option Signo) (counts : Counts) → is_some signal ≡ true → one_load (one_save counts) ≡ told.delivery signal counts
signal_counts None counts some = absurd (cc)
signal_counts (Some signo) counts some = refl

-- and where one is
pub signal_delivered : {B : Type 0} (cpu mid_cpu new_cpu : Cpu B) (turn : Turn) (mid_task new_task : Task) (old mid new : banks.Bank) → (turn.how ≡ hows.Kern → ⊥) → is_some turn.signal ≡ true
    → mid_task ≡ record turn.task { last = Some cpu.number; need_load = false } → mid_cpu ≡ record cpu { bank = mid_cpu.bank; mark = Some turn.task.name }
    → ((p : PrivateTask) → IsParked cpu.layout turn.task p → (turn.how ≡ hows.Skip → Holds old p) → IsRunning mid_cpu.layout mid_task mid p)
    → counts_of mid ≡ after_start turn.how (counts_of old)
    → WasSetUp new_cpu.layout new new_cpu.initial → IsTask new_cpu.layout new_task → new_task.name ≡ mid_task.name → new_task.need_load ≡ mid_task.need_load → new_cpu ≡ record mid_cpu { bank = new_cpu.bank }
    → CanSave new_cpu.layout new_task new
    → ((p : PrivateTask) → IsRunning mid_cpu.layout mid_task mid p → IsRunning new_cpu.layout new_task new (delivered p))
    → ((p : PrivateTask) → IsRunning mid_cpu.layout mid_task mid p → Holds new (delivered p))
    → counts_of new ≡ one_load (one_save (counts_of mid))
    → Begun turn (record turn { task = new_task }) cpu new_cpu old new
signal_delivered {B} cpu mid_cpu new_cpu turn mid_task new_task old mid new other some mid_is mid_cpu_is enters mid_counts set_up whole name flag cpu_is ready running holds counts =
    let layout : new_cpu.layout ≡ cpu.layout = ap (λ (x : Cpu B). x.layout) cpu_is ∙ ap (λ (x : Cpu B). x.layout) mid_cpu_is in
    let mark : new_cpu.mark ≡ Some turn.task.name = ap (λ (x : Cpu B). x.mark) cpu_is ∙ ap (λ (x : Cpu B). x.mark) mid_cpu_is in
    let user : is_user_how turn.how ≡ true = not_kern turn.how other in
    let here : new_cpu ≡ record cpu { bank = new_cpu.bank; mark = Some turn.task.name } = cpu_is ∙ ap (λ (x : Cpu B). record x { bank = new_cpu.bank }) mid_cpu_is in
    record {
      set_up = rw layout at set_up;
      cpu = here ∙ ap (λ (m : Option ℕ). record cpu { bank = new_cpu.bank; mark = m }) (sym mark);
      mark = rw user mark;
      name = name ∙ ap (λ (x : Task). x.name) mid_is;
      cpu_is = refl;
      loaded = λ _. flag ∙ ap (λ (x : Task). x.need_load) mid_is;
      on = λ p may.
          let home = user_home cpu turn old p other may in
          let now : IsUserOn cpu.layout new_task new (delivered p) = record { whole = rw layout at whole; ready = rw layout at ready; running = rw layout at (running p (enters p home.parked may.held)) } in
          rw user (subst (IsUserOn cpu.layout new_task new) (sym (signal_begun turn.signal p some)) now);
      holds = λ _ p may. subst (Holds new) (sym (signal_begun turn.signal p some)) (holds p (enters p (user_home cpu turn old p other may).parked may.held));
      counts = counts ∙ ap (λ (n : Counts). one_load (one_save n)) mid_counts ∙ signal_counts turn.signal (after_start turn.how (counts_of old)) some;
      kernel = λ no. absurd (cc);
    }

-- at the start of a kernel thread's turn
pub kernel_begun : {B : Type 0} (cpu new_cpu : Cpu B) (turn : Turn) (old new : banks.Bank) → turn.how ≡ hows.Kern → turn.signal ≡ None → IsFile old.file
    → WasSetUp new_cpu.layout new new_cpu.initial → new ≡ given_pkru old start_pkru → new.file ≡ with_pkru old.file start_pkru → counts_of new ≡ counts_of old
    → new_cpu ≡ record cpu { bank = new_cpu.bank }
    → Begun turn turn cpu new_cpu old new
kernel_begun {B} cpu new_cpu turn old new kern none good set_up given file counts cpu_is =
    let layout : new_cpu.layout ≡ cpu.layout = ap (λ (x : Cpu B). x.layout) cpu_is in
    let mark : new_cpu.mark ≡ cpu.mark = ap (λ (x : Cpu B). x.mark) cpu_is in
    let user : is_user_how turn.how ≡ false = rw kern refl in
    let pkru : part new.file 9 ≡ pkru_bytes start_pkru = ap (λ (f : File). part f 9) file ∙ part_here old.file 9 (pkru_bytes start_pkru) (omega (arith, good.count)) in
    record {
      set_up = rw layout at set_up;
      cpu = cpu_is ∙ ap (λ (m : Option ℕ). record cpu { bank = new_cpu.bank; mark = m }) (sym mark);
      mark = rw user mark;
      name = refl;
      cpu_is = refl;
      loaded = λ no. absurd (cc);
      on = λ p may. rw (none, user) (record { home = rw user at may.home; outside = may.outside user; pkru = pkru });
      holds = λ no. absurd (cc);
      counts = rw (none, kern) counts;
      kernel = λ _. given;
    }
