-- A task in a turn, and the bank of its processor (Linux 6.6, arch/x86/kernel/fpu/context.h and
-- arch/x86/include/asm/fpu/sched.h, switch_fpu_prepare). That a save may rely on what a load left is SDM volume 1, 13.6.
use Rattle.std.specs.Prelude.{◌≡◌, true, false, List, Some}
use Rattle.xs_base.specs.declared.component.Row.{Row}
use Rattle.xs_area.specs.declared.area.Lease.{Lease}
use Rattle.xs_base.specs.Component.{pkru_number}
use Rattle.xs_base.specs.File.{File, AreSameButPkru, part}
use Rattle.xs_base.specs.KernelArea.{class_features}
use Rattle.xs_base.specs.Task.{PrivateTask, IsPrivateTask}
use Rattle.xs_bank.specs.Bank as banks
use Rattle.xs_bank.specs.Bank.{IsReady}
use Rattle.xs_task.specs.declared.task.Task.{Task}
use Rattle.xs_task.specs.Marks.{IsSavedIn}
use Rattle.xs_task.specs.Private.{HasForm}
use Rattle.xs_switch.specs.Armed.{armed_for}

-- The bank has this file, PKRU aside, and is armed for the area's class.
pub record IsInBank (rows : List Row) (lease : Lease) (bank : banks.Bank) (file : File) : Type 0 where
  pub same : AreSameButPkru file bank.file
  pub armed : bank.armed ≡ armed_for rows lease.class

-- The area is ready to save: the bank is armed for its class, and what wasn't changed since the area's load stands in it.
pub record IsSaveable (rows : List Row) (lease : Lease) (bank : banks.Bank) : Type 0 where
  pub armed : bank.armed ≡ armed_for rows lease.class
  pub ready : IsReady bank lease.area.id (class_features rows lease.class) lease.area.bytes.items

-- The area of a task whose registers are in the bank is ready to save.
abbrev pub CanSave : List Row → Task → banks.Bank → Type 0
CanSave rows task bank = task.need_load ≡ false → (lease : Lease) → task.lease ≡ Some lease → IsSaveable rows lease bank

-- In a turn of the task, which is this private task: by its flag the area or the bank has its registers. The bank has its PKRU.
pub record IsRunning (rows : List Row) (task : Task) (bank : banks.Bank) (private : PrivateTask) : Type 0 where
  pub valid : IsPrivateTask rows private
  pub form : HasForm task private
  pub pkru : part bank.file pkru_number ≡ part private.file pkru_number
  pub saved : task.need_load ≡ true → (lease : Lease) → task.lease ≡ Some lease → IsSavedIn rows lease private.file
  pub whole : task.need_load ≡ false → bank.file ≡ private.file
