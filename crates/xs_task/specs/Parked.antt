-- A task between its turns: its registers are in its area and PKRU beside (Linux 6.6, arch/x86/include/asm/processor.h, struct
-- thread_struct: fpu and pkru; the flag is TIF_NEED_FPU_LOAD, arch/x86/kernel/fpu/context.h).
use Rattle.std.specs.Prelude.{◌≡◌, true, List, Some}
use Rattle.xs_base.specs.declared.component.Row.{Row}
use Rattle.xs_area.specs.declared.area.Lease.{Lease}
use Rattle.xs_task.specs.declared.task.Task.{Task}
use Rattle.xs_base.specs.Area.{StandsFor}
use Rattle.xs_base.specs.Component.{pkru_number}
use Rattle.xs_base.specs.File.{part, pkru_bytes}
use Rattle.xs_base.specs.Task.{PrivateTask, IsPrivateTask}
use Rattle.xs_task.specs.Marks.{marks_of}
use Rattle.xs_task.specs.Private.{HasForm}

-- The parked task stands for the private task, which is a valid one: its area and its PKRU stand for the file, and the area gives
-- the marks.
pub record IsParked (rows : List Row) (task : Task) (private : PrivateTask) : Type 0 where
  pub valid : IsPrivateTask rows private
  pub flag : task.need_load ≡ true
  pub form : HasForm task private
  pub stands : (lease : Lease) → task.lease ≡ Some lease → StandsFor rows lease.area.bytes.items private.file
  pub pkru : part private.file pkru_number ≡ pkru_bytes task.pkru
  pub marks : private.marks ≡ marks_of task.lease task.pkru
