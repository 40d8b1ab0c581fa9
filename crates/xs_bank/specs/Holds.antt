-- What it is that a bank holds a task's registers (Linux 6.6, arch/x86/kernel/fpu/context.h, fpregs_restore_userregs, and
-- xstate.h, xfd_update_state).
use Rattle.std.specs.Prelude.{◌≡◌, not, ◌&&◌, if◌then◌else◌}
use Rattle.xs_base.specs.Component.{tiledata_number}
use Rattle.xs_base.specs.File.{AreSameButPkru}
use Rattle.xs_base.specs.Layout.{has_row}
use Rattle.xs_base.specs.Task.{PrivateTask}
use Rattle.xs_bank.specs.Bank.{Bank}
use Rattle.xs_bank.specs.Load.{tiles}

-- The bank's file is the task's, PKRU aside, and TILEDATA is armed exactly where the machine has it and the task's save area
-- has no room for it.
pub record Holds (bank : Bank) (task : PrivateTask) : Type 0 where
  pub file : AreSameButPkru task.file bank.file
  pub armed : bank.armed ≡ (if has_row task.file.rows tiledata_number && not task.large then tiles else 0)
