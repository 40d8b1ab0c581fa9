-- What XFD is armed for while a task runs (Linux 6.6, arch/x86/kernel/fpu/xstate.h, xfd_update_state).
use Rattle.std.specs.Prelude.{ℕ, not, ◌&&◌, List, if◌then◌else◌}
use Rattle.xs_base.specs.declared.class.Class.{Class}
use Rattle.xs_base.specs.declared.component.Row.{Row}
use Rattle.xs_base.specs.Component.{tiledata_number}
use Rattle.xs_base.specs.Layout.{has_row}
use Rattle.xs_bank.specs.Load.{tiles}
use Rattle.xs_task.specs.TaskArea.{is_large}

-- TILEDATA, where the machine has it and the task's area has no room for it
abbrev pub armed_for : List Row → Class → ℕ
armed_for rows class = if has_row rows tiledata_number && not (is_large class) then tiles else 0
