-- What deliveries and returns keep from turn to turn.
use Rattle.std.proofs.Common.{◌≡◌, false}
use Rattle.xs_bank.specs.declared.cpu.Cpu.{Cpu}
use Rattle.xs_bank.specs.Bank.{Bank}
use Rattle.xs_bank.specs.SetUp.{WasSetUp}
use Rattle.xs_switch.specs.Running.{CanSave}
use Rattle.xs_task.specs.declared.task.Task.{Task}
use Rattle.xs_task.specs.TaskArea.{IsTask}

-- The registers of the task are in the bank of the processor.
pub record IsOn {B : Type 0} (state : B → Bank) (cpu : Cpu B) (task : Task) : Type 0 where
  pub set_up : WasSetUp cpu.layout (state cpu.bank) cpu.initial
  pub task_is : IsTask cpu.layout task
  pub in_bank : task.need_load ≡ false
  pub ready : CanSave cpu.layout task (state cpu.bank)
