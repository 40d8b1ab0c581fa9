-- The task of an unborn block that becomes a child (Linux 6.6, kernel/fork.c, kernel_clone).
use Rattle.std.specs.Prelude.{◌≡◌, List, Some, None}
use Rattle.xs_area.specs.declared.area.Lease.{Lease}
use Rattle.xs_base.specs.declared.class.Class.TheVariants.{Small}
use Rattle.xs_base.specs.declared.component.Row.{Row}
use Rattle.xs_base.specs.Task.{PrivateTask, child_of, marks_after}
use Rattle.xs_task.specs.declared.task.Task.{Task}
use Rattle.xs_task.specs.Parked.{IsParked}
use Rattle.xs_task.specs.TaskArea.{IsTask}
use Rattle.xs_board.specs.Home.{IsClear}

-- The task can become a child: it has all that a task has, a Small area, and memories of zeros.
pub record CanBeBorn (rows : List Row) (task : Task) : Type 0 where
  pub whole : IsTask rows task
  pub small : (lease : Lease) → task.lease ≡ Some lease → lease.class ≡ Small
  pub clear : IsClear task

-- It became the child of a task that was switched out.
pub record BecameChild (rows : List Row) (parent before after : Task) : Type 0 where
  pub whole : IsTask rows after
  pub stands : (p : PrivateTask) → IsParked rows parent p → p.marks ≡ marks_after p → IsParked rows after (child_of p)
  pub name : after.name ≡ before.name
  pub last : after.last ≡ None
