-- The task as its private task: the kernel keeps the same of both but for the registers and the marks, which are in the area.
-- This project's own.
use Rattle.std.specs.Prelude.{◌≡◌, ℕ}
use Rattle.xs_task.specs.declared.task.Task.{Task}
use Rattle.xs_base.specs.File.{File}
use Rattle.xs_base.specs.Task.{PrivateTask}
use Rattle.xs_task.specs.TaskArea.{has_large}

-- the private task with this file and these marks
abbrev pub private_of : Task → File → ℕ → PrivateTask
private_of task file marks = record {
  file = file;
  marks = marks;
  permitted = task.permitted;
  large = has_large task.lease;
  frame = task.frame.items;
  buffer = task.buffer.items;
  handling = task.handling;
  place = task.place;
  back = task.back;
}

-- The task is that private task, but for its file and its marks.
abbrev pub HasForm : Task → PrivateTask → Type 0
HasForm task private = private ≡ private_of task private.file private.marks
