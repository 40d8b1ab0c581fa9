-- Tasks that are home: no processor has them, and they stand for the machine's private tasks.
use Rattle.std.specs.Prelude.{◌≡◌, Bool, true, false, List, [], None}
use Rattle.xs_base.specs.declared.component.Row.{Row}
use Rattle.xs_base.specs.Bytes.{zeros}
use Rattle.xs_base.specs.Task.{PrivateTask, frame_length, buffer_length}
use Rattle.xs_model.specs.declared.stage.Stage.{Stage}
use Rattle.xs_model.specs.declared.stage.Stage.TheVariants.{Unborn, Ready, Turn, Stopped, Waiting, Ended}
use Rattle.xs_task.specs.declared.task.Task.{Task}
use Rattle.xs_task.specs.Parked.{IsParked}
use Rattle.xs_task.specs.TaskArea.{IsTask}

-- A user task between its turns: it is whole and parked.
pub record IsUserHome (rows : List Row) (task : Task) (private : PrivateTask) : Type 0 where
  pub whole : IsTask rows task
  pub parked : IsParked rows task private

-- A kernel thread's record: it has a place alone, and neither an area nor memories.
pub record IsThreadHome (task : Task) (private : PrivateTask) : Type 0 where
  pub lease : task.lease ≡ None
  pub frame : task.frame.items ≡ []
  pub buffer : task.buffer.items ≡ []
  pub place : task.place ≡ private.place

-- Both memories of the task are zero, as before its first turn.
pub record IsClear (task : Task) : Type 0 where
  pub frame : task.frame.items ≡ zeros frame_length
  pub buffer : task.buffer.items ≡ zeros buffer_length

-- The task of a block that is a user task, or else a kernel thread, stands for the private task.
abbrev pub IsHome : Bool → List Row → Task → PrivateTask → Type 0
IsHome true rows task private = IsUserHome rows task private
IsHome false rows task private = IsThreadHome task private

-- A block's task is home while the block isn't in a turn and hasn't ended. That of an unborn block stands for a task before its
-- first turn, so that its memories and its area are there when it is born.
abbrev pub is_resting : Stage → Bool
is_resting Unborn = true
is_resting Ready = true
is_resting (Turn cpu ran) = false
is_resting Stopped = true
is_resting (Waiting child) = true
is_resting Ended = false
