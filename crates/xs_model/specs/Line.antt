-- What a local line does to its private task, and what it answers. Tasks own their whole register file here: no bank and
-- no save area takes part. The commands are this project's own; what stands behind each is named where it is defined.
use Rattle.std.specs.Prelude.{ℕ, ◌+◌, Bool, true, false, slice_get, slice_range, Option, Some, None, if◌then◌else◌}
use Rattle.xs_base.specs.declared.header.HeaderError.{HeaderError}
use Rattle.xs_base.specs.declared.header.HeaderError.TheVariants as errors
use Rattle.xs_base.specs.declared.words.Errno.{Errno}
use Rattle.xs_base.specs.declared.words.Errno.TheVariants as errnos
use Rattle.xs_base.specs.Bytes.{splice}
use Rattle.xs_base.specs.File.{read_place, write_place}
use Rattle.xs_base.specs.Task.{PrivateTask}
use Rattle.xs_base.specs.Register.{place_of}
use Rattle.xs_base.specs.Frame.{Return, Full, LegacyOnly, Refused, return_of, after_return, refused_file}
use Rattle.xs_base.specs.Tile.{feature_error, permitted_task, raises_nm, released_file}
use Rattle.xs_model.specs.declared.script.Command.{Command}
use Rattle.xs_model.specs.declared.script.Command.TheVariants as commands
use Rattle.xs_model.specs.declared.script.Order.{Order}
use Rattle.xs_model.specs.declared.script.Block.{Block}
use Rattle.xs_model.specs.declared.event.Reply.{Reply}
use Rattle.xs_model.specs.declared.event.Reply.TheVariants as replies
use Rattle.xs_model.specs.declared.event.Why.{Why}
use Rattle.xs_model.specs.declared.event.Why.TheVariants as whys

-- the line at a place: one of the handler while that runs
abbrev pub order_at : Block → Bool → ℕ → Option Order
order_at lines handling place = slice_get (if handling then lines.handler else lines.body) place

-- the line at the task's place
abbrev pub line_at : Block → PrivateTask → Option Order
line_at lines task = order_at lines task.handling task.place

-- the task at the next line
abbrev pub next_line : PrivateTask → PrivateTask
next_line task = record task { place = task.place + 1 }

-- ---- replies

-- an error by its number (Linux 6.6, include/uapi/asm-generic/errno-base.h and errno.h)
abbrev pub errno_number : Errno → ℕ
errno_number errnos.Srch = 3
errno_number errnos.Fault = 14
errno_number errnos.Invalid = 22
errno_number errnos.NotSupported = 95

-- an error's number, or else a count
abbrev pub count_or_error : ℕ → Option Errno → Reply
count_or_error count None = replies.Count count
count_or_error count (Some error) = replies.Error (errno_number error)

-- the reply of a return from a handler; a refused one has none, as it kills the task
abbrev pub return_reply : Return → Reply
return_reply (Full file) = replies.Full
return_reply (LegacyOnly file) = replies.Legacy
return_reply (Refused error) = replies.Done

-- what a local line answers
abbrev pub local_reply : PrivateTask → Command → Reply
local_reply task (commands.Get reg) = replies.Bytes (read_place task.file (place_of reg))
local_reply task (commands.Perm feature) = count_or_error 0 (feature_error task.file.rows feature)
local_reply task (commands.Peek at len) = replies.Bytes (slice_range task.frame at (at + len))
local_reply task (commands.Bpeek at len) = replies.Bytes (slice_range task.buffer at (at + len))
local_reply task commands.Sigreturn = return_reply (return_of task)
local_reply task other = replies.Done

-- ---- the task after a line

-- the task that has asked for a permission
abbrev pub asked : Option Errno → PrivateTask → PrivateTask
asked None task = permitted_task task
asked (Some error) task = task

-- The private task after a local line. A return outside of a handler, which no script has, does nothing.
abbrev pub local_after : PrivateTask → Command → PrivateTask
local_after task (commands.Set reg bytes) = next_line (record task { file = write_place task.file (place_of reg) bytes })
local_after task commands.Tilerelease = next_line (record task { file = released_file task.file })
local_after task (commands.Perm feature) = next_line (asked (feature_error task.file.rows feature) task)
local_after task (commands.Poke at bytes) = next_line (record task { frame = splice at bytes task.frame })
local_after task (commands.Bpoke at bytes) = next_line (record task { buffer = splice at bytes task.buffer })
local_after task commands.Sigreturn = if task.handling then after_return task (return_of task) else next_line task
local_after task other = next_line task

-- ---- lines that make another event

-- The line raises #NM: it uses tiles for which the task has no room yet.
abbrev pub traps : PrivateTask → Command → Bool
traps task (commands.Get reg) = raises_nm task (place_of reg) false
traps task (commands.Set reg bytes) = raises_nm task (place_of reg) true
traps task other = false

-- the cause of the kill by a frame that is refused
abbrev pub frame_cause : HeaderError → Why
frame_cause errors.Features = whys.FrameFeatures
frame_cause errors.Compacted = whys.FrameCompacted
frame_cause errors.Reserved = whys.FrameReserved
frame_cause errors.Mxcsr = whys.FrameMxcsr

abbrev pub return_cause : Return → Option Why
return_cause (Full file) = None
return_cause (LegacyOnly file) = None
return_cause (Refused error) = Some (frame_cause error)

-- why the line kills its task, where it is a return from a handler that is refused
abbrev pub refusal : PrivateTask → Command → Option Why
refusal task commands.Sigreturn = return_cause (return_of task)
refusal task other = None

abbrev pub is_frame_cause : Why → Bool
is_frame_cause whys.Permission = false
is_frame_cause whys.Area = false
is_frame_cause whys.FrameFeatures = true
is_frame_cause whys.FrameCompacted = true
is_frame_cause whys.FrameReserved = true
is_frame_cause whys.FrameMxcsr = true

-- The task as a kill leaves it: a refused frame leaves no registers.
abbrev pub killed : Why → PrivateTask → PrivateTask
killed why task = if is_frame_cause why then record task { file = refused_file task } else task
