-- What a tracer reads and writes of a stopped task, byte by byte (Linux 6.6, arch/x86/kernel/fpu/regset.c, xstateregs_get,
-- xstateregs_set, xfpregs_get and xfpregs_set; arch/x86/kernel/fpu/xstate.c, __copy_xstate_to_uabi_buf and
-- copy_uabi_to_xstate). They follow it in outline: the marks, the order of the refusals, the rules for MXCSR and the zero
-- bytes at the end of the Fx set are this project's own.
use Rattle.std.specs.Prelude.{ℕ, ◌-◌, Bool, not, ◌&&◌, ◌||◌, ◌==◌, nat_lt, List, [], length, map, slice_index, Option, Some, None, if◌then◌else◌, bit_and}
use Rattle.std.specs.Int.{to_le_bytes, w64}
use Rattle.std.specs.List.{range_with_len}
use Rattle.xs_base.specs.declared.header.HeaderError.{HeaderError}
use Rattle.xs_base.specs.declared.header.HeaderError.TheVariants as errors
use Rattle.xs_base.specs.declared.header.Origin.TheVariants.{Regset}
use Rattle.xs_base.specs.declared.words.Errno.{Errno}
use Rattle.xs_base.specs.declared.words.Errno.TheVariants as errnos
use Rattle.xs_base.specs.declared.words.Set.{Set}
use Rattle.xs_base.specs.declared.words.Set.TheVariants.{Xstate, Fx}
use Rattle.xs_base.specs.Bytes.{is_within}
use Rattle.xs_base.specs.Component.{component_numbers, initial_mxcsr, x87_number, sse_number}
use Rattle.xs_base.specs.File.{File, with_part, initial_file}
use Rattle.xs_base.specs.Frame.{legacy_features}
use Rattle.xs_base.specs.Header.{xstate_bv, mxcsr}
use Rattle.xs_base.specs.HeaderCheck.{header_error, is_wrong_mxcsr, parts_in}
use Rattle.xs_base.specs.Image.{taken_part, image_file}
use Rattle.xs_base.specs.Layout.{features, full_size, set_of}
use Rattle.xs_base.specs.Sets.{has}
use Rattle.xs_base.specs.Standard.{standard_byte}
use Rattle.xs_base.specs.Task.{PrivateTask, user_features, mark_by}

-- ---- reading

-- Byte i of the Xstate set: the marks within the user features from 512 on, the machine's features from 464 on, and else the
-- standard bytes of every component, over zeros.
abbrev pub xstate_byte : PrivateTask → ℕ → ℕ
xstate_byte task i =
    if is_within 512 8 i then slice_index (to_le_bytes w64 (bit_and task.marks (user_features task))) (i - 512)
    else if is_within 464 8 i then slice_index (to_le_bytes w64 (features task.file.rows)) (i - 464)
    else standard_byte task.file (features task.file.rows) [] i

-- Byte i of the Fx set: the standard bytes of x87 and SSE up to 415, and then zeros.
abbrev pub fx_byte : PrivateTask → ℕ → ℕ
fx_byte task i = if nat_lt i 416 then standard_byte task.file legacy_features [] i else 0

-- how many bytes a set has
abbrev pub set_size : PrivateTask → Set → ℕ
set_size task Xstate = full_size task.file.rows
set_size task Fx = 512

abbrev pub set_byte : PrivateTask → Set → ℕ → ℕ
set_byte task Xstate i = xstate_byte task i
set_byte task Fx i = fx_byte task i

-- the bytes of a set
unfoldable pub set_reply : PrivateTask → Set → List ℕ
set_reply task set = map (set_byte task set) (range_with_len 0 (set_size task set))

-- ---- writing

-- Component c is marked after an Xstate set of these bits: what they name, and SSE also where MXCSR isn't initial.
abbrev pub is_given : File → ℕ → ℕ → Bool
is_given file bits c = has bits c || ((c == sse_number) && not (file.mxcsr == initial_mxcsr))

-- Component c is marked after an Fx set: what was, and x87 and SSE.
abbrev pub is_added : ℕ → ℕ → Bool
is_added marks c = has marks c || (c == x87_number) || (c == sse_number)

-- the task with this file and the marks of this test
abbrev pub with_file : PrivateTask → File → (ℕ → Bool) → PrivateTask
with_file task file test = record task { file = file; marks = set_of (mark_by file test) component_numbers }

-- the file of the bytes of an Xstate set: what they don't have is initial
abbrev pub xstate_file : File → List ℕ → File
xstate_file file bytes = image_file (initial_file file.rows) bytes (parts_in file.rows Regset bytes)

-- the file with x87, XMM and MXCSR of the bytes of an Fx set
abbrev pub fx_file : File → List ℕ → File
fx_file file bytes = record (with_part (with_part file x87_number (taken_part bytes 0 x87_number)) sse_number (taken_part bytes 160 sse_number)) { mxcsr = mxcsr bytes }

-- the task after bytes that are accepted
abbrev pub after_set : PrivateTask → Set → List ℕ → PrivateTask
after_set task Xstate bytes = let file = xstate_file task.file bytes in with_file task file (is_given file (xstate_bv bytes))
after_set task Fx bytes = with_file task (fx_file task.file bytes) (is_added task.marks)

-- A set is accepted, which leaves this task, or refused: the count of the Xstate set is wrong, that of the Fx set, or a
-- test of the bytes fails.
pub data SetResult : Type 0 where
  Accepted : PrivateTask → SetResult
  Fault : SetResult
  Count : SetResult
  Header : HeaderError → SetResult

-- the first test that bytes of the right count fail
abbrev pub set_error : PrivateTask → Set → List ℕ → Option HeaderError
set_error task Xstate bytes = header_error Regset (user_features task) bytes
set_error task Fx bytes = if is_wrong_mxcsr (mxcsr bytes) then Some errors.Mxcsr else None

abbrev pub wrong_count : Set → SetResult
wrong_count Xstate = Fault
wrong_count Fx = Count

abbrev pub set_by : Option HeaderError → PrivateTask → SetResult
set_by (Some error) task = Header error
set_by None task = Accepted task

-- What a set of the task to these bytes answers: the count is tested first.
abbrev pub set_result : PrivateTask → Set → List ℕ → SetResult
set_result task set bytes =
    if not (length bytes == set_size task set) then wrong_count set
    else set_by (set_error task set bytes) (after_set task set bytes)

-- the error's number that a tracer is told
abbrev pub set_errno : SetResult → Option Errno
set_errno (Accepted task) = None
set_errno Fault = Some errnos.Fault
set_errno Count = Some errnos.Invalid
set_errno (Header error) = Some errnos.Invalid
