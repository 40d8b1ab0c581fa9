-- Signal frames: what a delivery writes into the memory of a task's frame, and what a return makes of it (Linux 6.6,
-- arch/x86/kernel/fpu/signal.c, copy_fpstate_to_sigframe, check_xstate_in_sigframe and restore_fpregs_from_user;
-- arch/x86/include/uapi/asm/sigcontext.h, struct _fpx_sw_bytes). They follow it in outline: that a frame is zero where no
-- rule puts a byte, and the conditions and the order of the refusals, are this project's own.
use Rattle.std.specs.Prelude.{ℕ, ◌+◌, Bool, true, false, not, ◌&&◌, ◌||◌, ◌==◌, nat_lt, List, slice_range, Option, Some, None, if◌then◌else◌, bit_and}
use Rattle.std.specs.Int.{to_le_bytes, from_le_bytes, w32, w64}
use Rattle.xs_base.specs.declared.component.Row.{Row}
use Rattle.xs_base.specs.declared.header.HeaderError.{HeaderError}
use Rattle.xs_base.specs.declared.header.HeaderError.TheVariants as errors
use Rattle.xs_base.specs.declared.header.Origin.{Origin}
use Rattle.xs_base.specs.declared.header.Origin.TheVariants as origins
use Rattle.xs_base.specs.declared.header.Parts.{Parts}
use Rattle.xs_base.specs.Sets.{has}
use Rattle.xs_base.specs.Bytes.{zeros, splice}
use Rattle.xs_base.specs.Component.{component_numbers, x87_number, sse_number}
use Rattle.xs_base.specs.Layout.{set_of}
use Rattle.xs_base.specs.File.{File, initial_file, in_use}
use Rattle.xs_base.specs.Standard.{standard_bytes}
use Rattle.xs_base.specs.Header.{mxcsr}
use Rattle.xs_base.specs.HeaderCheck.{header_error, is_wrong_mxcsr, parts_in}
use Rattle.xs_base.specs.Image.{image_file}
use Rattle.xs_base.specs.Task.{PrivateTask, frame_length, user_features, user_size, start_file}

-- FP_XSTATE_MAGIC1 and FP_XSTATE_MAGIC2
abbrev pub magic1 : ℕ
magic1 = 0x46505853

abbrev pub magic2 : ℕ
magic2 = 0x46505845

-- x87 and SSE, the components of the legacy region (SDM volume 1, 13.4.1)
abbrev pub legacy_features : ℕ
legacy_features = 3

-- ---- a delivery

-- a number of four bytes, and one of eight
unfoldable pub word : ℕ → List ℕ
word value = to_le_bytes w32 value

unfoldable pub long : ℕ → List ℕ
long value = to_le_bytes w64 value

-- A frame's XSTATE_BV: the components in use within the user features, and x87 and SSE always (Linux 6.6,
-- arch/x86/kernel/fpu/signal.c, save_xstate_epilog).
unfoldable pub frame_bits : File → ℕ → ℕ
frame_bits file user = set_of (λ c. (in_use file c && has user c) || (c == x87_number) || (c == sse_number)) component_numbers

-- These bytes with the words that a frame has over them: magic1, extended_size, xfeatures, xstate_size, XSTATE_BV and
-- magic2.
unfoldable pub with_words : ℕ → ℕ → ℕ → List ℕ → List ℕ
with_words user size bits bytes =
    splice size (word magic2)
    (splice 512 (long bits)
    (splice 480 (word size)
    (splice 472 (long user)
    (splice 468 (word (size + 4))
    (splice 464 (word magic1) bytes)))))

-- the whole memory of a frame of this file, by the user features and the user size
unfoldable pub frame_bytes : File → ℕ → ℕ → List ℕ
frame_bytes file user size = with_words user size (frame_bits file user) (standard_bytes file user (zeros frame_length))

-- the frame of the task
abbrev pub frame_of : PrivateTask → List ℕ
frame_of task = frame_bytes task.file (user_features task) (user_size task)

-- A signal is delivered: the task has the frame, and its handler begins at its first line with every register initial
-- (Linux 6.6, arch/x86/kernel/signal.c, handle_signal; arch/x86/kernel/fpu/core.c, fpu__clear_user_states; for PKRU
-- arch/x86/include/asm/pkru.h, pkru_write_default).
abbrev pub delivered : PrivateTask → PrivateTask
delivered task = record task {
  file = start_file task.file.rows;
  frame = frame_of task;
  handling = true;
  place = 0;
  back = task.place;
}

-- ---- a return

-- the number of four bytes at a place, and xfeatures, which has eight
unfoldable pub word_at : ℕ → List ℕ → ℕ
word_at at frame = from_le_bytes w32 (slice_range frame at (at + 4))

unfoldable pub xfeatures : List ℕ → ℕ
xfeatures frame = from_le_bytes w64 (slice_range frame 472 480)

abbrev pub extended_size : List ℕ → ℕ
extended_size frame = word_at 468 frame

abbrev pub xstate_size : List ℕ → ℕ
xstate_size frame = word_at 480 frame

-- Only x87 and SSE are taken: magic1 is wrong, xstate_size is out of its bounds, or magic2 doesn't stand behind it.
abbrev pub is_legacy_only : ℕ → List ℕ → Bool
is_legacy_only size frame =
    not (word_at 464 frame == magic1)
    || nat_lt (xstate_size frame) 576 || nat_lt size (xstate_size frame) || nat_lt (extended_size frame) (xstate_size frame)
    || not (word_at (xstate_size frame) frame == magic2)

-- the components that are wanted of the frame: its xfeatures within the user features
abbrev pub from_frame : ℕ → List ℕ → Origin
from_frame user frame = origins.Frame (record { 0 = bit_and (xfeatures frame) user })

-- The first test that the frame fails. Where x87 and SSE alone are taken its header isn't looked at.
abbrev pub frame_error : ℕ → ℕ → List ℕ → Option HeaderError
frame_error user size frame =
    if is_legacy_only size frame then (if is_wrong_mxcsr (mxcsr frame) then Some errors.Mxcsr else None)
    else header_error (from_frame user frame) user frame

-- what is taken of the frame
abbrev pub legacy_parts : List ℕ → Parts
legacy_parts frame = record { bits = record { 0 = legacy_features }; mxcsr = mxcsr frame; pkru = 0 }

abbrev pub frame_parts : List Row → ℕ → ℕ → List ℕ → Parts
frame_parts rows user size frame = if is_legacy_only size frame then legacy_parts frame else parts_in rows (from_frame user frame) frame

-- the file of it: what isn't taken is initial
abbrev pub frame_file : List Row → ℕ → ℕ → List ℕ → File
frame_file rows user size frame = image_file (initial_file rows) frame (frame_parts rows user size frame)

-- A return takes the whole frame, or x87 and SSE alone, or is refused.
pub data Return : Type 0 where
  Full : File → Return
  LegacyOnly : File → Return
  Refused : HeaderError → Return

abbrev pub return_by : Option HeaderError → Bool → File → Return
return_by (Some error) legacy file = Refused error
return_by None true file = LegacyOnly file
return_by None false file = Full file

-- what a return makes of these bytes, by the user features and the user size
abbrev pub return_from : List Row → ℕ → ℕ → List ℕ → Return
return_from rows user size frame = return_by (frame_error user size frame) (is_legacy_only size frame) (frame_file rows user size frame)

-- what a return makes of the task's frame
abbrev pub return_of : PrivateTask → Return
return_of task = return_from task.file.rows (user_features task) (user_size task) task.frame

-- The file that a refused return leaves, with which the task ends: this is the project's own.
abbrev pub refused_file : PrivateTask → File
refused_file task = start_file task.file.rows

-- The task goes on where it was before the signal; a refused one has the file that a refusal leaves.
abbrev pub after_return : PrivateTask → Return → PrivateTask
after_return task (Full file) = record task { file = file; handling = false; place = task.back }
after_return task (LegacyOnly file) = record task { file = file; handling = false; place = task.back }
after_return task (Refused error) = record task { file = refused_file task }
