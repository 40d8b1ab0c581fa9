-- The private task: what one user task owns, as if it had a processor to itself. It has a whole register file, and
-- nothing of a save area but whether that has room for tiles. The place is how many lines of its body it has run.
use Rattle.std.specs.Prelude.{◌≡◌, ℕ, ◌^◌, ◌<◌, Bool, false, not, ◌&&◌, ◌==◌, List, length, slice_index, if◌then◌else◌}
use Rattle.xs_base.specs.declared.component.Row.{Row}
use Rattle.xs_base.specs.Bytes.{zeros}
use Rattle.xs_base.specs.Component.{component_numbers, initial_part, pkru_number, tiledata_number}
use Rattle.xs_base.specs.Sets.{has}
use Rattle.xs_base.specs.Layout.{features, default_features, full_size, default_size, set_of}
use Rattle.xs_base.specs.File.{File, IsFile, part, with_part, initial_file, pkru_of, with_pkru, is_saved}

-- The bytes of the memory of a signal frame, 16,384 and 4 for the second magic word, and of the buffer for register sets.
abbrev pub frame_length : ℕ
frame_length = 16388

abbrev pub buffer_length : ℕ
buffer_length = 16384

pub record PrivateTask : Type 0 where
  pub file : File
  -- The components that a tracer is shown as saved. The rule for them is this project's own.
  pub marks : ℕ
  -- it may use TILEDATA (Linux 6.6, arch/x86/kernel/fpu/xstate.c, xstate_request_perm)
  pub permitted : Bool
  -- its save area has room for TILEDATA
  pub large : Bool
  -- the memory of its signal frame, and a buffer for register sets
  pub frame : List ℕ
  pub buffer : List ℕ
  -- a signal handler runs
  pub handling : Bool
  pub place : ℕ
  -- the place to go back to after the handler
  pub back : ℕ

-- The components that the task may use, and the bytes of their standard format (Linux 6.6,
-- arch/x86/include/asm/fpu/types.h, struct fpstate: user_xfeatures and user_size).
abbrev pub user_features : PrivateTask → ℕ
user_features task = if task.large then features task.file.rows else default_features task.file.rows

abbrev pub user_size : PrivateTask → ℕ
user_size task = if task.large then full_size task.file.rows else default_size task.file.rows

-- Bit c of marks by a test of each component. The bit of PKRU goes by its value alone, on a machine without component 9
-- too, where nothing shows it.
abbrev pub mark_by : File → (ℕ → Bool) → ℕ → Bool
mark_by file test c = if c == pkru_number then not (pkru_of file == 0) else test c

-- Bit c of the marks after a turn: a saved component within the user features.
abbrev pub is_marked : PrivateTask → ℕ → Bool
is_marked task c = mark_by task.file (λ d. is_saved task.file d && has (user_features task) d) c

-- the marks after a turn
unfoldable pub marks_after : PrivateTask → ℕ
marks_after task = set_of (is_marked task) component_numbers

-- a task whose turn has ended
abbrev pub parked : PrivateTask → PrivateTask
parked task = record task { marks = marks_after task }

-- The PKRU that a task starts with: only key 0 may be used (Linux 6.6, arch/x86/mm/pkeys.c, init_pkru_value).
abbrev pub start_pkru : ℕ
start_pkru = 0x55555554

-- Every component is initial, but PKRU is that which a task starts with.
abbrev pub start_file : List Row → File
start_file rows = with_pkru (initial_file rows) start_pkru

-- a task that no fork has made, before its first turn
unfoldable pub root_task : List Row → PrivateTask
root_task rows = parked (record {
  file = start_file rows;
  marks = 0;
  permitted = false;
  large = false;
  frame = zeros frame_length;
  buffer = zeros buffer_length;
  handling = false;
  place = 0;
  back = 0;
})

-- The child of a fork, before its first turn: its parent's registers but TILEDATA, which is initial, and its parent's
-- permission (Linux 6.6, arch/x86/kernel/fpu/core.c, fpu_clone and fpu_inherit_perms; arch/x86/kernel/process.c,
-- copy_thread). It has no room for TILEDATA, and memories of its own.
unfoldable pub child_of : PrivateTask → PrivateTask
child_of task = parked (record {
  file = with_part task.file tiledata_number (initial_part tiledata_number);
  marks = 0;
  permitted = task.permitted;
  large = false;
  frame = zeros frame_length;
  buffer = zeros buffer_length;
  handling = false;
  place = 0;
  back = 0;
})

-- A file that a task of the machine with these rows may have: of bytes, and without bits 16 to 31 of MXCSR, which are
-- reserved (SDM volume 1, 10.2.3).
pub record IsFileOf (rows : List Row) (file : File) : Type 0 where
  pub is_file : IsFile file
  pub rows_are : file.rows ≡ rows
  pub bytes : (c k : ℕ) → slice_index (part file c) k < 256
  pub control : file.mxcsr < 2 ^ 16

-- A valid private task: its file is one of the machine, and without room for TILEDATA that is initial; both memories have
-- their lengths and are of bytes.
pub record IsPrivateTask (rows : List Row) (task : PrivateTask) : Type 0 where
  pub file : IsFileOf rows task.file
  pub tiles_are : task.large ≡ false → part task.file tiledata_number ≡ initial_part tiledata_number
  pub frame_size : length task.frame ≡ frame_length
  pub frame_bytes : (k : ℕ) → slice_index task.frame k < 256
  pub buffer_size : length task.buffer ≡ buffer_length
  pub buffer_bytes : (k : ℕ) → slice_index task.buffer k < 256
