-- Each change of a valid private task leaves a valid one.
use Rattle.std.proofs.Common.{◌≡◌, ℕ, ◌+◌, ◌-◌, ◌<◌, ◌≤◌, ◌^◌, ◌==◌, Bool, true, false, not, ◌&&◌, List, [], ◌∷◌, length, get_or, if◌then◌else◌, refl, ap, ◌∙◌, inl, inr, arith, lit<}
use Rattle.std.proofs.lemmas.Bool.{cases_lt, true≢false}
use Rattle.std.proofs.lemmas.List.{get_or_past}
use Rattle.std.proofs.lemmas.List.FromFn.{length-map-range_with_len}
use Rattle.std.specs.Int.{to_le_bytes, w32}
use Rattle.xs_base.specs.declared.component.Row.{Row}
use Rattle.xs_base.specs.declared.header.Parts.{Parts}
use Rattle.xs_base.specs.Bytes.{zeros, splice}
use Rattle.xs_base.specs.Component.{component_count, component_size, initial_part}
use Rattle.xs_base.specs.File.{File, part, with_part, initial_file, pkru_bytes, is_own}
use Rattle.xs_base.specs.Frame.{frame_bytes, frame_bits, with_words, word, long, magic1, magic2, delivered}
use Rattle.xs_base.specs.Image.{taken_part, offset_of, image_part, image_file}
use Rattle.xs_base.specs.Layout.{IsLayout, has_row, row_of, full_size, default_size}
use Rattle.xs_base.specs.Sets.{has}
use Rattle.xs_base.specs.Standard.{component_byte, saved_byte, control_bytes, standard_byte, standard_bytes}
use Rattle.xs_base.specs.Task.{PrivateTask, IsFileOf, IsPrivateTask, child_of, parked, user_features, user_size, frame_length, buffer_length}
use Rattle.xs_base.specs.Tile.{grown, permitted_task, released_file}
use Rattle.xs_base.proofs.ByteLemmas.{length_splice}
use Rattle.xs_base.proofs.ByteRangeLemmas.{AreBytes, zeros_are, word_are, long_are, append_are, splice_are, map_are, either_is}
use Rattle.xs_base.proofs.ComponentLemmas.{length_zeros, length_initial}
use Rattle.xs_base.proofs.FileLemmas.{initial_at, initial_clean, initial_is_file, other_is_file, part_here}
use Rattle.xs_base.proofs.FrameLemmas.{standard_length, words_length}
use Rattle.xs_base.proofs.ImageLemmas.{image_at, image_base, image_is_file}
use Rattle.xs_base.proofs.SizeLemmas.{end_low, end_most}
use Rattle.xs_base.proofs.TaskLemmas.{initial_bytes, file_bytes, pkru_are, with_part_bytes, start_is_valid, start_tiles}

-- ---- marks, permission and room

pub parked_is_private : (rows : List Row) (task : PrivateTask) → IsPrivateTask rows task → IsPrivateTask rows (parked task)
parked_is_private rows task h = record { file = h.file; tiles_are = h.tiles_are; frame_size = h.frame_size; frame_bytes = h.frame_bytes; buffer_size = h.buffer_size; buffer_bytes = h.buffer_bytes }

pub permitted_is_private : (rows : List Row) (task : PrivateTask) → IsPrivateTask rows task → IsPrivateTask rows (permitted_task task)
permitted_is_private rows task h = record { file = h.file; tiles_are = h.tiles_are; frame_size = h.frame_size; frame_bytes = h.frame_bytes; buffer_size = h.buffer_size; buffer_bytes = h.buffer_bytes }

pub grown_is_private : (rows : List Row) (task : PrivateTask) → IsPrivateTask rows task → IsPrivateTask rows (grown task)
grown_is_private rows task h = record { file = h.file; tiles_are = λ small. absurd (true≢false small); frame_size = h.frame_size; frame_bytes = h.frame_bytes; buffer_size = h.buffer_size; buffer_bytes = h.buffer_bytes }

-- ---- an initial component

-- A file with an initial component is one that a task may have.
initial_part_valid : (rows : List Row) (file : File) (c : ℕ) → c < component_count → IsFileOf rows file → IsFileOf rows (with_part file c (initial_part c))
initial_part_valid rows file c lt h = record {
  is_file = other_is_file file c (initial_part c) lt (length_initial c) (initial_clean c) (λ lacks other. refl) h.is_file;
  rows_are = h.rows_are;
  bytes = with_part_bytes file c (initial_part c) (omega (arith, h.is_file.count)) (initial_bytes c) h.bytes;
  control = h.control;
}

pub released_is_private : (rows : List Row) (task : PrivateTask) → IsPrivateTask rows task → IsPrivateTask rows (record task { file = released_file task.file })
released_is_private rows task h =
    let first = with_part task.file 17 (initial_part 17) in
    let one : IsFileOf rows first = initial_part_valid rows task.file 17 (lit< tt) h.file in
    record {
      file = initial_part_valid rows first 18 (lit< tt) one;
      tiles_are = λ small. part_here first 18 (initial_part 18) (omega (arith, one.is_file.count));
      frame_size = h.frame_size;
      frame_bytes = h.frame_bytes;
      buffer_size = h.buffer_size;
      buffer_bytes = h.buffer_bytes;
    }

-- ---- a fork

pub child_is_private : (rows : List Row) (task : PrivateTask) → IsPrivateTask rows task → IsPrivateTask rows (child_of task)
unfolding child_of
child_is_private rows task h = record {
  file = initial_part_valid rows task.file 18 (lit< tt) h.file;
  tiles_are = λ small. part_here task.file 18 (initial_part 18) (omega (arith, h.file.is_file.count));
  frame_size = length_zeros frame_length;
  frame_bytes = zeros_are frame_length;
  buffer_size = length_zeros buffer_length;
  buffer_bytes = zeros_are buffer_length;
}

-- ---- memories

-- bytes written over a part of the frame's memory
pub frame_poked_is_private : (rows : List Row) (task : PrivateTask) (at : ℕ) (bytes : List ℕ) → at + length bytes ≤ frame_length → AreBytes bytes → IsPrivateTask rows task → IsPrivateTask rows (record task { frame = splice at bytes task.frame })
frame_poked_is_private rows task at bytes fits small h = record {
  file = h.file;
  tiles_are = h.tiles_are;
  frame_size = length_splice at bytes task.frame (omega (arith, h.frame_size)) ∙ h.frame_size;
  frame_bytes = splice_are at bytes task.frame small h.frame_bytes;
  buffer_size = h.buffer_size;
  buffer_bytes = h.buffer_bytes;
}

-- and of the buffer
pub buffer_poked_is_private : (rows : List Row) (task : PrivateTask) (at : ℕ) (bytes : List ℕ) → at + length bytes ≤ buffer_length → AreBytes bytes → IsPrivateTask rows task → IsPrivateTask rows (record task { buffer = splice at bytes task.buffer })
buffer_poked_is_private rows task at bytes fits small h = record {
  file = h.file;
  tiles_are = h.tiles_are;
  frame_size = h.frame_size;
  frame_bytes = h.frame_bytes;
  buffer_size = length_splice at bytes task.buffer (omega (arith, h.buffer_size)) ∙ h.buffer_size;
  buffer_bytes = splice_are at bytes task.buffer small h.buffer_bytes;
}

-- ---- bytes in the standard format

component_is : (byte : ℕ → ℕ → ℕ) (place : Row → ℕ) (mask i : ℕ) (rows : List Row) (d : ℕ) → ((c k : ℕ) → byte c k < 256) → d < 256 → component_byte byte place mask i rows d < 256
unfolding component_byte
component_is byte place mask i [] d each hd = hd
component_is byte place mask i (r ∷ rows) d each hd = component_is byte place mask i rows _ each (either_is _ (byte r.comp.0 (i - place r)) d (each r.comp.0 (i - place r)) hd)

control_are : (value : ℕ) → AreBytes (control_bytes value)
unfolding control_bytes
control_are value = append_are (to_le_bytes w32 value) (to_le_bytes w32 0xFFFF) (word_are value) (word_are 0xFFFF)

-- a standard byte of a file of bytes, over bytes
pub standard_byte_is : (file : File) (mask : ℕ) (base : List ℕ) (i : ℕ) → ((c k : ℕ) → get_or (part file c) k 0 < 256) → AreBytes base → standard_byte file mask base i < 256
standard_byte_is file mask base i bytes old =
    either_is _ (get_or (control_bytes file.mxcsr) (i - 24) 0) _ (control_are file.mxcsr (i - 24))
    (component_is (saved_byte file) (λ r. r.offset) mask i file.rows (get_or base i 0) (λ c k. either_is (is_own c k) (get_or (part file c) k 0) 0 (bytes c k) (lit< tt)) (old i))

pub standard_are : (file : File) (mask : ℕ) (base : List ℕ) → ((c k : ℕ) → get_or (part file c) k 0 < 256) → AreBytes base → AreBytes (standard_bytes file mask base)
unfolding standard_bytes
standard_are file mask base bytes old = map_are (standard_byte file mask base) (length base) (λ i. standard_byte_is file mask base i bytes old)

-- ---- a delivery

words_are : (user size bits : ℕ) (bytes : List ℕ) → AreBytes bytes → AreBytes (with_words user size bits bytes)
unfolding with_words word long
words_are user size bits bytes h =
    splice_are size _ _ (word_are magic2)
    (splice_are 512 _ _ (long_are bits)
    (splice_are 480 _ _ (word_are size)
    (splice_are 472 _ _ (long_are user)
    (splice_are 468 _ _ (word_are (size + 4))
    (splice_are 464 _ bytes (word_are magic1) h)))))

-- a frame has its bounds
size_low : (rows : List Row) (large : Bool) → 576 ≤ (if large then full_size rows else default_size rows)
size_low rows true = end_low (λ c. true) rows
size_low rows false = end_low (λ c. not (c == 18)) rows

size_most : (rows : List Row) (large : Bool) → IsLayout rows → (if large then full_size rows else default_size rows) ≤ 16384
size_most rows true table = end_most (λ c. true) rows table
size_most rows false table = end_most (λ c. not (c == 18)) rows table

frame_long : (file : File) (user size : ℕ) → 576 ≤ size → size ≤ 16384 → length (frame_bytes file user size) ≡ frame_length
unfolding frame_bytes
frame_long file user size low most =
    let len : length (standard_bytes file user (zeros frame_length)) ≡ frame_length = standard_length file user (zeros frame_length) ∙ length_zeros frame_length in
    words_length user size (frame_bits file user) (standard_bytes file user (zeros frame_length)) low (omega (arith, len)) ∙ len

frame_are : (file : File) (user size : ℕ) → ((c k : ℕ) → get_or (part file c) k 0 < 256) → AreBytes (frame_bytes file user size)
unfolding frame_bytes
frame_are file user size bytes = words_are user size (frame_bits file user) (standard_bytes file user (zeros frame_length)) (standard_are file user (zeros frame_length) bytes (zeros_are frame_length))

pub delivered_is_private : (rows : List Row) (task : PrivateTask) → IsLayout rows → IsPrivateTask rows task → IsPrivateTask rows (delivered task)
delivered_is_private rows task table h = record {
  file = rw h.file.rows_are (start_is_valid rows table);
  tiles_are = λ small. start_tiles task.file.rows;
  frame_size = frame_long task.file (user_features task) (user_size task) (size_low task.file.rows task.large) (size_most task.file.rows task.large h.file.is_file.layout);
  frame_bytes = frame_are task.file (user_features task) (user_size task) h.file.bytes;
  buffer_size = h.buffer_size;
  buffer_bytes = h.buffer_bytes;
}

-- ---- the file of an image

module _ (bytes : List ℕ) (h : AreBytes bytes) where
  pub taken_are : (at c : ℕ) → AreBytes (taken_part bytes at c)
  taken_are at c = map_are _ (component_size c) (λ k. either_is (is_own c k) (get_or bytes (at + k) 0) 0 (h (at + k)) (lit< tt))

  part_are : (base : File) (parts : Parts) (c : ℕ) → AreBytes (part base c) → AreBytes (image_part base bytes parts c)
  unfolding image_part
  part_are base parts c old = choose (c == 9) (has_row base.rows c && has parts.bits.0 c)
    where
      choose : (a b : Bool) → AreBytes (if a then pkru_bytes parts.pkru else if b then taken_part bytes (offset_of (row_of base.rows c)) c else part base c)
      choose true b = pkru_are parts.pkru
      choose false true = taken_are (offset_of (row_of base.rows c)) c
      choose false false = old

  pub image_is_valid : (rows : List Row) (parts : Parts) → IsLayout rows → parts.mxcsr < 2 ^ 16 → IsFileOf rows (image_file (initial_file rows) bytes parts)
  image_is_valid rows parts table small = record {
    is_file = image_is_file (initial_file rows) bytes parts (initial_is_file rows table) (omega arith);
    rows_are = refl;
    bytes = λ c. elim (cases_lt c component_count) [
      | inl lt ↦ rw (image_at (initial_file rows) bytes parts c lt) (part_are (initial_file rows) parts c (file_bytes rows c))
      | inr past ↦ rw (get_or_past (image_file (initial_file rows) bytes parts).parts c [] (omega (arith, length-map-range_with_len (image_part (initial_file rows) bytes parts) 0 component_count))) (λ k. lit< tt)
    ];
    control = small;
  }

-- TILEDATA is initial where the bits don't name it
pub image_tiles : (rows : List Row) (bytes : List ℕ) (parts : Parts) → has parts.bits.0 18 ≡ false → part (image_file (initial_file rows) bytes parts) 18 ≡ initial_part 18
image_tiles rows bytes parts off =
    image_at (initial_file rows) bytes parts 18 (lit< tt)
    ∙ image_base (initial_file rows) bytes parts 18 (λ e. absurd (cc e)) (ap (λ b. has_row rows 18 && b) off ∙ none (has_row rows 18))
    ∙ initial_at rows 18 (lit< tt)
  where
    none : (b : Bool) → (b && false) ≡ false
    none true = refl
    none false = refl
