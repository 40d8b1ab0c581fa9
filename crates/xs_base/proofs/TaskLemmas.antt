-- An initial file is one that a task may have, and a task that no fork has made is a valid private task.
use Rattle.std.proofs.Common.{ℕ, zero, suc, ◌<◌, ◌≡◌, List, [], length, get_or, refl, ◌∙◌, inl, inr, arith, lit<}
use Rattle.std.proofs.lemmas.Bool.{cases_lt, cases_eq}
use Rattle.std.proofs.lemmas.List.{get_or_past}
use Rattle.std.proofs.lemmas.List.FromFn.{length-map-range_with_len}
use Rattle.std.specs.Int.{to_le_bytes, w32}
use Rattle.xs_base.specs.declared.component.Row.{Row}
use Rattle.xs_base.specs.Bytes.{zeros}
use Rattle.xs_base.specs.Component.{component_count, component_size, initial_part}
use Rattle.xs_base.specs.Layout.{IsLayout}
use Rattle.xs_base.specs.File.{File, part, with_part, initial_file, pkru_bytes}
use Rattle.xs_base.specs.Task.{IsFileOf, IsPrivateTask, root_task, start_file, start_pkru, frame_length, buffer_length}
use Rattle.xs_base.proofs.ByteRangeLemmas.{AreBytes, zeros_are, word_are, append_are}
use Rattle.xs_base.proofs.ComponentLemmas.{length_zeros, initial_x87, initial_other}
use Rattle.xs_base.proofs.FileLemmas.{initial_at, initial_is_file, part_here, part_other, pkru_is_file}

-- initial components are of bytes
pub initial_bytes : (c k : ℕ) → get_or (initial_part c) k 0 < 256
initial_bytes zero zero = rw initial_x87 (lit< tt)
initial_bytes zero (suc zero) = rw initial_x87 (lit< tt)
initial_bytes zero (suc (suc k)) = rw initial_x87 (zeros_are 158 k)
initial_bytes (suc c) k = rw (initial_other (suc c) (λ e. omega arith)) (zeros_are (component_size (suc c)) k)

-- so are the parts of an initial file
pub file_bytes : (rows : List Row) (c k : ℕ) → get_or (part (initial_file rows) c) k 0 < 256
file_bytes rows c k = elim (cases_lt c component_count) [
  | inl lt ↦ rw (initial_at rows c lt) (initial_bytes c k)
  | inr past ↦ rw (get_or_past (initial_file rows).parts c [] (omega (arith, length-map-range_with_len initial_part 0 component_count))) (lit< tt)
]

pub initial_is_valid : (rows : List Row) → IsLayout rows → IsFileOf rows (initial_file rows)
initial_is_valid rows table = record {
  is_file = initial_is_file rows table;
  rows_are = refl;
  bytes = file_bytes rows;
  control = lit< tt;
}

-- PKRU is of bytes
pub pkru_are : (value : ℕ) → AreBytes (pkru_bytes value)
pkru_are value = append_are (to_le_bytes w32 value) (zeros 4) (word_are value) (zeros_are 4)

-- so is a file with another part
pub with_part_bytes : (file : File) (c : ℕ) (bytes : List ℕ) → c < length file.parts → AreBytes bytes → ((d k : ℕ) → get_or (part file d) k 0 < 256) → (d k : ℕ) → get_or (part (with_part file c bytes) d) k 0 < 256
with_part_bytes file c bytes lt new old d k = elim (cases_eq d c) [
  | inl same ↦ rw (same, part_here file c bytes lt) (new k)
  | inr apart ↦ rw (part_other file c d bytes apart) (old d k)
]

pub start_is_valid : (rows : List Row) → IsLayout rows → IsFileOf rows (start_file rows)
start_is_valid rows table = record {
  is_file = pkru_is_file (initial_file rows) start_pkru (initial_is_file rows table);
  rows_are = refl;
  bytes = with_part_bytes (initial_file rows) 9 (pkru_bytes start_pkru) (omega (arith, length-map-range_with_len initial_part 0 component_count)) (pkru_are start_pkru) (file_bytes rows);
  control = lit< tt;
}

-- its TILEDATA is initial
pub start_tiles : (rows : List Row) → part (start_file rows) 18 ≡ initial_part 18
start_tiles rows = part_other (initial_file rows) 9 18 (pkru_bytes start_pkru) (λ e. absurd (cc e)) ∙ initial_at rows 18 (lit< tt)

pub root_is_private : (rows : List Row) → IsLayout rows → IsPrivateTask rows (root_task rows)
unfolding root_task
root_is_private rows table = record {
  file = start_is_valid rows table;
  tiles_are = λ small. start_tiles rows;
  frame_size = length_zeros frame_length;
  frame_bytes = zeros_are frame_length;
  buffer_size = length_zeros buffer_length;
  buffer_bytes = zeros_are buffer_length;
}
