-- A register file: the bytes of every component, by its number, and MXCSR beside component 1.
-- A number that the machine doesn't have keeps its initial bytes, but for PKRU, which every task has: this is the project's
-- own.
use Rattle.std.specs.Prelude.{◌≡◌, ℕ, ◌+◌, ◌%◌, ◌^◌, ◌<◌, Bool, true, false, not, ◌&&◌, ◌||◌, ◌==◌, nat_le, nat_lt, List, [], ◌++◌, length, map, take, bytes_eq, slice_index, slice_index_or, slice_range, slice_set, if◌then◌else◌}
use Rattle.std.specs.List.{range_with_len}
use Rattle.std.specs.Int.{from_le_bytes, to_le_bytes, w32}
use Rattle.xs_base.specs.declared.component.Row.{Row}
use Rattle.xs_base.specs.declared.component.Place.{Place}
use Rattle.xs_base.specs.Bytes.{zeros, splice, is_within}
use Rattle.xs_base.specs.Component.{component_count, component_size, initial_part, initial_mxcsr, x87_number, sse_number, pkru_number}
use Rattle.xs_base.specs.Layout.{IsLayout, has_row}

pub record File : Type 0 where
  pub rows : List Row
  pub parts : List (List ℕ)
  pub mxcsr : ℕ

-- the bytes of component c
abbrev pub part : File → ℕ → List ℕ
part file c = slice_index_or file.parts c []

-- the file with these bytes as component c
abbrev pub with_part : File → ℕ → List ℕ → File
with_part file c bytes = record file { parts = slice_set file.parts c bytes }

-- Every component is in its initial configuration (SDM volume 1, 13.6).
abbrev pub initial_file : List Row → File
initial_file rows = record { rows = rows; parts = map initial_part (range_with_len 0 component_count); mxcsr = initial_mxcsr }

-- The bytes of PKRU's component. That the upper four are zero is this project's own.
abbrev pub pkru_bytes : ℕ → List ℕ
pkru_bytes value = to_le_bytes w32 value ++ zeros 4

-- the PKRU of a file
abbrev pub pkru_of : File → ℕ
pkru_of file = from_le_bytes w32 (take 4 (part file pkru_number))

-- The file with this PKRU.
abbrev pub with_pkru : File → ℕ → File
with_pkru file value = with_part file pkru_number (pkru_bytes value)

-- Byte k of component c belongs to a register. Byte 5 of component 0, its bytes 24 to 31 and the upper six bytes of each
-- ST slot, and the upper four bytes of component 9 belong to none. That they are zero in a file is this project's own.
abbrev pub is_own : ℕ → ℕ → Bool
is_own c k =
    if c == x87_number then not (k == 5) && not (is_within 24 8 k) && not (nat_le 32 k && nat_le 10 (k % 16))
    else if c == pkru_number then nat_lt k 4
    else true

-- A file of a machine: each component has its size, what belongs to no register is zero, and what the machine lacks is
-- initial but for PKRU.
pub record IsFile (file : File) : Type 0 where
  pub layout : IsLayout file.rows
  pub count : length file.parts ≡ component_count
  pub sizes : (c : ℕ) → c < component_count → length (part file c) ≡ component_size c
  pub clean : (c k : ℕ) → is_own c k ≡ false → slice_index (part file c) k ≡ 0
  pub absent : (c : ℕ) → c < component_count → has_row file.rows c ≡ false → (c ≡ pkru_number → ⊥) → part file c ≡ initial_part c
  pub control : file.mxcsr < 2 ^ 32

-- MXCSR stands beside the components, in a place of its own name: this is the project's own.
abbrev pub is_mxcsr : Place → Bool
is_mxcsr place = (place.comp.0 == sse_number) && (place.offset == 256)

-- the bytes of a register
abbrev pub read_place : File → Place → List ℕ
read_place file place =
    if is_mxcsr place then to_le_bytes w32 file.mxcsr
    else slice_range (part file place.comp.0) place.offset (place.offset + place.len)

-- the file with these bytes in a register
abbrev pub write_place : File → Place → List ℕ → File
write_place file place bytes =
    if is_mxcsr place then record file { mxcsr = from_le_bytes w32 bytes }
    else with_part file place.comp.0 (splice place.offset bytes (part file place.comp.0))

-- Component c of the machine is in use: it isn't in its initial configuration. MXCSR doesn't count. A processor's
-- XINUSE (SDM volume 1, 13.6) may be 1 for more components than these; that it is just these is this project's own.
abbrev pub in_use : File → ℕ → Bool
in_use file c = has_row file.rows c && not (bytes_eq (part file c) (initial_part c))

-- A save with the init optimisation gives component c the bit 1 in XSTATE_BV: component 1 also where MXCSR isn't
-- in its initial configuration (SDM volume 1, 13.10 and 13.11).
abbrev pub is_saved : File → ℕ → Bool
is_saved file c = in_use file c || (c == sse_number && not (file.mxcsr == initial_mxcsr))

-- The files are the same, PKRU aside.
pub record AreSameButPkru (file other : File) : Type 0 where
  pub rows_are : other.rows ≡ file.rows
  pub parts : (c : ℕ) → (c ≡ pkru_number → ⊥) → part other c ≡ part file c
  pub control : other.mxcsr ≡ file.mxcsr
