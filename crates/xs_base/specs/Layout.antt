-- A machine's table of components: a row each, as CPUID leaf 0DH gives them (SDM volume 1, 13.2). That rows 0 and 1
-- stand in the table too, that rows rise in number and in place, and every test of a table is this project's own.
use Rattle.std.specs.Prelude.{◌≡◌, ℕ, ◌+◌, ◌^◌, ◌<◌, ◌≤◌, Bool, true, not, ◌&&◌, ◌||◌, ◌==◌, nat_le, nat_lt, List, [], ◌∷◌, ◌++◌, length, max, slice_index_or, Option, Some, None, if◌then◌else◌}
use Rattle.std.specs.List.{list_any}
use Rattle.xs_base.specs.declared.component.Row.{Row}
use Rattle.xs_base.specs.declared.layout_error.LayoutError.{LayoutError}
use Rattle.xs_base.specs.declared.layout_error.LayoutError.TheVariants as errors
use Rattle.xs_base.specs.declared.layout_error.LayoutFault.{LayoutFault}
use Rattle.xs_base.specs.First.{first_of}
use Rattle.xs_base.specs.Sets.{has}
use Rattle.xs_base.specs.Component.{component_numbers, component_count, component_size, x87_number, sse_number, tilecfg_number, tiledata_number}

abbrev pub row : ℕ → ℕ → ℕ → ℕ → Row
row number size offset flags = record { comp = record { 0 = number }; size = size; offset = offset; flags = flags }

-- The machine `amx`: the components of a processor with AVX-512, protection keys and AMX, in Intel's places.
unfoldable pub amx_rows : List Row
amx_rows =
    row 0 160 0 0 ∷ row 1 256 160 0 ∷ row 2 256 576 0 ∷ row 5 64 1088 0 ∷ row 6 512 1152 0 ∷ row 7 1024 1664 0
    ∷ row 9 8 2688 0 ∷ row 17 64 2752 2 ∷ row 18 8192 2816 6 ∷ []

-- The machine `avx`: x87, SSE and AVX alone.
unfoldable pub avx_rows : List Row
avx_rows = row 0 160 0 0 ∷ row 1 256 160 0 ∷ row 2 256 576 0 ∷ []

-- The flags of a row, the bits of ECX: the component is a supervisor's, it begins at a multiple of 64 in the compacted
-- format, and XFD supports it (SDM volume 1, 13.2 and 13.14).
abbrev pub is_supervisor : Row → Bool
is_supervisor r = has r.flags 0

abbrev pub is_aligned : Row → Bool
is_aligned r = has r.flags 1

abbrev pub has_xfd : Row → Bool
has_xfd r = has r.flags 2

-- the machine has component c
unfoldable pub has_row : List Row → ℕ → Bool
has_row rows c = list_any (λ r. r.comp.0 == c) rows

-- the row of component c, where there is one
unfoldable pub row_of : List Row → ℕ → Option Row
row_of [] c = None
row_of (r ∷ rows) c = if r.comp.0 == c then Some r else row_of rows c

-- where a row ends in the standard format
abbrev pub row_end : Row → ℕ
row_end r = r.offset + r.size

-- ---- the tests of one row, where `before` are the rows before it

-- the number is that of a component
abbrev pub is_known : ℕ → Bool
is_known number = list_any (λ c. c == number) component_numbers

abbrev pub is_unknown : Row → Bool
is_unknown r = not (is_known r.comp.0)

-- Its number isn't above that of a row before it.
abbrev pub is_repeated : List Row → Row → Bool
is_repeated before r = list_any (λ b. nat_le r.comp.0 b.comp.0) before

-- Rows 0 and 1 stand in the legacy region, at 0 and at 160 (SDM volume 1, 13.4.1).
abbrev pub has_wrong_size : Row → Bool
has_wrong_size r =
    not (r.size == component_size r.comp.0) || ((r.comp.0 == x87_number) && not (r.offset == 0)) || ((r.comp.0 == sse_number) && not (r.offset == 160))

-- A flag above bit 2, a supervisor component, XFD of another component than TILEDATA, TILEDATA without XFD, or a flag of
-- a legacy component.
abbrev pub has_wrong_flags : Row → Bool
has_wrong_flags r =
    nat_lt 7 r.flags || is_supervisor r || (has_xfd r && not (r.comp.0 == tiledata_number)) || (not (has_xfd r) && (r.comp.0 == tiledata_number))
    || (nat_le r.comp.0 1 && not (r.flags == 0))

-- the greatest end of a component
abbrev pub most_bytes : ℕ
most_bytes = 16384

abbrev pub is_too_large : Row → Bool
is_too_large r = nat_lt most_bytes (row_end r)

-- It begins in the legacy region or the header, or before the end of a row before it.
abbrev pub begins_before : List Row → Row → Bool
begins_before before r = nat_lt r.offset 576 || list_any (λ b. nat_lt r.offset (row_end b)) before

abbrev pub overlaps : List Row → Row → Bool
overlaps before r = nat_le 2 r.comp.0 && begins_before before r

-- the first test that the row fails
unfoldable pub row_error : List Row → Row → Option LayoutError
row_error before r = first_of (
    (is_unknown r, errors.UnknownComponent)
    ∷ (is_repeated before r, errors.Repeated)
    ∷ (r.size == 0, errors.SizeZero)
    ∷ (has_wrong_size r, errors.SizeWrong)
    ∷ (has_wrong_flags r, errors.FlagsWrong)
    ∷ (is_too_large r, errors.TooLarge)
    ∷ (overlaps before r, errors.Overlap)
    ∷ [])

-- ---- the tests of a table

abbrev pub lacks_legacy : List Row → Bool
lacks_legacy rows = not (has_row rows x87_number && has_row rows sse_number)

-- TILECFG or TILEDATA is there without the other
abbrev pub has_lone_tile : List Row → Bool
has_lone_tile rows =
    (has_row rows tilecfg_number && not (has_row rows tiledata_number)) || (not (has_row rows tilecfg_number) && has_row rows tiledata_number)

-- the first test of the whole table that it fails
unfoldable pub table_error : List Row → Option LayoutError
table_error rows = first_of ((lacks_legacy rows, errors.LegacyMissing) ∷ (has_lone_tile rows, errors.TileAlone) ∷ [])

-- an error of this row, or else what comes after
abbrev pub fault_or : Option ℕ → Option LayoutError → Option LayoutFault → Option LayoutFault
fault_or at (Some error) later = Some (record { row = at; error = error })
fault_or at None later = later

-- The first row that fails, by its place, and its error. `before` are the rows before these.
unfoldable pub first_row_fault : List Row → List Row → Option LayoutFault
first_row_fault before [] = None
first_row_fault before (r ∷ rows) = fault_or (Some (length before)) (row_error before r) (first_row_fault (before ++ r ∷ []) rows)

abbrev pub fault_else : Option LayoutFault → Option LayoutFault → Option LayoutFault
fault_else (Some fault) later = Some fault
fault_else None later = later

-- the first test that a list of rows fails: each row in turn, then the table
unfoldable pub layout_fault : List Row → Option LayoutFault
layout_fault rows = fault_else (first_row_fault [] rows) (fault_or None (table_error rows) None)

-- The rows are a machine's table: they pass every test.
abbrev pub IsLayout : List Row → Type 0
IsLayout rows = layout_fault rows ≡ None

-- What the tests of a row tell of it, whatever stands before it.
pub record IsSound (r : Row) : Type 0 where
  pub known : is_known r.comp.0 ≡ true
  pub number : r.comp.0 < component_count
  pub size : r.size ≡ component_size r.comp.0
  pub some : 0 < r.size
  pub flags : r.flags ≤ 7
  pub ends : r.offset + r.size ≤ most_bytes
  pub x87 : r.comp.0 ≡ x87_number → (r.offset ≡ 0) × (r.size ≡ 160)
  pub sse : r.comp.0 ≡ sse_number → (r.offset ≡ 160) × (r.size ≡ 256)
  pub extended : 2 ≤ r.comp.0 → 576 ≤ r.offset

-- The row is that of component c, at a place of the list.
pub record IsRowOf (rows : List Row) (c : ℕ) (r : Row) : Type 0 where
  pub index : ℕ
  pub within : index < length rows
  pub is : r ≡ slice_index_or rows index r
  pub number : r.comp.0 ≡ c

-- A machine has each component once at most.
abbrev pub most_rows : ℕ
most_rows = length component_numbers

-- ---- sets and sizes

-- the set of the components that a test names
unfoldable pub set_of : (ℕ → Bool) → List ℕ → ℕ
set_of test [] = 0
set_of test (c ∷ cs) = (if test c then 2 ^ c else 0) + set_of test cs

-- XCR0 of the machine (SDM volume 1, 13.3)
abbrev pub features : List Row → ℕ
features rows = set_of (has_row rows) component_numbers

-- The machine's features without TILEDATA, which a task must ask for (Linux 6.6, arch/x86/kernel/fpu/xstate.c,
-- fpu__init_system_xstate: default_features).
abbrev pub default_features : List Row → ℕ
default_features rows = set_of (λ c. has_row rows c && not (c == tiledata_number)) component_numbers

-- The end of the last row that a test names, and at least 576, the end of the header.
unfoldable pub end_of : (ℕ → Bool) → List Row → ℕ
end_of test [] = 576
end_of test (r ∷ rows) = if test r.comp.0 then max (row_end r) (end_of test rows) else end_of test rows

-- the bytes of the standard format with the components of a mask (SDM volume 1, 13.4.3)
abbrev pub standard_size : List Row → ℕ → ℕ
standard_size rows mask = end_of (has mask) rows

-- The bytes of the standard format with every component, and with all but TILEDATA (Linux 6.6,
-- arch/x86/include/asm/fpu/types.h, struct fpu_state_config: max_size, default_size).
abbrev pub full_size : List Row → ℕ
full_size rows = end_of (λ _. true) rows

abbrev pub default_size : List Row → ℕ
default_size rows = end_of (λ c. not (c == tiledata_number)) rows
