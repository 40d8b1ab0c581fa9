-- What a save area stands for, in either format (SDM volume 1, 13.4, 13.8 and 13.12). An area says nothing of PKRU: the
-- kernel keeps it beside (Linux 6.6, arch/x86/include/asm/processor.h, struct thread_struct, and
-- arch/x86/kernel/process_64.c, x86_pkru_load). What a copy leaves out, and when it names a component, is this project's
-- own.
use Rattle.std.specs.Prelude.{◌≡◌, ℕ, ◌+◌, ◌<◌, ◌≤◌, Bool, true, false, not, ◌&&◌, ◌||◌, ◌==◌, nat_le, List, length, slice_index, slice_get, slice_range, Option, Some, None, if◌then◌else◌}
use Rattle.xs_base.specs.declared.component.Row.{Row}
use Rattle.xs_base.specs.declared.header.Parts.{Parts}
use Rattle.xs_base.specs.Sets.{has}
use Rattle.xs_base.specs.Component.{pkru_number, sse_number, component_size, initial_part, initial_mxcsr}
use Rattle.xs_base.specs.Layout.{has_row, row_of}
use Rattle.xs_base.specs.Compact.{is_compacted, place, has_place}
use Rattle.xs_base.specs.File.{File, part, with_pkru, is_own}
use Rattle.xs_base.specs.Header.{xstate_bv, xcomp_bv, mxcsr}

-- The bytes from place `at` on are those of the file's component c, but for what belongs to no register.
abbrev pub StandsAt : List ℕ → ℕ → File → ℕ → Type 0
StandsAt bytes at file c = (k : ℕ) → k < component_size c → is_own c k ≡ true → slice_index bytes (at + k) ≡ slice_index (part file c) k

-- The area's MXCSR: in the compacted format it belongs to SSE, and is initial with it.
abbrev pub control_in : List ℕ → ℕ
control_in area = if is_compacted (xcomp_bv area) && not (has (xstate_bv area) sse_number) then initial_mxcsr else mxcsr area

-- The area stands for the file: a component whose bit in XSTATE_BV is 1 has a place and stands there, and any other
-- is initial.
pub record StandsFor (rows : List Row) (area : List ℕ) (file : File) : Type 0 where
  pub rows_are : file.rows ≡ rows
  pub placed : (c : ℕ) → has (xstate_bv area) c ≡ true → has_place rows (xcomp_bv area) c ≡ true
  pub present : (i : ℕ) (r : Row) → slice_get rows i ≡ Some r → (r.comp.0 ≡ pkru_number → ⊥) → has (xstate_bv area) r.comp.0 ≡ true → StandsAt area (place rows (xcomp_bv area) r) file r.comp.0
  pub absent : (i : ℕ) (r : Row) → slice_get rows i ≡ Some r → (r.comp.0 ≡ pkru_number → ⊥) → has (xstate_bv area) r.comp.0 ≡ false → part file r.comp.0 ≡ initial_part r.comp.0
  pub control : file.mxcsr ≡ control_in area

-- The area has the bytes of the place of each component in a set, by its XCOMP_BV.
abbrev pub HasPlaces : List Row → List ℕ → ℕ → Type 0
HasPlaces rows area set = (i : ℕ) (r : Row) → slice_get rows i ≡ Some r → has set r.comp.0 ≡ true → place rows (xcomp_bv area) r + r.size ≤ length area

-- ---- the file of an image in the standard format

-- The file that the parts of an image are over a base file: the components in its bits come from their standard places
-- in the bytes, and every other one from the base. MXCSR and PKRU are those of the parts.
pub record IsOfParts (rows : List Row) (bytes : List ℕ) (parts : Parts) (base file : File) : Type 0 where
  pub rows_are : file.rows ≡ rows
  pub present : (i : ℕ) (r : Row) → slice_get rows i ≡ Some r → (r.comp.0 ≡ pkru_number → ⊥) → has parts.bits.0 r.comp.0 ≡ true → StandsAt bytes r.offset file r.comp.0
  pub absent : (i : ℕ) (r : Row) → slice_get rows i ≡ Some r → (r.comp.0 ≡ pkru_number → ⊥) → has parts.bits.0 r.comp.0 ≡ false → part file r.comp.0 ≡ part base r.comp.0
  pub control : file.mxcsr ≡ parts.mxcsr
  pub pkru : with_pkru file parts.pkru ≡ file

-- ---- a file's way into an area

-- the area has the bytes of the row's place
abbrev pub ends_inside : List Row → List ℕ → Option Row → Bool
ends_inside rows area None = false
ends_inside rows area (Some r) = nat_le (place rows (xcomp_bv area) r + r.size) (length area)

-- The area has room for component c: the component has a place by XCOMP_BV, and the area has its bytes.
abbrev pub has_room : List Row → List ℕ → ℕ → Bool
has_room rows area c = has_place rows (xcomp_bv area) c && ends_inside rows area (row_of rows c)

-- MXCSR goes into the area: always in the standard format, and with SSE in the compacted format.
abbrev pub has_control_room : List Row → List ℕ → Bool
has_control_room rows area = not (is_compacted (xcomp_bv area)) || has_room rows area sse_number

-- What of the file the area can stand for, PKRU aside: what it has no room for is initial.
pub record IsCut (rows : List Row) (area : List ℕ) (file cut : File) : Type 0 where
  pub rows_are : cut.rows ≡ file.rows
  pub kept : (c : ℕ) → (c ≡ pkru_number → ⊥) → has_room rows area c ≡ true → part cut c ≡ part file c
  pub left_out : (c : ℕ) → (c ≡ pkru_number → ⊥) → has_row rows c ≡ true → has_room rows area c ≡ false → part cut c ≡ initial_part c
  pub control : cut.mxcsr ≡ (if has_control_room rows area then file.mxcsr else initial_mxcsr)

-- Component c is named in XSTATE_BV by a kernel's copy of components `bits` and this MXCSR: PKRU never is, and SSE also
-- where MXCSR isn't initial and goes with it.
abbrev pub is_named : List Row → List ℕ → ℕ → ℕ → ℕ → Bool
is_named rows area bits control c =
    (has bits c && not (c == pkru_number) && has_room rows area c)
    || ((c == sse_number) && is_compacted (xcomp_bv area) && has_room rows area sse_number && not (control == initial_mxcsr))

-- What a copy leaves of the area that it writes: the length, XCOMP_BV and the reserved bytes of the header.
pub record KeepsForm (old new : List ℕ) : Type 0 where
  pub len : length new ≡ length old
  pub names : xcomp_bv new ≡ xcomp_bv old
  pub reserved : slice_range new 528 576 ≡ slice_range old 528 576
