-- Saves: XSAVE and XSAVEOPT into the standard format, XSAVES into the compacted one (SDM volume 1, 13.7, 13.9 and 13.11).
-- Which components a save with an optimisation leaves out is its own choice, within what is said here.
use Rattle.std.specs.Prelude.{◌≡◌, ℕ, ◌<◌, ◌^◌, ◌-◌, Bool, true, false, ◌&&◌, List, length, slice_index, slice_get, Some, if◌then◌else◌}
use Rattle.xs_base.specs.declared.class.Class.{Class}
use Rattle.xs_base.specs.declared.component.Row.{Row}
use Rattle.xs_base.specs.Bytes.{is_within}
use Rattle.xs_base.specs.Sets.{has}
use Rattle.xs_base.specs.Component.{initial_part, sse_number, pkru_number}
use Rattle.xs_base.specs.Compact.{place, has_place, compacted}
use Rattle.xs_base.specs.File.{File, part, in_use, is_saved}
use Rattle.xs_base.specs.Standard.{saved_byte, component_byte, control_bytes, has_control}
use Rattle.xs_base.specs.Header.{xstate_bv, xcomp_bv}
use Rattle.xs_base.specs.Area.{StandsAt, control_in}
use Rattle.xs_base.specs.HeaderCheck.{has_reserved}
use Rattle.xs_base.specs.KernelArea.{class_features}

-- Every byte of the area but those of XSTATE_BV and XCOMP_BV: the components that were written stand at their places by
-- this XCOMP_BV, MXCSR and its mask where they were written, and every other byte is as before.
pub record IsWrittenArea (file : File) (names : ℕ) (control : Bool) (written : ℕ) (before after : List ℕ) : Type 0 where
  pub len : length after ≡ length before
  pub each : (i : ℕ) → is_within 512 16 i ≡ false → slice_index after i ≡
      (if is_within 24 8 i && control then slice_index (control_bytes file.mxcsr) (i - 24)
      else component_byte (saved_byte file) (place file.rows names) written i file.rows (slice_index before i))

-- XSTATE_BV after XSAVE and XSAVEOPT: the components of the mask by whether they are in use, the others as before.
abbrev pub has_standard_bit : File → ℕ → List ℕ → ℕ → Bool
has_standard_bit file mask before c = if has mask c then in_use file c else has (xstate_bv before) c

-- XSAVE, or XSAVEOPT where these components were written.
pub record IsStandardSave (file : File) (mask written : ℕ) (before after : List ℕ) : Type 0 where
  pub bits : (c : ℕ) → has (xstate_bv after) c ≡ has_standard_bit file mask before c
  pub names : xcomp_bv after ≡ xcomp_bv before
  pub bytes : IsWrittenArea file 0 (has_control mask) written before after

-- XSAVES, where these components were written: MXCSR goes with SSE.
pub record IsCompactedSave (file : File) (mask written : ℕ) (before after : List ℕ) : Type 0 where
  pub bits : (c : ℕ) → has (xstate_bv after) c ≡ (has mask c && is_saved file c)
  pub names : xcomp_bv after ≡ compacted mask
  pub bytes : IsWrittenArea file (compacted mask) (has written sse_number) written before after

-- ---- what a save leaves

-- The area stands for the file's components of the mask: one whose bit in XSTATE_BV is 1 has a place and stands there, and
-- any other is initial.
pub record StandsWithin (mask : ℕ) (area : List ℕ) (file : File) : Type 0 where
  pub placed : (c : ℕ) → has mask c ≡ true → has (xstate_bv area) c ≡ true → has_place file.rows (xcomp_bv area) c ≡ true
  pub present : (i : ℕ) (r : Row) → slice_get file.rows i ≡ Some r → has mask r.comp.0 ≡ true → has (xstate_bv area) r.comp.0 ≡ true → StandsAt area (place file.rows (xcomp_bv area) r) file r.comp.0
  pub absent : (i : ℕ) (r : Row) → slice_get file.rows i ≡ Some r → has mask r.comp.0 ≡ true → has (xstate_bv area) r.comp.0 ≡ false → part file r.comp.0 ≡ initial_part r.comp.0
  pub control : has mask sse_number ≡ true → file.mxcsr ≡ control_in area

-- The file is initial outside the mask, PKRU aside.
abbrev pub IsInitialOutside : ℕ → File → Type 0
IsInitialOutside mask file = (i : ℕ) (r : Row) → slice_get file.rows i ≡ Some r → (r.comp.0 ≡ pkru_number → ⊥) → has mask r.comp.0 ≡ false → part file r.comp.0 ≡ initial_part r.comp.0

-- A save of a mask into an area of a class that can be loaded after it: the mask has the components of the class, outside it the
-- file is initial, its MXCSR has no bit above 15, and the area's reserved bytes are zero and its number is one that a pool gives.
pub record IsLoadableSave (file : File) (mask : ℕ) (class : Class) (id : ℕ) (before : List ℕ) : Type 0 where
  pub features : mask ≡ class_features file.rows class
  pub outside : IsInitialOutside mask file
  pub control : file.mxcsr < 2 ^ 16
  pub reserved : has_reserved before ≡ false
  pub numbered : id ≡ 0 → ⊥
