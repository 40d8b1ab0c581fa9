-- Loads: XRSTOR from the standard format and XRSTORS from the compacted one (SDM volume 1, 13.8, 13.12 and 13.14). That
-- XRSTOR takes the standard format alone is this project's own.
use Rattle.std.specs.Prelude.{◌≡◌, ℕ, ◌-◌, ◌^◌, Bool, true, false, not, ◌&&◌, ◌||◌, ◌==◌, List, [], ◌∷◌, slice_get, slice_range, Option, Some, if◌then◌else◌, bit_and}
use Rattle.std.specs.List.{list_any}
use Rattle.xs_base.specs.declared.component.Row.{Row}
use Rattle.xs_base.specs.declared.header.HeaderError.TheVariants as errors
use Rattle.xs_bank.specs.declared.instruction.Trap.{Trap}
use Rattle.xs_bank.specs.declared.instruction.Trap.TheVariants.{Gp, Nm}
use Rattle.xs_base.specs.First.{first_of}
use Rattle.xs_base.specs.Sets.{has}
use Rattle.xs_base.specs.Component.{initial_part, initial_mxcsr, sse_number, pkru_number, tiledata_number}
use Rattle.xs_base.specs.Layout.{features, has_row}
use Rattle.xs_base.specs.Compact.{compacted_bit, is_compacted, place}
use Rattle.xs_base.specs.File.{File, IsFile, AreSameButPkru, part}
use Rattle.xs_base.specs.Standard.{has_control}
use Rattle.xs_base.specs.Header.{xstate_bv, xcomp_bv, mxcsr}
use Rattle.xs_base.specs.HeaderCheck.{has_outside, has_reserved, is_wrong_mxcsr}
use Rattle.xs_base.specs.Area.{StandsAt, StandsFor}

-- the set of TILEDATA alone
abbrev pub tiles : ℕ
tiles = 0x40000

-- XFD stops a load of TILEDATA.
abbrev pub stops_tiles : ℕ → ℕ → List ℕ → Bool
stops_tiles armed mask area = has armed tiledata_number && has mask tiledata_number && has (xstate_bv area) tiledata_number

-- The trap is #NM for tiles that the load would give.
abbrev pub IsStopped : ℕ → ℕ → List ℕ → Trap → Type 0
IsStopped armed mask area trap = (stops_tiles armed mask area ≡ true) × (trap ≡ Nm (record { 0 = tiles }))

-- the first reason that XRSTOR of these components is refused for, where these are armed
unfoldable pub standard_trap : List Row → ℕ → ℕ → List ℕ → Option Trap
standard_trap rows armed mask area = first_of (
    (has_outside (xstate_bv area) (features rows), Gp errors.Features)
    ∷ (not (xcomp_bv area == 0), Gp errors.Compacted)
    ∷ (list_any (λ byte. not (byte == 0)) (slice_range area 528 536), Gp errors.Reserved)
    ∷ (has_control mask && is_wrong_mxcsr (mxcsr area), Gp errors.Mxcsr)
    ∷ (stops_tiles armed mask area, Nm (record { 0 = tiles }))
    ∷ [])

-- the components that XCOMP_BV names
abbrev pub named_in : List ℕ → ℕ
named_in area = bit_and (xcomp_bv area) (2 ^ compacted_bit - 1)

-- the same of XRSTORS
unfoldable pub compacted_trap : List Row → ℕ → ℕ → List ℕ → Option Trap
compacted_trap rows armed mask area = first_of (
    (has_outside (xstate_bv area) (features rows) || has_outside (named_in area) (features rows) || has_outside (xstate_bv area) (xcomp_bv area), Gp errors.Features)
    ∷ (not (is_compacted (xcomp_bv area)), Gp errors.Compacted)
    ∷ (has_reserved area, Gp errors.Reserved)
    ∷ (has mask sse_number && has (xstate_bv area) sse_number && is_wrong_mxcsr (mxcsr area), Gp errors.Mxcsr)
    ∷ (stops_tiles armed mask area, Nm (record { 0 = tiles }))
    ∷ [])

-- MXCSR after a load: XRSTOR takes it with SSE or AVX, whatever XSTATE_BV says; XRSTORS takes or initialises it with SSE.
abbrev pub standard_control : ℕ → List ℕ → ℕ → ℕ
standard_control mask area old = if has_control mask then mxcsr area else old

abbrev pub compacted_control : ℕ → List ℕ → ℕ → ℕ
compacted_control mask area old = if has mask sse_number then (if has (xstate_bv area) sse_number then mxcsr area else initial_mxcsr) else old

-- Each component of the mask comes from its place in the area where its bit in XSTATE_BV is 1, and is initial where it
-- is 0; every other component stays. What belongs to no register isn't taken.
pub record IsLoaded (mask : ℕ) (area : List ℕ) (control : ℕ) (before after : File) : Type 0 where
  pub rows_are : after.rows ≡ before.rows
  pub present : (i : ℕ) (r : Row) → slice_get before.rows i ≡ Some r → has mask r.comp.0 ≡ true → has (xstate_bv area) r.comp.0 ≡ true → StandsAt area (place before.rows (xcomp_bv area) r) after r.comp.0
  pub absent : (i : ℕ) (r : Row) → slice_get before.rows i ≡ Some r → has mask r.comp.0 ≡ true → has (xstate_bv area) r.comp.0 ≡ false → part after r.comp.0 ≡ initial_part r.comp.0
  pub others : (c : ℕ) → has mask c ≡ false → part after c ≡ part before c
  pub control_is : after.mxcsr ≡ control

-- What a load takes of a file: each component of the mask but PKRU is that file's, and so is MXCSR where the load takes it.
-- Where the mask leaves out PKRU alone, the whole file is that one, PKRU aside: what the area has no state of is initial.
pub record IsTakenFrom (file : File) (rows : List Row) (mask : ℕ) (takes_control : Bool) (after : File) : Type 0 where
  pub parts : (c : ℕ) → (c ≡ pkru_number → ⊥) → has mask c ≡ true → part after c ≡ part file c
  pub control : takes_control ≡ true → after.mxcsr ≡ file.mxcsr
  pub all : ((c : ℕ) → has_row rows c ≡ true → (c ≡ pkru_number → ⊥) → has mask c ≡ true) → AreSameButPkru file after

-- A load from an area that stands for a file takes it of that file.
abbrev pub IsWholeLoad : ℕ → Bool → List ℕ → List Row → File → Type 0
IsWholeLoad mask takes_control area rows after = (file : File) → IsFile file → StandsFor rows area file → IsTakenFrom file rows mask takes_control after
