-- Which images of the standard format are refused, and what an accepted one has. The tests and their order follow
-- Linux 6.6 in outline (arch/x86/kernel/fpu/signal.c, restore_fpregs_from_user; regset.c, xstateregs_set; xstate.c,
-- validate_user_xstate_header and copy_uabi_to_xstate); that one check serves both origins, and its rules for MXCSR, are
-- this project's own.
use Rattle.std.specs.Prelude.{ℕ, ◌+◌, Bool, not, ◌&&◌, ◌||◌, ◌==◌, nat_lt, List, [], ◌∷◌, slice_range, Option, Some, None, if◌then◌else◌, bit_and}
use Rattle.std.specs.List.{list_any}
use Rattle.std.specs.Int.{from_le_bytes, w32}
use Rattle.xs_base.specs.declared.component.Row.{Row}
use Rattle.xs_base.specs.declared.header.HeaderError.{HeaderError}
use Rattle.xs_base.specs.declared.header.HeaderError.TheVariants as errors
use Rattle.xs_base.specs.declared.header.Origin.{Origin}
use Rattle.xs_base.specs.declared.header.Origin.TheVariants.{Frame, Regset}
use Rattle.xs_base.specs.declared.header.Parts.{Parts}
use Rattle.xs_base.specs.First.{first_of}
use Rattle.xs_base.specs.Sets.{has}
use Rattle.xs_base.specs.Component.{initial_mxcsr, x87_number, sse_number, avx_number, pkru_number}
use Rattle.xs_base.specs.Layout.{row_of}
use Rattle.xs_base.specs.Standard.{has_control}
use Rattle.xs_base.specs.Header.{xstate_bv, xcomp_bv, mxcsr}

-- the set has a component that isn't in the other
abbrev pub has_outside : ℕ → ℕ → Bool
has_outside set allowed = not (bit_and set allowed == set)

-- bytes 528 to 575 aren't all zero
abbrev pub has_reserved : List ℕ → Bool
has_reserved bytes = list_any (λ byte. not (byte == 0)) (slice_range bytes 528 576)

-- MXCSR has a bit above 15.
abbrev pub is_wrong_mxcsr : ℕ → Bool
is_wrong_mxcsr value = nat_lt 0xFFFF value

-- MXCSR is looked at: a frame's where SSE is wanted of it, a register set's where it has x87, SSE or AVX.
abbrev pub checks_mxcsr : Origin → ℕ → Bool
checks_mxcsr (Frame wanted) bits = has wanted.0 sse_number
checks_mxcsr Regset bits = has bits x87_number || has bits sse_number || has bits avx_number

-- the first test that the image fails, where these components are allowed
unfoldable pub header_error : Origin → ℕ → List ℕ → Option HeaderError
header_error origin allowed bytes = first_of (
    (has_outside (xstate_bv bytes) allowed, errors.Features)
    ∷ (not (xcomp_bv bytes == 0), errors.Compacted)
    ∷ (has_reserved bytes, errors.Reserved)
    ∷ (checks_mxcsr origin (xstate_bv bytes) && is_wrong_mxcsr (mxcsr bytes), errors.Mxcsr)
    ∷ [])

-- The components that come from the image, and its MXCSR.
abbrev pub bits_in : Origin → List ℕ → ℕ
bits_in (Frame wanted) bytes = bit_and wanted.0 (xstate_bv bytes)
bits_in Regset bytes = xstate_bv bytes

abbrev pub takes_mxcsr : Origin → ℕ → Bool
takes_mxcsr (Frame wanted) bits = has wanted.0 sse_number
takes_mxcsr Regset bits = has_control bits

abbrev pub mxcsr_in : Origin → List ℕ → ℕ
mxcsr_in origin bytes = if takes_mxcsr origin (xstate_bv bytes) then mxcsr bytes else initial_mxcsr

-- the number at the place of PKRU, and 0 where the machine has none
abbrev pub pkru_at : Option Row → List ℕ → ℕ
pkru_at None bytes = 0
pkru_at (Some r) bytes = from_le_bytes w32 (slice_range bytes r.offset (r.offset + 4))

-- the image's PKRU
abbrev pub pkru_in : List Row → ℕ → List ℕ → ℕ
pkru_in rows bits bytes = if has bits pkru_number then pkru_at (row_of rows pkru_number) bytes else 0

-- what an image has
abbrev pub parts_in : List Row → Origin → List ℕ → Parts
parts_in rows origin bytes = record {
  bits = record { 0 = bits_in origin bytes };
  mxcsr = mxcsr_in origin bytes;
  pkru = pkru_in rows (bits_in origin bytes) bytes;
}
