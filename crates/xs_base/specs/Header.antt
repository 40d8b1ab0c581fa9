-- The numbers in an area's legacy region and header, little-endian (SDM volume 1, 10.5.1 and 13.4.2).
use Rattle.std.specs.Prelude.{ℕ, List, slice_range}
use Rattle.std.specs.Int.{from_le_bytes, w32, w64}

-- the components that the area has state of
unfoldable pub xstate_bv : List ℕ → ℕ
xstate_bv area = from_le_bytes w64 (slice_range area 512 520)

-- the components that have a place in the compacted format, and bit 63 for that format
unfoldable pub xcomp_bv : List ℕ → ℕ
xcomp_bv area = from_le_bytes w64 (slice_range area 520 528)

unfoldable pub mxcsr : List ℕ → ℕ
mxcsr area = from_le_bytes w32 (slice_range area 24 28)
