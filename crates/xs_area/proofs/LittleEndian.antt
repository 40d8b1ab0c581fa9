-- The little-endian numbers of byteorder are std's.
use Rattle.std.proofs.Common.{◌≡◌, ℕ, List, arith}
use Rattle.std.specs.Int.{from_le_bytes, w32, w64}
use Rattle.byteorder.specs.Endian.{little_number}

pub eight_bytes : (bytes : List ℕ) → little_number 8 bytes ≡ from_le_bytes w64 bytes
eight_bytes bytes = omega arith

pub four_bytes : (bytes : List ℕ) → little_number 4 bytes ≡ from_le_bytes w32 bytes
four_bytes bytes = omega arith
