use Rattle.std.proofs.Common.{refl}
use Rattle.std.specs.Int.{from_le_bytes, w32}
use Rattle.std.proofs.lemmas.Nat.{le_bytes_4}
use Rattle.xs_base.proofs.little_endian.four_bytes_again.Goals as goal

pub returns : goal.returns
returns c = λ bytes len small. le_bytes_4 bytes (from_le_bytes w32 bytes) len small refl
