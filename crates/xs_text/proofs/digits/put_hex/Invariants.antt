-- The digits so far and those of the rest are those of all bytes.
use Rattle.std.proofs.Common.{◌≡◌, ◌+◌, ◌-◌, ◌*◌, ◌≤◌, ◌++◌, length, drop}
use Rattle.hex.specs.Hex.{encode_lower}
use Rattle.xs_text.proofs.digits.put_hex.Given as goal

abbrev pub invariant-loop-rest : goal.invariant-loop-rest
invariant-loop-rest l = (l.line ++ encode_lower l.rest ≡ l.fn.line ++ encode_lower l.bytes) × (length l.line + 2 * length l.rest ≤ 192)

abbrev pub decreases-loop-rest : goal.decreases-loop-rest
decreases-loop-rest l = length l.rest

abbrev pub invariant-loop-byte : goal.invariant-loop-byte
invariant-loop-byte l =
    (l.line ++ encode_lower (drop l.byte-index l.byte-items) ≡ l.fn.line ++ encode_lower l.bytes)
    × (length l.line + 2 * (length l.byte-items - l.byte-index) ≤ 192)
