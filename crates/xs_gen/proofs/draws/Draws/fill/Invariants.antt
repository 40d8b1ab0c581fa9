-- The bytes so far and the draws that are left are all draws.
use Rattle.std.proofs.Common.{◌≡◌, ◌-◌, ◌++◌, length, take}
use Rattle.xs_gen.specs.Generated.{after, draws}
use Rattle.xs_gen.proofs.draws.Draws.fill.Given as goal

abbrev pub invariant-loop-byte : goal.invariant-loop-byte
invariant-loop-byte l =
    (take l.byte-index l.bytes ++ draws (length l.bytes - l.byte-index) l.self.state ≡ draws (length l.fn.bytes) l.fn.self.state)
    × (after (length l.bytes - l.byte-index) l.self.state ≡ after (length l.fn.bytes) l.fn.self.state)
