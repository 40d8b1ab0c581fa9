-- What was read so far was consumed, within the limit, and no fault came.
use Rattle.std.proofs.Common.{◌≡◌, ◌+◌, ◌-◌, ◌≤◌, vec_len}
use Rattle.std.specs.Io.KnownBytes.{Consumes}
use Rattle.xs_outside.proofs.reading.read_up_to.Given as goal

abbrev pub invariant-loop-chunk : goal.invariant-loop-chunk
invariant-loop-chunk g l =
    let left = g.S.Source.left in
    let count = g.S.Source.fault_count in
    Consumes (left l.fn.source) (left l.source) l.input.items
    × (vec_len l.input ≤ l.limit + 1) × (count l.source ≡ count l.fn.source)

abbrev pub decreases-loop-chunk : goal.decreases-loop-chunk
decreases-loop-chunk g l = l.limit + 1 - vec_len l.input
