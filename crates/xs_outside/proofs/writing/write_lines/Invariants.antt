-- A front of the text was written, the rest is left, and no fault came.
use Rattle.std.proofs.Common.{◌≡◌, ℕ, List, ◌++◌, length}
use Rattle.std.specs.Io.KnownBytes.{Appends}
use Rattle.xs_outside.proofs.writing.write_lines.Given as goal

abbrev pub invariant-loop-line : goal.invariant-loop-line
invariant-loop-line g l =
    let written = g.K.Sink.written in
    let count = g.K.Sink.fault_count in
    (front : List ℕ) × (l.text ≡ front ++ l.rest) × Appends (written l.fn.sink) (written l.sink) front
    × (count l.sink ≡ count l.fn.sink)

abbrev pub decreases-loop-line : goal.decreases-loop-line
decreases-loop-line g l = length l.rest
