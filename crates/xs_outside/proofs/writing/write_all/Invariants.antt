-- A front of the text was written, the rest is left, and no fault came.
use Rattle.std.proofs.Common.{◌≡◌, ℕ, List, ◌++◌, length}
use Rattle.std.specs.Io.KnownBytes.{Appends}
use Rattle.xs_outside.proofs.writing.write_all.Given as goal

abbrev pub invariant-loop-rest : goal.invariant-loop-rest
invariant-loop-rest g l =
    let written = g.K.Sink.written in
    let count = g.K.Sink.fault_count in
    (front : List ℕ) × (l.text ≡ front ++ l.rest) × Appends (written l.fn.sink) (written l.sink) front
    × (count l.sink ≡ count l.fn.sink)

abbrev pub decreases-loop-rest : goal.decreases-loop-rest
decreases-loop-rest g l = length l.rest
