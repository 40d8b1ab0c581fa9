-- The lines of the events so far were written, and no fault came.
use Rattle.std.proofs.Common.{◌≡◌, take}
use Rattle.std.specs.Io.KnownBytes.{Appends}
use Rattle.xs_text.specs.Text.{history_text}
use Rattle.xs_top.proofs.history.write_history.Given as goal

abbrev pub invariant-loop-event : goal.invariant-loop-event
invariant-loop-event g l =
    let written = g.K.Sink.written in
    let count = g.K.Sink.fault_count in
    Appends (written l.fn.sink) (written l.sink) (history_text l.script (take l.event-index l.history)) × (count l.sink ≡ count l.fn.sink)
