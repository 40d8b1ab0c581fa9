-- What clauses read of a source and a sink over std. This project's own.
use Rattle.std.specs.Prelude.{ℕ, Bool, List}
use Rattle.std.specs.Io.Buffered.{writer_buffer, writer_inner}
use Rattle.xs_io.specs.declared.fail_stop.FailStop.{FailStop}
use Rattle.xs_io.specs.declared.standard.StdSink.{StdSink}
use Rattle.xs_io.specs.declared.standard.StdSource.{StdSource}

-- The reader of a source, and how many faults it had.
abbrev pub source_reader : {R : Type 0} → StdSource R → R
source_reader source = source.reader

abbrev pub source_faults : {R : Type 0} → StdSource R → ℕ
source_faults source = source.faults

-- The writer of a sink, and how many faults it had.
abbrev pub sink_writer : {W : Type 0} → StdSink W → W
sink_writer sink = (writer_inner sink.writer).writer

abbrev pub sink_faults : {W : Type 0} → StdSink W → ℕ
sink_faults sink = sink.faults

-- The bytes that were written to a sink and that it has not handed on.
abbrev pub buffered : {W : Type 0} → StdSink W → List ℕ
buffered sink = writer_buffer sink.writer

-- The writer has failed.
abbrev pub has_failed : {W : Type 0} → FailStop W → Bool
has_failed writer = writer.failed
