-- There is room for the components so far that are wanted, and the cursor stands before the next row.
use Rattle.std.specs.Prelude.{◌≡◌}
use Rattle.xs_base.specs.Header.{xcomp_bv}
use Rattle.xs_layout.specs.Cursor.{IsBefore}
use Rattle.xs_area.proofs.ReadableLemmas.{HaveRoom}
use Rattle.xs_area.proofs.readable.has_rows.Given as goal

abbrev pub invariant-each : goal.invariant-each
invariant-each l = record {
  names : l.cursor.names.0 ≡ xcomp_bv l.bytes;
  before : IsBefore l.layout l.i l.cursor;
  room : HaveRoom l.layout l.bytes l.i;
}
