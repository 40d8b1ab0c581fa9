-- The set has the components so far that are copied, and the cursor stands before the next row.
use Rattle.std.specs.Prelude.{◌≡◌}
use Rattle.xs_base.specs.Header.{xcomp_bv}
use Rattle.xs_layout.specs.Cursor.{IsBefore}
use Rattle.xs_area.proofs.RoomLemmas.{AreChosen}
use Rattle.xs_area.proofs.copies.copied_of.Given as goal

abbrev pub invariant-each : goal.invariant-each
invariant-each l = record {
  names : l.cursor.names.0 ≡ xcomp_bv l.to;
  before : IsBefore l.layout l.i l.cursor;
  chosen : AreChosen l.layout l.to l.set.0 l.i l.copied.0;
}
