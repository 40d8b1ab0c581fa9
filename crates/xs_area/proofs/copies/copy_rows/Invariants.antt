-- The components so far are copied, and both cursors stand before the next row.
use Rattle.std.specs.Prelude.{◌≡◌}
use Rattle.xs_base.specs.Header.{xcomp_bv}
use Rattle.xs_layout.specs.Cursor.{IsBefore}
use Rattle.xs_area.specs.Copy.{AreCopied}
use Rattle.xs_area.proofs.copies.copy_rows.Given as goal

abbrev pub invariant-each : goal.invariant-each
invariant-each l = record {
  names_of : l.source.names ≡ l.fn.names;
  names_to : l.target.names.0 ≡ xcomp_bv l.fn.to;
  source_is : IsBefore l.layout l.i l.source;
  target_is : IsBefore l.layout l.i l.target;
  copied : AreCopied l.layout l.from l.fn.names.0 l.copied.0 l.i l.fn.to l.to;
}
