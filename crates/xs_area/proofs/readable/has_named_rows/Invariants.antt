-- The area has the places so far that XCOMP_BV names, and the cursor stands before the next row.
use Rattle.std.specs.Prelude.{◌≡◌}
use Rattle.xs_base.specs.Header.{xcomp_bv}
use Rattle.xs_layout.specs.Cursor.{IsBefore}
use Rattle.xs_area.proofs.ReadableLemmas.{HaveNamed}
use Rattle.xs_area.proofs.readable.has_named_rows.Given as goal

abbrev pub invariant-each : goal.invariant-each
invariant-each l = record {
  names : l.cursor.names.0 ≡ xcomp_bv l.bytes;
  before : IsBefore l.layout l.i l.cursor;
  named : HaveNamed l.layout l.bytes l.i;
}
