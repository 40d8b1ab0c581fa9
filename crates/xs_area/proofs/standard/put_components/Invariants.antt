-- The components so far are written, and the cursor stands before the next row.
use Rattle.std.specs.Prelude.{◌≡◌}
use Rattle.xs_base.specs.Header.{xcomp_bv}
use Rattle.xs_layout.specs.Cursor.{IsBefore}
use Rattle.xs_area.proofs.StoredLemmas.{AreStored}
use Rattle.xs_area.proofs.standard.put_components.Given as goal

abbrev pub invariant-each : goal.invariant-each
invariant-each l = record {
  names : l.cursor.names.0 ≡ xcomp_bv l.area;
  before : IsBefore l.layout l.i l.cursor;
  stored : AreStored l.layout l.area l.pkru l.mask.0 l.i l.fn.out l.out;
}
