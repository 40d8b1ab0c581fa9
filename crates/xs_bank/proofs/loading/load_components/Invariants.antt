-- The components of the rows so far are loaded, and the cursor stands before the next row.
use Rattle.std.specs.Prelude.{◌≡◌}
use Rattle.xs_base.specs.Header.{xcomp_bv}
use Rattle.xs_layout.specs.Cursor.{IsBefore}
use Rattle.xs_bank.proofs.LoadLemmas.{IsLoadedTo}
use Rattle.xs_bank.proofs.loading.load_components.Given as goal

abbrev pub invariant-each : goal.invariant-each
invariant-each l = record {
  loaded : IsLoadedTo l.mask.0 l.area l.i l.initial.file l.file;
  names : l.cursor.names.0 ≡ xcomp_bv l.area;
  before : IsBefore l.initial.file.rows l.i l.cursor;
}
