-- The components of the rows so far are written.
use Rattle.std.proofs.Common.{◌≡◌, ℕ, length, drop, slice_index}
use Rattle.xs_base.specs.Compact.{place}
use Rattle.xs_base.specs.Standard.{component_byte, saved_byte}
use Rattle.xs_bank.proofs.saving.put_rows.Given as goal

abbrev pub invariant-each : goal.invariant-each
invariant-each l = record {
  len : length l.into ≡ length l.initial.into;
  bytes : (k : ℕ) → component_byte (saved_byte l.file) (place l.file.rows l.names.0) l.written.0 k (drop l.i l.file.rows) (slice_index l.into k) ≡ component_byte (saved_byte l.file) (place l.file.rows l.names.0) l.written.0 k l.file.rows (slice_index l.initial.into k);
}
