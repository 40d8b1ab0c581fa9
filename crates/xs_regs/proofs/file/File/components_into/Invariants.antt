-- The components of the rows so far are written.
use Rattle.std.proofs.Common.{◌≡◌, ℕ, length, drop, slice_index}
use Rattle.xs_base.specs.Standard.{component_byte, saved_byte}
use Rattle.xs_regs.proofs.file.File.components_into.Given as goal

abbrev pub invariant-rows : goal.invariant-rows
invariant-rows l = record {
  len : length l.out ≡ length l.initial.out;
  bytes : (k : ℕ) → component_byte (saved_byte l.self) (λ r. r.offset) l.mask.0 k (drop l.i l.self.rows) (slice_index l.out k) ≡ component_byte (saved_byte l.self) (λ r. r.offset) l.mask.0 k l.self.rows (slice_index l.initial.out k);
}
