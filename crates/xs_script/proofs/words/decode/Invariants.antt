-- The bytes so far are those of their digits.
use Rattle.std.proofs.Common.{◌≡◌, ℕ, ◌+◌, ◌*◌, ◌<◌, length, slice_index}
use Rattle.xs_script.specs.Parts.{digit_value}
use Rattle.xs_script.proofs.words.decode.Given as goal

abbrev pub invariant-bytes : goal.invariant-bytes
invariant-bytes l = record {
  long : length l.bytes ≡ 64;
  values : (k : ℕ) → k < l.i → slice_index l.bytes k ≡ 16 * digit_value (slice_index l.text (2 * k)) + digit_value (slice_index l.text (2 * k + 1));
}
