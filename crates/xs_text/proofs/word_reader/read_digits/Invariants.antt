-- The digits so far are those of the number.
use Rattle.std.proofs.Common.{◌≡◌, ◌<◌, ◌^◌, ◌++◌, length, decimal}
use Rattle.xs_text.proofs.word_reader.read_digits.Given as goal

abbrev pub invariant-digits : goal.invariant-digits
invariant-digits l = record {
  some : 0 < l.number;
  small : l.number < 2 ^ 32;
  parts : decimal l.first ++ l.bytes ≡ decimal l.number ++ l.left;
}

abbrev pub decreases-digits : goal.decreases-digits
decreases-digits l = length l.left
