-- The bytes so far are those of their digits.
use Rattle.std.proofs.Common.{◌≡◌, ◌≤◌, ◌++◌, length, take}
use Rattle.hex.specs.Hex.{encode_lower}
use Rattle.xs_text.proofs.LaneText.{AreBytes}
use Rattle.xs_text.proofs.reply_reader.read_lane.Given as goal

abbrev pub invariant-bytes : goal.invariant-bytes
invariant-bytes l = record {
  long : length l.values ≡ 64;
  few : l.len ≤ 64;
  fits : AreBytes (take l.len l.values);
  parts : l.bytes ≡ encode_lower (take l.len l.values) ++ l.left;
}

abbrev pub decreases-bytes : goal.decreases-bytes
decreases-bytes l = length l.left
