use Rattle.std.proofs.Common.{arith, length-set, ◌∙◌}
use Rattle.xs_script.proofs.HexText.{decoded_more, spelled_taken}
use Rattle.xs_script.proofs.words.decode.Goals as goal

pub bytes-preserved : goal.bytes-preserved
bytes-preserved c = record {
  long = length-set c.bytes.bytes c.bytes.i _ ∙ c.bytes.invariant.long;
  values = decoded_more c.bytes.bytes c.args.text.now c.bytes.i _ (omega arith) (omega (arith, c.digit_value.ensures.value, c.digit_value-in-bytes.ensures.value)) c.bytes.invariant.values;
}

pub returns : goal.returns
returns c = rw c.from_slice.ensures (spelled_taken c.args.text.now c.bytes.bytes c.bytes.i c.requires.digits c.bytes.invariant.long c.requires.short c.bytes-test.false c.bytes.invariant.values)
