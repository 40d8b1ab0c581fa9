use Rattle.xs_text.proofs.WordReads.{no_cause}
use Rattle.xs_text.proofs.word_reader.read_cause.Goals as goal

pub returns : goal.returns
returns c = no_cause c.args.bytes.now c.in_default.ensures c.in_default-after.ensures c.in_default-after-2.ensures c.in_default-after-3.ensures c.in_default-after-4.ensures c.in_default-after-5.ensures
