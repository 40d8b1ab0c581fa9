use Rattle.xs_text.proofs.WordReads.{bytes_only}
use Rattle.xs_text.proofs.reply_reader.read_reply.Goals as goal

pub returns-in-None : goal.returns-in-None
returns-in-None c = rw c.in-Some-after.ensures (bytes_only c.in-Some-after.digits.now c.in-None.ensures)
