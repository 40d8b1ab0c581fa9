use Rattle.xs_text.proofs.WordReads.{other_signo}
use Rattle.xs_text.proofs.word_reader.read_signo.Goals as goal

pub returns-in_err-signo : goal.returns-in_err-signo
returns-in_err-signo c = rw c.from_residual-in_err-signo.ensures (other_signo c.args.end c.in_ok-number.number c.args.bytes.now c.in_ok-number.rest.now c.requires c.in_ok-number.ensures c.in_err-signo.ensures)
