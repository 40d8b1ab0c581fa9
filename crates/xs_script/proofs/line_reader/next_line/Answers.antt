use Rattle.xs_script.proofs.Readings.{no_plain_line, other_plain_line}
use Rattle.xs_script.proofs.line_reader.next_line.Goals as goal

pub returns-in_err-line-clause-line : goal.returns-in_err-line-clause-line
returns-in_err-line-clause-line c = rw c.from_residual.ensures (no_plain_line c.args.text.now c.in_err-line.ensures)

pub returns-in_err-line-2-clause-line : goal.returns-in_err-line-2-clause-line
returns-in_err-line-2-clause-line c = rw c.from_residual-in_err-line-2.ensures (other_plain_line c.args.text.now c.in_ok-line.line.now c.in_ok-line.rest.now c.in_ok-line.ensures.0 c.in_ok-line.ensures.1 c.in_err-line-2.ensures)
