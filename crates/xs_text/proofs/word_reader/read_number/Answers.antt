use Rattle.std.proofs.Common.{arith}
use Rattle.xs_text.proofs.NumberText.{no_number, one_digit, after_zero, zero_read}
use Rattle.xs_text.proofs.word_reader.read_number.Goals as goal

pub returns-in_err-first : goal.returns-in_err-first
returns-in_err-first c = rw c.from_residual.ensures (no_number c.args.end c.args.bytes.now c.in_err-first.ensures)

pub returns-then-first-gt0 : goal.returns-then-first-gt0
returns-then-first-gt0 c = rw (one_digit c.in_ok-first.first c.args.bytes.now c.in_ok-first.rest.now c.in_ok-first.ensures.0 c.in_ok-first.ensures.1) c.read_digits.ensures

pub returns-in_err-rest : goal.returns-in_err-rest
returns-in_err-rest c = rw c.from_residual-in_err-rest.ensures (after_zero c.args.end c.in_ok-first.first c.args.bytes.now c.in_ok-first.rest.now (omega arith) c.in_ok-first.ensures.1 c.in_err-rest.ensures)

pub returns : goal.returns
returns c = (omega arith, zero_read c.args.end c.in_ok-first.first c.args.bytes.now c.in_ok-first.rest.now c.in_ok-rest.rest.now (omega arith) c.in_ok-first.ensures.1 c.in_ok-rest.ensures)
