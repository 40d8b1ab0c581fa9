-- A number of two digits has each of them.
use Rattle.std.proofs.Common.{◌/◌, ◌%◌, arith}
use Rattle.xs_regs.proofs.number.read_two_digits.Goals as goal

pub returns-in_err-tens : goal.returns-in_err-tens
returns-in_err-tens c = rw c.from_residual.ensures (λ n h. c.in_err-tens.ensures (n / 10) (omega (arith, h.1), h.2))

pub returns-in_err-ones : goal.returns-in_err-ones
returns-in_err-ones c = rw c.from_residual-in_err-ones.ensures (λ n h. c.in_err-ones.ensures (n % 10) (omega arith, h.3))
