-- One byte, two, or another number of them.
use Rattle.std.proofs.Common.{arith}
use Rattle.xs_regs.proofs.Numbers.{one_digit, two_digits, no_index}
use Rattle.xs_regs.proofs.number.read_index.Goals as goal

pub returns-in-len1 : goal.returns-in-len1
returns-in-len1 c = one_digit c.args.digits.now _ (omega arith) c.read_digit.ensures

pub returns-in-len2 : goal.returns-in-len2
returns-in-len2 c = two_digits c.args.digits.now _ (omega arith) c.read_two_digits.ensures

pub returns-in_default : goal.returns-in_default
returns-in_default c = λ n is. omega (arith, no_index c.args.digits.now n is)

pub returns-in_default-2 : goal.returns-in_default-2
returns-in_default-2 c = λ n is. omega (arith, no_index c.args.digits.now n is)
