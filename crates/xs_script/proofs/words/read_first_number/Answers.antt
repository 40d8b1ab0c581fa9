use Rattle.std.proofs.Common.{decimal}
use Rattle.xs_base.proofs.Cuts.{no_cut}
use Rattle.xs_script.proofs.Readings.{no_number}
use Rattle.xs_script.proofs.words.read_first_number.Goals as goal

pub returns-in_err-number : goal.returns-in_err-number
returns-in_err-number c = rw c.from_residual.ensures (λ n rest fits e. no_cut 32 c.args.words.now (decimal n) rest c.in_err-number.ensures e)

pub returns-in_err-number-2 : goal.returns-in_err-number-2
returns-in_err-number-2 c = rw c.from_residual-in_err-number-2.ensures (no_number c.args.words.now c.in_ok-number.number.now c.in_ok-number.rest.now c.in_ok-number.ensures.1 c.in_ok-number.ensures.0 c.in_err-number-2.ensures)
