use Rattle.xs_base.proofs.Cuts.{no_cut}
use Rattle.xs_script.proofs.Readings.{no_name}
use Rattle.xs_script.proofs.trace_lines.read_first_name.Goals as goal

pub returns-in_err-name : goal.returns-in_err-name
returns-in_err-name c = rw c.from_residual.ensures (λ name rest fits e. no_cut 32 c.args.words.now name rest c.in_err-name.ensures e)

pub returns-in_err-name-2 : goal.returns-in_err-name-2
returns-in_err-name-2 c = rw c.from_residual-in_err-name-2.ensures (no_name c.args.words.now c.in_ok-name.name.now c.in_ok-name.rest.now c.in_ok-name.ensures.1 c.in_ok-name.ensures.0 c.in_err-name-2.ensures)
