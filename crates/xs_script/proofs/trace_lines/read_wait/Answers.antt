use Rattle.std.proofs.Common.{◌++◌, codes, ap, refl, List, ℕ}
use Rattle.xs_model.specs.declared.script.Command.TheVariants as commands
use Rattle.xs_script.specs.declared.line.Line.TheVariants as lines
use Rattle.xs_script.proofs.FirstWords.{no_wait}
use Rattle.xs_script.proofs.trace_lines.read_wait.Goals as goal

pub returns-in_err-name : goal.returns-in_err-name
returns-in_err-name c = rw c.from_residual.ensures (no_wait c.args.name.now c.in_err-name.ensures)

pub returns : goal.returns
returns c = (lines.Order (commands.Wait c.in_ok-name.name), c.in_ok-name.ensures.0, ap (λ (t : List ℕ). codes "wait " ++ t) c.in_ok-name.ensures.1, refl)
