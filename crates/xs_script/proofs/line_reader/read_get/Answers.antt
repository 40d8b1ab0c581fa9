use Rattle.std.proofs.Common.{◌++◌, codes, ap, refl, List, ℕ}
use Rattle.xs_model.specs.declared.script.Command.TheVariants as commands
use Rattle.xs_script.specs.declared.line.Line.TheVariants as lines
use Rattle.xs_script.proofs.FirstWords.{no_get}
use Rattle.xs_script.proofs.line_reader.read_get.Goals as goal

pub returns-in_err-reg : goal.returns-in_err-reg
returns-in_err-reg c = rw c.from_residual.ensures (no_get c.args.reg.now c.in_err-reg.ensures)

pub returns : goal.returns
returns c = (lines.Order (commands.Get c.in_ok-reg.reg), c.in_ok-reg.ensures.0, ap (λ (t : List ℕ). codes "get " ++ t) c.in_ok-reg.ensures.1, refl)
