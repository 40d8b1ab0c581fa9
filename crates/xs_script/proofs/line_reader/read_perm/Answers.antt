use Rattle.std.proofs.Common.{◌++◌, codes, ap, refl, List, ℕ}
use Rattle.xs_model.specs.declared.script.Command.TheVariants as commands
use Rattle.xs_script.specs.declared.line.Line.TheVariants as lines
use Rattle.xs_script.proofs.FirstWords.{no_perm}
use Rattle.xs_script.proofs.line_reader.read_perm.Goals as goal

pub returns-in_err-feature : goal.returns-in_err-feature
returns-in_err-feature c = rw c.from_residual.ensures (no_perm c.args.digits.now c.in_err-feature.ensures)

pub returns : goal.returns
returns c = (lines.Order (commands.Perm c.in_ok-feature.feature), c.in_ok-feature.ensures.0, ap (λ (t : List ℕ). codes "perm " ++ t) c.in_ok-feature.ensures.1, refl)
