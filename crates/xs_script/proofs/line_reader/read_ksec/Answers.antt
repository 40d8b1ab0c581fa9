use Rattle.std.proofs.Common.{◌++◌, codes, ap, refl, List, ℕ}
use Rattle.xs_model.specs.declared.script.Command.TheVariants as commands
use Rattle.xs_script.specs.declared.line.Line.TheVariants as lines
use Rattle.xs_script.proofs.FirstWords.{no_ksec}
use Rattle.xs_script.proofs.line_reader.read_ksec.Goals as goal

pub returns-in_err-byte : goal.returns-in_err-byte
returns-in_err-byte c = rw c.from_residual.ensures (no_ksec c.args.digits.now c.in_err-byte.ensures)

pub returns : goal.returns
returns c = (lines.Order (commands.Ksec c.in_ok-byte.byte), c.in_ok-byte.ensures.0, ap (λ (t : List ℕ). codes "ksec " ++ t) c.in_ok-byte.ensures.1, refl)
