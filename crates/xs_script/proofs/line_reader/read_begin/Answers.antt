use Rattle.std.proofs.Common.{◌++◌, ap, refl, List, ℕ}
use Rattle.xs_script.specs.declared.line.Line.TheVariants as lines
use Rattle.xs_script.specs.ScriptLine.{block_word}
use Rattle.xs_script.proofs.FirstWords.{no_begin}
use Rattle.xs_script.proofs.line_reader.read_begin.Goals as goal

pub returns-in_err-name : goal.returns-in_err-name
returns-in_err-name c = rw c.from_residual.ensures (no_begin c.args.kind c.args.name.now c.in_err-name.ensures)

pub returns : goal.returns
returns c = (lines.Begin c.args.kind c.in_ok-name.name, c.in_ok-name.ensures.0, ap (λ (t : List ℕ). block_word c.args.kind ++ t) c.in_ok-name.ensures.1, refl)
