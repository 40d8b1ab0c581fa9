use Rattle.std.proofs.Common.{codes, refl}
use Rattle.xs_model.specs.declared.script.Command.TheVariants as commands
use Rattle.xs_script.specs.declared.line.Line.TheVariants as lines
use Rattle.xs_script.proofs.Readings.{word_is}
use Rattle.xs_script.proofs.line_reader.read_block_line.Goals as goal

pub returns-then-eq : goal.returns-then-eq
returns-then-eq c = (lines.Order commands.Yield, tt, word_is c.args.line.now c.as_slice.result.now (codes "yield") c.eq.result c.eq.ensures c.as_slice.ensures c.if-eq.true, refl)

pub returns-then-eq-2 : goal.returns-then-eq-2
returns-then-eq-2 c = (lines.End, tt, word_is c.args.line.now c.as_slice-2.result.now (codes "end") c.eq-2.result c.eq-2.ensures c.as_slice-2.ensures c.if-eq-2.true, refl)

pub returns-then-eq-3 : goal.returns-then-eq-3
returns-then-eq-3 c = (lines.Order commands.Tilerelease, tt, word_is c.args.line.now c.as_slice-3.result.now (codes "tilerelease") c.eq-3.result c.eq-3.ensures c.as_slice-3.ensures c.if-eq-3.true, refl)
