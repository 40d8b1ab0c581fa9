use Rattle.std.proofs.Common.{codes, refl}
use Rattle.xs_model.specs.declared.script.Command.TheVariants as commands
use Rattle.xs_script.specs.declared.line.Line.TheVariants as lines
use Rattle.xs_script.proofs.Readings.{word_is}
use Rattle.xs_script.proofs.trace_lines.read_trace_line.Goals as goal

pub returns-then-eq : goal.returns-then-eq
returns-then-eq c = (lines.Order commands.Stop, tt, word_is c.args.line.now c.as_slice.result.now (codes "stop") c.eq.result c.eq.ensures c.as_slice.ensures c.if-eq.true, refl)
