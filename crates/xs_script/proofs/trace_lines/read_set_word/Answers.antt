use Rattle.std.proofs.Common.{codes}
use Rattle.xs_script.proofs.Readings.{word_is}
use Rattle.xs_script.proofs.trace_lines.read_set_word.Goals as goal

pub returns-then-eq : goal.returns-then-eq
returns-then-eq c = (tt, word_is c.args.word.now c.as_slice.result.now (codes "xstate") c.eq.result c.eq.ensures c.as_slice.ensures c.if-eq.true)

pub returns-then-eq-2 : goal.returns-then-eq-2
returns-then-eq-2 c = (tt, word_is c.args.word.now c.as_slice-2.result.now (codes "fx") c.eq-2.result c.eq-2.ensures c.as_slice-2.ensures c.if-eq-2.true)
