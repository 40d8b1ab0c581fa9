-- The first byte, and the others beside those before them.
use Rattle.std.proofs.Common.{◌∙◌}
use Rattle.xs_base.proofs.ZeroLemmas.{zeros_by_shift}
use Rattle.xs_base.proofs.zeros.are_zero.Goals as goal

pub returns-then-first-eq0 : goal.returns-then-first-eq0
returns-then-first-eq0 c =
    c.eq.ensures ∙ zeros_by_shift c.args.bytes.now c.split_at.result.1.now c.split_at-2.result.0.now c.in-Some.first.now c.in-Some.ensures.value c.if-first-eq0.true c.split_at.ensures.back c.split_at-2.ensures.front
