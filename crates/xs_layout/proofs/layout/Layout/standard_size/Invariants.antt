use Rattle.xs_base.specs.Sets.{has}
use Rattle.xs_base.proofs.SizeLemmas.{IsSized}
use Rattle.xs_layout.proofs.layout.Layout.standard_size.Given as goal

abbrev pub invariant-each : goal.invariant-each
invariant-each l = IsSized (has l.mask.0) l.self l.i l.end
