use Rattle.xs_base.proofs.CompactLemmas.{IsEnded}
use Rattle.xs_layout.proofs.layout.Layout.compact_size.Given as goal

abbrev pub invariant-each : goal.invariant-each
invariant-each l = IsEnded l.mask.0 l.self l.i l.end
