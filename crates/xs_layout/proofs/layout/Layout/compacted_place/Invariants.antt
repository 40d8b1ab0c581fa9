use Rattle.xs_base.proofs.CompactLemmas.{IsSought}
use Rattle.xs_layout.proofs.layout.Layout.compacted_place.Given as goal

abbrev pub invariant-each : goal.invariant-each
invariant-each l = IsSought l.mask.0 l.c.0 l.self l.i l.end
