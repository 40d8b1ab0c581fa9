use Rattle.xs_base.proofs.FeatureLemmas.{IsGathered}
use Rattle.xs_layout.proofs.layout.Layout.features.Given as goal

abbrev pub invariant-each : goal.invariant-each
invariant-each l = IsGathered l.self l.i l.bits
