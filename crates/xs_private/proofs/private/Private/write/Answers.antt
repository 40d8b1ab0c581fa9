-- The register has one place.
use Rattle.std.proofs.Common.{sym, ap, ◌∙◌}
use Rattle.xs_base.specs.declared.component.Place.{Place}
use Rattle.xs_private.proofs.private.Private.write.Goals as goal

pub write-requires-clause-len : goal.write-requires-clause-len
write-requires-clause-len c = c.requires.fits ∙ ap (λ (place : Place). place.len) (sym c.place_in-place.ensures.place)
