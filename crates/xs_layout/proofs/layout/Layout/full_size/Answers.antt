-- The size of the features is that of every row.
use Rattle.std.proofs.Common.{◌∙◌}
use Rattle.xs_base.proofs.SizeLemmas.{full_is}
use Rattle.xs_layout.proofs.layout.Layout.full_size.Goals as goal

pub returns-clause-size : goal.returns-clause-size
returns-clause-size c = c.standard_size.ensures.size ∙ full_is c.args.self.now c.features.result.0 c.features.ensures.has
