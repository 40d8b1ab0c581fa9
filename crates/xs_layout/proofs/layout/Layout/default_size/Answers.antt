-- The size of the default features is that of every row but TILEDATA's.
use Rattle.std.proofs.Common.{◌∙◌}
use Rattle.xs_base.specs.Sets.{has}
use Rattle.xs_base.proofs.SizeLemmas.{default_is, standard_below_full}
use Rattle.xs_layout.proofs.layout.Layout.default_size.Goals as goal

pub returns-clause-size : goal.returns-clause-size
returns-clause-size c = c.standard_size.ensures.size ∙ default_is c.args.self.now c.default_features.result.0 c.default_features.ensures.has

pub returns-clause-full : goal.returns-clause-full
returns-clause-full c = rw c.standard_size.ensures.size (standard_below_full c.args.self.now (has c.default_features.result.0))
