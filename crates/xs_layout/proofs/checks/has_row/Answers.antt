-- `any` answers the test of the definition.
use Rattle.std.proofs.Common.{◌==◌, rules, tests}
use Rattle.std.proofs.lemmas.Iterator.{YieldsList-from_slice}
use Rattle.std.proofs.lemmas.Iterator.Search.{any_from_yields_List}
use Rattle.xs_base.specs.declared.component.Row.{Row}
use Rattle.xs_base.specs.Layout.{has_row}
use Rattle.xs_layout.proofs.checks.has_row.Goals as goal

pub returns : goal.returns
unfolding has_row
returns c = any_from_yields_List (λ (r : Row). r.comp.0 == c.args.c.0) _ _ _ c.any.ensures.ran (YieldsList-from_slice c.args.rows.now cc) (λ x b q k. search (rules, tests))
