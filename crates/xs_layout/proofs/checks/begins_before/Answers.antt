-- `any` answers the test of the definition.
use Rattle.std.proofs.Common.{◌≡◌, false, nat_lt, rules, tests, arith}
use Rattle.std.proofs.lemmas.Bool.Decides.{nat_tests}
use Rattle.std.proofs.lemmas.Iterator.{YieldsList-from_slice}
use Rattle.std.proofs.lemmas.Iterator.Search.{any_from_yields_List}
use Rattle.xs_base.specs.declared.component.Row.{Row}
use Rattle.xs_base.specs.Layout.{row_end}
use Rattle.xs_layout.proofs.checks.begins_before.Goals as goal

pub returns-else-begin-lt576 : goal.returns-else-begin-lt576
returns-else-begin-lt576 c =
    let any = any_from_yields_List (λ (b : Row). nat_lt c.from-begin.result (row_end b)) _ _ _ c.any.ensures.ran (YieldsList-from_slice c.args.before.now cc) (λ x b q k. search (rules, tests)) in
    let low : nat_lt c.from-begin.result 576 ≡ false = grind (arith, nat_tests) in
    rw (← c.from-begin.ensures, low) any
