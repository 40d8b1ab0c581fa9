-- The rows before this one have passed, and there are no more of them than components.
use Rattle.std.proofs.Common.{sym, ◌∙◌, arith}
use Rattle.std.proofs.lemmas.List.{get_or_default}
use Rattle.xs_base.proofs.FaultLemmas.{checked_none, checked_found, checked_more, checked_all, checked_few}
use Rattle.xs_layout.proofs.checks.first_row_fault.Goals as goal

pub overflow_cast-result : goal.overflow_cast-result
overflow_cast-result c = let few = checked_few _ _ c.each.invariant in omega arith

pub returns-in-Some : goal.returns-in-Some
returns-in-Some c =
    sym (checked_found _ _ _ c.in-Some.error c.each-test.true (get_or_default _ _ _ _ c.each-test.true) c.each.invariant (sym c.in-Some.ensures))

pub each-preserved : goal.each-preserved
each-preserved c =
    checked_more _ _ _ c.each-test.true (get_or_default _ _ _ _ c.each-test.true) c.each.invariant (sym c.row_error.ensures ∙ c.in_default.is)

pub returns : goal.returns
returns c = sym (checked_all _ _ c.each-test.false c.each.invariant)

pub each-init : goal.each-init
each-init c = checked_none _
