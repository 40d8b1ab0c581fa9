-- The text of a number is short enough for a script, and is never refused.
use Rattle.std.proofs.Common.{ℕ, List, length, subst, ap, ◌∙◌, arith}
use Rattle.xs_script.specs.Refusal.{Refuses}
use Rattle.xs_top.proofs.demo.generated_script.Goals as goal

pub read_script-requires : goal.read_script-requires
read_script-requires c =
    let is = c.as_slice.ensures.value ∙ c.in_ok-text.ensures in
    omega (arith, ap length is, c.every_number_has_a_script.ensures.length c.args.number)

pub unreachable-requires : goal.unreachable-requires
unreachable-requires c =
    let is = c.as_slice.ensures.value ∙ c.in_ok-text.ensures in
    let refused = rw c.in-Err-Refused.field-0-is at c.in-Err-Refused.ensures.refused in
    c.no_number_is_refused.ensures c.args.number c.in-Err-Refused.field-0-0 c.in-Err-Refused.field-0-1 c.ranges.number.fits (subst (λ (text : List ℕ). Refuses text c.in-Err-Refused.field-0-0 c.in-Err-Refused.field-0-1) is refused)
