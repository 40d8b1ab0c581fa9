-- The task has the registers of an image that passed.
use Rattle.std.proofs.Common.{◌<◌, ◌∙◌, ℕ, get_or, sym, refl, ap}
use Rattle.xs_base.specs.declared.header.Origin.TheVariants.{Regset}
use Rattle.xs_base.specs.HeaderCheck.{header_error}
use Rattle.xs_base.proofs.AcceptedLemmas.{accepted_control}
use Rattle.xs_regset.proofs.MarkLemmas.{parked_user}
use Rattle.xs_regset.proofs.WriteLemmas.{xstate_parked}
use Rattle.xs_regset.proofs.writing.set_xstate.Goals as goal

pub put_parts-requires-clause-small : goal.put_parts-requires-clause-small
put_parts-requires-clause-small c = rw (c.in_ok-parts.ensures.parts) (accepted_control Regset c.user_features-user.result.0 c.args.bytes.now c.in_ok-parts.ensures.passed)

pub put_parts-requires-clause-bits : goal.put_parts-requires-clause-bits
put_parts-requires-clause-bits c = c.in_ok-parts.ensures.room c.in-Some.lease.class c.user_features-user.ensures

pub returns-clause-accepted : goal.returns-clause-accepted
returns-clause-accepted c = λ p parked.
    let rows = c.args.layout.now in
    let bytes = c.args.bytes.now in
    let lease = c.in-Some.lease in
    let small : (i : ℕ) → get_or c.args.bytes.now i 0 < 256 = λ i. (c.type_inv.bytes i).fits in
    let passes = ap (λ m. header_error Regset m bytes) (parked_user rows c.args.task.now lease p parked c.in-Some.is ∙ sym c.user_features-user.ensures) ∙ c.in_ok-parts.ensures.passed in
    let inside = c.in_ok-parts.ensures.room lease.class c.user_features-user.ensures in
    xstate_parked rows c.args.task.now _ lease c.put_parts.new.lease p bytes c.in_ok-parts.parts parked c.in-Some.is c.put_parts.ensures.class refl small passes c.in_ok-parts.ensures.parts c.in_ok-parts.ensures.small inside c.put_parts.ensures.stands c.put_parts.ensures.marks
