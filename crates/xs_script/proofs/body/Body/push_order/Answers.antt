use Rattle.std.proofs.Common.{refl, sym, ◌∙◌, Some}
use Rattle.xs_model.specs.declared.script.Order.{Order}
use Rattle.xs_script.specs.declared.body.Body.{Body}
use Rattle.xs_script.proofs.BodyLines.{order_taken}
use Rattle.xs_script.proofs.body.Body.push_order.Goals as goal

pub returns-in-Ok-clause-taken : goal.returns-in-Ok-clause-taken
returns-in-Ok-clause-taken c =
    let body = c.args.self.now in
    let after : Body = record { blocks = body.blocks; begun = Some c.in-Ok.begun; forked = body.forked } in
    let order : Order = record { number = c.args.number; command = c.args.command; in_range = c.push-arg-1.given.0 } in
    order_taken c.args.number body after c.in-Some.begun c.in-Ok.begun order (sym c.take.ensures.value ∙ c.in-Some.is) refl refl refl (sym c.order_fault.ensures ∙ c.in_default.is) c.in-Ok.ensures
