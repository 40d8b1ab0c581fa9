use Rattle.std.proofs.Common.{refl, inr}
use Rattle.xs_script.proofs.BlockLines.{order_added, order_refused}
use Rattle.xs_script.proofs.body.Body.add_order.Goals as goal

pub returns-in-Some-clause-refused : goal.returns-in-Some-clause-refused
returns-in-Some-clause-refused c =
    let fails = rw (c.is_inside.ensures, c.as_slice.ensures, c.own.ensures) at c.in-Some.ensures in
    (refl, inr fails)

pub returns-clause-taken : goal.returns-clause-taken
returns-clause-taken c =
    let passes = rw (c.is_inside.ensures, c.as_slice.ensures, c.own.ensures) at c.in_default.ensures in
    order_added c.args.scope.now c.args.number c.args.self.now c.push_order.new.self c.note_fork.new.forked c.args.command c.push_order.result passes c.in-Ok.ensures c.push_order.ensures.taken c.push_order.ensures.forked

pub returns-clause-refused : goal.returns-clause-refused
returns-clause-refused c = order_refused c.args.scope.now c.args.number c.args.self.now c.args.command c.push_order.result c.push_order.ensures.refused
