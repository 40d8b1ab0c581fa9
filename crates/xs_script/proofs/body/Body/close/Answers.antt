use Rattle.std.proofs.Common.{sym, ◌∙◌}
use Rattle.xs_script.specs.declared.body.Body.{Body}
use Rattle.xs_script.proofs.BodyLines.{close_taken}
use Rattle.xs_script.proofs.body.Body.close.Goals as goal

pub returns-in-Ok-clause-taken : goal.returns-in-Ok-clause-taken
returns-in-Ok-clause-taken c =
    let body = c.args.self.now in
    let begun = c.in-Some.begun in
    let after : Body = record { blocks = c.push.new.self; begun = c.take.new.self; forked = body.forked } in
    let may = rw c.part.ensures at (sym c.may_close.ensures ∙ c.if-may_close.true) in
    close_taken c.args.number body after begun c.into_block.result (sym c.take.ensures.value ∙ c.in-Some.is) c.take.ensures.after c.in-Ok.ensures.ok may c.into_block.ensures
