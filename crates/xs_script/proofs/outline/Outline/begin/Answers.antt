use Rattle.std.proofs.Common.{refl, arith, sym, ◌∙◌}
use Rattle.xs_script.proofs.Outlines.{begin_repeats, begins_on}
use Rattle.xs_script.proofs.outline.Outline.begin.Goals as goal

pub returns-then-is_among-clause-refused : goal.returns-then-is_among-clause-refused
returns-then-is_among-clause-refused c =
    let outline = c.args.self.now in
    let found = rw c.as_slice.ensures at (sym c.is_among.ensures ∙ c.if-is_among.true) in
    (refl, begin_repeats outline.begun outline.names c.args.kind c.args.name (sym c.is_some.ensures ∙ c.if-is_some.false) (omega arith) found)

pub returns-in-Ok-push-clause-taken : goal.returns-in-Ok-push-clause-taken
returns-in-Ok-push-clause-taken c =
    let outline = c.args.self.now in
    let new = rw c.as_slice.ensures at (sym c.is_among.ensures ∙ c.if-is_among.false) in
    rw c.in-Ok-push.ensures.ok (begins_on outline.begun outline.names c.args.kind c.args.name (sym c.is_some.ensures ∙ c.if-is_some.false) (omega arith) new)
