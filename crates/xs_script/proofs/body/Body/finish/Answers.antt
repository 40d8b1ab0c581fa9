use Rattle.std.proofs.Common.{sym, ◌∙◌}
use Rattle.xs_script.proofs.BodyLines.{ends_early, begun_early, none_early}
use Rattle.xs_script.proofs.body.Body.finish.Goals as goal

pub returns-then-is_some-clause-refused : goal.returns-then-is_some-clause-refused
returns-then-is_some-clause-refused c =
    let body = c.args.self in
    ends_early c.args.number body (begun_early body.blocks body.begun (sym c.is_some.ensures ∙ c.if-is_some.true))

pub returns-then-is_empty-clause-refused : goal.returns-then-is_empty-clause-refused
returns-then-is_empty-clause-refused c =
    let body = c.args.self in
    ends_early c.args.number body (none_early body.blocks body.begun (sym c.is_some.ensures ∙ c.if-is_some.false) (c.is_empty.ensures.0 c.if-is_empty.true))
