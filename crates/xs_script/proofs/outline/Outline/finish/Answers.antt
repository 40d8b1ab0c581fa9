use Rattle.std.proofs.Common.{sym, ◌∙◌, refl}
use Rattle.xs_script.proofs.Outlines.{ends_early, begun_early, none_early, none_open}
use Rattle.xs_script.proofs.outline.Outline.finish.Goals as goal

pub returns-then-is_some-clause-refused : goal.returns-then-is_some-clause-refused
returns-then-is_some-clause-refused c =
    let outline = c.args.self in
    ends_early c.args.number outline (begun_early outline.begun outline.names (sym c.is_some.ensures ∙ c.if-is_some.true))

pub returns-then-is_empty-clause-refused : goal.returns-then-is_empty-clause-refused
returns-then-is_empty-clause-refused c =
    let outline = c.args.self in
    ends_early c.args.number outline (none_early outline.begun outline.names (sym c.is_some.ensures ∙ c.if-is_some.false) (c.is_empty.ensures.0 c.if-is_empty.true))

pub returns-clause-whole : goal.returns-clause-whole
returns-clause-whole c =
    let outline = c.args.self in
    (refl, refl, none_open outline.begun outline.names (sym c.is_some.ensures ∙ c.if-is_some.false) (λ none. let t = c.is_empty.ensures.1 none in cc (sym c.if-is_empty.false ∙ t)))
