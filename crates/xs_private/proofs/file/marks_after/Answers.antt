-- The bits are those of the marks.
use Rattle.std.proofs.Common.{◌≡◌, List, refl, ap, ◌∙◌}
use Rattle.xs_base.specs.declared.component.Row.{Row}
use Rattle.xs_private.specs.Marks.{user_of}
use Rattle.xs_private.proofs.MarkLemmas.{marks_are}
use Rattle.xs_private.proofs.file.marks_after.Goals as goal

pub returns : goal.returns
returns c =
    let user : c.user_of-user.result.0 ≡ user_of c.args.file.now.rows c.args.large = c.user_of-user.ensures ∙ ap (λ (rs : List Row). user_of rs c.args.large) c.layout.ensures.rows in
    marks_are c.args.file.now c.args.large c.with-2.result.0 c.layout.ensures.file
    (λ k. c.with-2.ensures k ∙ rw (c.pkru-pkru.ensures, c.with.ensures k, c.saves_sse-sse.ensures, c.in_use_of.ensures.each k, user) refl)
