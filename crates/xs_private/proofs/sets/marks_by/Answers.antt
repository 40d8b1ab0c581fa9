-- The bits are those of the marks.
use Rattle.std.proofs.Common.{◌∙◌, refl}
use Rattle.xs_private.proofs.SetLemmas.{marks_of_set}
use Rattle.xs_private.proofs.sets.marks_by.Goals as goal

pub returns : goal.returns
returns c = marks_of_set c.args.file.now c.args.named.0 c.with.result.0 (λ k. c.with.ensures k ∙ rw (c.pkru-pkru.ensures) refl)
