-- The marks are the bits of the area, and PKRU by its value.
use Rattle.xs_regset.proofs.MarkLemmas.{marks_are}
use Rattle.xs_regset.proofs.marks.marks.Goals as goal

pub returns : goal.returns
returns c = marks_are c.args.layout.now c.args.lease.now c.args.pkru c.with.result.0 c.requires (λ d. rw (c.xstate_bv.ensures, c.deref.ensures.value) at (c.with.ensures d))
