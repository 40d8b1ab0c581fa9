-- The bits are those of a frame.
use Rattle.std.proofs.Common.{◌∙◌, refl}
use Rattle.xs_private.proofs.FrameLemmas.{bits_are}
use Rattle.xs_private.proofs.frame.frame_bits.Goals as goal

pub returns : goal.returns
returns c = bits_are c.args.file.now c.args.user.0 c.with-2.result.0 c.layout.ensures.file (λ k. c.with-2.ensures k ∙ rw (c.with.ensures k, c.in_use_of.ensures.each k) refl)
