-- The machine has x87 and SSE, and the bytes have both.
use Rattle.std.proofs.Common.{ap, arith, ◌∙◌}
use Rattle.xs_base.specs.File.{File}
use Rattle.xs_base.proofs.ComponentLemmas.{x87_size, sse_size}
use Rattle.xs_base.proofs.RowLemmas.{has_x87, has_sse}
use Rattle.xs_base.specs.Layout.{has_row}
use Rattle.xs_private.proofs.image.take_legacy.Goals as goal

pub take_at-requires-clause-there : goal.take_at-requires-clause-there
take_at-requires-clause-there c = has_x87 c.args.file.now.rows c.layout.ensures.file.layout

pub take_at-requires-clause-within : goal.take_at-requires-clause-within
take_at-requires-clause-within c = omega (arith, x87_size, c.requires.count)

pub take_at-requires-2-clause-there : goal.take_at-requires-2-clause-there
take_at-requires-2-clause-there c = ap (λ (f : File). has_row f.rows 1) c.take_at.ensures.taken ∙ has_sse c.args.file.now.rows c.layout.ensures.file.layout

pub take_at-requires-2-clause-within : goal.take_at-requires-2-clause-within
take_at-requires-2-clause-within c = omega (arith, sse_size, c.requires.count)
