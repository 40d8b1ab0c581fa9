-- All of it is written over.
use Rattle.std.proofs.Common.{sym, ◌∙◌}
use Rattle.xs_base.specs.Component.{initial_part}
use Rattle.xs_base.proofs.ComponentLemmas.{length_initial}
use Rattle.xs_base.proofs.FileLemmas.{splice_whole}
use Rattle.xs_regs.proofs.file.loading.put_initial_part.Goals as goal

pub returns : goal.returns
returns c = c.put_initial.ensures.written ∙ splice_whole (initial_part c.args.c.0) c.args.out.now (length_initial c.args.c.0 ∙ sym c.requires.whole)
