-- The whole part was written.
use Rattle.std.proofs.Common.{◌≡◌, length, ◌∙◌, arith}
use Rattle.std.proofs.lemmas.List.{with_items_is}
use Rattle.xs_base.specs.Component.{initial_part}
use Rattle.xs_base.proofs.ComponentLemmas.{length_initial}
use Rattle.xs_base.proofs.FileLemmas.{splice_whole}
use Rattle.xs_regs.proofs.file.make_part.Goals as goal

pub returns : goal.returns
returns c =
    let len : length c.put_initial.new.out ≡ c.resize.new.self.len = omega arith in
    let whole = length_initial c.args.c.0 in
    with_items_is c.resize.new.self c.put_initial.new.out len ∙ c.put_initial.ensures.written
    ∙ splice_whole (initial_part c.args.c.0) _ (omega (arith, c.in_ok-resize.ensures.len, c.deref_mut.ensures.len))
