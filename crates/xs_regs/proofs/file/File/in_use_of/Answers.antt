-- The part of the set that the mask has.
use Rattle.std.proofs.Common.{◌&&◌, ap, ◌∙◌}
use Rattle.xs_base.specs.Sets.{has}
use Rattle.xs_base.proofs.SetLemmas.{has_and}
use Rattle.xs_regs.proofs.InUse.{unused_above, not_both}
use Rattle.xs_regs.proofs.Parts.{shown_file}
use Rattle.xs_regs.proofs.file.File.in_use_of.Goals as goal

pub returns-clause-each : goal.returns-clause-each
returns-clause-each c n =
    rw (← c.self.view_is) (has_and c.args.mask.0 c.self.inside.used.0 n ∙ ap (λ b. has c.args.mask.0 n && b) (c.self.invariant.1.each n))

pub returns-clause-above : goal.returns-clause-above
returns-clause-above c n above =
    let unused = c.self.invariant.1.each n ∙ unused_above (shown_file c.self.inside.layout c.self.inside.parts.items c.self.inside.mxcsr) n c.self.invariant.0.layout above in
    has_and c.args.mask.0 c.self.inside.used.0 n ∙ not_both (has c.args.mask.0 n) (has c.self.inside.used.0 n) unused
