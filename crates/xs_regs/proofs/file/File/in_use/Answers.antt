-- The set is kept.
use Rattle.std.proofs.Common.{◌∙◌}
use Rattle.xs_regs.proofs.InUse.{unused_above}
use Rattle.xs_regs.proofs.Parts.{shown_file}
use Rattle.xs_regs.proofs.file.File.in_use.Goals as goal

pub returns-clause-above : goal.returns-clause-above
returns-clause-above c n above =
    c.self.invariant.1.each n ∙ unused_above (shown_file c.self.inside.layout c.self.inside.parts.items c.self.inside.mxcsr) n c.self.invariant.0.layout above
