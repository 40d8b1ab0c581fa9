-- The component has what belongs to registers.
use Rattle.std.proofs.Common.{◌+◌, arith, ◌∙◌}
use Rattle.std.proofs.lemmas.List.Edits.{get_or-between}
use Rattle.xs_private.proofs.ImageLemmas.{taken_is}
use Rattle.xs_private.proofs.image.take_at.Goals as goal

pub returns : goal.returns
returns c =
    record {
      taken = taken_is c.args.file.now c.load.new.self c.args.c.0 c.args.at c.args.bytes.now c.layout.ensures.file c.layout-2.ensures.file c.requires.number c.requires.there c.load.ensures.rows_are
          (λ k lt own. c.load.ensures.own k own ∙ get_or-between c.args.bytes.now c.args.at (c.args.at + c.component_size.result) k 0 (omega (arith, c.component_size.ensures)))
          c.load.ensures.others c.load.ensures.control;
    }
