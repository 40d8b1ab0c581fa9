-- Each component is that of the image.
use Rattle.std.proofs.Common.{◌∙◌, inl, inr, arith}
use Rattle.std.proofs.lemmas.Bool.{cases_eq}
use Rattle.xs_base.specs.File.{initial_file}
use Rattle.xs_private.proofs.ImageLemmas.{image_is, same_base}
use Rattle.xs_private.proofs.image.take_image.Goals as goal

pub parts-preserved : goal.parts-preserved
parts-preserved c =
    let base = initial_file c.args.file.now.rows in
    let bytes = c.args.bytes.now in
    let parts = c.args.parts.now in
    record {
      rows = c.take_part.ensures.machine ∙ c.parts.invariant.rows;
      taken = λ d lt other. elim (cases_eq d c.parts.c) [
        | inl same ↦ rw same (c.take_part.ensures.taken (rw same at other) ∙ same_base c.parts.file base bytes parts c.parts.c c.parts.invariant.rows (c.parts.invariant.left c.parts.c (omega arith)))
        | inr apart ↦ c.take_part.ensures.others d apart ∙ c.parts.invariant.taken d (omega arith) other
      ];
      left = λ d from. c.take_part.ensures.others d (λ e. omega arith) ∙ c.parts.invariant.left d (omega arith);
    }

pub returns : goal.returns
returns c =
    image_is c.args.file.now.rows c.parts.file c.set_mxcsr.new.self c.args.bytes.now c.args.parts.now c.layout-2.ensures.file c.parts.invariant.rows
    (λ d lt other. c.parts.invariant.taken d (omega arith) other) (rw c.set_pkru.ensures at c.set_mxcsr.ensures)
