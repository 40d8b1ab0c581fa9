-- The component is that of the image.
use Rattle.std.proofs.Common.{◌≡◌, true, false, List, Some, refl, sym, ap, ◌∙◌, arith}
use Rattle.xs_base.specs.declared.component.Row.{Row}
use Rattle.xs_base.specs.Component.{component_size}
use Rattle.xs_base.specs.File.{File, part}
use Rattle.xs_base.specs.Image.{taken_part}
use Rattle.xs_base.specs.Layout.{has_row, row_of, full_size}
use Rattle.xs_base.proofs.FileLemmas.{part_here}
use Rattle.xs_base.proofs.SizeLemmas.{end_covers}
use Rattle.xs_private.proofs.ImageLemmas.{image_left, image_out, image_in}
use Rattle.xs_private.proofs.image.take_part.Goals as goal

pub take_at-requires-clause-within : goal.take_at-requires-clause-within
take_at-requires-clause-within c =
    let at = c.in-Some.ensures.row in
    let covers = end_covers (λ _. true) c.layout.result.now at.index c.in-Some.row at.within at.is refl in
    let same : full_size c.layout.result.now ≡ full_size c.args.file.now.rows = ap full_size c.layout.ensures.rows in
    let size : c.in-Some.row.size ≡ component_size c.args.c.0 = c.in-Some.ensures.sound.size ∙ ap component_size at.number in
    omega (arith, covers, same, size, c.requires.room)

pub returns-then-has-clause-taken : goal.returns-then-has-clause-taken
returns-then-has-clause-taken c = λ other.
    let row : row_of c.args.file.now.rows c.args.c.0 ≡ Some c.in-Some.row = ap (λ (rs : List Row). row_of rs c.args.c.0) (sym c.layout.ensures.rows) ∙ sym c.in-Some.ensures.is in
    let there : has_row c.args.file.now.rows c.args.c.0 ≡ true = ap (λ (rs : List Row). has_row rs c.args.c.0) (sym c.layout.ensures.rows) ∙ c.in-Some.ensures.there in
    ap (λ (f : File). part f c.args.c.0) c.take_at.ensures.taken
    ∙ part_here c.args.file.now c.args.c.0 (taken_part c.args.bytes.now c.in-Some.row.offset c.args.c.0) (omega (arith, c.layout.ensures.file.count, c.requires.number))
    ∙ image_in c.args.file.now c.args.bytes.now c.args.parts.now c.args.c.0 c.in-Some.row row there (sym c.has.ensures ∙ c.if-has.true) other

pub returns-else-has-clause-taken : goal.returns-else-has-clause-taken
returns-else-has-clause-taken c = λ other. image_out c.args.file.now c.args.bytes.now c.args.parts.now c.args.c.0 (sym c.has.ensures ∙ c.if-has.false) other

pub returns-in_default-clause-taken : goal.returns-in_default-clause-taken
returns-in_default-clause-taken c = λ other.
    let lacks : has_row c.args.file.now.rows c.args.c.0 ≡ false = ap (λ (rs : List Row). has_row rs c.args.c.0) (sym c.layout.ensures.rows) ∙ c.in_default.ensures.row in
    image_left c.args.file.now c.args.bytes.now c.args.parts.now c.args.c.0 lacks other
