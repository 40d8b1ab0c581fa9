use Rattle.std.proofs.Common.{◌+◌, ◌≤◌, true, refl, ap, arith, ◌∙◌}
use Rattle.xs_base.specs.Component.{component_size}
use Rattle.xs_base.specs.Layout.{full_size}
use Rattle.xs_base.proofs.ComponentLemmas.{pkru_size}
use Rattle.xs_base.proofs.SizeLemmas.{end_covers}
use Rattle.xs_area.proofs.check.pkru_of.Goals as goal

pub number_at-requires : goal.number_at-requires
number_at-requires c =
    let rows = c.args.layout.now in
    let row = c.in-Some.row in
    let tells = c.in-Some.ensures.row in
    let ends : row.offset + row.size ≤ full_size rows = end_covers (λ _. true) rows tells.index row tells.within tells.is refl in
    let size = c.in-Some.ensures.sound.size ∙ ap component_size tells.number ∙ pkru_size in
    omega (arith, ends, size, c.requires)
