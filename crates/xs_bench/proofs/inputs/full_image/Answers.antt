use Rattle.std.proofs.Common.{arith, ap}
use Rattle.xs_base.specs.Sets.{has}
use Rattle.xs_base.specs.Layout.{full_size}
use Rattle.xs_base.proofs.SizeLemmas.{standard_below_full}
use Rattle.xs_bench.proofs.inputs.full_image.Goals as goal

pub standard_into-requires : goal.standard_into-requires
standard_into-requires c =
    let below = standard_below_full c.args.file.now.rows (has c.features-features.result.0) in
    let size = ap full_size c.layout-layout.ensures.rows in
    omega (arith, below, size, c.in_ok-image.ensures.len, c.deref_mut.ensures.len)
