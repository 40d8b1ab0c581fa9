use Rattle.std.proofs.Common.{◌∙◌}
use Rattle.xs_bench.proofs.signals.fill.Goals as goal

pub loop-name-preserved : goal.loop-name-preserved
loop-name-preserved g c =
    let so_far = c.loop-name.invariant in
    let now = c.write_ones.ensures in
    record {
      rows = now.rows;
      armed = now.armed ∙ so_far.armed;
      ready = λ id m area was. now.ready id m area (so_far.ready id m area was);
    }
