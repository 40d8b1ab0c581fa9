-- The area was ready after the load, and the writes keep it so.
use Rattle.std.proofs.Common.{◌∙◌}
use Rattle.xs_base.specs.KernelArea.{class_features}
use Rattle.xs_bench.proofs.signals.enter.Goals as goal

pub returns-clause-ready : goal.returns-clause-ready
returns-clause-ready g c = λ off lease at.
    let was = c.resume.ensures.ready off lease at in
    record {
      armed = c.fill.ensures.armed ∙ was.armed;
      ready = c.fill.ensures.ready lease.area.id (class_features c.resume.new.cpu.layout lease.class) lease.area.bytes.items was.ready;
    }
