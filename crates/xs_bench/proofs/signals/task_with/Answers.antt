-- The lease's area is a task's.
use Rattle.std.proofs.Common.{◌≡◌, ap, ◌∙◌, subst}
use Rattle.std.proofs.lemmas.Option.{same_Some}
use Rattle.xs_base.specs.Compact.{is_compacted}
use Rattle.xs_base.specs.KernelArea.{class_features}
use Rattle.xs_base.proofs.CompactedLemmas.{compacted_is}
use Rattle.xs_pool.specs.Pool.{Pool}
use Rattle.xs_task.specs.TaskArea.{IsTaskArea}
use Rattle.xs_bench.proofs.signals.task_with.Goals as goal

pub returns-clause-whole : goal.returns-clause-whole
returns-clause-whole c =
    let leased = c.in-Ok.ensures in
    let rows : c.in_ok-pool.pool.rows ≡ c.args.layout.now = ap (λ (p : Pool). p.rows) c.in_ok-pool.ensures.opened in
    let area : IsTaskArea c.args.layout.now c.in-Ok.lease = record {
      loadable = rw (leased.class, ← rows) leased.loadable;
      len = rw (leased.class, ← rows) leased.len;
      compact = ap is_compacted leased.names ∙ compacted_is (class_features _ c.args.class);
    } in
    record {
      frame = c.in_ok-task.ensures.frame_len;
      buffer = c.in_ok-task.ensures.buffer_len;
      some = λ none. cc none;
      area = λ lease at. subst (IsTaskArea c.args.layout.now) (same_Some c.in-Ok.lease lease at) area;
    }
