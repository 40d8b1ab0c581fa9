-- The lease's area is a task's.
use Rattle.std.proofs.Common.{◌∙◌, ap}
use Rattle.xs_base.specs.declared.class.Class.TheVariants.{Small}
use Rattle.xs_base.specs.Compact.{is_compacted}
use Rattle.xs_base.specs.KernelArea.{class_features}
use Rattle.xs_base.proofs.CompactedLemmas.{compacted_is}
use Rattle.xs_board.proofs.opening.user_task.Goals as goal

pub born-requires-clause-area : goal.born-requires-clause-area
born-requires-clause-area c = record {
  loadable = rw (c.in-Ok.ensures.class, ← c.requires.rows) c.in-Ok.ensures.loadable;
  len = rw (c.in-Ok.ensures.class, ← c.requires.rows) c.in-Ok.ensures.len;
  compact = ap is_compacted c.in-Ok.ensures.names ∙ compacted_is (class_features _ Small);
}
