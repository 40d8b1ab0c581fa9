-- A lease is an area that a task may have.
use Rattle.std.proofs.Common.{◌∙◌, ap}
use Rattle.xs_base.specs.declared.class.Class.TheVariants.{Large}
use Rattle.xs_base.specs.Compact.{is_compacted}
use Rattle.xs_base.specs.KernelArea.{class_features}
use Rattle.xs_base.proofs.CompactedLemmas.{compacted_is}
use Rattle.xs_board.proofs.trapping.use_tiles.Goals as goal

pub grow-old-requires-clause-area : goal.grow-old-requires-clause-area
grow-old-requires-clause-area c =
    let class = c.in-Ok.ensures.class in
    let rows = c.requires.can.rows_are in
    record {
      loadable = rw (← rows, class) c.in-Ok.ensures.loadable;
      len = rw (← rows, class) c.in-Ok.ensures.len;
      compact = ap is_compacted c.in-Ok.ensures.names ∙ compacted_is (class_features _ Large);
    }
