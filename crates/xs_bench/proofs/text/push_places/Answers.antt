use Rattle.std.proofs.Common.{arith}
use Rattle.xs_base.proofs.LayoutLemmas.{has_row_at}
use Rattle.xs_bench.proofs.text.push_places.Goals as goal

pub push_place-requires : goal.push_place-requires
push_place-requires c = has_row_at c.layout-layout.result c.each.i c.row_at.result (omega arith) c.row_at.ensures.at
