use Rattle.std.proofs.Common.{refl, arith}
use Rattle.xs_base.proofs.LayoutLemmas.{amx_is_layout}
use Rattle.xs_script.proofs.HeadRows.{no_rows}
use Rattle.xs_script.proofs.head.Head.new.Goals as goal

pub returns-clause-head : goal.returns-clause-head
returns-clause-head c = rw (c.amx.ensures, c.new.ensures) record {
  early = refl;
  rows = no_rows;
  layout = amx_is_layout;
  machine = refl;
  cpus = (omega arith, omega arith);
  quantum = (omega arith, omega arith);
  large = omega arith;
}
