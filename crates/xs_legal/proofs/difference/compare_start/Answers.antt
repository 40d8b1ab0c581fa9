use Rattle.std.proofs.Common.{arith}
use Rattle.xs_legal.proofs.Alike.{start_same}
use Rattle.xs_legal.proofs.difference.compare_start.Goals as goal

pub returns : goal.returns
returns c = grind (arith, start_same c.args.event.now c.args.right.now c.args.how c.args.signal)
