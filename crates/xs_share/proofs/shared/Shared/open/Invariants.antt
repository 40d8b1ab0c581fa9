use Rattle.std.proofs.Common.{◌≡◌, length}
use Rattle.xs_share.proofs.Loops.{HasMade}
use Rattle.xs_share.proofs.shared.Shared.open.Given as goal

abbrev pub invariant-loop-cpu : goal.invariant-loop-cpu
invariant-loop-cpu g l = HasMade l.initial.keeper.table_id l.fn.kept l.list.items l.keeper × (length l.list.items ≡ l.cpu)
