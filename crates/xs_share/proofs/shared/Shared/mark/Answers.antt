use Rattle.std.proofs.Common.{rules}
use Rattle.xs_share.proofs.Steps.{can_mark_at}
use Rattle.xs_share.proofs.shared.Shared.mark.Goals as goal

pub store-requires : goal.store-requires
store-requires g c = (search rules, search rules, can_mark_at g.K.Kept.follows _ _ _ _ _ _ (search rules) (search rules))
