use Rattle.std.proofs.Common.{rules, ap}
use Rattle.xs_share.proofs.Steps.{can_give}
use Rattle.xs_share.proofs.shared.Shared.give_turn.Goals as goal

pub store-requires : goal.store-requires
store-requires g c = (search rules, search rules, can_give g.K.Kept.follows g.K.Kept.follows_same g.K.Kept.next g.K.Kept.follows_next _ _ _ c.args.kept _ (search rules) (search rules) (search rules) (search rules))

pub invariant_of-pass : goal.invariant_of-pass
invariant_of-pass g c =
    let now = c.store.ensures.2 c.args.kept (search rules) in
    let known = ap (λ m. m.0) now in
    let hand = ap (λ m. m.1) now in
    search rules

pub returns-clause-pass : goal.returns-clause-pass
returns-clause-pass g c = ap (λ m. m.0) (c.store.ensures.2 c.args.kept (search rules))
