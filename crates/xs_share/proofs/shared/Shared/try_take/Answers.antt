use Rattle.std.proofs.Common.{rules, arith, ◌∷◌, Some, sym, ap, ◌∙◌}
use Rattle.atomic_table.specs.Table.{rest}
use Rattle.xs_share.proofs.Steps.{can_take_by}
use Rattle.xs_share.proofs.shared.Shared.try_take.Goals as goal

pub compare_exchange-found-requires : goal.compare_exchange-found-requires
compare_exchange-found-requires g c = (search rules, search rules, can_take_by g.K.Kept.follows g.K.Kept.follows_same _ _ _ _ _ (search (rules, arith)) (search rules))

pub slot_mut-requires : goal.slot_mut-requires
slot_mut-requires g c = let found = c.compare_exchange-found.ensures.2.0 (search rules) in let hand = ap (λ m. m.1) found.1 in
    (search rules, (Some found.0, hand ∙ ap (λ cs. (0, Some found.0) ∷ rest cs) (sym hand)))
