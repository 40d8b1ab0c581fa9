use Rattle.std.proofs.Common.{rules, arith}
use Rattle.xs_share.proofs.Keeper.{begins_as, can_make}
use Rattle.xs_share.proofs.shared.Shared.open.Goals as goal

pub new-requires : goal.new-requires
new-requires g c = begins_as g.K.Kept.follows g.K.Kept.follows_same c.args.kept _ _ (search rules) (search rules)

pub split_seat-seat-requires : goal.split_seat-seat-requires
split_seat-seat-requires g c = let made = c.loop-cpu.invariant.0 in let so_many = c.loop-cpu.invariant.1 in let few = c.requires.1 in
    (search rules, search (rules, arith), can_make g.K.Kept.follows _ _ made.keeps.0 made.keeps.1 (search rules) made.none_ended (search (rules, arith)))
