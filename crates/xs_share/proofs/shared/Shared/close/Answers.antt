use Rattle.std.proofs.Common.{rules, arith, ◌≡◌, ℕ, ◌+◌, [], ◌∷◌, ◌++◌, length, length-append, sym, ap, subst, ◌∙◌, Option, Some}
use Rattle.std.specs.Prelude.{is_some}
use Rattle.atomic_table.specs.Table.{Me}
use Rattle.xs_share.specs.Rule.{carried, without_pass}
use Rattle.xs_share.specs.Passes.{view, opened, EachPass}
use Rattle.atomic_table.specs.declared.shared.Seat.{Seat}
use Rattle.xs_share.specs.declared.rule.View.{View}
use Rattle.xs_share.proofs.Keeper.{can_take_back}
use Rattle.xs_share.proofs.Loops.{last_is_idle, takes_one_back, comes_home}
use Rattle.xs_share.proofs.shared.Shared.close.Goals as goal

pub join_seat-requires : goal.join_seat-requires
join_seat-requires g c = let now = c.loop-slot.invariant in let p = c.unwrap-pass.result in let seat = c.into_seat.ensures in
    let parts : c.loop-slot.list.items ≡ c.pop.new.self.items ++ Some p ∷ [] = search rules in
    let idle = last_is_idle _ _ _ _ p _ now parts c.requires.idle in
    let one_less : length c.loop-slot.list.items ≡ length c.pop.new.self.items + 1 = ap length parts ∙ length-append c.pop.new.self.items (Some p ∷ []) in (
      now.table ∙ c.requires.all.table,
      ap (λ s. s.table_id) seat ∙ idle.home,
      ap (λ s. s.me.1) seat ∙ (p.hand ∙ ap carried idle.turn),
      search (rules, arith),
      can_take_back g.K.Kept.follows g.K.Kept.blank _ _ _ _ now.keeps.0 now.keeps.1 (ap (λ s. s.me.0.works) seat ∙ p.seated.2) (ap (λ s. s.me.0.turn) seat ∙ idle.turn)
          (ap (λ s. s.me.0.number + 1) seat ∙ (ap (λ (n : ℕ). n + 1) idle.number ∙ (sym one_less ∙ sym now.counts.1))),
    )

pub loop-slot-preserved : goal.loop-slot-preserved
loop-slot-preserved g c = let now = c.loop-slot.invariant in let p = c.unwrap-pass.result in let seat = c.into_seat.ensures in
    let parts : c.loop-slot.list.items ≡ c.pop.new.self.items ++ Some p ∷ [] = search rules in
    let idle = last_is_idle _ _ _ _ p _ now parts c.requires.idle in
    takes_one_back _ _ _ _ _ p now parts idle.number c.join_seat.ensures.0
    (c.join_seat.ensures.2 ∙ ap (λ (s : Seat (Option g.row.K.Denot) (View g.row.K.Denot)). let me : Me (Option g.row.K.Denot) (View g.row.K.Denot) = (without_pass c.loop-slot.keeper.me.0 s.me.0, c.loop-slot.keeper.me.1) in me) seat)

pub unwrap-kept-requires : goal.unwrap-kept-requires
unwrap-kept-requires g c = let empty : length c.loop-slot.list.items ≡ 0 = search rules in
    let home = comes_home g.K.Kept.follows _ c.args.passes _ _ _ _ c.take.result c.requires.all c.loop-slot.invariant empty c.close_with-closed.ensures.values.2 c.take.ensures.value in ap is_some home.1

pub returns-clause-passes : goal.returns-clause-passes
returns-clause-passes g c = let empty : length c.loop-slot.list.items ≡ 0 = search rules in
    let home = comes_home g.K.Kept.follows _ c.args.passes _ _ _ _ c.take.result c.requires.all c.loop-slot.invariant empty c.close_with-closed.ensures.values.2 c.take.ensures.value in
    let is : Some c.unwrap-kept.result ≡ Some home.0 = search rules in let same : home.0 ≡ c.unwrap-kept.result = cc is in
    subst (λ k. EachPass (λ c' p. g.K.Kept.follows c' (view p).last k) c.args.passes.list.items) same home.2

pub returns-clause-opened : goal.returns-clause-opened
returns-clause-opened g c = let empty : length c.loop-slot.list.items ≡ 0 = search rules in
    let home = comes_home g.K.Kept.follows _ c.args.passes _ _ _ _ c.take.result c.requires.all c.loop-slot.invariant empty c.close_with-closed.ensures.values.2 c.take.ensures.value in
    let is : Some c.unwrap-kept.result ≡ Some home.0 = search rules in let same : home.0 ≡ c.unwrap-kept.result = cc is in
    λ c' high. subst (λ k. g.K.Kept.follows c' (opened c.args.passes) k) same (home.3 c' high)
