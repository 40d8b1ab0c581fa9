-- The task in its Large area.
use Rattle.std.proofs.Common.{◌≡◌, ◌∙◌, refl, Some}
use Rattle.xs_tile.proofs.GrowLemmas.{whole_cut, grown_parked, grown_after}
use Rattle.xs_tile.proofs.growing.grow.Goals as goal

pub returns-clause-parked : goal.returns-clause-parked
returns-clause-parked c = λ p parked.
    let rows = c.args.layout.now in
    let old = c.in-Some.old in
    let is : c.args.task.now.lease ≡ Some old = cc (c.in-Some.is, c.take.ensures.value) in
    let good = parked.valid.file.is_file in
    let table = rw (parked.valid.file.rows_are) at good.layout in
    let stands = c.copy_lease.ensures.stands p.file p.file good good (parked.stands old is) (whole_cut rows c.args.lease.class p.file table c.requires.large) in
    grown_parked rows c.args.task.now _ old c.copy_lease.new.to p (c.requires.task.area old is) (c.copy_lease.ensures.class ∙ c.requires.large) parked is refl stands (rw (← c.copy_lease.ensures.class) at c.copy_lease.ensures.marks)

pub returns-clause-after_turn : goal.returns-clause-after_turn
returns-clause-after_turn c = λ p parked after. grown_after c.args.layout.now _ p (returns-clause-parked c p parked) after (c.growth_keeps_the_marks.ensures c.args.layout.now p parked.valid)
