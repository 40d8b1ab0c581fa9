-- A family has a register of the name, or none so far has one.
use Rattle.xs_base.specs.declared.component.Place.{Place}
use Rattle.xs_base.specs.Register.{Family, IsMember}
use Rattle.xs_regs.specs.Names.{family_of, HasTwoDigits}
use Rattle.xs_regs.proofs.Searching.{any_here, none_more, entry}
use Rattle.xs_regs.proofs.register.find_numbered.Goals as goal

pub find_member-requires : goal.find_member-requires
find_member-requires c = entry HasTwoDigits c.args.entries.now c.each.family-index _ c.requires c.each-test.true

pub returns-in-Some : goal.returns-in-Some
returns-in-Some c = any_here _ family_of c.args.entries.now c.each.family-index _ c.each-test.true c.in-Some.ensures

pub each-preserved : goal.each-preserved
each-preserved c =
    none_more (λ (f : Family). (place : Place) × IsMember c.args.name.now place f) family_of c.args.entries.now c.each.family-index _ c.each-test.true c.each.invariant
    (λ m. c.in_default.ensures m.0 m.1)
