-- The deeds that reach the registers of a stopped child.
use Rattle.std.proofs.Common.{◌≡◌, refl, sym, ap, ◌∙◌, subst}
use Rattle.std.specs.Prelude.{Option, Some}
use Rattle.xs_board.specs.declared.deed.Deed.{Deed}
use Rattle.xs_board.specs.declared.deed.Deed.TheVariants.{Get, Put}
use Rattle.xs_board.specs.Deed.{CanDo, IfDeed, IsDoneBy}
use Rattle.xs_board.proofs.doing.perform.Goals as goal

pub get_registers-requires-clause-reached : goal.get_registers-requires-clause-reached
get_registers-requires-clause-reached c =
    let deed : c.args.deed ≡ Some (Get c.in-Get.target c.in-Get.set) = c.in-Some.is ∙ ap Some c.in-Get.is in
    let can = subst (λ (d : Option Deed). IfDeed d (CanDo c.args.layout.now c.args.tasks.now.items c.args.members.now.items c.args.task.now)) deed c.requires.can in
    rw (c.as_slice-in-Get.ensures.value, c.as_slice.ensures.value) can.1

pub put_registers-requires-clause-reached : goal.put_registers-requires-clause-reached
put_registers-requires-clause-reached c =
    let deed : c.args.deed ≡ Some (Put c.in-Put.target c.in-Put.set c.in-Put.count) = c.in-Some.is ∙ ap Some c.in-Put.is in
    let can = subst (λ (d : Option Deed). IfDeed d (CanDo c.args.layout.now c.args.tasks.now.items c.args.members.now.items c.args.task.now)) deed c.requires.can in
    rw c.as_slice-in-Put.ensures.value can.1

pub returns-in-Get-clause-done : goal.returns-in-Get-clause-done
returns-in-Get-clause-done c =
    let deed : c.args.deed ≡ Some (Get c.in-Get.target c.in-Get.set) = c.in-Some.is ∙ ap Some c.in-Get.is in
    let read = rw (c.as_slice-in-Get.ensures.value, c.as_slice.ensures.value) at c.get_registers.ensures in
    subst (λ (d : Option Deed). IsDoneBy c.args.layout.now c.args.members.now.items c.args.task.now.name d c.get_registers.result c.args.tasks.now.items c.args.tasks.now.items c.args.task.now c.get_registers.new.task) (sym deed)
    (refl, read)

pub returns-in-Put-clause-done : goal.returns-in-Put-clause-done
returns-in-Put-clause-done c =
    let deed : c.args.deed ≡ Some (Put c.in-Put.target c.in-Put.set c.in-Put.count) = c.in-Some.is ∙ ap Some c.in-Put.is in
    let wrote = rw (c.as_slice-in-Put.ensures.value, c.deref.ensures.value) at c.put_registers.ensures in
    subst (λ (d : Option Deed). IsDoneBy c.args.layout.now c.args.members.now.items c.args.task.now.name d c.put_registers.result c.args.tasks.now.items c.put_registers.new.tasks.items c.args.task.now c.args.task.now) (sym deed)
    (refl, wrote)
