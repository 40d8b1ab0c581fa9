use Rattle.std.proofs.Common.{◌<◌, length, get_or, ap, arith}
use Rattle.std.proofs.lemmas.List.Edits.{map_over_more}
use Rattle.xs_script.specs.declared.own_child.OwnChild.{OwnChild}
use Rattle.xs_script.specs.Commands.{marked}
use Rattle.xs_script.proofs.own_child.all_marked.Goals as goal

pub children-preserved : goal.children-preserved
children-preserved c =
    let own = c.deref_mut-child-items.result.now in
    let now = c.children.child-items in
    let few : c.children.child-index < length own = omega (arith, c.children.auto.child-items) in
    let here = get_or now c.children.child-index c.child-item.result in
    rw c.mark.ensures (map_over_more (marked c.args.name.now c.args.awaited) own now c.children.child-index here few c.children.invariant (ap (λ (child : OwnChild). get_or now c.children.child-index child) c.child-item.is))
