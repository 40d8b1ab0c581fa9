-- One block more.
use Rattle.std.proofs.Common.{ℕ, ◌<◌, ◌+◌, ◌++◌, List, length, drop, sym, ap, ◌∙◌, arith, append_assoc}
use Rattle.std.proofs.lemmas.List.{length-set}
use Rattle.xs_board.specs.Member.{child_if}
use Rattle.xs_board.specs.Putting.{children_in}
use Rattle.xs_board.proofs.Releasing.{behind_released, children_next, one_released, room_next}
use Rattle.xs_board.proofs.putting.free_children.Goals as goal

pub free_child-requires : goal.free_child-requires
free_child-requires c =
    let so_far = c.each.invariant in
    let each = so_far.each in
    let within : c.each.number < length c.each.members.items = omega (arith, each) in
    let next = children_next c.args.parent c.each.number c.each.members.items c.args.members.now.items c.index_mut.result.now within each c.index_mut.ensures.value so_far.rest in
    record { room = room_next c.args.parent c.each.number _ c.each.members.items c.args.members.now.items c.index_mut.result.now c.each.ready.items c.args.ready.now.items next so_far.ready so_far.room }

pub each-preserved : goal.each-preserved
each-preserved c =
    let so_far = c.each.invariant in
    let each = so_far.each in
    let now = c.each.members.items in
    let before = c.args.members.now.items in
    let i = c.each.number in
    let within : i < length now = omega (arith, each) in
    let next = children_next c.args.parent i now before c.index_mut.result.now within each c.index_mut.ensures.value so_far.rest in
    let more = children_in c.args.parent (i + 1) (drop (i + 1) before) in
    record {
      each = length-set now i c.free_child.new.member ∙ each;
      done = one_released c.args.parent i now before c.index_mut.result.now c.free_child.new.member within c.index_mut.ensures.value c.free_child.ensures.member so_far.done so_far.rest;
      rest = behind_released i now before c.free_child.new.member so_far.rest;
      ready = ap (λ (list : List ℕ). list ++ more) c.free_child.ensures.ready ∙ append_assoc c.each.ready.items (child_if c.args.parent i c.index_mut.result.now) more ∙ ap (λ (list : List ℕ). c.each.ready.items ++ list) (sym next) ∙ so_far.ready;
      room = omega (arith, so_far.room, c.free_child.ensures.capacity);
      capacity = c.free_child.ensures.capacity ∙ so_far.capacity;
    }
