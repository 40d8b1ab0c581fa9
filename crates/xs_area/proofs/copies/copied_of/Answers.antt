use Rattle.std.proofs.Common.{◌<◌, ◌&&◌, ◌==◌, not, length, sym, ap, ◌∙◌, arith}
use Rattle.xs_base.specs.declared.component.Features.{Features}
use Rattle.xs_base.specs.Compact.{place}
use Rattle.xs_base.specs.Sets.{has}
use Rattle.xs_area.proofs.RoomLemmas.{chosen_first, chosen_more, chosen_all, room_test}
use Rattle.xs_area.proofs.copies.copied_of.Goals as goal

pub each-init : goal.each-init
each-init c = record {
  names = ap (λ (n : Features). n.0) c.new-cursor.ensures.names ∙ c.xcomp_bv.ensures;
  before = c.new-cursor.ensures.before c.args.layout.now;
  chosen = chosen_first c.args.layout.now c.args.to.now c.args.set.0;
}

pub each-preserved : goal.each-preserved
each-preserved c =
    let rows = c.args.layout.now in
    let row = c.pass-at.result.0 in
    let lt : c.each.i < length rows = omega arith in
    let placed = c.pass-at.ensures.place ∙ ap (λ n. place rows n row) (c.each.invariant.names ∙ sym c.xcomp_bv.ensures) in
    let room = c.has_room-room.ensures ∙ room_test rows c.len-i-end.ensures.layout c.args.to.now c.each.i row c.xcomp_bv.result c.pass-at.result.1 lt c.pass-at.ensures.row c.xcomp_bv.ensures placed in
    let wants = c.is_copied.ensures ∙ ap (λ b. has c.args.set.0 row.comp.0 && not (row.comp.0 == 9) && b) room in
    record {
      names = ap (λ (n : Features). n.0) c.pass-at.ensures.names ∙ c.each.invariant.names;
      before = c.pass-at.ensures.before;
      chosen = chosen_more rows c.len-i-end.ensures.layout c.args.to.now c.args.set.0 c.each.i c.each.copied.0 c.with-copied.result.0 row c.is_copied.result lt c.pass-at.ensures.row c.each.invariant.chosen wants c.with-copied.ensures;
    }

pub returns-clause-copied : goal.returns-clause-copied
returns-clause-copied c =
    chosen_all c.args.layout.now c.len-i-end.ensures.layout c.args.to.now c.args.set.0 c.each.i c.each.copied.0 (omega arith) c.each.invariant.chosen
