use Rattle.std.proofs.Common.{◌<◌, length, refl, sym, ap, ◌∙◌, arith}
use Rattle.std.proofs.lemmas.Bool.{false≢true}
use Rattle.xs_base.specs.declared.component.Features.{Features}
use Rattle.xs_base.specs.Compact.{place}
use Rattle.xs_base.specs.Sets.{has}
use Rattle.xs_area.proofs.RoomLemmas.{room_test}
use Rattle.xs_area.proofs.ReadableLemmas.{room_first, room_more, room_missing, room_all}
use Rattle.xs_area.proofs.readable.has_rows.Goals as goal
use Rattle.xs_area.proofs.readable.has_rows.Goals.{else-has-via-then-has+else-not-has_room, else-has-via-else-has}

pub each-init : goal.each-init
each-init c = record {
  names = ap (λ (n : Features). n.0) c.new-cursor.ensures.names ∙ c.xcomp_bv.ensures;
  before = c.new-cursor.ensures.before c.args.layout.now;
  room = room_first c.args.layout.now c.args.bytes.now;
}

pub returns-then-not-has_room-clause-rows : goal.returns-then-not-has_room-clause-rows
returns-then-not-has_room-clause-rows c =
    let rows = c.args.layout.now in
    let row = c.pass-at.result.0 in
    let lt : c.each.i < length rows = omega arith in
    let named = ap (λ x. has x row.comp.0) (sym c.xstate_bv.ensures) ∙ sym c.if-has.ensures in
    let placed = c.pass-at.ensures.place ∙ ap (λ n. place rows n row) (c.each.invariant.names ∙ sym c.xcomp_bv.ensures) in
    let room = room_test rows c.len-i-end.ensures.layout c.args.bytes.now c.each.i row c.xcomp_bv.result c.pass-at.result.1 lt c.pass-at.ensures.row c.xcomp_bv.ensures placed in (
      λ no. absurd (false≢true no),
      λ all. absurd (room_missing rows c.args.bytes.now c.each.i row lt c.pass-at.ensures.row named (sym room ∙ sym c.if-not-has_room.ensures) all),
    )

pub each-preserved : goal.each-preserved
each-preserved c =
    let rows = c.args.layout.now in
    let row = c.pass-at.result.0 in
    let lt : c.each.i < length rows = omega arith in
    let placed = c.pass-at.ensures.place ∙ ap (λ n. place rows n row) (c.each.invariant.names ∙ sym c.xcomp_bv.ensures) in
    let room = room_test rows c.len-i-end.ensures.layout c.args.bytes.now c.each.i row c.xcomp_bv.result c.pass-at.result.1 lt c.pass-at.ensures.row c.xcomp_bv.ensures placed in
    record {
      names = ap (λ (n : Features). n.0) c.pass-at.ensures.names ∙ c.each.invariant.names;
      before = c.pass-at.ensures.before;
      room =
          room_more rows c.args.bytes.now c.each.i row c.pass-at.ensures.row
          (elim c.else-has.branch [
            | else-has-via-then-has+else-not-has_room w ↦ λ named. sym room ∙ sym w.if-not-has_room.ensures
            | else-has-via-else-has w ↦ λ named. absurd (false≢true (w.if-has.ensures ∙ ap (λ x. has x row.comp.0) c.xstate_bv.ensures ∙ named))
          ]) c.each.invariant.room;
    }

pub returns-clause-rows : goal.returns-clause-rows
returns-clause-rows c = (λ yes. room_all c.args.layout.now c.args.bytes.now c.each.i (omega arith) c.each.invariant.room, λ all. refl)
