use Rattle.std.proofs.Common.{◌≡◌, ◌∙◌, ℕ, ◌<◌, List, length, get_or, sym, ap, refl, arith}
use Rattle.std.proofs.lemmas.Option.{slice_get_read}
use Rattle.std.proofs.lemmas.List.{get_or_default}
use Rattle.xs_base.specs.declared.component.Features.{Features}
use Rattle.xs_base.specs.declared.component.Row.{Row}
use Rattle.xs_base.specs.Compact.{place}
use Rattle.xs_base.specs.Header.{xcomp_bv}
use Rattle.xs_area.proofs.RoomLemmas.{room_row}
use Rattle.xs_area.proofs.CopyLemmas.{copied_first, copied_written, copied_left, copied_all}
use Rattle.xs_area.proofs.copies.copy_rows.Goals as goal
use Rattle.xs_area.proofs.copies.copy_rows.Goals.{then-has, else-has}

-- both cursors tell the same row
same_row : (rows : List Row) (i : ℕ) (r s : Row) → i < length rows → r ≡ get_or rows i r → s ≡ get_or rows i s → r ≡ s
same_row rows i r s lt is it = is ∙ get_or_default rows i r s lt ∙ sym it

pub each-init : goal.each-init
each-init c = record {
  names_of = c.new-source.ensures.names;
  names_to = ap (λ (n : Features). n.0) c.new-target.ensures.names ∙ c.xcomp_bv.ensures;
  source_is = c.new-source.ensures.before c.args.layout.now;
  target_is = c.new-target.ensures.before c.args.layout.now;
  copied = copied_first c.args.layout.now c.args.from.now c.args.names.0 c.args.copied.0 c.args.to.now;
}

pub copy_row-requires-clause-there : goal.copy_row-requires-clause-there
copy_row-requires-clause-there c =
    let rows = c.args.layout.now in
    let row = c.pass-into.result.0 in
    let lt : c.each.i < length rows = omega arith in
    let same = same_row c.args.layout.now c.each.i c.pass-at.result.0 row lt c.pass-at.ensures.row c.pass-into.ensures.row in
    let at : c.pass-at.result.1 ≡ place rows c.args.names.0 row = c.pass-at.ensures.place ∙ ap (λ (n : Features). place rows n.0 c.pass-at.result.0) c.each.invariant.names_of ∙ ap (place rows c.args.names.0) same in
    let fits = c.requires.places c.each.i row (slice_get_read rows (length rows) c.each.i row refl lt c.pass-into.ensures.row) (sym c.if-has.ensures) in
    omega (arith, at, fits)

pub copy_row-requires-clause-room : goal.copy_row-requires-clause-room
copy_row-requires-clause-room c =
    let rows = c.args.layout.now in
    let row = c.pass-into.result.0 in
    let lt : c.each.i < length rows = omega arith in
    let into : c.pass-into.result.1 ≡ place rows (xcomp_bv c.args.to.now) row = c.pass-into.ensures.place ∙ ap (λ n. place rows n row) c.each.invariant.names_to in
    let fits = room_row rows c.len-i-end.ensures.layout c.args.to.now c.each.i row lt c.pass-into.ensures.row (c.requires.room row.comp.0 (sym c.if-has.ensures)) in
    omega (arith, into, fits, c.each.invariant.copied.len)

pub each-preserved : goal.each-preserved
each-preserved c =
    let rows = c.args.layout.now in
    let table = c.len-i-end.ensures.layout in
    let row = c.pass-into.result.0 in
    let lt : c.each.i < length rows = omega arith in
    let same = same_row c.args.layout.now c.each.i c.pass-at.result.0 row lt c.pass-at.ensures.row c.pass-into.ensures.row in
    let at : c.pass-at.result.1 ≡ place rows c.args.names.0 row = c.pass-at.ensures.place ∙ ap (λ (n : Features). place rows n.0 c.pass-at.result.0) c.each.invariant.names_of ∙ ap (place rows c.args.names.0) same in
    let into : c.pass-into.result.1 ≡ place rows (xcomp_bv c.args.to.now) row = c.pass-into.ensures.place ∙ ap (λ n. place rows n row) c.each.invariant.names_to in
    record {
      names_of = c.pass-at.ensures.names ∙ c.each.invariant.names_of;
      names_to = ap (λ (n : Features). n.0) c.pass-into.ensures.names ∙ c.each.invariant.names_to;
      source_is = c.pass-at.ensures.before;
      target_is = c.pass-into.ensures.before;
      copied = elim c.if-has.branch [
        | then-has w ↦
            rw w.to-is (copied_written rows table c.args.from.now c.args.names.0 c.args.copied.0 c.each.i c.args.to.now c.each.to row lt c.pass-into.ensures.row c.each.invariant.copied w.copy_row.new.to c.pass-at.result.1 c.pass-into.result.1 c.requires.room (sym w.if-has.ensures) at into w.copy_row.ensures)
        | else-has w ↦
            rw w.to-is (copied_left rows table c.args.from.now c.args.names.0 c.args.copied.0 c.each.i c.args.to.now c.each.to row lt c.pass-into.ensures.row c.each.invariant.copied (sym w.if-has.ensures))
      ];
    }

pub returns : goal.returns
returns c =
    copied_all c.args.layout.now c.args.from.now c.args.names.0 c.args.copied.0 c.each.i c.args.to.now c.each.to (omega arith) c.each.invariant.copied
