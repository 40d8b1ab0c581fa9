use Rattle.std.proofs.Common.{◌≡◌, ◌∙◌, ◌+◌, ◌<◌, ◌≤◌, length, refl, sym, ap, arith}
use Rattle.std.proofs.lemmas.Option.{slice_get_read}
use Rattle.xs_base.specs.declared.component.Features.{Features}
use Rattle.xs_base.specs.Compact.{place}
use Rattle.xs_base.specs.Header.{xcomp_bv}
use Rattle.xs_base.specs.Layout.{standard_size}
use Rattle.xs_base.specs.Sets.{has}
use Rattle.xs_base.proofs.SizeLemmas.{end_covers, end_low}
use Rattle.xs_area.proofs.StoredLemmas.{stored_first, stored_written, stored_left, stored_all}
use Rattle.xs_area.proofs.standard.put_components.Goals as goal
use Rattle.xs_area.proofs.standard.put_components.Goals.{then-has, else-has}

pub each-init : goal.each-init
each-init c = record {
  names = ap (λ (n : Features). n.0) c.new-cursor.ensures.names ∙ c.xcomp_bv.ensures;
  before = c.new-cursor.ensures.before c.args.layout.now;
  stored = stored_first c.args.layout.now c.args.area.now c.args.pkru c.args.mask.0 c.args.out.now;
}

pub put_stored-requires-clause-inside : goal.put_stored-requires-clause-inside
put_stored-requires-clause-inside c present =
    let rows = c.args.layout.now in
    let row = c.pass-at.result.0 in
    let lt : c.each.i < length rows = omega arith in
    let placed : c.pass-at.result.1 ≡ place rows (xcomp_bv c.args.area.now) row = c.pass-at.ensures.place ∙ ap (λ n. place rows n row) c.each.invariant.names in
    let fits = c.requires.places c.each.i row (slice_get_read rows (length rows) c.each.i row refl lt c.pass-at.ensures.row) (ap (λ x. has x row.comp.0) (sym c.xstate_bv.ensures) ∙ present) in
    omega (arith, placed, fits)

pub put_stored-requires-clause-room : goal.put_stored-requires-clause-room
put_stored-requires-clause-room c =
    let row = c.pass-at.result.0 in
    let ends : row.offset + row.size ≤ standard_size c.args.layout.now c.args.mask.0 = end_covers (has c.args.mask.0) c.args.layout.now c.each.i row (omega arith) c.pass-at.ensures.row (sym c.if-has.ensures) in
    omega (arith, ends, c.requires.room, c.each.invariant.stored.len)

pub put_stored-requires-clause-legacy : goal.put_stored-requires-clause-legacy
put_stored-requires-clause-legacy c = omega (arith, end_low (has c.args.mask.0) c.args.layout.now, c.requires.room, c.each.invariant.stored.len)

pub each-preserved : goal.each-preserved
each-preserved c =
    let rows = c.args.layout.now in
    let table = c.len-i-end.ensures.layout in
    let row = c.pass-at.result.0 in
    let lt : c.each.i < length rows = omega arith in
    let placed : c.pass-at.result.1 ≡ place rows (xcomp_bv c.args.area.now) row = c.pass-at.ensures.place ∙ ap (λ n. place rows n row) c.each.invariant.names in
    record {
      names = ap (λ (n : Features). n.0) c.pass-at.ensures.names ∙ c.each.invariant.names;
      before = c.pass-at.ensures.before;
      stored = elim c.if-has.branch [
        | then-has w ↦
            let written = rw c.xstate_bv.ensures at w.put_stored.ensures in
            rw w.out-is (stored_written rows table c.args.area.now c.args.pkru c.args.mask.0 c.each.i c.args.out.now c.each.out row lt c.pass-at.ensures.row c.each.invariant.stored w.put_stored.new.out c.pass-at.result.1 (sym w.if-has.ensures) placed written)
        | else-has w ↦
            rw w.out-is (stored_left rows table c.args.area.now c.args.pkru c.args.mask.0 c.each.i c.args.out.now c.each.out row lt c.pass-at.ensures.row c.each.invariant.stored (sym w.if-has.ensures))
      ];
    }

pub returns-clause-each : goal.returns-clause-each
returns-clause-each c =
    stored_all c.args.layout.now c.args.area.now c.args.pkru c.args.mask.0 c.each.i c.args.out.now c.each.out (omega arith) c.each.invariant.stored
