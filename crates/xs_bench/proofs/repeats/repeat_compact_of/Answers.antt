use Rattle.std.proofs.Common.{◌≤◌, ◌+◌, true, bit_or, refl, sym, ap, ◌∙◌, arith}
use Rattle.std.proofs.lemmas.Option.{slice_get_within, get_or_from_slice_get}
use Rattle.xs_base.specs.Header.{xstate_bv}
use Rattle.xs_base.specs.Layout.{full_size}
use Rattle.xs_base.specs.Sets.{has}
use Rattle.xs_base.proofs.SizeLemmas.{end_covers}
use Rattle.xs_bench.proofs.Changes.{room_of_parts, taken_on}
use Rattle.xs_bench.proofs.repeats.repeat_compact_of.Goals as goal

pub turns-init : goal.turns-init
turns-init c =
    let rows = c.args.layout.now in
    let area = c.args.area.now.bytes.items in
    let bits = c.xstate_bv.ensures ∙ ap xstate_bv c.deref.ensures.value in
    let room = c.stands.ensures.room c.if-not-stands.false in
    record {
      whole = omega (arith, c.full_size.ensures.size);
      long = omega arith;
      sse = room 1 (ap (λ x. has x 1) (sym bits) ∙ sym c.if-not-has.ensures);
      room = room_of_parts rows area (xstate_bv area) c.in_ok-parts.parts.bits.0 (c.if-parts-bits.false ∙ ap (λ x. bit_or x 512) bits) room;
    }

pub compact_of-requires-clause-places : goal.compact_of-requires-clause-places
compact_of-requires-clause-places c i r row named =
    let rows = c.args.layout.now in
    let ends : r.offset + r.size ≤ full_size rows = end_covers (λ _. true) rows i r (slice_get_within rows i r row) (sym (get_or_from_slice_get rows i r r row)) refl in
    omega (arith, ends, c.turns.invariant.whole, c.change.ensures.len)

pub turns-preserved : goal.turns-preserved
turns-preserved c =
    taken_on c.args.layout.now c.turns.image c.change.new.bytes c.in_ok-parts.parts c.turns.area.bytes.items c.compact_of.new.area.bytes.items c.turns.invariant c.change.ensures.len c.compact_of.ensures.form
