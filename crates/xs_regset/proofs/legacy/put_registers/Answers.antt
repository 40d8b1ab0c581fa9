-- The four writes.
use Rattle.std.proofs.Common.{◌≡◌, ℕ, ◌∙◌, ◌||◌, ◌==◌, arith}
use Rattle.std.proofs.lemmas.List.Edits.{length-between}
use Rattle.xs_base.specs.Header.{xstate_bv}
use Rattle.xs_base.specs.Sets.{has}
use Rattle.xs_base.proofs.ComponentLemmas.{x87_size, sse_size}
use Rattle.xs_regset.proofs.LegacyLemmas.{bit_order, legacy_put}
use Rattle.xs_regset.proofs.legacy.put_registers.Goals as goal

pub slice_bounds-put_component-end : goal.slice_bounds-put_component-end
slice_bounds-put_component-end c = omega (arith, c.requires.count)

pub put_component-requires-clause-size : goal.put_component-requires-clause-size
put_component-requires-clause-size c = let ranged = length-between c.args.bytes.now 0 160 (omega (arith, c.requires.count)) in omega (arith, ranged, x87_size)

pub put_component-requires-clause-within : goal.put_component-requires-clause-within
put_component-requires-clause-within c = let ranged = length-between c.args.bytes.now 0 160 (omega (arith, c.requires.count)) in omega (arith, ranged, c.requires.header)

pub put_component-requires-2-clause-size : goal.put_component-requires-2-clause-size
put_component-requires-2-clause-size c = let ranged = length-between c.args.bytes.now 160 416 (omega (arith, c.requires.count)) in omega (arith, ranged, sse_size)

pub returns : goal.returns
returns c =
    let bits : (d : ℕ) → has c.with-bits.result.0 d ≡ (has (xstate_bv c.args.area.now) d || (d == 0) || (d == 1)) = λ d. rw (c.with.ensures d, c.xstate_bv.ensures) at (c.with-bits.ensures d) ∙ bit_order (has (xstate_bv c.args.area.now) d) (d == 0) (d == 1) in
    rw (c.put_number.ensures.written, c.put_control.ensures.written)
    (legacy_put c.args.bytes.now c.args.area.now c.put_component.new.out c.put_component-2.new.out c.args.control c.with-bits.result.0 c.requires.header c.requires.count c.put_component.ensures c.put_component-2.ensures c.put_number.ensures.small (omega arith) bits)
