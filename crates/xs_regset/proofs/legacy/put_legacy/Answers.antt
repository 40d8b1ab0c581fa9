-- The area with the registers of the set.
use Rattle.std.proofs.Common.{refl, arith}
use Rattle.std.proofs.lemmas.List.{with_items_is}
use Rattle.xs_regset.proofs.LegacyLemmas.{legacy_stands, legacy_marks, legacy_area}
use Rattle.xs_regset.proofs.legacy.put_legacy.Goals as goal

pub returns-clause-area : goal.returns-clause-area
returns-clause-area c =
    let old = c.args.lease.now.area.bytes in
    let was_put = rw (c.deref_mut.ensures.value) at c.put_registers.ensures in
    let are = with_items_is old c.put_registers.new.area (omega (arith, was_put.form.len, old.ok.0)) in
    legacy_area c.args.layout.now c.args.lease.now c.requires.area c.args.bytes.now c.put_registers.new.area c.args.control was_put _ refl refl are c.requires.control c.requires.small

pub returns-clause-stands : goal.returns-clause-stands
returns-clause-stands c = λ file good stands.
    let old = c.args.lease.now.area.bytes in
    let was_put = rw (c.deref_mut.ensures.value) at c.put_registers.ensures in
    let are = with_items_is old c.put_registers.new.area (omega (arith, was_put.form.len, old.ok.0)) in
    rw are (legacy_stands c.args.layout.now c.args.lease.now c.requires.area c.args.bytes.now c.put_registers.new.area c.args.control was_put file good stands c.requires.control)

pub returns-clause-marks : goal.returns-clause-marks
returns-clause-marks c = λ k.
    let old = c.args.lease.now.area.bytes in
    let was_put = rw (c.deref_mut.ensures.value) at c.put_registers.ensures in
    let are = with_items_is old c.put_registers.new.area (omega (arith, was_put.form.len, old.ok.0)) in
    rw are (legacy_marks c.args.layout.now c.args.lease.now c.requires.area c.args.bytes.now c.put_registers.new.area c.args.control was_put k)
