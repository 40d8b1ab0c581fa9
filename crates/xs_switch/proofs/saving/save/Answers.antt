-- A task's area has room, and can be loaded again.
use Rattle.std.proofs.Common.{ap, sym, refl, ◌∙◌}
use Rattle.xs_base.specs.Compact.{compacted}
use Rattle.xs_bank.specs.Save.{IsInitialOutside}
use Rattle.xs_base.proofs.ClassLemmas.{class_sse}
use Rattle.xs_switch.proofs.AreaLemmas.{table, names, initial_outside, loadable_save, saved_area}
use Rattle.xs_switch.proofs.saving.save.Goals as goal

pub returns-clause-area : goal.returns-clause-area
returns-clause-area g c =
    let rows = c.args.layout.now in
    let lease = c.args.lease.now in
    let old = g.B.Bank.state c.args.bank.now in
    let save = loadable_save rows lease old.file old.armed c.class_features-mask.result.0 c.requires.area c.requires.machine c.requires.armed c.loads.ensures.registers c.class_features-mask.ensures.bits in
    saved_area rows lease (record { class = lease.class; area = c.xsaves.new.area }) c.requires.area refl
    (rw (c.requires.machine) at c.xsaves.ensures.loadable lease.class save)
    (c.xsaves.ensures.area.saved.names ∙ ap compacted c.class_features-mask.ensures.bits ∙ sym (names rows lease c.requires.area))
    c.xsaves.ensures.area.saved.bytes.len

pub returns-clause-stands : goal.returns-clause-stands
returns-clause-stands g c =
    let rows = c.args.layout.now in
    let lease = c.args.lease.now in
    let old = g.B.Bank.state c.args.bank.now in
    let mask = c.class_features-mask.result.0 in
    let bits = c.class_features-mask.ensures.bits in
    let area = c.requires.area in
    let sse = class_sse rows lease.class mask (table rows lease area) bits in
    let outside : IsInitialOutside mask old.file = rw bits (initial_outside rows lease.class old.file old.armed (table rows lease area) c.requires.machine c.requires.armed c.loads.ensures.registers) in
    let whole = c.xsaves.ensures.whole sse outside in
    rw (c.requires.machine) at whole

pub returns-clause-ready : goal.returns-clause-ready
returns-clause-ready g c = rw (c.class_features-mask.ensures.bits) at c.xsaves.ensures.ready
