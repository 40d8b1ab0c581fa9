-- Registers that the bank still has are ready for a save.
use Rattle.std.proofs.Common.{refl}
use Rattle.xs_base.specs.KernelArea.{class_features}
use Rattle.xs_switch.proofs.AreaLemmas.{table, no_pkru}
use Rattle.xs_switch.proofs.taking.take_registers.Goals as goal

pub returns-in-Skip-clause-ready : goal.returns-in-Skip-clause-ready
returns-in-Skip-clause-ready g c = λ file good stands in_bank.
    let rows = c.args.layout.now in
    let lease = c.args.lease.now in
    c.an_area_of_the_registers_is_ready.ensures (g.B.Bank.state c.args.bank.now) file lease.area.id (class_features rows lease.class) lease.area.bytes.items
    (rw (c.requires.machine) stands) (in_bank c.in-Skip.is).same (no_pkru rows lease.class (class_features rows lease.class) (table rows lease c.requires.area) refl)
