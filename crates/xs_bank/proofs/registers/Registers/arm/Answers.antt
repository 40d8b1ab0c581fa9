-- What is armed is initial, and counts as changed.
use Rattle.xs_bank.specs.Tracking.{shown}
use Rattle.xs_bank.proofs.ChangeLemmas.{ready_changed, change_disarmed}
use Rattle.xs_bank.proofs.RegisterLemmas.{armed_registers}
use Rattle.xs_bank.proofs.registers.Registers.arm.Goals as goal

pub invariant_of-self : goal.invariant_of-self
invariant_of-self c =
    rw c.disarm.ensures (armed_registers c.self.inside.file c.args.armed.0 c.layout.ensures.file c.self.invariant.control (rw (← c.self.view_is) at c.requires))

pub returns-clause-ready : goal.returns-clause-ready
returns-clause-ready c = λ id m area ready.
    let file = c.self.inside.file in
    rw (c.touch-self-inside.ensures, c.disarm.ensures) (ready_changed c.args.armed.0 file _ (shown c.self.inside.tracked) id m area (change_disarmed file c.args.armed.0) (rw (← c.self.view_is) at ready))
