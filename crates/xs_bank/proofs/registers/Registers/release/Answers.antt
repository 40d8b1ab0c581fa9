-- TILECFG and TILEDATA count as changed.
use Rattle.xs_bank.specs.Tracking.{shown}
use Rattle.xs_bank.proofs.ChangeLemmas.{ready_changed, change_released}
use Rattle.xs_bank.proofs.registers.Registers.release.Goals as goal

pub returns-clause-ready : goal.returns-clause-ready
returns-clause-ready c = λ id m area ready.
    let file = c.self.inside.file in
    rw (c.touch-self-inside.ensures, c.reset-2.ensures.written, c.reset.ensures.written) (ready_changed 0x60000 file _ (shown c.self.inside.tracked) id m area (change_released file) (rw (← c.self.view_is) at ready))
