-- PKRU counts as changed.
use Rattle.std.proofs.Common.{◌++◌, refl}
use Rattle.std.specs.Int.{to_le_bytes, w32}
use Rattle.xs_base.specs.Bytes.{zeros}
use Rattle.xs_bank.specs.Tracking.{shown}
use Rattle.xs_bank.proofs.ChangeLemmas.{ready_changed, change_part}
use Rattle.xs_bank.proofs.registers.Registers.set_pkru.Goals as goal

pub returns-clause-ready : goal.returns-clause-ready
returns-clause-ready c = λ id m area ready.
    let file = c.self.inside.file in
    rw (c.touch-self-inside.ensures, c.set_pkru.ensures) (ready_changed 0x200 file _ (shown c.self.inside.tracked) id m area (change_part file 9 (to_le_bytes w32 c.args.value ++ zeros 4) 0x200 refl) (rw (← c.self.view_is) at ready))
