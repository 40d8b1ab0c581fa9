-- The value fits the register.
use Rattle.xs_machine.proofs.RegisterLemmas.{set_length, set_control}
use Rattle.xs_machine.proofs.registers.write_register.Goals as goal

pub write-requires-clause-len : goal.write-requires-clause-len
write-requires-clause-len g c = rw c.place_in-place.ensures.place (set_length _ _ _ c.requires.known)

pub write-requires-clause-control : goal.write-requires-clause-control
write-requires-clause-control g c = rw c.place_in-place.ensures.place (set_control _ _ _ c.requires.known)
