-- PKRU's component is that of its number.
use Rattle.xs_bank.proofs.PkruLemmas.{own_pkru}
use Rattle.xs_bank.proofs.registers.Registers.pkru.Goals as goal

pub returns-clause-kept : goal.returns-clause-kept
returns-clause-kept c =
    own_pkru c.args.self.now.file c.pkru.result (rw (← c.self.view_is) c.layout.ensures.file) (rw (← c.self.view_is, ← c.part.ensures.bytes) c.are_bytes.ensures) (rw (← c.self.view_is) c.pkru.ensures)
