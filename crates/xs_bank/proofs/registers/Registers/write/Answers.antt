-- TILEDATA isn't written while it is armed. The register's component counts as changed.
use Rattle.std.proofs.Common.{◌<◌, ◌^◌, ℕ, get_or, sym, ◌∙◌}
use Rattle.xs_bank.specs.Tracking.{shown}
use Rattle.xs_bank.proofs.ChangeLemmas.{ready_changed, change_written}
use Rattle.xs_bank.proofs.RegisterLemmas.{written_registers}
use Rattle.xs_bank.proofs.registers.Registers.write.Goals as goal

pub invariant_of-self : goal.invariant_of-self
invariant_of-self c =
    let small : (i : ℕ) → get_or c.args.lane.now i 0 < 256 = rw c.as_slice.ensures.bytes at c.are_bytes.ensures in
    let none = sym c.write_trap.ensures ∙ c.in_default.is in
    rw c.write.ensures.written (written_registers c.self.inside.file c.self.inside.armed.0 c.args.place c.args.lane.now small c.requires.control none c.self.invariant)

pub returns-clause-ready : goal.returns-clause-ready
returns-clause-ready c = λ id m area ready.
    let file = c.self.inside.file in
    let change = change_written file c.args.place c.args.lane.now in
    rw (c.touch-self-inside.ensures, c.only.ensures, c.write.ensures.written) (ready_changed (2 ^ c.args.place.comp.0) file _ (shown c.self.inside.tracked) id m area change (rw (← c.self.view_is) at ready))
