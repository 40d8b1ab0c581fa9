-- A load that isn't refused takes a right MXCSR, and no TILEDATA while it is armed.
use Rattle.std.proofs.Common.{◌≡◌, None, sym, ap, ◌∙◌}
use Rattle.xs_bank.specs.Load.{compacted_trap}
use Rattle.xs_bank.proofs.TrapLemmas.{compacted_places}
use Rattle.xs_bank.proofs.RegisterLemmas.{loaded_registers, compacted_goes}
use Rattle.xs_bank.proofs.registers.Registers.load_compacted.Goals as goal

free : (c : goal.After-load-arg-1) → compacted_trap c.self.inside.file.rows c.self.inside.armed.0 c.args.mask.0 c.args.area.now ≡ None
free c = ap (λ rs. compacted_trap rs c.self.inside.armed.0 c.args.mask.0 c.args.area.now) (sym c.layout.ensures.rows) ∙ sym c.compacted_trap.ensures ∙ c.in_default.is

pub load-requires-clause-places : goal.load-requires-clause-places
load-requires-clause-places c =
    compacted_places c.self.inside.file.rows c.self.inside.armed.0 c.args.mask.0 c.args.area.now (free c) (rw (← c.self.view_is) at c.requires.places)

pub invariant_of-self : goal.invariant_of-self
invariant_of-self c =
    let file = c.self.inside.file in
    let armed = c.self.inside.armed.0 in
    let mask = c.args.mask.0 in
    let area = c.args.area.now in
    let none : compacted_trap file.rows armed mask area ≡ None = ap (λ rs. compacted_trap rs armed mask area) (sym c.layout.ensures.rows) ∙ sym c.compacted_trap.ensures ∙ c.in_default.is in
    let control = c.compacted_control-control.ensures in
    let goes = compacted_goes file.rows armed mask area c.mxcsr.result none (rw c.mxcsr.ensures c.self.invariant.control) in
    loaded_registers mask area c.compacted_control-control.result file c.load.new.file armed c.load.ensures (rw control goes.0) goes.1 c.self.invariant
