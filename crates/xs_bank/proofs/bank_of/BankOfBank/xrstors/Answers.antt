-- What can be loaded is accepted, and what was loaded is the area's.
use Rattle.std.proofs.lemmas.Result.{err_from_is_err_and}
use Rattle.xs_bank.proofs.WholeLemmas.{compacted_stopped, compacted_whole, compacted_ready}
use Rattle.xs_bank.proofs.bank_of.BankOfBank.xrstors.Goals as goal

pub returns-in_err-load_compacted-clause-accepted : goal.returns-in_err-load_compacted-clause-accepted
returns-in_err-load_compacted-clause-accepted g c =
    let error = err_from_is_err_and c.from_residual.result c.from_residual.ensures.1 in
    let old = c.args.self.now.registers in
    rw (error.1, error.2, ← c.deref.ensures.value) (λ class id loadable format. compacted_stopped old.file.rows class id c.deref.result.now old.armed c.args.mask.0 _ c.in_err-load_compacted.ensures.trap loadable format)

pub returns-clause-ready : goal.returns-clause-ready
returns-clause-ready g c =
    let old = c.args.self.now.registers in
    let new = c.load_compacted.new.self in
    let loaded = c.in_ok-load_compacted.ensures in
    rw (← c.deref.ensures.value) (compacted_ready old.armed c.args.area.now.id c.args.mask.0 c.deref.result.now old.file new.file new.tracked loaded.file loaded.trap loaded.loaded loaded.tracked)

pub returns-clause-whole : goal.returns-clause-whole
returns-clause-whole g c =
    let old = c.args.self.now.registers in
    let loaded = c.in_ok-load_compacted.ensures in
    rw (← c.deref.ensures.value) (compacted_whole old.armed c.args.mask.0 c.deref.result.now old.file c.load_compacted.new.self.file loaded.file loaded.trap loaded.loaded)
