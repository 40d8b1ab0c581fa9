-- The bank is the task's again.
use Rattle.std.proofs.Common.{refl, ◌∙◌}
use Rattle.xs_switch.specs.Running.{IsSaveable}
use Rattle.xs_switch.proofs.SwitchLemmas.{running_in_bank, same_whole, holds_from, the_lease}
use Rattle.xs_switch.proofs.entering.resume.Goals as goal

pub returns-in-Some-clause-ready : goal.returns-in-Some-clause-ready
returns-in-Some-clause-ready g c =
    λ flag. the_lease (λ l. IsSaveable c.args.cpu.now.layout l (g.B.Bank.state c.restore.new.bank)) c.args.task.now.lease c.in-Some.lease c.in-Some.is (record { armed = c.restore.ensures.armed; ready = c.restore.ensures.ready _ })

pub returns-in-Some-clause-running : goal.returns-in-Some-clause-running
returns-in-Some-clause-running g c = λ p run.
    let saved = run.saved c.if-task.true c.in-Some.lease c.in-Some.is in
    let bank = g.B.Bank.state c.restore.new.bank in
    let good = run.valid.file.is_file in
    running_in_bank c.args.cpu.now.layout _ bank p run.valid run.form refl
    (same_whole p.file bank.file good c.loads.ensures.file (c.restore.ensures.file p.file good saved.stands) (c.restore.ensures.pkru ∙ run.pkru))

pub returns-in-Some-clause-holds : goal.returns-in-Some-clause-holds
returns-in-Some-clause-holds g c = λ p run.
    let saved = run.saved c.if-task.true c.in-Some.lease c.in-Some.is in
    holds_from c.args.cpu.now.layout c.args.task.now (g.B.Bank.state c.restore.new.bank) p c.in-Some.lease run.form c.in-Some.is saved.stands.rows_are ((returns-in-Some-clause-running g c p run).whole refl) c.restore.ensures.armed
