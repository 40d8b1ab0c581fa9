-- The bank is the task's.
use Rattle.std.proofs.Common.{◌≡◌, refl, ◌∙◌}
use Rattle.xs_base.specs.declared.words.How.TheVariants as hows
use Rattle.xs_switch.specs.Running.{IsSaveable}
use Rattle.xs_switch.proofs.SwitchLemmas.{running_in_bank, in_bank_from, holds_from, the_lease}
use Rattle.xs_switch.proofs.entering.switch_in.Goals as goal

pub returns-clause-ready : goal.returns-clause-ready
returns-clause-ready g c =
    let lease = c.in-Some.lease in
    let p = c.requires.parked.0 in
    let parked = c.requires.parked.1 in
    let stands = parked.stands lease c.in-Some.is in
    let good = parked.valid.file.is_file in
    let before = λ (how : c.args.how ≡ hows.Skip). in_bank_from c.args.cpu.now.layout c.args.task.now (g.B.Bank.state c.args.cpu.now.bank) p lease parked.form c.in-Some.is stands.rows_are (c.requires.parked.2 how) in
    λ flag. the_lease (λ l. IsSaveable c.args.cpu.now.layout l (g.B.Bank.state c.give_pkru.new.bank)) c.args.task.now.lease lease c.in-Some.is (record {
      armed = c.give_pkru.ensures.armed ∙ (c.take_registers.ensures.in_bank p.file good stands before).armed;
      ready = c.give_pkru.ensures.ready _ _ _ (c.take_registers.ensures.ready p.file good stands before);
    })

pub returns-clause-running : goal.returns-clause-running
returns-clause-running g c = λ p parked skip.
    let lease = c.in-Some.lease in
    let stands = parked.stands lease c.in-Some.is in
    let good = parked.valid.file.is_file in
    let before = λ (how : c.args.how ≡ hows.Skip). in_bank_from c.args.cpu.now.layout c.args.task.now (g.B.Bank.state c.args.cpu.now.bank) p lease parked.form c.in-Some.is stands.rows_are (skip how) in
    running_in_bank c.args.cpu.now.layout _ (g.B.Bank.state c.give_pkru.new.bank) p parked.valid parked.form refl
    (c.give_pkru.ensures.same p.file good (c.take_registers.ensures.in_bank p.file good stands before).same parked.pkru)

pub returns-clause-holds : goal.returns-clause-holds
returns-clause-holds g c = λ p parked skip.
    let stands = parked.stands c.in-Some.lease c.in-Some.is in
    holds_from c.args.cpu.now.layout c.args.task.now (g.B.Bank.state c.give_pkru.new.bank) p c.in-Some.lease parked.form c.in-Some.is stands.rows_are
    ((returns-clause-running g c p parked skip).whole refl)
    ((returns-clause-ready g c refl c.in-Some.lease c.in-Some.is).armed)
