-- The registers of a user task came back.
use Rattle.xs_machine.proofs.SwitchLemmas.{user_back}
use Rattle.xs_machine.proofs.lines.come_back.Goals as goal

pub returns-then-user : goal.returns-then-user
returns-then-user g c =
    let e = c.resume.ensures in
    rw c.if-user.true (user_back c.args.cpu.now c.resume.new.cpu c.args.task.now c.resume.new.task (g.B.Bank.state c.args.cpu.now.bank) (g.B.Bank.state c.resume.new.cpu.bank) e.set_up e.whole e.task e.mark e.cpu e.ready e.running e.holds e.counts)
