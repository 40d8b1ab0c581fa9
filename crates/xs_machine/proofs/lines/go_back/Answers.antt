-- A return takes the frame, or is refused.
use Rattle.std.proofs.Common.{ap, ◌∙◌}
use Rattle.xs_task.specs.declared.task.Task.{Task}
use Rattle.xs_machine.proofs.RanLemmas.{return_ran, return_refused}
use Rattle.xs_machine.proofs.lines.go_back.Goals as goal

pub sigreturn-requires-clause-armed : goal.sigreturn-requires-clause-armed
sigreturn-requires-clause-armed g c = λ lease is. (c.requires.on.1.ready c.requires.loaded lease is).armed

pub returns-in-Ok : goal.returns-in-Ok
returns-in-Ok g c =
    let e = c.in-Ok.ensures in
    let flag = ap (λ (x : Task). x.need_load) e.task ∙ c.requires.loaded in
    rw c.reply_of.ensures (return_ran c.args.cpu.now c.sigreturn.new.cpu c.args.task.now c.sigreturn.new.task (g.B.Bank.state c.args.cpu.now.bank) (g.B.Bank.state c.sigreturn.new.cpu.bank)
    c.requires.inside e.set_up e.whole (ap (λ (x : Task). x.name) e.task) flag e.cpu e.ready e.running e.holds e.counts c.in-Ok.restored e.answer)

pub returns-in-Err : goal.returns-in-Err
returns-in-Err g c =
    let e = c.in-Err.ensures in
    let flag = ap (λ (x : Task). x.need_load) e.task ∙ c.requires.loaded in
    return_refused c.args.cpu.now c.sigreturn.new.cpu c.args.task.now c.sigreturn.new.task (g.B.Bank.state c.args.cpu.now.bank) (g.B.Bank.state c.sigreturn.new.cpu.bank)
    c.requires.inside e.set_up e.whole (ap (λ (x : Task). x.name) e.task) flag e.cpu e.ready e.running e.holds e.counts c.in-Err.error e.answer
