-- A user task is switched out.
use Rattle.std.proofs.Common.{sym, ◌∙◌}
use Rattle.xs_machine.proofs.Leaving.{thread_left, user_left}
use Rattle.xs_machine.proofs.EntryLemmas.{keeps_bank}
use Rattle.xs_machine.proofs.turn.leave.Goals as goal

pub returns-then-is_user-clause-left : goal.returns-then-is_user-clause-left
returns-then-is_user-clause-left g c = λ t cpu first past before p turn.
    let e = c.switch_out.ensures in
    user_left c.args.script.now t cpu first past before p c.args.task.now c.switch_out.new.task c.args.cpu.now c.switch_out.new.cpu (g.B.Bank.state c.args.cpu.now.bank) (g.B.Bank.state c.switch_out.new.cpu.bank) c.switch_out.new.task.lease turn (sym c.is_user.ensures ∙ c.if-is_user.true) e.set_up e.whole e.task e.parked e.cpu e.file e.armed e.counts

pub returns-then-is_user-clause-kept : goal.returns-then-is_user-clause-kept
returns-then-is_user-clause-kept g c = keeps_bank c.args.cpu.now c.switch_out.new.cpu c.switch_out.ensures.cpu

pub returns-else-is_user-clause-left : goal.returns-else-is_user-clause-left
returns-else-is_user-clause-left g c = λ t cpu first past before p turn.
    thread_left c.args.script.now t cpu first past before p c.args.task.now c.args.cpu.now (g.B.Bank.state c.args.cpu.now.bank) turn (sym c.is_user.ensures ∙ c.if-is_user.false)
