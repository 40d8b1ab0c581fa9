-- A command that is no return runs, and the task goes on to the next line.
use Rattle.std.proofs.Common.{sym, ◌∙◌}
use Rattle.xs_machine.proofs.RanLemmas.{next_ran}
use Rattle.xs_machine.proofs.lines.run_local.Goals as goal

pub returns-in-Ok : goal.returns-in-Ok
returns-in-Ok g c = next_ran c.args.user c.args.command.now c.in-Ok.reply c.args.task.now c.run_command.new.task c.args.cpu.now c.run_command.new.cpu (g.B.Bank.state c.args.cpu.now.bank) (g.B.Bank.state c.run_command.new.cpu.bank) (sym c.is_return.ensures ∙ c.if-is_return.false) c.in-Ok.ensures
