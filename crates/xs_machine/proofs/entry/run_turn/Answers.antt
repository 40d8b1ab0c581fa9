-- The lines run by any board that has the turn.
use Rattle.xs_machine.proofs.Away.{turn_running, turn_ran, some_over, known_over}
use Rattle.xs_machine.proofs.EntryLemmas.{keeps_more}
use Rattle.xs_machine.proofs.entry.run_turn.Goals as goal

pub run_lines-close-requires-clause-turning : goal.run_lines-close-requires-clause-turning
run_lines-close-requires-clause-turning g c = turn_running c.args.script.now c.args.task.now c.args.cpu.now (g.B.Bank.state c.args.cpu.now.bank) c.never_idle.ensures.next c.requires.some

pub leave-requires-clause-turning : goal.leave-requires-clause-turning
leave-requires-clause-turning g c =
    some_over c.args.script.now c.args.task.now c.run_lines-close.new.task c.args.cpu.now c.run_lines-close.new.cpu (g.B.Bank.state c.args.cpu.now.bank) (g.B.Bank.state c.run_lines-close.new.cpu.bank)
    c.run_lines-close.new.entries.items c.run_lines-close.result c.never_idle.ensures.next c.run_lines-close.ensures.over c.requires.some

pub leave-requires-clause-known : goal.leave-requires-clause-known
leave-requires-clause-known g c =
    known_over c.args.script.now c.args.task.now c.run_lines-close.new.task c.args.cpu.now c.run_lines-close.new.cpu (g.B.Bank.state c.args.cpu.now.bank) (g.B.Bank.state c.run_lines-close.new.cpu.bank)
    c.run_lines-close.new.entries.items c.run_lines-close.result c.never_idle.ensures.next c.run_lines-close.ensures.over c.machine_known.ensures.known c.requires.some

pub returns-clause-ran : goal.returns-clause-ran
returns-clause-ran g c = λ board turn is run at.
    turn_ran c.args.script.now c.args.task.now c.run_lines-close.new.task c.args.cpu.now c.run_lines-close.new.cpu (g.B.Bank.state c.args.cpu.now.bank) (g.B.Bank.state c.run_lines-close.new.cpu.bank)
    c.run_lines-close.new.entries.items c.run_lines-close.result c.never_idle.ensures.next c.run_lines-close.ensures.over board turn is run at
    c.leave.new.task c.leave.new.cpu (g.B.Bank.state c.leave.new.cpu.bank) c.leave.ensures.left

pub returns-clause-kept : goal.returns-clause-kept
returns-clause-kept g c = keeps_more c.args.cpu.now c.run_lines-close.new.cpu c.leave.new.cpu c.run_lines-close.ensures.kept c.leave.ensures.kept
