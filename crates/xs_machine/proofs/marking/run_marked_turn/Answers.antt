-- The lines run by any board that has the turn.
use Rattle.std.proofs.Common.{ℕ, Option, sym, subst}
use Rattle.xs_share.specs.Passes.{name_of, view}
use Rattle.xs_machine.specs.Threads.{HasPass}
use Rattle.xs_machine.proofs.Away.{turn_running, turn_ran, some_over, known_over}
use Rattle.xs_machine.proofs.EntryLemmas.{keeps_more}
use Rattle.xs_machine.proofs.marking.run_marked_turn.Goals as goal

pub run_marked_lines-close-requires-clause-turning : goal.run_marked_lines-close-requires-clause-turning
run_marked_lines-close-requires-clause-turning g c = turn_running c.args.script.now c.args.task.now c.args.cpu.now (g.B.Bank.state c.args.cpu.now.bank) c.never_idle.ensures.next c.requires.some

pub leave-requires-clause-turning : goal.leave-requires-clause-turning
leave-requires-clause-turning g c =
    some_over c.args.script.now c.args.task.now c.run_marked_lines-close.new.task c.args.cpu.now c.run_marked_lines-close.new.cpu (g.B.Bank.state c.args.cpu.now.bank) (g.B.Bank.state c.run_marked_lines-close.new.cpu.bank)
    c.run_marked_lines-close.new.entries.items c.run_marked_lines-close.result c.never_idle.ensures.next c.run_marked_lines-close.ensures.over c.requires.some

pub leave-requires-clause-known : goal.leave-requires-clause-known
leave-requires-clause-known g c =
    known_over c.args.script.now c.args.task.now c.run_marked_lines-close.new.task c.args.cpu.now c.run_marked_lines-close.new.cpu (g.B.Bank.state c.args.cpu.now.bank) (g.B.Bank.state c.run_marked_lines-close.new.cpu.bank)
    c.run_marked_lines-close.new.entries.items c.run_marked_lines-close.result c.never_idle.ensures.next c.run_marked_lines-close.ensures.over c.machine_known.ensures.known c.requires.some

pub returns-clause-ran : goal.returns-clause-ran
returns-clause-ran g c = λ board turn is run at.
    turn_ran c.args.script.now c.args.task.now c.run_marked_lines-close.new.task c.args.cpu.now c.run_marked_lines-close.new.cpu (g.B.Bank.state c.args.cpu.now.bank) (g.B.Bank.state c.run_marked_lines-close.new.cpu.bank)
    c.run_marked_lines-close.new.entries.items c.run_marked_lines-close.result c.never_idle.ensures.next c.run_marked_lines-close.ensures.over board turn is run at
    c.leave.new.task c.leave.new.cpu (g.B.Bank.state c.leave.new.cpu.bank) c.leave.ensures.left

pub returns-clause-kept : goal.returns-clause-kept
returns-clause-kept g c = keeps_more c.args.cpu.now c.run_marked_lines-close.new.cpu c.leave.new.cpu c.run_marked_lines-close.ensures.kept c.leave.ensures.kept

pub run_marked_lines-close-requires-clause-pass : goal.run_marked_lines-close-requires-clause-pass
run_marked_lines-close-requires-clause-pass g c = c.requires.pass

pub returns-clause-pass : goal.returns-clause-pass
returns-clause-pass g c = subst (λ (mark : Option ℕ). HasPass (name_of c.args.shared.now) c.args.cpu.now.number (view c.args.pass.now).last mark c.run_marked_lines-close.new.pass) (sym c.leave.ensures.mark) c.run_marked_lines-close.ensures.pass
