-- The lines that ran so far lead from the turn's Start to its task as it is now.
use Rattle.std.proofs.Common.{◌≡◌, ℕ, ◌-◌, List, [], length}
use Rattle.xs_base.specs.Task.{PrivateTask}
use Rattle.xs_bank.specs.Bank as banks
use Rattle.xs_model.specs.declared.event.Event.{Event}
use Rattle.xs_share.specs.Passes.{name_of, view}
use Rattle.xs_machine.specs.Processors.{KeepsProcessor}
use Rattle.xs_machine.specs.Threads.{HasPass}
use Rattle.xs_machine.specs.Turn.{AreRunning, SomeRunning}
use Rattle.xs_machine.proofs.marking.run_marked_lines.Given as goal

abbrev pub invariant-loop-close : goal.invariant-loop-close
invariant-loop-close g l = record {
  some : SomeRunning l.script l.entries.items l.task l.cpu (g.B.Bank.state l.cpu.bank);
  each : (t c : ℕ) (past : List Event) (before : banks.Bank) (start : PrivateTask) → AreRunning l.script t c past before start [] start l.fn.task l.fn.cpu (g.B.Bank.state l.fn.cpu.bank) → (p : PrivateTask) × AreRunning l.script t c past before start l.entries.items p l.task l.cpu (g.B.Bank.state l.cpu.bank);
  kept : KeepsProcessor l.fn.cpu l.cpu;
  pass : HasPass (name_of l.shared) l.fn.cpu.number (view l.fn.pass).last l.cpu.mark l.pass;
  name : l.task.name ≡ l.fn.task.name;
}

abbrev pub decreases-loop-close : goal.decreases-loop-close
decreases-loop-close g l = l.script.quantum - length l.entries.items
