-- Between two turns a worker stands by the board that it last gave.
use Rattle.std.proofs.Common.{◌≡◌, [], None}
use Rattle.xs_share.specs.Passes.{name_of}
use Rattle.xs_machine.specs.Processors.{KeepsProcessor}
use Rattle.xs_machine.specs.Threads.{Stands}
use Rattle.xs_machine.proofs.worker.work.Given as goal

abbrev pub invariant-loop : goal.invariant-loop
invariant-loop g l = record {
  none : l.lines.items ≡ [];
  stands : Stands (name_of l.shared) l.script None l.pass l.proc.cpu (g.B.Bank.state l.proc.cpu.bank);
  kept : KeepsProcessor l.fn.proc.cpu l.proc.cpu;
}
