-- Each processor so far has its number, and its bank has counted nothing.
use Rattle.std.proofs.Common.{◌≡◌, ℕ, length}
use Rattle.std.specs.Prelude.{slice_get, Some}
use Rattle.xs_machine.specs.declared.proc.Proc.{Proc}
use Rattle.xs_bank.specs.declared.bank_of.BankOf.{BankOf}
use Rattle.xs_bank.specs.declared.choice.Changes.{Changes}
use Rattle.xs_top.proofs.NewProcessors.{IsNew}
use Rattle.xs_top.proofs.procs.processors.Given as goal

abbrev pub invariant-each : goal.invariant-each
invariant-each l = record {
  many : length l.procs.items ≡ l.number;
  each : (i : ℕ) (proc : Proc (BankOf Changes)) → slice_get l.procs.items i ≡ Some proc → IsNew i proc;
}
