use Rattle.xs_base.proofs.FaultLemmas.{IsChecked}
use Rattle.xs_layout.proofs.checks.first_row_fault.Given as goal

abbrev pub invariant-each : goal.invariant-each
invariant-each l = IsChecked l.rows l.i
