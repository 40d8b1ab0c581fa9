use Rattle.xs_bench.proofs.BankTurns.{CanBeLoaded}
use Rattle.xs_bench.proofs.banks.load_in_turn.Given as goal

abbrev pub invariant-turns : goal.invariant-turns
invariant-turns g l = CanBeLoaded (g.B.Bank.state l.bank) l.layout l.area.bytes.items
