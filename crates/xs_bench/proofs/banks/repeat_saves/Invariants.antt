use Rattle.xs_bench.proofs.BankTurns.{CanBeSaved}
use Rattle.xs_bench.proofs.banks.repeat_saves.Given as goal

abbrev pub invariant-turns : goal.invariant-turns
invariant-turns g l = CanBeSaved (g.B.Bank.state l.bank) l.layout l.mask.0 l.area.id l.area.bytes.items
