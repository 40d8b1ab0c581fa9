-- The machine, what is armed, and what a save may rely on are as before.
use Rattle.std.proofs.Common.{◌≡◌, ℕ, List}
use Rattle.xs_bank.specs.Bank.{IsReady}
use Rattle.xs_bench.proofs.signals.fill.Given as goal

abbrev pub invariant-loop-name : goal.invariant-loop-name
invariant-loop-name g l =
    let state = g.B.Bank.state in
    record {
      rows : (state l.bank).file.rows ≡ l.layout;
      armed : (state l.bank).armed ≡ (state l.fn.bank).armed;
      ready : (id m : ℕ) (area : List ℕ) → IsReady (state l.fn.bank) id m area → IsReady (state l.bank) id m area;
    }
