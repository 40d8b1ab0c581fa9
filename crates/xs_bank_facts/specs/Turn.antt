-- What instructions on registers keep of a bank. This project's own.
use Rattle.std.specs.Prelude.{◌≡◌, ℕ, List}
use Rattle.xs_bank.specs.Bank.{Bank, IsReady}

-- The machine stays, and what a save may rely on.
pub record KeepsReady (old new : Bank) : Type 0 where
  pub rows : new.file.rows ≡ old.file.rows
  pub ready : (id mask : ℕ) (area : List ℕ) → IsReady old id mask area → IsReady new id mask area
