-- The registers of a bank, what XFD is armed for (SDM volume 1, 13.14), and the area that was loaded last.
use Rattle.std.specs.Prelude.{◌≡◌, ℕ, ◌^◌, ◌<◌, true, ◌⊎◌, Option}
use Rattle.xs_base.specs.Component.{initial_part, tiledata_number}
use Rattle.xs_base.specs.File.{File, part}
use Rattle.xs_base.specs.Layout.{has_row}
use Rattle.xs_base.specs.Sets.{has}
use Rattle.xs_bank.specs.Bank.{Tracked}
use Rattle.xs_bank.specs.Load.{tiles}

pub record Registers : Type 0 where
  pub file : File
  pub armed : ℕ
  pub tracked : Option Tracked

-- What holds at every moment: MXCSR has no bit above 15 (SDM volume 1, 10.2.3), XFD is armed for nothing or for TILEDATA of a
-- machine that has it, and TILEDATA is initial while it is armed. The last is this project's own.
pub record AreRegisters (file : File) (armed : ℕ) : Type 0 where
  pub control : file.mxcsr < 2 ^ 16
  pub known : (armed ≡ 0) ⊎ ((armed ≡ tiles) × (has_row file.rows tiledata_number ≡ true))
  pub initial : has armed tiledata_number ≡ true → part file tiledata_number ≡ initial_part tiledata_number
