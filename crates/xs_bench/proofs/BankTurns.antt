-- What the instructions of a bank keep from turn to turn.
use Rattle.std.proofs.Common.{◌≡◌, ℕ, ◌≤◌, true, List, length}
use Rattle.xs_base.specs.declared.component.Row.{Row}
use Rattle.xs_base.specs.Area.{HasPlaces}
use Rattle.xs_base.specs.Compact.{compact_size}
use Rattle.xs_base.specs.Header.{xcomp_bv}
use Rattle.xs_base.specs.Layout.{has_row}
use Rattle.xs_base.specs.Sets.{has}
use Rattle.xs_bank.specs.Bank.{Bank, IsReady}

-- The components of the mask can be saved into the area.
pub record CanBeSaved (bank : Bank) (rows : List Row) (mask id : ℕ) (area : List ℕ) : Type 0 where
  pub rows_are : bank.file.rows ≡ rows
  pub machine : (c : ℕ) → has mask c ≡ true → has_row rows c ≡ true
  pub room : compact_size rows mask ≤ length area
  pub long : 8192 ≤ length area
  pub ready : IsReady bank id mask area

-- The area can be loaded in the compacted format.
pub record CanBeLoaded (bank : Bank) (rows : List Row) (area : List ℕ) : Type 0 where
  pub rows_are : bank.file.rows ≡ rows
  pub header : 576 ≤ length area
  pub places : HasPlaces rows area (xcomp_bv area)
