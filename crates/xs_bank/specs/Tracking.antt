-- The tracked area as the code keeps it (SDM volume 1, 13.6).
use Rattle.std.specs.Prelude.{Option, Some, None}
use Rattle.xs_bank.specs.Bank.{Tracked}
use Rattle.xs_bank.specs.declared.tracking.LoadedArea.{LoadedArea}

abbrev pub shown : Option LoadedArea → Option Tracked
shown None = None
shown (Some t) = Some (record { id = t.id; names = t.names; modified = t.modified.0 })
