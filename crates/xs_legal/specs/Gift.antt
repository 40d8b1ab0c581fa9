-- What one block gives another: its registers to a child at its birth, a register set to the buffer of its tracer, or the first
-- bytes of its buffer as a register set. This project's own.
use Rattle.std.specs.Prelude.{◌≡◌, ℕ, ◌≤◌, List, take, slice_get, Some, None}
use Rattle.xs_base.specs.declared.component.Row.{Row}
use Rattle.xs_base.specs.RegisterSet.{set_errno, set_result}
use Rattle.xs_base.specs.Task.{IsPrivateTask, buffer_length}
use Rattle.xs_model.specs.declared.stage.Stage.TheVariants.{Unborn}
use Rattle.xs_model.specs.Outer.{born, buffer_filled, registers_set}
use Rattle.xs_model.specs.State.{BlockState}
use Rattle.xs_legal.specs.declared.giving.Gift.{Gift}
use Rattle.xs_legal.specs.declared.giving.Gift.TheVariants.{Birth, Registers, Bytes}

-- the block that takes, after it
abbrev pub given : Gift → BlockState → BlockState → BlockState
given (Birth parent) giver taker = born parent (Some giver) taker
given (Registers set) giver taker = buffer_filled set (Some giver) taker
given (Bytes set count) giver taker = registers_set set count giver.task.buffer taker

-- A child isn't born yet, and bytes are those of a set that isn't refused.
abbrev pub CanGive : Gift → BlockState → BlockState → Type 0
CanGive (Birth parent) giver taker = taker.stage ≡ Unborn
CanGive (Registers set) giver taker = Unit {0}
CanGive (Bytes set count) giver taker = (count ≤ buffer_length) × (set_errno (set_result taker.task set (take count giver.task.buffer)) ≡ None)

-- The gift can go from one block to another.
pub record ArePair (gift : Gift) (blocks : List BlockState) (from to : ℕ) : Type 0 where
  pub giver : BlockState
  pub taker : BlockState
  pub from_is : slice_get blocks from ≡ Some giver
  pub to_is : slice_get blocks to ≡ Some taker
  pub apart : from ≡ to → ⊥
  pub rows : List Row
  pub giver_valid : IsPrivateTask rows giver.task
  pub taker_valid : IsPrivateTask rows taker.task
  pub can : CanGive gift giver taker
