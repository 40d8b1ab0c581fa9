-- What becomes of a task whose line traps, and of the pool (Linux 6.6, arch/x86/kernel/fpu/xstate.c, __xfd_enable_feature). That the
-- old area goes back to a pool is this project's own.
use Rattle.std.specs.Prelude.{◌≡◌, ◌-◌, ◌<◌, ◌^◌, Bool, false, not, nat_lt, List, Option, Some, None, if◌then◌else◌}
use Rattle.xs_base.specs.declared.class.Class.TheVariants.{Small, Large}
use Rattle.xs_base.specs.declared.component.Row.{Row}
use Rattle.xs_base.specs.Task.{PrivateTask, marks_after, parked}
use Rattle.xs_base.specs.Tile.{grown}
use Rattle.xs_model.specs.declared.event.Why.{Why}
use Rattle.xs_model.specs.declared.event.Why.TheVariants.{Permission, Area}
use Rattle.xs_pool.specs.Pool.{Pool, leased, returned}
use Rattle.xs_task.specs.declared.task.Task.{Task}
use Rattle.xs_task.specs.Parked.{IsParked}
use Rattle.xs_task.specs.TaskArea.{IsTask, has_large}
use Rattle.xs_board.specs.declared.turn.Close.{Close}
use Rattle.xs_board.specs.declared.turn.Close.TheVariants.{Quantum, Yield, Outer, Refused, Trap, End}

-- Why it is killed, if it is: it may not use tiles, or no Large area is free.
abbrev pub fate_by : Bool → Bool → Option Why
fate_by permitted free = if not permitted then Some Permission else if free then None else Some Area

-- the pool then: a task that grows has a Large area of it, and its old one is back
abbrev pub pool_settled : Option Why → Pool → Pool
pool_settled None pool = returned (leased pool Large) Small
pool_settled (Some why) pool = pool

-- The task and the pool before it: the task is whole and has a Small area.
pub record CanTrap (rows : List Row) (pool : Pool) (task : Task) : Type 0 where
  pub whole : IsTask rows task
  pub small : has_large task.lease ≡ false
  pub rows_are : pool.rows ≡ rows
  pub given : pool.given < 2 ^ 64 - 1
  pub out : pool.small.out ≡ 0 → ⊥

-- The task grew: it is the same one with room for TILEDATA, and no processor has its registers.
pub record HasGrown (rows : List Row) (before after : Task) : Type 0 where
  pub whole : IsTask rows after
  pub others : after ≡ record before { lease = after.lease; last = None }
  pub stands : (p : PrivateTask) → IsParked rows before p → p.marks ≡ marks_after p → IsParked rows after (parked (grown p))

abbrev pub IsSettled : List Row → Option Why → Task → Task → Type 0
IsSettled rows None before after = HasGrown rows before after
IsSettled rows (Some why) before after = after ≡ before

-- It grew where it may use tiles and the pool had a Large area, and else nothing has changed yet.
pub record WasSettled (rows : List Row) (fate : Option Why) (pool pool_after : Pool) (before after : Task) : Type 0 where
  pub fate_is : fate ≡ fate_by before.permitted (nat_lt pool.large.out pool.large.capacity)
  pub pool_is : pool_after ≡ pool_settled fate pool
  pub task_is : IsSettled rows fate before after

-- what holds of a close by a line that traps, and of another
abbrev pub IfTrap : Close → Type 0 → Type 0 → Type 0
IfTrap Quantum Traps Else = Else
IfTrap Yield Traps Else = Else
IfTrap (Outer line) Traps Else = Else
IfTrap (Refused error) Traps Else = Else
IfTrap Trap Traps Else = Traps
IfTrap End Traps Else = Else
