-- Pools of a kernel's save areas. All their memory is taken when they are opened, so that a task that first uses TILEDATA
-- needs none. Linux takes it then (6.6, arch/x86/kernel/fpu/xstate.c, fpstate_realloc): this allocator is the project's own.
use Rattle.std.specs.Prelude.{ℕ, ◌+◌, ◌-◌, ◌<◌, ◌≤◌, List}
use Rattle.xs_base.specs.declared.class.Class.{Class}
use Rattle.xs_base.specs.declared.class.Class.TheVariants.{Small, Large}
use Rattle.xs_base.specs.declared.component.Row.{Row}

-- the areas of one class: how many are out, and how many there are in all
pub record Stock : Type 0 where
  pub out : ℕ
  pub capacity : ℕ

-- after one area more went out
abbrev pub one_more_out : Stock → Stock
one_more_out stock = record stock { out = stock.out + 1 }

-- after one came back
abbrev pub one_fewer_out : Stock → Stock
one_fewer_out stock = record stock { out = stock.out - 1 }

-- A pool of the areas of a machine, by its rows; `given` is how many leases it gave so far.
pub record Pool : Type 0 where
  pub rows : List Row
  pub small : Stock
  pub large : Stock
  pub given : ℕ

-- the areas of the class
abbrev pub stock_of : Pool → Class → Stock
stock_of pool Small = pool.small
stock_of pool Large = pool.large

-- the pool with this stock of the class
abbrev pub with_stock : Pool → Class → Stock → Pool
with_stock pool Small stock = record pool { small = stock }
with_stock pool Large stock = record pool { large = stock }

-- The number is that of a lease so far: these are numbered from 1 on.
abbrev pub WasGiven : Pool → ℕ → Type 0
WasGiven pool id = (0 < id) × (id ≤ pool.given)

-- the pool after one lease of the class more
abbrev pub leased : Pool → Class → Pool
leased pool class = record (with_stock pool class (one_more_out (stock_of pool class))) { given = pool.given + 1 }

-- the pool after a lease of the class came back
abbrev pub returned : Pool → Class → Pool
returned pool class = with_stock pool class (one_fewer_out (stock_of pool class))
