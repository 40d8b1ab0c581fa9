-- What a pool keeps while its stocks change.
use Rattle.std.proofs.Common.{◌≡◌, refl}
use Rattle.xs_base.specs.declared.class.Class.{Class}
use Rattle.xs_base.specs.declared.class.Class.TheVariants.{Small, Large}
use Rattle.xs_pool.specs.Pool.{Stock, Pool, with_stock}

-- another stock leaves the machine as it was
pub rows_with_stock : (pool : Pool) (class : Class) (stock : Stock) → (with_stock pool class stock).rows ≡ pool.rows
rows_with_stock pool Small stock = refl
rows_with_stock pool Large stock = refl
