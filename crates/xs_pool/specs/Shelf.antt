-- The shelves of a pool, one for each class, which are the project's own. The slots of a shelf whose areas are out stand in
-- front of the others.
use Rattle.std.specs.Prelude.{◌≡◌, ℕ, ◌^◌, ◌<◌, ◌≤◌, List, length, Option, None, slice_index_or, MatchOption}
use Rattle.std.specs.Global.{Vec}
use Rattle.xs_base.specs.declared.class.Class.TheVariants.{Small, Large}
use Rattle.xs_base.specs.declared.component.Row.{Row}
use Rattle.xs_base.specs.KernelArea.{class_size}
use Rattle.xs_pool.specs.Pool.{Stock}

-- areas of `size` bytes each
pub record Shelf : Type 0 where
  pub size : ℕ
  pub stock : Stock

-- there is an area of this size in the slot
abbrev pub HasArea : ℕ → Option (Vec ℕ) → Type 0
HasArea size slot = MatchOption slot ⊥ (λ area. length area.items ≡ size)

-- Each slot from `out` on has an area.
pub record IsShelf (size out : ℕ) (slots : List (Option (Vec ℕ))) : Type 0 where
  pub fits : length slots < 2 ^ 32
  pub few : out ≤ length slots
  pub there : (i : ℕ) → out ≤ i → i < length slots → HasArea size (slice_index_or slots i None)

-- The areas of each shelf have the length of its class, with a whole header.
pub record ArePooled (rows : List Row) (small large : Shelf) : Type 0 where
  pub small_size : small.size ≡ class_size rows Small
  pub large_size : large.size ≡ class_size rows Large
  pub small_header : 576 ≤ small.size
  pub large_header : 576 ≤ large.size
