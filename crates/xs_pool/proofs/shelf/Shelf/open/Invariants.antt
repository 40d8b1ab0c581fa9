-- The slots so far have areas.
use Rattle.std.proofs.Common.{◌≡◌, length}
use Rattle.xs_pool.specs.Shelf.{IsShelf}
use Rattle.xs_pool.proofs.shelf.Shelf.open.Given as goal

abbrev pub invariant-areas : goal.invariant-areas
invariant-areas l = record {
  len : length l.slots.items ≡ l.counter;
  shelf : IsShelf l.size 0 l.slots.items;
}
