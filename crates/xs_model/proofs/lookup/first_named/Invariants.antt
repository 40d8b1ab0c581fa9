-- The number is that of the next block, and none so far has the name.
use Rattle.std.proofs.Common.{◌≡◌, ℕ, ◌<◌, slice_index_or}
use Rattle.xs_model.specs.declared.script.Block.{Block}
use Rattle.xs_model.proofs.lookup.first_named.Given as goal

abbrev pub invariant-each : goal.invariant-each
invariant-each l = record {
  number : l.number ≡ l.block-index;
  none : (k : ℕ) (b : Block) → k < l.block-index → slice_index_or l.blocks k b ≡ b → b.name ≡ l.name → ⊥;
}
