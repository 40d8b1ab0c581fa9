-- The blocks so far were copied.
use Rattle.std.proofs.Common.{◌≡◌, take}
use Rattle.xs_model.proofs.copying.copy_blocks.Given as goal

abbrev pub invariant-each : goal.invariant-each
invariant-each l = l.copies.items ≡ take l.block-index l.blocks
