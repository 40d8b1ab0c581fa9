-- The blocks so far are freed, and the rest is as it was.
use Rattle.std.proofs.Common.{◌≡◌, ◌++◌, map, take, drop}
use Rattle.xs_model.specs.Outer.{freed}
use Rattle.xs_legal.proofs.reached.free_all.Given as goal

abbrev pub invariant-each : goal.invariant-each
invariant-each l = l.blocks ≡ map (freed l.t) (take l.block-index l.initial.blocks) ++ drop l.block-index l.initial.blocks
