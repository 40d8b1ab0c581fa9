-- The blocks so far are woken, and the rest is as it was.
use Rattle.std.proofs.Common.{◌≡◌, ◌++◌, map, take, drop}
use Rattle.xs_model.specs.Outer.{woken}
use Rattle.xs_legal.proofs.reached.wake_all.Given as goal

abbrev pub invariant-each : goal.invariant-each
invariant-each l = l.blocks ≡ map (woken l.t) (take l.block-index l.initial.blocks) ++ drop l.block-index l.initial.blocks
