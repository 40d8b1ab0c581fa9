-- The parts so far are initial.
use Rattle.std.proofs.Common.{◌≡◌, map}
use Rattle.std.specs.List.{range_with_len}
use Rattle.xs_base.specs.Component.{initial_part}
use Rattle.xs_regs.proofs.file.File.initial.Given as goal

abbrev pub invariant-parts : goal.invariant-parts
invariant-parts l = map (λ p. p.items) l.parts.items ≡ map initial_part (range_with_len 0 l.c)
