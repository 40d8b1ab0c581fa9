-- The parts so far are initial.
use Rattle.std.proofs.Common.{◌≡◌, ℕ, ◌<◌}
use Rattle.xs_base.specs.Component.{initial_part}
use Rattle.xs_base.specs.File.{part}
use Rattle.xs_regs.proofs.file.File.set_up.Given as goal

abbrev pub invariant-parts : goal.invariant-parts
invariant-parts l = (n : ℕ) → n < l.c → part l.self n ≡ initial_part n
