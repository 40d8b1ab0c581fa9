use Rattle.std.proofs.Common.{◌≡◌}
use Rattle.xs_share.specs.Passes.{home_of, view}
use Rattle.xs_share.proofs.shared.Shared.take_turn.Given as goal

abbrev pub invariant-loop : goal.invariant-loop
invariant-loop g l = (home_of l.pass ≡ home_of l.initial.pass) × (view l.pass ≡ view l.initial.pass)
