-- The text so far and the rounds that are left are all rounds.
use Rattle.std.proofs.Common.{◌≡◌, ◌-◌, ◌++◌}
use Rattle.xs_gen.specs.Generated.{after_rounds, rounds}
use Rattle.xs_gen.specs.Written.{orders_text}
use Rattle.xs_gen.proofs.task.put_rounds.Given as goal

abbrev pub invariant-loop-round : goal.invariant-loop-round
invariant-loop-round l =
    (l.text.items ++ orders_text (rounds (104 - l.round) l.round l.source.state) ≡ l.fn.text.items ++ orders_text (rounds 104 0 l.fn.source.state))
    × (after_rounds (104 - l.round) l.round l.source.state ≡ after_rounds 104 0 l.fn.source.state)
