-- Each turn writes a round more.
use Rattle.std.proofs.Common.{arith}
use Rattle.xs_gen.proofs.TextLemmas.{rounds_more, after_rounds_more, rounds_done, after_rounds_done}
use Rattle.xs_gen.proofs.task.put_rounds.Goals as goal

pub loop-round-preserved : goal.loop-round-preserved
loop-round-preserved c =
    let l = c.loop-round in
    let wrote = c.in_ok-put_round.ensures in
    rw wrote.state (rounds_more 104 l.round l.source.state l.text.items _ _ (omega arith) wrote.text l.invariant.0, after_rounds_more 104 l.round l.source.state _ (omega arith) l.invariant.1)

pub returns-clause-text : goal.returns-clause-text
returns-clause-text c = let l = c.loop-round in rounds_done 104 l.round l.source.state l.text.items _ (omega arith) l.invariant.0

pub returns-clause-state : goal.returns-clause-state
returns-clause-state c = let l = c.loop-round in after_rounds_done 104 l.round l.source.state _ (omega arith) l.invariant.1
