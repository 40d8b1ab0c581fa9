-- Each turn draws a byte more.
use Rattle.std.proofs.Common.{arith}
use Rattle.xs_gen.proofs.DrawLemmas.{draws_more, after_more, draws_done, after_done}
use Rattle.xs_gen.proofs.draws.Draws.fill.Goals as goal

pub loop-byte-preserved : goal.loop-byte-preserved
loop-byte-preserved c =
    let l = c.loop-byte in
    rw (c.draw.ensures.byte, c.draw.ensures.state) (draws_more l.bytes _ l.byte-index l.self.state (omega arith) l.invariant.0, after_more l.bytes l.byte-index l.self.state _ (omega arith) l.invariant.1)

pub returns-clause-bytes : goal.returns-clause-bytes
returns-clause-bytes c = let l = c.loop-byte in draws_done l.bytes _ l.byte-index l.self.state (omega arith) l.invariant.0

pub returns-clause-state : goal.returns-clause-state
returns-clause-state c = let l = c.loop-byte in after_done l.bytes l.byte-index l.self.state _ (omega arith) l.invariant.1
