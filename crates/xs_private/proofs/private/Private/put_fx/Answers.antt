-- The bytes of the Fx set, and zeros behind them.
use Rattle.std.proofs.Common.{arith}
use Rattle.xs_base.specs.Sets.{has}
use Rattle.xs_base.proofs.SizeLemmas.{end_most}
use Rattle.xs_private.proofs.ReplyLemmas.{fx_reply}
use Rattle.xs_private.proofs.private.Private.put_fx.Goals as goal

pub standard_into-requires : goal.standard_into-requires
standard_into-requires c = omega (arith, end_most (has 3) c.self.inside.file.rows c.layout.ensures.file.layout, c.clear.ensures.len, c.requires.room)

pub returns : goal.returns
returns c =
    rw (← c.self.view_is) (fx_reply _ c.args.out.now c.clear.new.out c.standard_into.new.out c.layout.ensures.file.layout (omega (arith, c.requires.room)) c.clear.ensures.written c.standard_into.ensures)
