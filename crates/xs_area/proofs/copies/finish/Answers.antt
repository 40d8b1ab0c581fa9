use Rattle.std.proofs.Common.{◌∙◌, arith}
use Rattle.xs_area.proofs.FinishLemmas.{sse_more, finished}
use Rattle.xs_area.proofs.copies.finish.Goals as goal

pub returns : goal.returns
returns c =
    let set = rw c.has.ensures at c.with.ensures in
    let done = finished c.args.to.now c.args.copied.0 c.args.control c.with.result.0 c.is_alone-alone.result c.requires c.put_number.ensures.small (omega arith) (λ d. set d ∙ sse_more c.args.copied.0 d c.is_alone-alone.result) in
    rw (← c.is_alone-alone.ensures) (rw (c.put_number.ensures.written, c.put_control.ensures.written, c.clear_sse.ensures.written) done)
