-- Where a write failed, a front of the text was written: the lines before, and a front of the event's line.
use Rattle.std.proofs.Common.{◌∙◌, arith}
use Rattle.std.proofs.lemmas.Result.{err_from_is_err_and}
use Rattle.xs_top.proofs.HistoryFront.{fault_in_line}
use Rattle.xs_top.proofs.history.write_history.Goals as goal

pub returns-in_err-write_all-clause-err : goal.returns-in_err-write_all-clause-err
returns-in_err-write_all-clause-err g c =
    let failed = err_from_is_err_and c.from_residual.result c.from_residual.ensures.1 in
    rw failed.1
    (fault_in_line c.args.script.now c.args.history.now c.loop-event.event-index c.event-item.result c.as_slice.result.now _ _ _
    (omega arith) c.event-item.is (c.as_slice.ensures.value ∙ c.write_event.ensures) c.loop-event.invariant.0 c.in_err-write_all.ensures.err)
