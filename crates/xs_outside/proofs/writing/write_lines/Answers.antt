use Rattle.std.proofs.Common.{◌++◌, ◌∙◌, [], sym}
use Rattle.std.proofs.lemmas.List.{append-nil}
use Rattle.std.proofs.lemmas.Result.{err_from_is_err_and, on_err_weaker}
use Rattle.xs_outside.proofs.KnownBytes.{Appends_then, front_then, fails_within}
use Rattle.xs_outside.proofs.writing.write_lines.Goals as goal

-- where the write of a line failed, a front of the text was written
pub returns-in_err-write_all-clause-err : goal.returns-in_err-write_all-clause-err
returns-in_err-write_all-clause-err g c =
    let failed = err_from_is_err_and c.from_residual.result c.from_residual.ensures.1 in
    let so_far = c.loop-line.invariant in
    rw failed.1
    (fails_within _ _ _ c.args.text.now so_far.0 c.loop-line.rest.now c.in-Some.line.now c.in-Some.more.now so_far.1 c.in-Some.ensures.1 so_far.2 c.in_err-write_all.ensures.err)

-- the front grows by a line
pub loop-line-preserved : goal.loop-line-preserved
loop-line-preserved g c =
    let so_far = c.loop-line.invariant in
    let line = c.in-Some.line.now in
    let parts = front_then c.args.text.now so_far.0 c.loop-line.rest.now line c.in-Some.more.now so_far.1 c.in-Some.ensures.1 in
    let written = Appends_then _ _ _ so_far.0 line so_far.2 c.in_ok-write_all.ensures.ok in
    (so_far.0 ++ line, parts, written, c.in_ok-write_all.ensures.cause.kept ∙ so_far.3)

-- as where the write of the last part did
pub returns-clause-err : goal.returns-clause-err
returns-clause-err g c =
    let so_far = c.loop-line.invariant in
    let rest = c.loop-line.rest.now in
    on_err_weaker c.write_all-2.result
    (fails_within _ _ _ c.args.text.now so_far.0 rest rest [] so_far.1 (sym (append-nil rest)) so_far.2)
    c.write_all-2.ensures.err
