use Rattle.std.proofs.Common.{◌++◌, take, ◌∙◌}
use Rattle.xs_outside.proofs.KnownBytes.{Appends_then, front_more}
use Rattle.xs_outside.proofs.writing.write_all.Goals as goal

-- the front grows by the bytes that the write took
pub loop-rest-preserved : goal.loop-rest-preserved
loop-rest-preserved g c =
    let so_far = c.loop-rest.invariant in
    let rest = c.loop-rest.rest.now in
    let count = c.in_ok-count.count in
    let parts = front_more _ so_far.0 rest count so_far.1 in
    let written = Appends_then _ _ _ so_far.0 (take count rest) so_far.2 c.in_ok-count.ensures.bytes in
    (so_far.0 ++ take count rest, parts, written, c.in_ok-count.ensures.cause.kept ∙ so_far.3)
