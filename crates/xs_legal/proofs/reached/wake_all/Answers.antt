-- One block more is woken.
use Rattle.std.proofs.Common.{◌<◌, length, ap, ◌∙◌, get_or, slice_set, arith}
use Rattle.std.proofs.lemmas.List.{get_or_default}
use Rattle.std.proofs.lemmas.List.Edits.{map_over_more}
use Rattle.xs_model.specs.Outer.{woken}
use Rattle.xs_model.specs.State.{BlockState}
use Rattle.xs_legal.proofs.reached.wake_all.Goals as goal

pub each-preserved : goal.each-preserved
each-preserved c =
    let now = c.each.blocks in
    let i = c.each.block-index in
    let within : i < length now = omega arith in
    let block : BlockState = get_or now i c.block-item.result in
    ap (slice_set now i) c.wake.ensures
    ∙ map_over_more (woken c.args.t) c.args.blocks.now now i block (omega arith) c.each.invariant (get_or_default now i c.block-item.result block within)
