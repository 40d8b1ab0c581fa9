-- One pass more came back.
use Rattle.std.proofs.Common.{◌<◌, arith, length, slice_index_or, refl}
use Rattle.std.proofs.lemmas.List.{get_or_default}
use Rattle.xs_machine.proofs.Seating.{collect_more}
use Rattle.xs_machine.proofs.seats.collect.Goals as goal

pub loop-place-preserved : goal.loop-place-preserved
loop-place-preserved g c =
    let procs = c.loop-place.procs in
    let place = c.loop-place.place in
    let within : place < length procs = omega (arith, c.loop-place-test.true, c.loop-place.auto.procs) in
    let old = slice_index_or procs place c.index-procs-place.result in
    rw (c.push.ensures.items, c.take.ensures.value, c.take.ensures.after)
    (collect_more c.loop-place.list.items c.args.procs.now procs place c.loop-place.invariant within old _ (get_or_default procs place c.index-procs-place.result old within) refl)
