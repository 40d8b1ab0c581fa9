use Rattle.std.proofs.Common.{arith}
use Rattle.std.proofs.lemmas.List.{with_items_is}
use Rattle.xs_area.proofs.StandLemmas.{source_parts, target_whole, stands_taken}
use Rattle.xs_area.proofs.copies.compact_of.Goals as goal

pub returns-clause-stands : goal.returns-clause-stands
returns-clause-stands c file h parts =
    let rows = c.args.layout.now in
    let bits = c.args.parts.now.bits.0 in
    let control = c.args.parts.now.mxcsr in
    let old = c.args.area.now.bytes in
    let taken = rw c.deref_mut.ensures.value at c.take.ensures.taken in
    let source = source_parts rows c.take.ensures.layout c.args.bytes.now c.args.parts.now file parts in
    let target = target_whole rows c.args.bytes.now 0 bits control old.items file c.requires.sse c.requires.room source in
    rw (with_items_is old c.take.new.to (omega arith)) (stands_taken rows c.take.ensures.layout c.args.bytes.now 0 bits control old.items c.take.new.to file file taken source target)
