use Rattle.std.proofs.Common.{arith}
use Rattle.std.proofs.lemmas.List.{with_items_is}
use Rattle.xs_base.specs.Area.{control_in}
use Rattle.xs_base.specs.Header.{xstate_bv, xcomp_bv}
use Rattle.xs_area.proofs.StandLemmas.{source_area, target_cut, stands_taken}
use Rattle.xs_area.proofs.copies.copy_area.Goals as goal

pub returns-clause-stands : goal.returns-clause-stands
returns-clause-stands c file cut h and_h stands left =
    let rows = c.args.layout.now in
    let from = c.args.from.now.bytes.items in
    let old = c.args.to.now.bytes in
    let taken = rw (c.xcomp_bv.ensures, c.xstate_bv.ensures, c.control_in.ensures, c.as_slice-source.ensures.value, c.deref_mut.ensures.value) at c.take.ensures.taken in
    rw (with_items_is old c.take.new.to (omega arith)) (stands_taken rows c.take.ensures.layout from (xcomp_bv from) (xstate_bv from) (control_in from) old.items c.take.new.to file cut taken (source_area rows from file stands) (target_cut rows old.items file cut left))
