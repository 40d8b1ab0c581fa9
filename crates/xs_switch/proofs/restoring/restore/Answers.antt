-- A task's area is accepted, and gives its registers.
use Rattle.std.proofs.Common.{◌∙◌}
use Rattle.xs_switch.proofs.AreaLemmas.{table, long, has_places, never_stopped, covers, no_pkru}
use Rattle.xs_switch.proofs.restoring.restore.Goals as goal

pub xrstors-requires-clause-header : goal.xrstors-requires-clause-header
xrstors-requires-clause-header g c = long c.args.layout.now c.args.lease.now c.requires.area

pub xrstors-requires-clause-places : goal.xrstors-requires-clause-places
xrstors-requires-clause-places g c = λ compact. rw (c.arm.ensures.machine) (has_places c.args.layout.now c.args.lease.now c.requires.area)

pub unreachable-requires : goal.unreachable-requires
unreachable-requires g c =
    let rows = c.args.layout.now in
    let lease = c.args.lease.now in
    let accepted = rw (c.arm.ensures.machine) at c.in-Err.ensures.accepted in
    absurd (never_stopped rows lease c.requires.area _ _ _ c.arm.ensures.armed (accepted lease.class lease.area.id c.requires.area.loadable c.requires.area.compact))

pub returns-clause-file : goal.returns-clause-file
returns-clause-file g c = λ file good stands.
    let rows = c.args.layout.now in
    let whole = rw (c.arm.ensures.machine) at c.in-Ok.ensures.whole in
    (whole file good stands).all (covers rows c.class_features-mask.result.0 (table rows c.args.lease.now c.requires.area) c.class_features-mask.ensures.bits)

pub returns-clause-pkru : goal.returns-clause-pkru
returns-clause-pkru g c =
    let good = table c.args.layout.now c.args.lease.now c.requires.area in
    let bits = c.class_features-mask.ensures.bits in
    c.in-Ok.ensures.loaded.others 9 (search (no_pkru, good, bits)) ∙ c.arm.ensures.pkru
