use Rattle.xs_bench.proofs.Changes.{read_on}
use Rattle.xs_bench.proofs.repeats.repeat_standard_of.Goals as goal

pub turns-init : goal.turns-init
turns-init c =
    let area = c.stands.ensures.readable.0 c.if-not-stands.false in
    record { header = area.header; places = area.places }

pub turns-preserved : goal.turns-preserved
turns-preserved c =
    read_on c.args.layout.now c.turns.area.bytes.items c.change_area.new.area.bytes.items c.turns.invariant c.change_area.ensures.len c.change_area.ensures.bits c.change_area.ensures.names
