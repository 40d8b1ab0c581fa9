use Rattle.xs_bench.proofs.banks.prepare.Goals as goal

pub returns-in_ok-write_sse-in-SaveOne-clause-ready : goal.returns-in_ok-write_sse-in-SaveOne-clause-ready
returns-in_ok-write_sse-in-SaveOne-clause-ready g c m =
    let area = c.args.area.now in
    c.in_ok-write_sse-in-SaveOne.ensures.ready area.id m area.bytes.items (c.in_ok-load-in-SaveOne.ensures.ready m)
