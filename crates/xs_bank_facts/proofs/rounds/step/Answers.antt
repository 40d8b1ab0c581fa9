use Rattle.xs_bank_facts.proofs.rounds.step.Goals as goal

pub save-saved-requires-clause-ready : goal.save-saved-requires-clause-ready
save-saved-requires-clause-ready g c =
    let area = c.args.area.now in
    c.two-2.ensures.ready area.id c.args.mask.0 area.bytes.items (c.two.ensures.ready area.id c.args.mask.0 area.bytes.items c.requires.ready)
