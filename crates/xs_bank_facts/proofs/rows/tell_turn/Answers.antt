use Rattle.xs_bank_facts.proofs.rows.tell_turn.Goals as goal

pub save-requires-clause-ready : goal.save-requires-clause-ready
save-requires-clause-ready g c =
    let area = c.args.area.now in
    let mask = c.of_machine.result.0 in
    c.write.ensures.ready area.id mask area.bytes.items (c.tell_register.ensures.ready area.id mask area.bytes.items (c.requires.ready mask))
