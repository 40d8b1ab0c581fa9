use Rattle.xs_script.proofs.body.Body.add.Goals as goal

pub returns-in-Ok-clause-taken : goal.returns-in-Ok-clause-taken
returns-in-Ok-clause-taken c = rw c.in-Begin.is (record { taken = c.in-Ok.ensures.taken c.args.number; passes = c.begin.ensures.forked })
