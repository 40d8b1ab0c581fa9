use Rattle.xs_area.proofs.TakeLemmas.{taken}
use Rattle.xs_area.proofs.copies.take.Goals as goal

pub returns-clause-taken : goal.returns-clause-taken
returns-clause-taken c =
    taken c.args.layout.now c.copied_of-copied.ensures.layout c.args.from.now c.args.names.0 c.args.set.0 c.copied_of-copied.result.0 c.args.control c.args.to.now c.copy_rows.new.to c.finish.new.to c.requires.header c.copied_of-copied.ensures.copied c.copy_rows.ensures c.finish.ensures
