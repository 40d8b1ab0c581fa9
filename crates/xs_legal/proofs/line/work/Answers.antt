-- The bytes that a register is set to are as many as it has.
use Rattle.xs_legal.proofs.Commands.{set_long}
use Rattle.xs_legal.proofs.line.work.Goals as goal

pub write-requires-clause-fits : goal.write-requires-clause-fits
write-requires-clause-fits c =
    let known = rw c.in-Set.is at c.requires.known in
    rw c.as_slice.ensures.bytes (set_long c.args.task.now.file.rows c.in-Set.reg c.in-Set.bytes known)
