-- The area stands for the file that the bank has.
use Rattle.std.proofs.Common.{◌≡◌}
use Rattle.xs_switch.proofs.leaving.save_task.Goals as goal

pub save-requires-clause-ready : goal.save-requires-clause-ready
save-requires-clause-ready g c = (c.requires.ready c.requires.in_bank c.in-Some.lease c.in-Some.is).ready

pub returns-clause-saved : goal.returns-clause-saved
returns-clause-saved g c = λ lease is.
    let same : lease ≡ c.save.new.lease = cc is in
    rw same (record {
      stands = c.save.ensures.stands;
      marks = rw (← c.save.ensures.class) at c.save.ensures.marks;
    })
