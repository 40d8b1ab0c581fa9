use Rattle.std.proofs.Common.{sym, ◌∙◌}
use Rattle.xs_script.specs.Refusal.{Table, Here}
use Rattle.xs_script.specs.Head.{head_stand}
use Rattle.xs_script.proofs.HeadSteps.{not_ended, before_sched, next_fails, next_steps}
use Rattle.xs_script.proofs.head.Head.read_line.Goals as goal

pub returns-in-Some-clause-refused : goal.returns-in-Some-clause-refused
returns-in-Some-clause-refused c = Table c.in-Some.error (sym c.table_fault.ensures ∙ c.in-Some.is)

pub returns-in-Err-clause-refused : goal.returns-in-Err-clause-refused
returns-in-Err-clause-refused c =
    let head = c.args.self.now in
    Here c.in-Err.kind (sym c.table_fault.ensures ∙ c.in_default.is) (c.in-Err.ensures.refused (head_stand head) (before_sched head.stage head.rows.items head.cpus c.requires.part) (λ e. not_ended head.stage head.rows.items head.cpus))

pub returns-in-Ok-add-clause-taken : goal.returns-in-Ok-add-clause-taken
returns-in-Ok-add-clause-taken c =
    next_steps c.args.self.now c.args.text.now c.in-Ok.first.0 c.add.new.self c.in-Ok.first.1.now c.in-Ok.ensures.line c.in-Ok-add.ensures.taken

pub returns-in-Err-add-clause-refused : goal.returns-in-Err-add-clause-refused
returns-in-Err-add-clause-refused c =
    next_fails (head_stand c.args.self.now) c.args.number c.args.text.now c.in-Ok.first.0 c.in-Ok.first.1.now c.in-Err-add.kind (sym c.table_fault.ensures ∙ c.in_default.is) c.in-Ok.ensures.line c.in-Err-add.ensures.refused
