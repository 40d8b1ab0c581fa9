use Rattle.std.proofs.Common.{inl}
use Rattle.xs_script.specs.Refusal.{Here}
use Rattle.xs_script.specs.Body.{body_stand}
use Rattle.xs_script.proofs.BodyLines.{no_table, no_sched_here}
use Rattle.xs_script.proofs.BlockLines.{added_explains}
use Rattle.xs_script.proofs.body.Body.read_line.Goals as goal

pub returns-in-Err-clause-refused : goal.returns-in-Err-clause-refused
returns-in-Err-clause-refused c =
    let body = c.args.self.now in
    inl (Here c.in-Err.kind (no_table body.blocks body.begun c.args.text.now) (c.in-Err.ensures.refused (body_stand body) (no_sched_here body.blocks body.begun) (λ e. absurd (c.requires.some e))))

pub returns-in-Err-add-clause-refused : goal.returns-in-Err-add-clause-refused
returns-in-Err-add-clause-refused c =
    added_explains c.args.scope.now c.args.self.now c.args.number c.args.text.now c.in-Ok.first.0 c.in-Ok.first.1.now c.in-Err-add.e c.in-Ok.ensures.line c.in-Err-add.ensures.refused
