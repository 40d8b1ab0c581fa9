-- The line is found where its block stands.
use Rattle.std.proofs.Common.{ap, ◌∙◌, sym, subst}
use Rattle.xs_model.specs.Note.{is_section}
use Rattle.xs_legal.specs.Step.{IsNext}
use Rattle.xs_legal.proofs.Numbering.{clears_local}
use Rattle.xs_legal.proofs.numbers.is_section.Goals as goal

pub command_of-requires : goal.command_of-requires
command_of-requires c = (c.in-Local.line, (c.steps_told.ensures.local c.args.script.now c.args.blocks.now c.in-Local.task c.in-Local.line c.in-Local.reply (subst (IsNext c.args.script.now c.args.blocks.now) c.in-Local.is c.requires)).here)

pub returns-in-Local : goal.returns-in-Local
returns-in-Local c =
    let here = (c.steps_told.ensures.local c.args.script.now c.args.blocks.now c.in-Local.task c.in-Local.line c.in-Local.reply (subst (IsNext c.args.script.now c.args.blocks.now) c.in-Local.is c.requires)).here in
    rw c.in-Local.is (clears_local c.args.script.now c.in-Local.task c.in-Local.line c.is_ksec.result (c.is_ksec.ensures ∙ ap is_section (sym (c.command_of.ensures c.in-Local.line here))))
