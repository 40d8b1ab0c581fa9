-- An outer line is found where its block stands.
use Rattle.std.proofs.Common.{ap, ◌∙◌, sym, subst}
use Rattle.xs_model.specs.Note.{is_count, last_after, set_act, set_target}
use Rattle.xs_model.specs.declared.script.Command.{Command}
use Rattle.std.specs.Prelude.{Option, slice_index_or, None}
use Rattle.xs_legal.specs.Step.{IsNext}
use Rattle.xs_legal.proofs.numbers.note_last.Goals as goal

pub command_of-command-requires : goal.command_of-command-requires
command_of-command-requires c = (c.in-Outer.line, (c.steps_told.ensures.outer c.args.script.now c.args.blocks.now c.in-Outer.task c.in-Outer.line c.in-Outer.reply (subst (IsNext c.args.script.now c.args.blocks.now) c.in-Outer.is c.requires)).here)

pub returns-in-Outer : goal.returns-in-Outer
returns-in-Outer c = λ u within.
    let t = c.in-Outer.task in
    let here = (c.steps_told.ensures.outer c.args.script.now c.args.blocks.now t c.in-Outer.line c.in-Outer.reply (subst (IsNext c.args.script.now c.args.blocks.now) c.in-Outer.is c.requires)).here in
    let found = c.command_of-command.ensures c.in-Outer.line here in
    rw c.in-Outer.is (c.note_set.ensures u within
    ∙ ap (λ (command : Option Command). last_after t (set_act (set_target c.args.script.now command) (is_count c.in-Outer.reply)) u (slice_index_or c.args.lasts.now u None)) (sym found))
