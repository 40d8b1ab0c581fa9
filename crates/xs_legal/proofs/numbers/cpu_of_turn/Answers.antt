use Rattle.std.proofs.Common.{ap, ◌∙◌}
use Rattle.xs_model.specs.State.{turn_of}
use Rattle.xs_legal.proofs.Numbering.{cpu_of_turn}
use Rattle.xs_legal.proofs.numbers.cpu_of_turn.Goals as goal

pub returns : goal.returns
returns c = λ next.
    c.turn_of.ensures ∙ ap (turn_of c.args.blocks.now) c.task_of.ensures
    ∙ cpu_of_turn c.args.script.now c.args.blocks.now c.args.event.now c.steps_told.ensures.turns c.turns_known.ensures.known next c.requires.inside
