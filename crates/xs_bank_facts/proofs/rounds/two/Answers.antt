use Rattle.std.proofs.Common.{◌∙◌}
use Rattle.xs_bank_facts.proofs.rounds.two.Goals as goal

pub returns : goal.returns
returns g c = record {
  rows = c.instruction-2.ensures.rows ∙ c.instruction.ensures.rows;
  ready = λ id m area before. c.instruction-2.ensures.ready id m area (c.instruction.ensures.ready id m area before);
}
