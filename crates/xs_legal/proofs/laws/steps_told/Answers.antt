-- What the laws tell together.
use Rattle.xs_legal.proofs.Telling.{local_told, outer_told, step_valid, step_within}
use Rattle.xs_legal.proofs.Numbering.{step_turns}
use Rattle.xs_legal.proofs.laws.steps_told.Goals as goal

pub returns : goal.returns
returns c =
    let found = c.lines_found.ensures in
    let machines = c.machine_known.ensures.known in
    let tasks = c.machine_known.ensures.valid in
    let named = c.named_known.ensures.named in
    let bears = c.a_fork_bears.ensures.bears in
    record {
      within = step_within;
      valid = step_valid found machines tasks named bears;
      local = local_told found machines tasks named bears;
      outer = outer_told found machines tasks named bears;
      turns = step_turns;
    }
