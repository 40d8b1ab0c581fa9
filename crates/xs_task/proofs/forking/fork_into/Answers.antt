-- A child whose memories were cleared.
use Rattle.std.proofs.Common.{◌∙◌, sym, ap}
use Rattle.xs_task.specs.declared.task.Task.{Task}
use Rattle.xs_task.proofs.forking.fork_into.Goals as goal

pub inherit-requires-clause-child : goal.inherit-requires-clause-child
inherit-requires-clause-child c =
    let same = ap (λ (t : Task). t.lease) c.clear_memories.ensures.others in
    record {
      frame = c.clear_memories.ensures.frame_len;
      buffer = c.clear_memories.ensures.buffer_len;
      some = λ none. c.requires.child.some (sym same ∙ none);
      area = λ lease is. c.requires.child.area lease (sym same ∙ is);
    }

pub inherit-requires-clause-small : goal.inherit-requires-clause-small
inherit-requires-clause-small c = λ lease is. c.requires.small lease (sym (ap (λ (t : Task). t.lease) c.clear_memories.ensures.others) ∙ is)

pub returns-clause-parked : goal.returns-clause-parked
returns-clause-parked c = λ p parked after. c.inherit.ensures.parked p parked after c.clear_memories.ensures.frame c.clear_memories.ensures.buffer
