-- How a call of the generator ends, by its status.
use Rattle.std.specs.Prelude.{ℕ}
use Rattle.xs_outside.specs.declared.status.Status.{Status}
use Rattle.xs_outside.specs.declared.status.Status.TheVariants as statuses
use Rattle.xs_outside.specs.Outside.{Output, FailsIn, Writes, WritesNothing}
use Rattle.xs_gen.specs.Generated.{generated_text}

-- The script of the number was written, or a front of it, or nothing for want of memory.
abbrev pub GenEnds : ℕ → Output → Output → Status → Type 0
GenEnds number before after statuses.Done = Writes before after (generated_text number)
GenEnds number before after statuses.Killed = ⊥
GenEnds number before after statuses.Refused = ⊥
GenEnds number before after statuses.Illegal = ⊥
GenEnds number before after statuses.ReadFault = ⊥
GenEnds number before after statuses.WriteFault = FailsIn before after (generated_text number)
GenEnds number before after statuses.NoMemory = WritesNothing before after
GenEnds number before after statuses.Usage = ⊥
