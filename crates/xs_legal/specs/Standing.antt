-- The machine that follows a history: what it keeps, and the past after which it stands. Beside the blocks these are the two numbers by
-- which Linux tells whether a bank still holds a task's registers (Linux 6.6, arch/x86/kernel/fpu/context.h, fpregs_state_valid): a
-- processor's owner mark and a task's last processor.
use Rattle.std.specs.Prelude.{◌≡◌, ℕ, ◌<◌, ◌&&◌, Bool, true, false, List, length, slice_index_or, Option, None, if◌then◌else◌}
use Rattle.xs_model.specs.declared.event.Event.{Event}
use Rattle.xs_model.specs.declared.script.Script.{Script}
use Rattle.xs_model.specs.Machine.{IsLegalPast, machine}
use Rattle.xs_model.specs.Note.{Act, Starts, Section, Grows, Sets, Plain, act_of, cpu_of, is_at, last, last_after, mark, mark_after, notes_of, start_cpu, task_of}
use Rattle.xs_model.specs.Script.{IsValid, is_user}
use Rattle.xs_model.specs.State.{BlockState}

pub record Standing : Type 0 where
  pub script : Script
  pub blocks : List BlockState
  pub committing : Option ℕ
  pub marks : List (Option ℕ)
  pub lasts : List (Option ℕ)

-- The machine stands after these events, the latest first: each was a step.
pub record StandsAfter (m : Standing) (past : List Event) : Type 0 where
  pub legal : IsLegalPast m.script past
  pub blocks_are : m.blocks ≡ (machine m.script past).blocks
  pub committing_is : m.committing ≡ (machine m.script past).committing
  pub marks_are : (cpu : ℕ) → cpu < 16 → slice_index_or m.marks cpu None ≡ mark m.script past cpu
  pub lasts_are : (t : ℕ) → t < length m.script.blocks → slice_index_or m.lasts t None ≡ last m.script past t

-- It stands after some events of a valid script, with a mark for each processor and a last processor for each block.
pub record IsStanding (m : Standing) : Type 0 where
  pub valid : IsValid m.script
  pub marks : length m.marks ≡ 16
  pub lasts : length m.lasts ≡ length m.script.blocks
  pub past : List Event
  pub stands : StandsAfter m past

-- ---- the two numbers

-- both numbers say that the processor holds the task
abbrev pub are_both : List (Option ℕ) → List (Option ℕ) → ℕ → ℕ → Bool
are_both marks lasts cpu t = is_at (slice_index_or marks cpu None) t && is_at (slice_index_or lasts t None) cpu

-- the processor of an event after this past: that of the Start, or of its block's latest one
abbrev pub cpu_after : Script → List Event → Event → Option ℕ
cpu_after script past event = start_cpu (act_of script event) (cpu_of (notes_of script past) (task_of event))

-- the mark of its own processor after an event, where it was `older` before
abbrev pub mark_left : Script → Event → Option ℕ → Option ℕ
mark_left script event older = mark_after (is_user script (task_of event)) (task_of event) (act_of script event) older

-- the act clears its processor's mark
abbrev pub clears : Act → Bool
clears (Starts c) = false
clears Section = true
clears Grows = false
clears (Sets u) = false
clears Plain = false

-- The marks after an event on a processor.
abbrev pub AreMarksAfter : Script → Event → Option ℕ → List (Option ℕ) → List (Option ℕ) → Type 0
AreMarksAfter script event cpu old new = (c : ℕ) → c < length old → slice_index_or new c None ≡ if is_at cpu c then mark_left script event (slice_index_or old c None) else slice_index_or old c None

-- The last processors after an act of a block.
abbrev pub AreLastsAfter : ℕ → Act → List (Option ℕ) → List (Option ℕ) → Type 0
AreLastsAfter t act old new = (u : ℕ) → u < length old → slice_index_or new u None ≡ last_after t act u (slice_index_or old u None)
