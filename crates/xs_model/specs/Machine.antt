-- The private machine: which event is a step, and what it does. Every task owns its whole register file; a bank, a save
-- area or an owner mark is nowhere in it. A step is the event that is due, made while no other block's commit is open; its
-- effect is what it does to the other blocks, and then to its own. This project's own.
use Rattle.std.specs.Prelude.{◌≡◌, ℕ, ◌+◌, Bool, true, not, ◌&&◌, ◌==◌, nat_lt, List, [], ◌∷◌, length, map, Option, Some, None, if◌then◌else◌}
use Rattle.std.specs.List.{AllByRecursion}
use Rattle.xs_base.specs.declared.words.Signo.{Signo}
use Rattle.xs_base.specs.Task.{PrivateTask, IsPrivateTask, parked}
use Rattle.xs_base.specs.Frame.{delivered}
use Rattle.xs_base.specs.Tile.{grown}
use Rattle.xs_model.specs.declared.script.Command.{Command}
use Rattle.xs_model.specs.declared.script.Script.{Script}
use Rattle.xs_model.specs.declared.event.Event.{Event}
use Rattle.xs_model.specs.declared.event.Event.TheVariants.{Start, Local, Outer, Grow, Kill, End}
use Rattle.xs_model.specs.declared.stage.Stage.{Stage}
use Rattle.xs_model.specs.declared.stage.Stage.TheVariants.{Ready, Turn, Ended}
use Rattle.xs_model.specs.Script.{command_at, is_yield}
use Rattle.xs_model.specs.Line.{local_after, killed}
use Rattle.xs_model.specs.Note.{task_of}
use Rattle.xs_model.specs.State.{BlockState, Machine, opening, turn_of, changed}
use Rattle.xs_model.specs.Outer.{freed, outer_reach, outer_own}
use Rattle.xs_model.specs.Due.{due, start_due}

-- ---- what an event does to its own block

abbrev pub later_signals : List Signo → List Signo
later_signals [] = []
later_signals (signo ∷ pending) = pending

-- a turn starts, and a signal is delivered
abbrev pub started : ℕ → Option Signo → BlockState → BlockState
started cpu None block = record block { stage = Turn cpu 0 }
started cpu (Some signo) block = record block { stage = Turn cpu 0; task = delivered block.task; pending = later_signals block.pending }

-- The turn goes on after a local line: the line is no yield, and fewer Local events than the quantum were made.
abbrev pub goes_on : Script → Command → ℕ → Bool
goes_on script command ran = not (is_yield command) && nat_lt (ran + 1) script.quantum

-- a local line ran; a turn that ends gives the task its marks
abbrev pub ran_in : Script → Command → Stage → BlockState → BlockState
ran_in script command (Turn cpu ran) block =
    if goes_on script command ran then record block { stage = Turn cpu (ran + 1); task = local_after block.task command }
    else record block { stage = Ready; task = parked (local_after block.task command) }
ran_in script command other block = block

abbrev pub ran_line : Script → Option Command → BlockState → BlockState
ran_line script None block = block
ran_line script (Some command) block = ran_in script command block.stage block

-- the task has a Large area, and its line runs in its next turn
abbrev pub grew : BlockState → BlockState
grew block = record block { stage = Ready; task = parked (grown block.task) }

-- the block has ended with this task, and its pending signals are dropped
abbrev pub ended_with : PrivateTask → BlockState → BlockState
ended_with task block = record block { stage = Ended; task = parked task; pending = [] }

-- what an event does to its own block
abbrev pub own : Script → Event → BlockState → BlockState
own script (Start t cpu how signal) block = started cpu signal block
own script (Local t line reply) block = ran_line script (command_at script t line) block
own script (Outer t line reply) block = outer_own script (command_at script t line) reply block
own script (Grow t) block = grew block
own script (Kill t signo why) block = ended_with (killed why block.task) block
own script (End t) block = ended_with block.task block

-- ---- the machine after an event

-- what an event does beside that: an outer command as it does, and an end frees the parent and the children
abbrev pub reach : Script → Event → List BlockState → List BlockState
reach script (Start t cpu how signal) blocks = blocks
reach script (Local t line reply) blocks = blocks
reach script (Outer t line reply) blocks = outer_reach script t (command_at script t line) reply blocks
reach script (Grow t) blocks = blocks
reach script (Kill t signo why) blocks = map (freed t) blocks
reach script (End t) blocks = map (freed t) blocks

abbrev pub blocks_after : Script → Event → List BlockState → List BlockState
blocks_after script event blocks = changed (task_of event) (own script event) (reach script event blocks)

abbrev pub open_commit : ℕ → Option ℕ → Option ℕ
open_commit t None = None
open_commit t (Some cpu) = Some t

-- After a Local event the commit is open where the turn goes on. A Start opens none, and every other event ends its turn.
abbrev pub committing_after : List BlockState → Event → Option ℕ
committing_after blocks (Start t cpu how signal) = None
committing_after blocks (Local t line reply) = open_commit t (turn_of blocks t)
committing_after blocks (Outer t line reply) = None
committing_after blocks (Grow t) = None
committing_after blocks (Kill t signo why) = None
committing_after blocks (End t) = None

-- the machine after an event
abbrev pub after : Machine → Event → Machine
after m event = record {
  script = m.script;
  blocks = blocks_after m.script event m.blocks;
  committing = committing_after (blocks_after m.script event m.blocks) event;
  past = event ∷ m.past;
}

-- ---- steps

-- While a commit is open, no other block acts.
abbrev pub may_act : Option ℕ → ℕ → Bool
may_act None t = true
may_act (Some u) t = u == t

-- the event of this kind that may come from this block
abbrev pub foreseen : Machine → Event → Option Event
foreseen m (Start t cpu how signal) = start_due m t cpu
foreseen m (Local t line reply) = due m t
foreseen m (Outer t line reply) = due m t
foreseen m (Grow t) = due m t
foreseen m (Kill t signo why) = due m t
foreseen m (End t) = due m t

-- The event is a step.
pub record IsStep (m : Machine) (event : Event) : Type 0 where
  pub acts : may_act m.committing (task_of event) ≡ true
  pub is_due : foreseen m event ≡ Some event

-- ---- the machine of a past

-- the machine after these events, the latest first
abbrev pub machine : Script → List Event → Machine
machine script [] = opening script
machine script (event ∷ past) = after (machine script past) event

-- Each event is a step of the machine that those before it make.
abbrev pub IsLegalPast : Script → List Event → Type 0
IsLegalPast script [] = Unit {0}
IsLegalPast script (event ∷ past) = IsLegalPast script past × IsStep (machine script past) event

-- The blocks are as many as the script's, each with a private task that its machine may have.
pub record IsMachineOf (script : Script) (m : Machine) : Type 0 where
  pub script_is : m.script ≡ script
  pub count : length m.blocks ≡ length script.blocks
  pub tasks : AllByRecursion (λ (block : BlockState). IsPrivateTask script.layout block.task) m.blocks
