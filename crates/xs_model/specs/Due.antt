-- What may come next: the one event that a block in a turn can make, and the one Start that a ready block can make on a
-- processor. This project's own; a kill by #NM follows Linux 6.6, arch/x86/kernel/traps.c, handle_xfd_event, and
-- arch/x86/kernel/fpu/xstate.c, __xfd_enable_feature.
use Rattle.std.specs.Prelude.{ℕ, ◌+◌, Bool, true, false, not, ◌&&◌, nat_lt, List, [], ◌∷◌, slice_get, Option, Some, None, if◌then◌else◌}
use Rattle.std.proofs.Common.{lit≤}
use Rattle.xs_base.specs.declared.words.How.{How}
use Rattle.xs_base.specs.declared.words.How.TheVariants.{Load, Skip, Kern}
use Rattle.xs_base.specs.declared.words.Signo.{Signo}
use Rattle.xs_base.specs.Task.{PrivateTask}
use Rattle.xs_model.specs.declared.script.Order.{Order}
use Rattle.xs_model.specs.declared.script.Block.{Block}
use Rattle.xs_model.specs.declared.event.Why.{Why}
use Rattle.xs_model.specs.declared.event.Why.TheVariants as whys
use Rattle.xs_model.specs.declared.event.Event.{Event}
use Rattle.xs_model.specs.declared.event.Event.TheVariants.{Start, Local, Outer, Grow, Kill, End}
use Rattle.xs_model.specs.declared.stage.Stage.{Stage}
use Rattle.xs_model.specs.declared.stage.Stage.TheVariants.{Unborn, Ready, Turn, Stopped, Waiting, Ended}
use Rattle.xs_model.specs.Script.{is_outer, is_user}
use Rattle.xs_model.specs.Line.{line_at, local_reply, traps, refusal}
use Rattle.xs_model.specs.Held.{held}
use Rattle.xs_model.specs.State.{BlockState, Machine, is_ready, lives, has_turn}
use Rattle.xs_model.specs.Outer.{outer_reply}

-- SIGILL and SIGSEGV
abbrev pub illegal : Signo
illegal = record { number = 4; in_range = (lit≤ tt, lit≤ tt) }

abbrev pub violation : Signo
violation = record { number = 11; in_range = (lit≤ tt, lit≤ tt) }

-- ---- in a turn

-- the living blocks with room for TILEDATA
abbrev pub large_count : List BlockState → ℕ
large_count [] = 0
large_count (block ∷ blocks) = (if block.task.large && lives block.stage then 1 else 0) + large_count blocks

-- The event of a line that traps: the task grows where it is permitted and a Large area is free.
abbrev pub trap_event : Machine → ℕ → PrivateTask → Event
trap_event m t task =
    if not task.permitted then Kill t illegal whys.Permission
    else if nat_lt (large_count m.blocks) m.script.large then Grow t
    else Kill t violation whys.Area

-- The event of a local line that doesn't trap: a return of a refused frame kills.
abbrev pub local_event : Machine → ℕ → ℕ → PrivateTask → Order → Option Why → Option Event
local_event m t ran task order (Some why) = Some (Kill t violation why)
local_event m t ran task order None = if nat_lt ran m.script.quantum then Some (Local t order.number (local_reply task order.command)) else None

-- the event of a line
abbrev pub line_event : Machine → ℕ → ℕ → PrivateTask → Order → Option Event
line_event m t ran task order =
    if is_outer order.command then Some (Outer t order.number (outer_reply m.script m.blocks t order.command))
    else if traps task order.command then Some (trap_event m t task)
    else local_event m t ran task order (refusal task order.command)

-- the event at the task's place: where no line stands there, the end of the body
abbrev pub place_event : Machine → ℕ → ℕ → PrivateTask → Option Order → Option Event
place_event m t ran task None = if nat_lt ran m.script.quantum && not task.handling then Some (End t) else None
place_event m t ran task (Some order) = line_event m t ran task order

abbrev pub turn_event : Machine → ℕ → Block → PrivateTask → Stage → Option Event
turn_event m t lines task Unborn = None
turn_event m t lines task Ready = None
turn_event m t lines task (Turn cpu ran) = place_event m t ran task (line_at lines task)
turn_event m t lines task Stopped = None
turn_event m t lines task (Waiting child) = None
turn_event m t lines task Ended = None

abbrev pub block_event : Machine → ℕ → Option BlockState → Option Block → Option Event
block_event m t None lines = None
block_event m t (Some block) None = None
block_event m t (Some block) (Some lines) = turn_event m t lines block.task block.stage

-- the one event that block t can make next in its turn, if it is in one
abbrev pub due : Machine → ℕ → Option Event
due m t = block_event m t (slice_get m.blocks t) (slice_get m.script.blocks t)

-- ---- the start of a turn

-- How the registers come: a kernel thread has none, and a restore is left out exactly where they are held.
abbrev pub how_of : Bool → Bool → How
how_of true true = Skip
how_of true false = Load
how_of false is_held = Kern

abbrev pub first_signal : List Signo → Option Signo
first_signal [] = None
first_signal (signo ∷ pending) = Some signo

-- the signal that a Start carries: the lowest pending one, while no handler runs
abbrev pub signal_of : BlockState → Option Signo
signal_of block = if block.task.handling then None else first_signal block.pending

abbrev pub block_start : Machine → ℕ → ℕ → Option BlockState → Option Event
block_start m t cpu None = None
block_start m t cpu (Some block) =
    if is_ready block.stage && nat_lt cpu m.script.cpus && not (has_turn m.blocks cpu)
    then Some (Start t cpu (how_of (is_user m.script t) (held m.script m.past cpu t)) (signal_of block)) else None

-- the one Start of block t on the processor, where it is ready and the processor is one of the script's without a turn
abbrev pub start_due : Machine → ℕ → ℕ → Option Event
start_due m t cpu = block_start m t cpu (slice_get m.blocks t)
