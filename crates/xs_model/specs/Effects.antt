-- The laws of events, block by block, as statements: what an event makes of its own block and of each other one, and whom it
-- makes ready.
use Rattle.std.specs.Prelude.{◌≡◌, ℕ, ◌+◌, Bool, true, false, ◌&&◌, ◌==◌, List, [], ◌∷◌, ◌++◌, slice_get, Option, Some, None, if◌then◌else◌}
use Rattle.xs_base.specs.declared.words.How.{How}
use Rattle.xs_base.specs.declared.words.Signo.{Signo}
use Rattle.xs_model.specs.declared.script.Command.{Command}
use Rattle.xs_model.specs.declared.script.Command.TheVariants as commands
use Rattle.xs_model.specs.declared.script.Block.{Block}
use Rattle.xs_model.specs.declared.script.Script.{Script}
use Rattle.xs_model.specs.declared.event.Reply.{Reply}
use Rattle.xs_model.specs.declared.event.Why.{Why}
use Rattle.xs_model.specs.declared.event.Event.{Event}
use Rattle.xs_model.specs.declared.event.Event.TheVariants.{Start, Local, Outer, Grow, Kill, End}
use Rattle.xs_model.specs.declared.stage.Stage.{Stage}
use Rattle.xs_model.specs.declared.stage.Stage.TheVariants.{Unborn, Ready, Turn, Stopped, Waiting, Ended}
use Rattle.xs_model.specs.Script.{IsValid, block_named, command_at}
use Rattle.xs_model.specs.Line.{killed}
use Rattle.xs_model.specs.Note.{is_count}
use Rattle.xs_model.specs.State.{BlockState, is_stopped, stage_at, parent_of, is_parent}
use Rattle.xs_model.specs.Outer.{is_held, is_blocked, woken, continued, freed, born, signalled, buffer_of, registers_set, buffer_filled, outer_own}
use Rattle.xs_model.specs.Machine.{started, goes_on, ran_line, grew, ended_with, machine, IsLegalPast}
use Rattle.xs_model.specs.Ready.{ready_list}
use Rattle.xs_model.specs.Laws.{IsInTurn}

-- ---- what an event makes of its own block

-- A Start and a local line.
abbrev pub StartedBlock : Type 0
StartedBlock = (script : Script) (past : List Event) (t cpu : ℕ) (how : How) (signal : Option Signo) (block : BlockState)
    → slice_get (machine script past).blocks t ≡ Some block
    → slice_get (machine script (Start t cpu how signal ∷ past)).blocks t ≡ Some (started cpu signal block)

abbrev pub RanBlock : Type 0
RanBlock = (script : Script) (past : List Event) (t line : ℕ) (reply : Reply) (block : BlockState) → slice_get (machine script past).blocks t ≡ Some block
    → slice_get (machine script (Local t line reply ∷ past)).blocks t ≡ Some (ran_line script (command_at script t line) block)

-- What an outer command of block t makes of block u beside the turn: of the block that it names, of a parent that waits, or, with
-- `getregs`, of the block's own buffer.
abbrev pub reached : Script → List BlockState → ℕ → Command → Reply → ℕ → BlockState → BlockState
reached script blocks t (commands.Fork name) reply u block = if block_named script name == u then born t (slice_get blocks t) block else block
reached script blocks t (commands.Kill name signo) reply u block = if is_count reply && (block_named script name == u) then signalled signo block else block
reached script blocks t commands.Stop reply u block = if is_held reply then woken t block else block
reached script blocks t (commands.Getregs name set) reply u block = if is_count reply && (t == u) then buffer_filled set (slice_get blocks (block_named script name)) block else block
reached script blocks t (commands.Setregs name set count) reply u block = if is_count reply && (block_named script name == u) then registers_set set count (buffer_of (slice_get blocks t)) block else block
reached script blocks t (commands.Cont name) reply u block = if is_count reply && (block_named script name == u) then continued block else block
reached script blocks t other reply u block = block

-- An outer line makes that of each block, and ends the turn of its own.
abbrev pub OuterOwn : Type 0
OuterOwn = (script : Script) (past : List Event) (t line : ℕ) (reply : Reply) (command : Command) (block : BlockState) → command_at script t line ≡ Some command
    → slice_get (machine script past).blocks t ≡ Some block
    → slice_get (machine script (Outer t line reply ∷ past)).blocks t ≡ Some (outer_own script (Some command) reply (reached script (machine script past).blocks t command reply t block))

abbrev pub OuterOther : Type 0
OuterOther = (script : Script) (past : List Event) (t line u : ℕ) (reply : Reply) (command : Command) (block : BlockState) → command_at script t line ≡ Some command
    → (t ≡ u → ⊥) → slice_get (machine script past).blocks u ≡ Some block
    → slice_get (machine script (Outer t line reply ∷ past)).blocks u ≡ Some (reached script (machine script past).blocks t command reply u block)

-- The block of an end or a kill has ended.
abbrev pub EndedBlock : Type 0
EndedBlock = (script : Script) (past : List Event) (t : ℕ) (block : BlockState) → slice_get (machine script past).blocks t ≡ Some block
    → slice_get (machine script (End t ∷ past)).blocks t ≡ Some (ended_with block.task block)

abbrev pub KilledBlock : Type 0
KilledBlock = (script : Script) (past : List Event) (t : ℕ) (signo : Signo) (why : Why) (block : BlockState) → slice_get (machine script past).blocks t ≡ Some block
    → slice_get (machine script (Kill t signo why ∷ past)).blocks t ≡ Some (ended_with (killed why block.task) block)

-- The block of a Grow is ready again, with room for TILEDATA.
abbrev pub GrewBlock : Type 0
GrewBlock = (script : Script) (past : List Event) (t : ℕ) (block : BlockState) → slice_get (machine script past).blocks t ≡ Some block
    → slice_get (machine script (Grow t ∷ past)).blocks t ≡ Some (grew block)

-- ---- what it makes of the others

-- A Start, a local line and a Grow leave them. An end and a kill wake the parent that waits, and let the stopped children go on.
abbrev pub StartOthers : Type 0
StartOthers = (script : Script) (past : List Event) (t cpu other : ℕ) (how : How) (signal : Option Signo) → (t ≡ other → ⊥)
    → slice_get (machine script (Start t cpu how signal ∷ past)).blocks other ≡ slice_get (machine script past).blocks other

abbrev pub LocalOthers : Type 0
LocalOthers = (script : Script) (past : List Event) (t line other : ℕ) (reply : Reply) → (t ≡ other → ⊥)
    → slice_get (machine script (Local t line reply ∷ past)).blocks other ≡ slice_get (machine script past).blocks other

abbrev pub GrowOthers : Type 0
GrowOthers = (script : Script) (past : List Event) (t other : ℕ) → (t ≡ other → ⊥)
    → slice_get (machine script (Grow t ∷ past)).blocks other ≡ slice_get (machine script past).blocks other

abbrev pub EndOthers : Type 0
EndOthers = (script : Script) (past : List Event) (t u : ℕ) (block : BlockState) → (t ≡ u → ⊥) → slice_get (machine script past).blocks u ≡ Some block
    → slice_get (machine script (End t ∷ past)).blocks u ≡ Some (freed t block)

abbrev pub KilledOthers : Type 0
KilledOthers = (script : Script) (past : List Event) (t u : ℕ) (signo : Signo) (why : Why) (block : BlockState) → (t ≡ u → ⊥) → slice_get (machine script past).blocks u ≡ Some block
    → slice_get (machine script (Kill t signo why ∷ past)).blocks u ≡ Some (freed t block)

-- ---- whom it makes ready

-- A Start of the first ready block leaves the rest of the list.
abbrev pub StartTakes : Type 0
StartTakes = (script : Script) (past : List Event) (t cpu : ℕ) (how : How) (signal : Option Signo) (list : List ℕ) → ready_list script past ≡ t ∷ list
    → ready_list script (Start t cpu how signal ∷ past) ≡ list

-- While the turn goes on nobody is made ready.
abbrev pub LocalKeeps : Type 0
LocalKeeps = (script : Script) (past : List Event) (t line cpu ran : ℕ) (reply : Reply) (block : BlockState) (lines : Block) (command : Command)
    → IsInTurn script past t cpu ran block lines → command_at script t line ≡ Some command → goes_on script command ran ≡ true
    → ready_list script (Local t line reply ∷ past) ≡ ready_list script past

-- A local line that ends the turn makes its own block ready, and no other.
abbrev pub LocalRises : Type 0
LocalRises = (script : Script) (past : List Event) (t line cpu ran : ℕ) (reply : Reply) (block : BlockState) (lines : Block) (command : Command)
    → IsInTurn script past t cpu ran block lines → command_at script t line ≡ Some command → goes_on script command ran ≡ false
    → ready_list script (Local t line reply ∷ past) ≡ ready_list script past ++ t ∷ []

-- A Grow makes its own block ready, and no other.
abbrev pub GrowRises : Type 0
GrowRises = (script : Script) (past : List Event) (t cpu ran : ℕ) (block : BlockState) (lines : Block) → IsInTurn script past t cpu ran block lines
    → ready_list script (Grow t ∷ past) ≡ ready_list script past ++ t ∷ []

-- the block waits for block t
abbrev pub is_waiting_for : ℕ → Stage → Bool
is_waiting_for t Unborn = false
is_waiting_for t Ready = false
is_waiting_for t (Turn cpu ran) = false
is_waiting_for t Stopped = false
is_waiting_for t (Waiting child) = child == t
is_waiting_for t Ended = false

-- the parent of block t, where it waits for t
abbrev pub parent_waiting : List BlockState → ℕ → Option ℕ → List ℕ
parent_waiting blocks t None = []
parent_waiting blocks t (Some p) = if is_waiting_for t (stage_at blocks p) then p ∷ [] else []

abbrev pub waiter_of : List BlockState → ℕ → List ℕ
waiter_of blocks t = parent_waiting blocks t (parent_of (slice_get blocks t))

-- the stopped children of block t, from number i on
abbrev pub stopped_children : ℕ → ℕ → List BlockState → List ℕ
stopped_children t i [] = []
stopped_children t i (block ∷ blocks) = if is_stopped block.stage && is_parent block.parent t then i ∷ stopped_children t (i + 1) blocks else stopped_children t (i + 1) blocks

-- Whom an outer command of block t makes ready: a fork its child and a `cont` the one that goes on, and then the block itself; a
-- `stop` that holds the parent that waits, and a `wait` that blocks nobody.
abbrev pub outer_risers : Script → List BlockState → ℕ → Command → Reply → List ℕ
outer_risers script blocks t (commands.Fork name) reply = block_named script name ∷ t ∷ []
outer_risers script blocks t commands.Stop reply = if is_held reply then waiter_of blocks t else t ∷ []
outer_risers script blocks t (commands.Wait name) reply = if is_blocked reply then [] else t ∷ []
outer_risers script blocks t (commands.Cont name) reply = if is_count reply then block_named script name ∷ t ∷ [] else t ∷ []
outer_risers script blocks t other reply = t ∷ []

abbrev pub OuterRises : Type 0
OuterRises = (script : Script) (past : List Event) (t line : ℕ) (reply : Reply) (command : Command) → IsValid script → IsLegalPast script (Outer t line reply ∷ past)
    → command_at script t line ≡ Some command
    → ready_list script (Outer t line reply ∷ past) ≡ ready_list script past ++ outer_risers script (machine script past).blocks t command reply

-- Whom the end of block t makes ready: the parent that waits, and then its stopped children in the order of their blocks.
abbrev pub freed_by : List BlockState → ℕ → List ℕ
freed_by blocks t = waiter_of blocks t ++ stopped_children t 0 blocks

abbrev pub EndRises : Type 0
EndRises = (script : Script) (past : List Event) (t : ℕ) → IsValid script → IsLegalPast script (End t ∷ past)
    → ready_list script (End t ∷ past) ≡ ready_list script past ++ freed_by (machine script past).blocks t

abbrev pub KillRises : Type 0
KillRises = (script : Script) (past : List Event) (t : ℕ) (signo : Signo) (why : Why) → IsValid script → IsLegalPast script (Kill t signo why ∷ past)
    → ready_list script (Kill t signo why ∷ past) ≡ ready_list script past ++ freed_by (machine script past).blocks t
