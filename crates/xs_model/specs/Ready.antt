-- The ready list, as a function of the past: first in, first out. Root tasks and kernel threads stand in it first, in the
-- order of their blocks; a Start takes its block out, and any other event appends whom it makes ready. This project's own.
use Rattle.std.specs.Prelude.{ℕ, ◌+◌, Bool, true, false, ◌&&◌, ◌==◌, List, [], ◌∷◌, ◌++◌, if◌then◌else◌}
use Rattle.xs_model.specs.declared.script.Script.{Script}
use Rattle.xs_model.specs.declared.event.Event.{Event}
use Rattle.xs_model.specs.declared.event.Event.TheVariants.{Start, Local, Outer, Grow, Kill, End}
use Rattle.xs_model.specs.declared.stage.Stage.{Stage}
use Rattle.xs_model.specs.declared.stage.Stage.TheVariants.{Unborn, Ready, Turn, Stopped, Waiting, Ended}
use Rattle.xs_model.specs.State.{BlockState, opening, is_ready}
use Rattle.xs_model.specs.Machine.{machine}

-- the list without the first t
abbrev pub without : ℕ → List ℕ → List ℕ
without t [] = []
without t (u ∷ us) = if u == t then us else u ∷ without t us

abbrev pub was_waiting : Stage → Bool
was_waiting Unborn = false
was_waiting Ready = false
was_waiting (Turn cpu ran) = false
was_waiting Stopped = false
was_waiting (Waiting child) = true
was_waiting Ended = false

-- stopped or unborn
abbrev pub was_idle : Stage → Bool
was_idle Unborn = true
was_idle Ready = false
was_idle (Turn cpu ran) = false
was_idle Stopped = true
was_idle (Waiting child) = false
was_idle Ended = false

abbrev pub was_in_turn : Stage → Bool
was_in_turn Unborn = false
was_in_turn Ready = false
was_in_turn (Turn cpu ran) = true
was_in_turn Stopped = false
was_in_turn (Waiting child) = false
was_in_turn Ended = false

-- the blocks, from number i on, that were such before an event and are ready after it
abbrev pub risen : (Stage → Bool) → ℕ → List BlockState → List BlockState → List ℕ
risen was i [] now = []
risen was i (b ∷ before) [] = []
risen was i (b ∷ before) (a ∷ now) = if was b.stage && is_ready a.stage then i ∷ risen was (i + 1) before now else risen was (i + 1) before now

-- Whom an event makes ready: the parent that waited, then the children that were stopped or unborn, then the block whose
-- turn it ends.
abbrev pub risers : List BlockState → List BlockState → List ℕ
risers before now = risen was_waiting 0 before now ++ (risen was_idle 0 before now ++ risen was_in_turn 0 before now)

-- the blocks, from number i on, that are ready
abbrev pub ready_from : ℕ → List BlockState → List ℕ
ready_from i [] = []
ready_from i (b ∷ blocks) = if is_ready b.stage then i ∷ ready_from (i + 1) blocks else ready_from (i + 1) blocks

-- the list after an event, by the blocks before and after it
abbrev pub ready_after : Event → List BlockState → List BlockState → List ℕ → List ℕ
ready_after (Start t cpu how signal) before now list = without t list
ready_after (Local t line reply) before now list = list ++ risers before now
ready_after (Outer t line reply) before now list = list ++ risers before now
ready_after (Grow t) before now list = list ++ risers before now
ready_after (Kill t signo why) before now list = list ++ risers before now
ready_after (End t) before now list = list ++ risers before now

-- the ready list after a past
abbrev pub ready_list : Script → List Event → List ℕ
ready_list script [] = ready_from 0 (opening script).blocks
ready_list script (event ∷ past) = ready_after event (machine script past).blocks (machine script (event ∷ past)).blocks (ready_list script past)

-- ---- how often a block stands in it

-- one where the test holds, and else none
abbrev pub one_if : Bool → ℕ
one_if true = 1
one_if false = 0

-- how often the list has the number
abbrev pub occurs : ℕ → List ℕ → ℕ
occurs t [] = 0
occurs t (u ∷ us) = one_if (u == t) + occurs t us
