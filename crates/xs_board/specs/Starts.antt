-- Histories in which each turn is that of the first ready block, as on one thread. This project's own. A past has its latest
-- event first.
use Rattle.std.specs.Prelude.{◌≡◌, ℕ, List, [], ◌∷◌}
use Rattle.xs_model.specs.declared.event.Event.{Event}
use Rattle.xs_model.specs.declared.event.Event.TheVariants.{Start, Local, Outer, Grow, Kill, End}
use Rattle.xs_model.specs.declared.script.Script.{Script}
use Rattle.xs_model.specs.Ready.{ready_list}

-- The number is the first of the list.
abbrev pub IsFirst : ℕ → List ℕ → Type 0
IsFirst t list = (rest : List ℕ) × (list ≡ t ∷ rest)

-- A Start after the past is of the first of the ready list.
abbrev pub IsInOrder : Script → List Event → Event → Type 0
IsInOrder script past (Start t cpu how signal) = IsFirst t (ready_list script past)
IsInOrder script past (Local t line reply) = Unit {0}
IsInOrder script past (Outer t line reply) = Unit {0}
IsInOrder script past (Grow t) = Unit {0}
IsInOrder script past (Kill t signo why) = Unit {0}
IsInOrder script past (End t) = Unit {0}

-- So is each Start of the past.
abbrev pub AreInOrder : Script → List Event → Type 0
AreInOrder script [] = Unit {0}
AreInOrder script (event ∷ past) = AreInOrder script past × IsInOrder script past event
