-- Which histories a script may have. A history is in order, its first event first. This project's own.
use Rattle.std.specs.Prelude.{◌≡◌, Bool, true, false, List, reverse}
use Rattle.std.specs.List.{list_any}
use Rattle.xs_model.specs.declared.script.Script.{Script}
use Rattle.xs_model.specs.declared.event.Event.{Event}
use Rattle.xs_model.specs.declared.event.Event.TheVariants.{Start, Local, Outer, Grow, Kill, End}
use Rattle.xs_model.specs.State.{Machine, none_lives}
use Rattle.xs_model.specs.Machine.{machine, IsLegalPast}

-- the machine after a history
abbrev pub machine_of : Script → List Event → Machine
machine_of script history = machine script (reverse history)

-- Each event is a step from the opening. A legal history need not have ended.
abbrev pub IsLegal : Script → List Event → Type 0
IsLegal script history = IsLegalPast script (reverse history)

-- A legal history in which each block that was born has ended.
pub record IsWhole (script : Script) (history : List Event) : Type 0 where
  pub legal : IsLegal script history
  pub ended : none_lives (machine_of script history) ≡ true

-- The history has a Kill.
abbrev pub is_kill : Event → Bool
is_kill (Start t cpu how signal) = false
is_kill (Local t line reply) = false
is_kill (Outer t line reply) = false
is_kill (Grow t) = false
is_kill (Kill t signo why) = true
is_kill (End t) = false

abbrev pub has_kill : List Event → Bool
has_kill history = list_any is_kill history
