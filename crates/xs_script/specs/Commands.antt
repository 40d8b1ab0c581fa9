-- What a reader's second pass finds among the commands of a script, of each of which it has what was kept, and what it keeps
-- of the lines before a command.
use Rattle.std.specs.Prelude.{◌≡◌, ℕ, Bool, true, false, ◌&&◌, List, [], ◌∷◌, ◌++◌, map, bytes_eq, None, if◌then◌else◌}
use Rattle.std.specs.List.{list_any}
use Rattle.xs_base.specs.declared.component.Place.{Place}
use Rattle.xs_base.specs.Register.{IsRegister}
use Rattle.xs_model.specs.declared.script.Command.{Command}
use Rattle.xs_model.specs.declared.script.Command.TheVariants.{Set, Get, Fork, Wait, Cont}
use Rattle.xs_model.specs.Script.{fits_register}
use Rattle.xs_script.specs.declared.commands.Scope.{Scope}
use Rattle.xs_script.specs.declared.own_child.OwnChild.{OwnChild}
use Rattle.xs_script.specs.Before.{Before}
use Rattle.xs_script.specs.Refusal.{name_fault}

-- ---- the children of a body

-- One of the children has the name.
abbrev pub is_own : List OwnChild → List ℕ → Bool
is_own own name = list_any (λ (child : OwnChild). bytes_eq child.name name) own

-- One that is awaited has it.
abbrev pub is_own_awaited : List OwnChild → List ℕ → Bool
is_own_awaited own name = list_any (λ (child : OwnChild). bytes_eq child.name name && child.awaited) own

abbrev pub own_child : List ℕ → Bool → OwnChild
own_child name awaited = record { name = name; awaited = awaited }

-- the child, which is awaited or not from here on where it has the name
abbrev pub marked : List ℕ → Bool → OwnChild → OwnChild
marked name awaited child = own_child child.name (if bytes_eq child.name name then awaited else child.awaited)

-- the children of a body after one more command
abbrev pub own_after : List OwnChild → Command → List OwnChild
own_after own (Fork name) = own ++ own_child name false ∷ []
own_after own (Wait name) = map (marked name true) own
own_after own (Cont name) = map (marked name false) own
own_after own other = own

-- what a reader knows before a command
abbrev pub known_before : Bool → List (List ℕ) → List OwnChild → Before
known_before inside forked own = record { inside = inside; forked = forked; own = is_own own; awaited = is_own_awaited own }

-- ---- commands

-- Nothing is wrong with the command, by what the lines before it tell.
abbrev pub PassesCommand : Scope → Before → Command → Type 0
PassesCommand scope before (Set reg bytes) = (place : Place) × IsRegister scope.layout reg place × (fits_register place bytes ≡ true)
PassesCommand scope before (Get reg) = (place : Place) × IsRegister scope.layout reg place
PassesCommand scope before other = name_fault scope before other ≡ None
