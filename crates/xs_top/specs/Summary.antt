-- The line that tells of a history how many events of each kind it has. This project's own.
use Rattle.std.specs.Prelude.{ℕ, Bool, true, false, List, [], ◌∷◌, ◌++◌, length, codes, decimal}
use Rattle.std.specs.List.{count_by}
use Rattle.xs_model.specs.declared.script.Script.{Script}
use Rattle.xs_model.specs.declared.event.Event.{Event}
use Rattle.xs_model.specs.declared.event.Event.TheVariants as events
use Rattle.xs_model.specs.History.{is_kill}

abbrev pub is_local : Event → Bool
is_local (events.Local t line reply) = true
is_local other = false

abbrev pub is_outer : Event → Bool
is_outer (events.Outer t line reply) = true
is_outer other = false

abbrev pub is_growth : Event → Bool
is_growth (events.Grow t) = true
is_growth other = false

-- a word and a number
unfoldable pub counted : List ℕ → ℕ → List ℕ
counted word number = word ++ 32 ∷ decimal number

-- `tasks T events V local L outer O grow G killed Q` and a line feed: the blocks of the script, and the events of its history
abbrev pub summary_text : Script → List Event → List ℕ
summary_text script history =
    counted (codes "tasks") (length script.blocks)
    ++ (counted (codes " events") (length history)
    ++ (counted (codes " local") (count_by is_local history)
    ++ (counted (codes " outer") (count_by is_outer history)
    ++ (counted (codes " grow") (count_by is_growth history)
    ++ (counted (codes " killed") (count_by is_kill history) ++ 10 ∷ [])))))
