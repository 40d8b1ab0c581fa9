-- The text of counts: what a history, or the banks that ran it, tell of the processors of a script. It is this project's own.
use Rattle.std.specs.Prelude.{ℕ, zero, suc, List, [], ◌∷◌, ◌++◌, reverse, codes, decimal}
use Rattle.std.specs.List.{flat_map}
use Rattle.xs_base.specs.Counts.{Counts}
use Rattle.xs_bank.specs.Bank as banks
use Rattle.xs_bank.specs.Bank.{Bank}
use Rattle.xs_machine.specs.declared.proc.Proc.{Proc}
use Rattle.xs_model.specs.declared.script.Script.{Script}
use Rattle.xs_model.specs.declared.event.Event.{Event}
use Rattle.xs_model.specs.Counts as told
use Rattle.xs_text.specs.Text.{words}

-- the line between a history and the counts
abbrev pub mark_line : List ℕ
mark_line = codes "%%" ++ 10 ∷ []

-- a processor's line: its number, and of its bank the loads, the saves, the instructions and the trail
abbrev pub counts_line : ℕ → Counts → List ℕ
counts_line number counts = words (decimal number) (decimal counts.loads ∷ decimal counts.saves ∷ decimal counts.execs ∷ decimal counts.trail ∷ []) ++ 10 ∷ []

-- the lines of the first processors, so many of them
abbrev pub first_lines : (ℕ → Counts) → ℕ → List ℕ
first_lines counts zero = []
first_lines counts (suc number) = first_lines counts number ++ counts_line number (counts number)

-- what the history tells of the processors of its script
abbrev pub counts_text : Script → List Event → List ℕ
counts_text script history = mark_line ++ first_lines (told.counts_of script (reverse history)) script.cpus

-- what these processors tell of themselves
abbrev pub processor_line : {B : Type 0} → (B → Bank) → Proc B → List ℕ
processor_line state proc = counts_line proc.cpu.number (banks.counts_of (state proc.cpu.bank))

abbrev pub processors_text : {B : Type 0} → (B → Bank) → List (Proc B) → List ℕ
processors_text state procs = mark_line ++ flat_map (processor_line state) procs
