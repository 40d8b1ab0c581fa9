-- What a reader keeps of the lines before the blocks.
use Rattle.std.specs.Prelude.{◌≡◌, ℕ, ◌+◌, ◌<◌, ◌≤◌, List, [], ◌∷◌, ◌++◌, length, None, Ok}
use Rattle.xs_base.specs.declared.component.Row.{Row}
use Rattle.xs_base.specs.Layout.{IsLayout, first_row_fault}
use Rattle.xs_model.specs.declared.script.Named.{Named}
use Rattle.xs_model.specs.declared.script.Named.TheVariants as machines
use Rattle.xs_model.specs.Script.{IsTableOf}
use Rattle.xs_script.specs.declared.line.Line.{Line}
use Rattle.xs_script.specs.declared.line.Line.TheVariants as lines
use Rattle.xs_script.specs.declared.head.Stage.{Stage}
use Rattle.xs_script.specs.declared.head.Stage.TheVariants as stages
use Rattle.xs_script.specs.declared.head.Head.{Head}
use Rattle.xs_script.specs.ScriptLine.{IsLine, line_text}
use Rattle.xs_script.specs.Grammar.{row_lines}
use Rattle.xs_script.specs.LineOrder.{Stand, AtVersion, AtMachine, AtRow, AtCpus, AtQuantum, AtLarge, AtSched, next}
use Rattle.xs_script.specs.Front.{IsFront}

-- where a reader stands with it
abbrev pub stage_stand : Stage → List Row → ℕ → Stand
stage_stand stages.Version rows cpus = AtVersion
stage_stand stages.Machine rows cpus = AtMachine
stage_stand stages.Row rows cpus = AtRow rows
stage_stand stages.Cpus rows cpus = AtCpus
stage_stand stages.Quantum rows cpus = AtQuantum cpus
stage_stand stages.Large rows cpus = AtLarge cpus
stage_stand stages.Sched rows cpus = AtSched cpus 0

abbrev pub head_stand : Head → Stand
head_stand head = stage_stand head.stage head.rows.items head.cpus

-- the lines of a machine
abbrev pub machine_lines : Named → List Row → List Line
machine_lines machine layout = lines.Version ∷ lines.Machine machine ∷ row_lines machine layout

-- the lines that came
abbrev pub stage_lines : Stage → Head → List Line
stage_lines stages.Version head = []
stage_lines stages.Machine head = lines.Version ∷ []
stage_lines stages.Row head = machine_lines machines.Rows head.rows.items
stage_lines stages.Cpus head = machine_lines head.machine head.layout
stage_lines stages.Quantum head = machine_lines head.machine head.layout ++ lines.Cpus head.cpus ∷ []
stage_lines stages.Large head = (machine_lines head.machine head.layout ++ lines.Cpus head.cpus ∷ []) ++ lines.Quantum head.quantum ∷ []
stage_lines stages.Sched head = ((machine_lines head.machine head.layout ++ lines.Cpus head.cpus ∷ []) ++ lines.Quantum head.quantum ∷ []) ++ lines.Large head.large ∷ []

abbrev pub lines_of_head : Head → List Line
lines_of_head head = stage_lines head.stage head

-- No row came before the machine.
abbrev pub HasNoRowsYet : Stage → List Row → Type 0
HasNoRowsYet stages.Version rows = rows ≡ []
HasNoRowsYet stages.Machine rows = rows ≡ []
HasNoRowsYet stage rows = Unit {0}

-- Its parts are those that a script may have.
pub record IsHead (head : Head) : Type 0 where
  pub early : HasNoRowsYet head.stage head.rows.items
  pub rows : first_row_fault [] head.rows.items ≡ None
  pub layout : IsLayout head.layout
  pub machine : IsTableOf head.machine head.layout
  pub cpus : (0 < head.cpus) × (head.cpus ≤ 16)
  pub quantum : (0 < head.quantum) × (head.quantum ≤ 32)
  pub large : head.large ≤ 64

-- It takes one line more.
pub record Takes (head : Head) (line : Line) (after : Head) : Type 0 where
  pub leads : next (head_stand head) line ≡ Ok (head_stand after)
  pub came : lines_of_head after ≡ lines_of_head head ++ line ∷ []
  pub fits : IsHead after

-- It takes the text's first line, and the rest comes after that line.
pub record Steps (head : Head) (text : List ℕ) (after : Head) (rest : List ℕ) : Type 0 where
  pub line : Line
  pub fits : IsLine line
  pub spelled : text ≡ line_text line ++ 10 ∷ rest
  pub taken : Takes head line after

-- The text begins with the lines of a whole head. The next line is line `number`.
pub record IsHeadOf (text : List ℕ) (head : Head) (number : ℕ) (rest : List ℕ) : Type 0 where
  pub whole : head.stage ≡ stages.Sched
  pub fits : IsHead head
  pub front : IsFront AtVersion text (lines_of_head head) (AtSched head.cpus 0) rest
  pub next : number ≡ length (lines_of_head head) + 1
