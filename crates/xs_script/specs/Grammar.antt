-- The script that a text spells. A script is written as an order of lines, each line in its one spelling and ended
-- by one line feed; so a text is said to spell a script by writing the script, and not by reading the text.
use Rattle.std.specs.Prelude.{◌≡◌, ℕ, ◌+◌, ◌<◌, List, [], ◌∷◌, ◌++◌, length, map}
use Rattle.std.specs.List.{flat_map, AllByRecursion}
use Rattle.xs_base.specs.declared.component.Row.{Row}
use Rattle.xs_model.specs.declared.script.Named.{Named}
use Rattle.xs_model.specs.declared.script.Named.TheVariants as machines
use Rattle.xs_model.specs.declared.script.Command.{Command}
use Rattle.xs_model.specs.declared.script.Command.TheVariants as commands
use Rattle.xs_model.specs.declared.script.Order.{Order}
use Rattle.xs_model.specs.declared.script.Block.{Block}
use Rattle.xs_model.specs.declared.script.Script.{Script}
use Rattle.xs_model.specs.Script.{IsValid, AreBlocksNumbered, lines_of}
use Rattle.xs_script.specs.declared.line.Line.{Line}
use Rattle.xs_script.specs.declared.line.Line.TheVariants as lines
use Rattle.xs_script.specs.ScriptLine.{IsNumber, line_text}

-- the lines of a text, each ended by a line feed
abbrev pub lines_text : List Line → List ℕ
lines_text ls = flat_map (λ line. line_text line ++ 10 ∷ []) ls

-- the lines of orders
abbrev pub order_lines : List Order → List Line
order_lines orders = map (λ order. lines.Order order.command) orders

-- those of a handler, where there is one
abbrev pub handler_lines : List Order → List Line
handler_lines [] = []
handler_lines (order ∷ orders) = lines.Handler ∷ order_lines (order ∷ orders)

abbrev pub block_lines : Block → List Line
block_lines block = lines.Begin block.kind block.name ∷ (order_lines block.body ++ (handler_lines block.handler ++ lines.End ∷ []))

-- The entries of a schedule stand in groups, one a line and none of them empty.
pub record AreGroups (groups : List (List ℕ)) (sched : List ℕ) : Type 0 where
  pub some : AllByRecursion (λ group. 0 < length group) groups
  pub joined : sched ≡ flat_map (λ group. group) groups

abbrev pub sched_lines : List (List ℕ) → List Line
sched_lines groups = map lines.Sched groups

-- a machine without a name of its own is given by its rows
abbrev pub row_lines : Named → List Row → List Line
row_lines machines.Amx rows = []
row_lines machines.Avx rows = []
row_lines machines.Rows rows = map lines.Row rows

-- the lines before the blocks
abbrev pub head_lines : Script → List Line
head_lines script =
    lines.Version ∷ lines.Machine script.machine
    ∷ (row_lines script.machine script.layout ++ lines.Cpus script.cpus ∷ lines.Quantum script.quantum ∷ lines.Large script.large ∷ [])

abbrev pub script_lines : Script → List (List ℕ) → List Line
script_lines script groups = head_lines script ++ (sched_lines groups ++ flat_map block_lines script.blocks)

-- A text has numbers of 32 bits. What a command asks the permission for is any of them, and each other number of a command
-- has a lower limit of its own.
abbrev pub HasNumber : Command → Type 0
HasNumber (commands.Perm feature) = IsNumber feature
HasNumber other = Unit {0}

abbrev pub HaveNumbers : List Order → Type 0
HaveNumbers orders = AllByRecursion (λ (order : Order). HasNumber order.command) orders

-- The text spells the script: it is the script's lines, and each order has the number of its line, counted from 1.
pub record Spells (text : List ℕ) (script : Script) : Type 0 where
  pub valid : IsValid script
  pub numbers : AllByRecursion (λ (block : Block). HaveNumbers (lines_of block)) script.blocks
  pub groups : List (List ℕ)
  pub grouped : AreGroups groups script.sched
  pub numbered : AreBlocksNumbered (length (head_lines script) + length groups + 1) script.blocks
  pub spelled : text ≡ lines_text (script_lines script groups)
