-- The texts of single lines and of runs of commands, as the generator writes them.
use Rattle.std.specs.Prelude.{ℕ, List, [], ◌∷◌, ◌++◌, map}
use Rattle.xs_model.specs.declared.script.Command.{Command}
use Rattle.xs_script.specs.declared.line.Line.TheVariants as lines
use Rattle.xs_script.specs.Grammar.{lines_text}
use Rattle.xs_script.specs.ScriptLine.{command_text}

-- the line of a command, with its line feed
abbrev pub order_text : Command → List ℕ
order_text command = command_text command ++ 10 ∷ []

-- the lines of commands
abbrev pub orders_text : List Command → List ℕ
orders_text commands = lines_text (map lines.Order commands)
