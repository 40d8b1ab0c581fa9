-- How many events a history of a script can have: each line of a body makes at most two besides Starts, each signal at
-- most as many as the longest handler, each task at most a Grow and an End or Kill, and each Start is followed by another
-- event of its turn. This project's own.
use Rattle.std.specs.Prelude.{ℕ, ◌+◌, ◌*◌, max, List, [], ◌∷◌, length}
use Rattle.xs_model.specs.declared.script.Command.{Command}
use Rattle.xs_model.specs.declared.script.Command.TheVariants as commands
use Rattle.xs_model.specs.declared.script.Order.{Order}
use Rattle.xs_model.specs.declared.script.Block.{Block}
use Rattle.xs_model.specs.declared.script.Script.{Script}

-- the lines of the longest handler, its return among them
abbrev pub longest_handler : List Block → ℕ
longest_handler [] = 0
longest_handler (block ∷ blocks) = max (length block.handler) (longest_handler blocks)

abbrev pub one_if_kill : Command → ℕ
one_if_kill (commands.Kill name signo) = 1
one_if_kill other = 0

abbrev pub kill_lines : List Order → ℕ
kill_lines [] = 0
kill_lines (order ∷ orders) = one_if_kill order.command + kill_lines orders

-- the `kill` lines of all bodies
abbrev pub all_kill_lines : List Block → ℕ
all_kill_lines [] = 0
all_kill_lines (block ∷ blocks) = kill_lines block.body + all_kill_lines blocks

-- the lines of all bodies
abbrev pub body_lines : List Block → ℕ
body_lines [] = 0
body_lines (block ∷ blocks) = length block.body + body_lines blocks

-- the most events of a run of these blocks, and of a script
abbrev pub most_of : List Block → ℕ
most_of blocks = 4 * body_lines blocks + 2 * (all_kill_lines blocks * longest_handler blocks) + 8 * length blocks

abbrev pub most_events : Script → ℕ
most_events script = most_of script.blocks
