-- What the lines before a command tell of it: whether it stands in a handler, which children they fork, and which of these
-- its own body forks and has waited for. That a child stays stopped from a wait for it to the line that lets it go on is
-- ptrace's (Linux 6.6, kernel/ptrace.c, ptrace_check_attach); that it is known by the lines alone is this project's own.
use Rattle.std.specs.Prelude.{ℕ, Bool, true, false, List, [], ◌∷◌, if◌then◌else◌}
use Rattle.std.specs.List.{list_any, flat_map}
use Rattle.xs_model.specs.declared.script.Command.{Command}
use Rattle.xs_model.specs.Names.{forked_name, is_fork_of, is_wait_for, is_cont_of}
use Rattle.xs_script.specs.declared.line.Line.{Line}
use Rattle.xs_script.specs.declared.line.Line.TheVariants as lines

-- ---- in a handler

-- whether what comes after a line stands in a handler
abbrev pub in_handler : Bool → Line → Bool
in_handler inside lines.Handler = true
in_handler inside lines.End = false
in_handler inside other = inside

abbrev pub in_handler_after : Bool → List Line → Bool
in_handler_after inside [] = inside
in_handler_after inside (l ∷ ls) = in_handler_after (in_handler inside l) ls

-- ---- the children that lines fork

abbrev pub fork_of_line : Line → List (List ℕ)
fork_of_line lines.Version = []
fork_of_line (lines.Machine named) = []
fork_of_line (lines.Row r) = []
fork_of_line (lines.Cpus n) = []
fork_of_line (lines.Quantum n) = []
fork_of_line (lines.Large n) = []
fork_of_line (lines.Sched entries) = []
fork_of_line (lines.Begin kind name) = []
fork_of_line (lines.Order command) = forked_name command
fork_of_line (lines.NoSignal name number) = []
fork_of_line lines.Handler = []
fork_of_line lines.End = []

-- the names that these lines fork
abbrev pub forks_of : List Line → List (List ℕ)
forks_of ls = flat_map fork_of_line ls

-- ---- the body in which a line stands

-- the earlier commands of the block that is open, the latest first, after one more line
abbrev pub earlier_with : List Command → Line → List Command
earlier_with earlier (lines.Begin kind name) = []
earlier_with earlier (lines.Order command) = command ∷ earlier
earlier_with earlier lines.End = []
earlier_with earlier other = earlier

abbrev pub earlier_after : List Command → List Line → List Command
earlier_after earlier [] = earlier
earlier_after earlier (l ∷ ls) = earlier_after (earlier_with earlier l) ls

-- One of the earlier commands forks the child.
abbrev pub forks_child : List Command → List ℕ → Bool
forks_child earlier name = list_any (is_fork_of name) earlier

-- Of the earlier commands, the latest first, the latest that waits for the child or lets it go on is a wait.
abbrev pub awaits_child : List Command → List ℕ → Bool
awaits_child [] name = false
awaits_child (command ∷ earlier) name =
    if is_wait_for name command then true
    else if is_cont_of name command then false
    else awaits_child earlier name

-- ---- all of it

-- `forked` has the children that any line before forks, `own` is true of those that an earlier line of the command's own
-- body forks, and `awaited` of those that its body waited for and didn't let go on since.
pub record Before : Type 0 where
  pub inside : Bool
  pub forked : List (List ℕ)
  pub own : List ℕ → Bool
  pub awaited : List ℕ → Bool

-- what is told by the names that are forked and the earlier commands of a body, in a handler or not
abbrev pub told : Bool → List (List ℕ) → List Command → Before
told inside forked earlier = record { inside = inside; forked = forked; own = forks_child earlier; awaited = awaits_child earlier }

-- what the lines before tell
abbrev pub before_of : List Line → Before
before_of done = told (in_handler_after false done) (forks_of done) (earlier_after [] done)
