-- Why a text is no script. It is read in three passes, and each runs only where those before it find nothing. A pass
-- stops at its first bad line; a line that is bad in several ways has the kind that comes first here. All of it is this
-- project's own.
use Rattle.std.specs.Prelude.{◌≡◌, ℕ, ◌+◌, ◌<◌, Bool, true, false, ◌&&◌, ◌==◌, List, [], ◌∷◌, ◌++◌, length, bytes_eq, codes, Option, Some, None, Err, if◌then◌else◌}
use Rattle.std.specs.List.{list_any, flat_map, AllByRecursion}
use Rattle.xs_base.specs.declared.component.Row.{Row}
use Rattle.xs_base.specs.declared.component.Place.{Place}
use Rattle.xs_base.specs.declared.layout_error.LayoutError.{LayoutError}
use Rattle.xs_base.specs.Layout.{amx_rows, avx_rows, table_error}
use Rattle.xs_base.specs.Register.{IsRegister}
use Rattle.xs_model.specs.declared.script.Named.{Named}
use Rattle.xs_model.specs.declared.script.Named.TheVariants as machines
use Rattle.xs_model.specs.declared.script.Command.{Command}
use Rattle.xs_model.specs.declared.script.Command.TheVariants as commands
use Rattle.xs_model.specs.declared.script.Script.{Script}
use Rattle.xs_model.specs.Bound.{most_events}
use Rattle.xs_model.specs.Script.{AreDistinct, AreBlocksNumbered, IsTableOf, IsCommand, is_outer, fits_register}
use Rattle.xs_model.specs.declared.script.BlockKind.{BlockKind}
use Rattle.xs_model.specs.declared.script.BlockKind.TheVariants as kinds
use Rattle.xs_script.specs.declared.commands.Scope.{Scope}
use Rattle.xs_script.specs.declared.line.Line.{Line}
use Rattle.xs_script.specs.declared.line.Line.TheVariants as lines
use Rattle.xs_script.specs.declared.refusal.Kind.{Kind}
use Rattle.xs_script.specs.declared.refusal.Kind.TheVariants.{BadLine, Layout, Repeated, UnknownName, OuterInHandler, NotAwaited, TooMuch}
use Rattle.xs_script.specs.declared.refusal.ScriptError.{ScriptError}
use Rattle.xs_script.specs.declared.refusal.ScriptError.TheVariants as errors
use Rattle.xs_script.specs.ScriptLine.{IsLine, line_text}
use Rattle.xs_script.specs.Grammar.{lines_text, AreGroups, head_lines, script_lines}
use Rattle.xs_script.specs.Before.{Before, in_handler, forks_of, earlier_with, forks_child, awaits_child, before_of}
use Rattle.xs_script.specs.LineOrder.{Stand, AtVersion, AtMachine, AtRow, AtCpus, AtQuantum, AtLarge, AtSched, AtBlock, InBlock, may_end, next, Leads}

-- ---- words of a line

-- the bytes before the first `byte`, and all of them where there is none
abbrev pub before : ℕ → List ℕ → List ℕ
before byte [] = []
before byte (b ∷ bs) = if b == byte then [] else b ∷ before byte bs

-- A text's first line ends at a line feed, or with the text. A line's first word ends at a space, or with the line.
abbrev pub first_line : List ℕ → List ℕ
first_line text = before 10 text

abbrev pub first_word : List ℕ → List ℕ
first_word text = before 32 (first_line text)

-- ---- the first pass: spelling, order, limits, rows, names of blocks

-- no line is the text's first
abbrev pub NoLine : List ℕ → Type 0
NoLine text = (line : Line) (rest : List ℕ) → IsLine line → text ≡ line_text line ++ 10 ∷ rest → ⊥

-- What the first line of a text is refused with, where a reader stands so. A text that ends too early fails there.
pub data LineFails (stand : Stand) (text : List ℕ) : Kind → Type 0 where
  Early : text ≡ [] → may_end stand ≡ false → LineFails stand text BadLine
  Misspelled : (text ≡ [] → ⊥) → NoLine text → LineFails stand text BadLine
  Misplaced : (line : Line) (rest : List ℕ) (kind : Kind) → IsLine line → text ≡ line_text line ++ 10 ∷ rest → next stand line ≡ Err kind → LineFails stand text kind

-- The rows are over where a line comes that doesn't begin with `row`, or no line. Then the whole table is tested.
abbrev pub table_fault : Stand → List ℕ → Option LayoutError
table_fault AtVersion text = None
table_fault AtMachine text = None
table_fault (AtRow rows) text = if bytes_eq (first_word text) (codes "row") then None else table_error rows
table_fault AtCpus text = None
table_fault (AtQuantum cpus) text = None
table_fault (AtLarge cpus) text = None
table_fault (AtSched cpus count) text = None
table_fault (AtBlock names) text = None
table_fault (InBlock part kind names) text = None

-- The line that is refused and its kind, where a reader stands so before line `number`: a table as a whole is refused by
-- the line that begins it, which is line 2, before the line that ends it is looked at.
pub data Fails (stand : Stand) (number : ℕ) (text : List ℕ) : ℕ → Kind → Type 0 where
  Table : (error : LayoutError) → table_fault stand text ≡ Some error → Fails stand number text 2 (Layout error)
  Here : (kind : Kind) → table_fault stand text ≡ None → LineFails stand text kind → Fails stand number text number kind

abbrev pub AreLines : List Line → Type 0
AreLines ls = AllByRecursion IsLine ls

-- The lines before lead to a stand at which the rest of the text fails.
pub record RefusesLine (text : List ℕ) (number : ℕ) (kind : Kind) : Type 0 where
  pub done : List Line
  pub rest : List ℕ
  pub stand : Stand
  pub lines_fit : AreLines done
  pub parts : text ≡ lines_text done ++ rest
  pub leads : Leads AtVersion done stand
  pub fails : Fails stand (length done + 1) rest number kind

-- ---- the second pass: registers, and the blocks that lines name

-- The text is these lines, and the first pass finds nothing in it.
pub record Passes (text : List ℕ) (ls : List Line) : Type 0 where
  pub lines_fit : AreLines ls
  pub spelled : text ≡ lines_text ls
  pub stand : Stand
  pub leads : Leads AtVersion ls stand
  pub whole : may_end stand ≡ true

-- the machine's table, by the lines
abbrev pub machine_rows : Named → List Row
machine_rows machines.Amx = amx_rows
machine_rows machines.Avx = avx_rows
machine_rows machines.Rows = []

abbrev pub rows_of_line : Line → List Row
rows_of_line lines.Version = []
rows_of_line (lines.Machine named) = machine_rows named
rows_of_line (lines.Row r) = r ∷ []
rows_of_line (lines.Cpus n) = []
rows_of_line (lines.Quantum n) = []
rows_of_line (lines.Large n) = []
rows_of_line (lines.Sched entries) = []
rows_of_line (lines.Begin kind name) = []
rows_of_line (lines.Order command) = []
rows_of_line (lines.NoSignal name number) = []
rows_of_line lines.Handler = []
rows_of_line lines.End = []

abbrev pub table_of : List Line → List Row
table_of ls = flat_map rows_of_line ls

-- the name of a block, where it is a child's
abbrev pub child_name : BlockKind → List ℕ → List (List ℕ)
child_name kinds.Task name = []
child_name kinds.Child name = name ∷ []
child_name kinds.Kthread name = []

abbrev pub child_of_line : Line → List (List ℕ)
child_of_line lines.Version = []
child_of_line (lines.Machine named) = []
child_of_line (lines.Row r) = []
child_of_line (lines.Cpus n) = []
child_of_line (lines.Quantum n) = []
child_of_line (lines.Large n) = []
child_of_line (lines.Sched entries) = []
child_of_line (lines.Begin kind name) = child_name kind name
child_of_line (lines.Order command) = []
child_of_line (lines.NoSignal name number) = []
child_of_line lines.Handler = []
child_of_line lines.End = []

-- the names of the child blocks, by the lines
abbrev pub children_of : List Line → List (List ℕ)
children_of ls = flat_map child_of_line ls

-- the name of the last block that began, after one more line
abbrev pub last_name : List ℕ → Line → List ℕ
last_name name (lines.Begin kind other) = other
last_name name other = name

abbrev pub last_name_of : List ℕ → List Line → List ℕ
last_name_of name [] = name
last_name_of name (l ∷ ls) = last_name_of (last_name name l) ls

-- A handler is that of the last block that began.
abbrev pub handled_name : List ℕ → Line → List (List ℕ)
handled_name name lines.Handler = name ∷ []
handled_name name other = []

-- the names of the blocks with a handler, by lines after the first one of a block of this name
abbrev pub handled_after : List ℕ → List Line → List (List ℕ)
handled_after name [] = []
handled_after name (l ∷ ls) = handled_name name l ++ handled_after (last_name name l) ls

abbrev pub handled_of : List Line → List (List ℕ)
handled_of ls = handled_after [] ls

-- what commands may name, by all the lines
abbrev pub scope_of : List Line → Scope
scope_of ls = record { layout = table_of ls; children = children_of ls; handled = handled_of ls }

abbrev pub is_among : List ℕ → List (List ℕ) → Bool
is_among name names = list_any (λ other. bytes_eq other name) names

-- the register that a command names, where it names one
abbrev pub register_of : Command → Option (List ℕ)
register_of (commands.Set reg bytes) = Some reg
register_of (commands.Get reg) = Some reg
register_of other = None

-- A fork has the name of a child block, and a signal goes to a block with a handler. Of a child that a command waits for or
-- reaches, the lines before tell more.
abbrev pub NamesOne : Scope → Command → Type 0
NamesOne scope (commands.Fork name) = is_among name scope.children ≡ true
NamesOne scope (commands.Kill name signo) = is_among name scope.handled ≡ true
NamesOne scope other = Unit {0}

-- A command's register is one of the machine, a value fits it, and the block that it names is one that it may name.
abbrev pub IsKnownCommand : Scope → Command → Type 0
IsKnownCommand scope command = IsCommand scope.layout command × NamesOne scope command

-- An outer command doesn't stand in a handler.
abbrev pub outer_fault : Bool → Option Kind
outer_fault true = Some OuterInHandler
outer_fault false = None

-- So neither does a wait, which names a child that an earlier line of its body forks. In a handler that isn't tested.
abbrev pub wait_fault : Bool → Bool → Option Kind
wait_fault true own = Some OuterInHandler
wait_fault false true = None
wait_fault false false = Some UnknownName

-- Nor does a command that reaches such a child, which its body has waited for and not let go on since.
abbrev pub reach_fault : Bool → Bool → Bool → Option Kind
reach_fault true own awaited = Some OuterInHandler
reach_fault false true true = None
reach_fault false true false = Some NotAwaited
reach_fault false false awaited = Some UnknownName

-- What a command is refused with by the block that it names and by its place, by what the lines before it tell.
abbrev pub name_fault : Scope → Before → Command → Option Kind
name_fault scope before (commands.Fork name) =
    if is_among name scope.children then (if is_among name before.forked then Some Repeated else outer_fault before.inside)
    else Some UnknownName
name_fault scope before (commands.Kill name signo) =
    if is_among name scope.handled then outer_fault before.inside
    else Some UnknownName
name_fault scope before commands.Stop = outer_fault before.inside
name_fault scope before (commands.Wait name) = wait_fault before.inside (before.own name)
name_fault scope before (commands.Getregs name set) = reach_fault before.inside (before.own name) (before.awaited name)
name_fault scope before (commands.Setregs name set count) = reach_fault before.inside (before.own name) (before.awaited name)
name_fault scope before (commands.Cont name) = reach_fault before.inside (before.own name) (before.awaited name)
name_fault scope before other = None

-- What a command is refused with.
pub data CommandFails (scope : Scope) (before : Before) : Command → Kind → Type 0 where
  Unknown : (command : Command) (reg : List ℕ) → register_of command ≡ Some reg → ((place : Place) → IsRegister scope.layout reg place → ⊥) → CommandFails scope before command UnknownName
  Misfit : (reg bytes : List ℕ) (place : Place) → IsRegister scope.layout reg place → fits_register place bytes ≡ false → CommandFails scope before (commands.Set reg bytes) BadLine
  Misnamed : (command : Command) (kind : Kind) → name_fault scope before command ≡ Some kind → CommandFails scope before command kind

abbrev pub IsKnown : Scope → Line → Type 0
IsKnown scope lines.Version = Unit {0}
IsKnown scope (lines.Machine named) = Unit {0}
IsKnown scope (lines.Row r) = Unit {0}
IsKnown scope (lines.Cpus n) = Unit {0}
IsKnown scope (lines.Quantum n) = Unit {0}
IsKnown scope (lines.Large n) = Unit {0}
IsKnown scope (lines.Sched entries) = Unit {0}
IsKnown scope (lines.Begin kind name) = Unit {0}
IsKnown scope (lines.Order command) = IsKnownCommand scope command
IsKnown scope (lines.NoSignal name number) = Unit {0}
IsKnown scope lines.Handler = Unit {0}
IsKnown scope lines.End = Unit {0}

-- a line that is an outer command
abbrev pub is_outer_line : Line → Bool
is_outer_line (lines.Order command) = is_outer command
is_outer_line other = false

-- No outer command of these lines stands in a handler.
abbrev pub AreOutside : Bool → List Line → Type 0
AreOutside inside [] = Unit {0}
AreOutside inside (l ∷ ls) = ((inside && is_outer_line l) ≡ false) × AreOutside (in_handler inside l) ls

-- A child that a command waits for or reaches is one of its own body, and one that it reaches is awaited.
abbrev pub ReachesOwn : (List ℕ → Bool) → (List ℕ → Bool) → Command → Type 0
ReachesOwn own awaited (commands.Wait name) = own name ≡ true
ReachesOwn own awaited (commands.Getregs name set) = (own name ≡ true) × (awaited name ≡ true)
ReachesOwn own awaited (commands.Setregs name set count) = (own name ≡ true) × (awaited name ≡ true)
ReachesOwn own awaited (commands.Cont name) = (own name ≡ true) × (awaited name ≡ true)
ReachesOwn own awaited other = Unit {0}

abbrev pub LineReachesOwn : (List ℕ → Bool) → (List ℕ → Bool) → Line → Type 0
LineReachesOwn own awaited (lines.Order command) = ReachesOwn own awaited command
LineReachesOwn own awaited other = Unit {0}

-- So does each of these lines, which follow the earlier commands of a body, the latest first.
abbrev pub AreReaching : List Command → List Line → Type 0
AreReaching earlier [] = Unit {0}
AreReaching earlier (l ∷ ls) = LineReachesOwn (forks_child earlier) (awaits_child earlier) l × AreReaching (earlier_with earlier l) ls

-- Nothing is wrong with what these lines name: each is known, each child is forked by one of them at most, those that
-- reach other blocks stand outside of handlers, and a child is reached only where its parent forked and awaited it.
pub record AreKnown (scope : Scope) (ls : List Line) : Type 0 where
  pub each : AllByRecursion (IsKnown scope) ls
  pub once : AreDistinct (forks_of ls)
  pub outside : AreOutside false ls
  pub reaching : AreReaching [] ls

-- The lines pass, nothing is wrong with those before one, and that one fails.
pub record RefusesCommand (text : List ℕ) (number : ℕ) (kind : Kind) : Type 0 where
  pub done : List Line
  pub command : Command
  pub later : List Line
  pub passes : Passes text (done ++ lines.Order command ∷ later)
  pub known : AreKnown (scope_of (done ++ lines.Order command ∷ later)) done
  pub fails : CommandFails (scope_of (done ++ lines.Order command ∷ later)) (before_of done) command kind
  pub number_is : number ≡ length done + 1

-- ---- the third pass: how many events a run may have

-- The text is the lines of this script, each order has the number of its line, and the first two passes find nothing.
pub record IsScriptOf (text : List ℕ) (script : Script) : Type 0 where
  pub groups : List (List ℕ)
  pub grouped : AreGroups groups script.sched
  pub table : IsTableOf script.machine script.layout
  pub numbered : AreBlocksNumbered (length (head_lines script) + length groups + 1) script.blocks
  pub passes : Passes text (script_lines script groups)
  pub known : AreKnown (scope_of (script_lines script groups)) (script_lines script groups)

-- The script has a bound on its events that is above the limit. It is refused as a whole, which is line 0.
pub record RefusesEvents (text : List ℕ) (number : ℕ) (kind : Kind) : Type 0 where
  pub script : Script
  pub read : IsScriptOf text script
  pub many : 1048576 < most_events script
  pub number_is : number ≡ 0
  pub kind_is : kind ≡ TooMuch (most_events script)

-- ---- the three passes

-- The line that the text is refused by, and its kind.
pub data Refuses (text : List ℕ) (number : ℕ) (kind : Kind) : Type 0 where
  ByLine : RefusesLine text number kind → Refuses text number kind
  ByCommand : RefusesCommand text number kind → Refuses text number kind
  ByEvents : RefusesEvents text number kind → Refuses text number kind

-- What it says of a text that no script was read. Want of memory says nothing.
abbrev pub Explains : List ℕ → ScriptError → Type 0
Explains text (errors.Refused line kind) = Refuses text line kind
Explains text errors.Memory = Unit {0}
