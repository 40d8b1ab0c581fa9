-- The order of the lines of a script: where a reader stands after some lines, and what the next line leads to, or the
-- first kind that it is refused with. The grammar and its limits are this project's own.
use Rattle.std.specs.Prelude.{◌≡◌, ℕ, ◌+◌, Bool, true, false, ◌&&◌, not, nat_le, nat_lt, List, [], ◌∷◌, ◌++◌, length, bytes_eq, Option, Some, None, Result, Ok, Err, if◌then◌else◌}
use Rattle.std.specs.List.{list_any, list_all}
use Rattle.xs_base.specs.declared.component.Row.{Row}
use Rattle.xs_base.specs.declared.layout_error.LayoutError.{LayoutError}
use Rattle.xs_base.specs.Layout.{row_error, table_error}
use Rattle.xs_model.specs.declared.script.Named.{Named}
use Rattle.xs_model.specs.declared.script.Named.TheVariants as machines
use Rattle.xs_model.specs.declared.script.BlockKind.{BlockKind}
use Rattle.xs_model.specs.declared.script.BlockKind.TheVariants as blocks
use Rattle.xs_model.specs.declared.script.Command.{Command}
use Rattle.xs_model.specs.declared.script.Command.TheVariants as commands
use Rattle.xs_base.specs.Task.{frame_length, buffer_length}
use Rattle.xs_model.specs.Script.{is_kernel_command, is_return, is_user_kind, fits_memory, is_caught}
use Rattle.xs_script.specs.declared.block_part.BlockPart.{BlockPart}
use Rattle.xs_script.specs.declared.block_part.BlockPart.TheVariants as parts
use Rattle.xs_script.specs.declared.line.Line.{Line}
use Rattle.xs_script.specs.declared.line.Line.TheVariants as lines
use Rattle.xs_script.specs.declared.refusal.Kind.{Kind}
use Rattle.xs_script.specs.declared.refusal.Kind.TheVariants.{BadLine, Limit, Layout, Repeated}
use Rattle.xs_script.specs.declared.refusal.LimitName.{LimitName}
use Rattle.xs_script.specs.declared.refusal.LimitName.TheVariants as limits

-- Where a reader stands: before the line that it is named for. `AtRow` has the rows so far; `AtQuantum`, `AtLarge` and
-- `AtSched` the number of processors, and `AtSched` how many entries the schedule has so far; `AtBlock` the names of the
-- blocks so far; `InBlock` those with the name of the block that is open, in which part of it, and of which kind this is.
pub data Stand : Type 0 where
  AtVersion : Stand
  AtMachine : Stand
  AtRow : List Row → Stand
  AtCpus : Stand
  AtQuantum : ℕ → Stand
  AtLarge : ℕ → Stand
  AtSched : ℕ → ℕ → Stand
  AtBlock : List (List ℕ) → Stand
  InBlock : BlockPart → BlockKind → List (List ℕ) → Stand

-- the text may end here: after a block
abbrev pub may_end : Stand → Bool
may_end AtVersion = false
may_end AtMachine = false
may_end (AtRow rows) = false
may_end AtCpus = false
may_end (AtQuantum cpus) = false
may_end (AtLarge cpus) = false
may_end (AtSched cpus count) = false
may_end (AtBlock []) = false
may_end (AtBlock (name ∷ names)) = true
may_end (InBlock part kind names) = false

-- a line of the schedule may come
abbrev pub takes_sched : Stand → Bool
takes_sched AtVersion = false
takes_sched AtMachine = false
takes_sched (AtRow rows) = false
takes_sched AtCpus = false
takes_sched (AtQuantum cpus) = false
takes_sched (AtLarge cpus) = false
takes_sched (AtSched cpus count) = true
takes_sched (AtBlock names) = false
takes_sched (InBlock part kind names) = false

abbrev pub after_machine : Named → Stand
after_machine machines.Amx = AtCpus
after_machine machines.Avx = AtCpus
after_machine machines.Rows = AtRow []

-- a row, by the first test that it fails
abbrev pub after_row : List Row → Row → Option LayoutError → Result Stand Kind
after_row rows r None = Ok (AtRow (rows ++ r ∷ []))
after_row rows r (Some error) = Err (Layout error)

abbrev pub after_cpus : ℕ → Result Stand Kind
after_cpus n = if nat_le 1 n && nat_le n 16 then Ok (AtQuantum n) else Err (Limit limits.Cpus)

-- `cpus` after the rows, by the first test that the whole table fails
abbrev pub after_rows : ℕ → Option LayoutError → Result Stand Kind
after_rows n None = after_cpus n
after_rows n (Some error) = Err (Layout error)

abbrev pub after_quantum : ℕ → ℕ → Result Stand Kind
after_quantum cpus n = if nat_le 1 n && nat_le n 32 then Ok (AtLarge cpus) else Err (Limit limits.Quantum)

abbrev pub after_large : ℕ → ℕ → Result Stand Kind
after_large cpus n = if nat_le n 64 then Ok (AtSched cpus 0) else Err (Limit limits.Large)

-- Each entry of a schedule is a processor, and there are at most 4,096 in all.
abbrev pub fits_sched : ℕ → ℕ → List ℕ → Bool
fits_sched cpus count entries = list_all (λ entry. nat_lt entry cpus) entries && nat_le (count + length entries) 4096

abbrev pub after_sched : ℕ → ℕ → List ℕ → Result Stand Kind
after_sched cpus count entries = if fits_sched cpus count entries then Ok (AtSched cpus (count + length entries)) else Err (Limit limits.Sched)

-- the first line of a block, of which there are at most 64, each with another name
abbrev pub after_begin : BlockKind → List (List ℕ) → List ℕ → Result Stand Kind
after_begin kind names name =
    if nat_le 64 (length names) then Err (Limit limits.Blocks)
    else if list_any (λ other. bytes_eq other name) names then Err Repeated
    else Ok (InBlock parts.Body kind (names ++ name ∷ []))

-- A kernel thread has kernel sections and yields alone. The return from a handler stands in a handler, and ends it.
abbrev pub may_have : BlockPart → BlockKind → Command → Bool
may_have parts.Body blocks.Task command = not (is_return command)
may_have parts.Body blocks.Child command = not (is_return command)
may_have parts.Body blocks.Kthread command = is_kernel_command command
may_have parts.Handler kind command = true
may_have parts.Returned kind command = false

-- the limit, where a test isn't passed
abbrev pub limit_unless : LimitName → Bool → Option LimitName
limit_unless name true = None
limit_unless name false = Some name

-- The limit that a command's numbers or bytes are out of: what it reads or writes lies within the frame memory or within
-- the buffer, and a register set has no more bytes than the buffer.
abbrev pub command_limit : Command → Option LimitName
command_limit (commands.Peek at len) = limit_unless limits.Frame (fits_memory frame_length at len)
command_limit (commands.Poke at bytes) = limit_unless limits.Frame (fits_memory frame_length at (length bytes))
command_limit (commands.Bpeek at len) = limit_unless limits.Buffer (fits_memory buffer_length at len)
command_limit (commands.Bpoke at bytes) = limit_unless limits.Buffer (fits_memory buffer_length at (length bytes))
command_limit (commands.Kill name signo) = limit_unless limits.Signal (is_caught signo.number)
command_limit (commands.Setregs name set count) = limit_unless limits.Count (nat_le count buffer_length)
command_limit other = None

abbrev pub limit_fault : Option LimitName → Option Kind
limit_fault None = None
limit_fault (Some name) = Some (Limit name)

-- what a command is refused with there
abbrev pub order_fault : BlockPart → BlockKind → Command → Option Kind
order_fault part kind command = if may_have part kind command then limit_fault (command_limit command) else Some BadLine

-- what the number of no signal is refused with there
abbrev pub no_signal_kind : BlockPart → BlockKind → Kind
no_signal_kind parts.Body kind = if is_user_kind kind then Limit limits.Signal else BadLine
no_signal_kind parts.Handler kind = Limit limits.Signal
no_signal_kind parts.Returned kind = BadLine

-- A task or a child may have a handler, after its body.
abbrev pub may_handle : BlockPart → BlockKind → Bool
may_handle parts.Body kind = is_user_kind kind
may_handle parts.Handler kind = false
may_handle parts.Returned kind = false

-- A block ends after its body, or after the return from its handler.
abbrev pub may_close : BlockPart → Bool
may_close parts.Body = true
may_close parts.Handler = false
may_close parts.Returned = true

abbrev pub part_after : BlockPart → Command → BlockPart
part_after parts.Body command = parts.Body
part_after parts.Handler command = if is_return command then parts.Returned else parts.Handler
part_after parts.Returned command = parts.Returned

-- a command, by what it is refused with
abbrev pub after_order : Option Kind → Stand → Result Stand Kind
after_order None stand = Ok stand
after_order (Some kind) stand = Err kind

-- What a line leads to. A line out of its order is a bad line.
abbrev pub next : Stand → Line → Result Stand Kind
next AtVersion lines.Version = Ok AtMachine
next AtMachine (lines.Machine named) = Ok (after_machine named)
next (AtRow rows) (lines.Row r) = after_row rows r (row_error rows r)
next (AtRow rows) (lines.Cpus n) = after_rows n (table_error rows)
next AtCpus (lines.Cpus n) = after_cpus n
next (AtQuantum cpus) (lines.Quantum n) = after_quantum cpus n
next (AtLarge cpus) (lines.Large n) = after_large cpus n
next (AtSched cpus count) (lines.Sched entries) = after_sched cpus count entries
next (AtSched cpus count) (lines.Begin kind name) = after_begin kind [] name
next (AtBlock names) (lines.Begin kind name) = after_begin kind names name
next (InBlock part kind names) (lines.Order command) = after_order (order_fault part kind command) (InBlock (part_after part command) kind names)
next (InBlock part kind names) (lines.NoSignal name number) = Err (no_signal_kind part kind)
next (InBlock part kind names) lines.Handler = if may_handle part kind then Ok (InBlock parts.Handler kind names) else Err BadLine
next (InBlock part kind names) lines.End = if may_close part then Ok (AtBlock names) else Err BadLine
next stand line = Err BadLine

-- The lines lead from one stand to another.
abbrev pub Leads : Stand → List Line → Stand → Type 0
Leads stand [] end = end ≡ stand
Leads stand (line ∷ ls) end = (mid : Stand) × (next stand line ≡ Ok mid) × Leads mid ls end
