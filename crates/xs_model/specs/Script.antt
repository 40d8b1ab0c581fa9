-- Scripts: which values are scripts. Every limit and every rule of names here is this project's own.
use Rattle.std.specs.Prelude.{◌≡◌, ℕ, ◌+◌, ◌<◌, ◌≤◌, Bool, true, false, not, ◌&&◌, ◌||◌, ◌==◌, nat_le, List, [], ◌∷◌, ◌++◌, length, map, drop, bytes_eq, slice_get, Option, Some, None}
use Rattle.std.specs.List.{list_all, flat_map, find, position_or_len, AllByRecursion}
use Rattle.xs_base.specs.declared.component.Row.{Row}
use Rattle.xs_base.specs.declared.component.Place.{Place}
use Rattle.xs_base.specs.File.{is_mxcsr}
use Rattle.xs_base.specs.Layout.{IsLayout, amx_rows, avx_rows}
use Rattle.xs_base.specs.Register.{IsRegister}
use Rattle.xs_base.specs.Task.{frame_length, buffer_length}
use Rattle.xs_model.specs.declared.script.Named.{Named}
use Rattle.xs_model.specs.declared.script.Named.TheVariants.{Amx, Avx, Rows}
use Rattle.xs_model.specs.declared.script.BlockKind.{BlockKind}
use Rattle.xs_model.specs.declared.script.BlockKind.TheVariants.{Task, Child, Kthread}
use Rattle.xs_model.specs.declared.script.Command.{Command}
use Rattle.xs_model.specs.declared.script.Command.TheVariants.{Set, Get, Ksec, Yield, Peek, Poke, Bpeek, Bpoke, Sigreturn, Fork, Kill, Stop, Wait, Getregs, Setregs, Cont}
use Rattle.xs_model.specs.declared.script.Order.{Order}
use Rattle.xs_model.specs.declared.script.Block.{Block}
use Rattle.xs_model.specs.declared.script.Script.{Script}
use Rattle.xs_model.specs.Names.{AreNamed, all_forked_names}
use Rattle.xs_model.specs.Bound.{most_events}

-- The rows are the table of components of a machine: of one with a name its own, and of one that is given by its rows
-- any table that passes the tests.
abbrev pub IsTableOf : Named → List Row → Type 0
IsTableOf Amx rows = rows ≡ amx_rows
IsTableOf Avx rows = rows ≡ avx_rows
IsTableOf Rows rows = IsLayout rows

abbrev pub is_letter : ℕ → Bool
is_letter byte = nat_le 97 byte && nat_le byte 122

abbrev pub is_letter_or_digit : ℕ → Bool
is_letter_or_digit byte = is_letter byte || (nat_le 48 byte && nat_le byte 57)

-- the name of a block: a letter a to z, and at most 15 more letters or digits
abbrev pub is_name : List ℕ → Bool
is_name [] = false
is_name (first ∷ more) = is_letter first && list_all is_letter_or_digit more && nat_le (length more) 15

-- The register can be set to these bytes: they are as many as it has, and of MXCSR bits 16 to 31 are zero, which are
-- reserved (SDM volume 1, 10.2.3).
abbrev pub fits_register : Place → List ℕ → Bool
fits_register place bytes = (length bytes == place.len) && (not (is_mxcsr place) || list_all (λ byte. byte == 0) (drop 2 bytes))

-- 1 to 64 bytes from a place on lie within so many
abbrev pub fits_memory : ℕ → ℕ → ℕ → Bool
fits_memory size at len = nat_le 1 len && nat_le len 64 && nat_le (at + len) size

-- A signal that a handler can have: SIGKILL and SIGSTOP have none.
abbrev pub is_caught : ℕ → Bool
is_caught number = not (number == 9) && not (number == 19)

-- A command names a register of the machine, and sets it to bytes that fit it; what it reads or writes of a memory lies
-- within it.
abbrev pub IsCommand : List Row → Command → Type 0
IsCommand rows (Set reg bytes) = (place : Place) × IsRegister rows reg place × (fits_register place bytes ≡ true) × AllByRecursion (λ byte. byte < 256) bytes
IsCommand rows (Get reg) = (place : Place) × IsRegister rows reg place
IsCommand rows (Ksec byte) = byte < 256
IsCommand rows (Peek at len) = fits_memory frame_length at len ≡ true
IsCommand rows (Poke at bytes) = (fits_memory frame_length at (length bytes) ≡ true) × AllByRecursion (λ byte. byte < 256) bytes
IsCommand rows (Bpeek at len) = fits_memory buffer_length at len ≡ true
IsCommand rows (Bpoke at bytes) = (fits_memory buffer_length at (length bytes) ≡ true) × AllByRecursion (λ byte. byte < 256) bytes
IsCommand rows (Kill name signo) = is_caught signo.number ≡ true
IsCommand rows (Setregs name set count) = count ≤ buffer_length
IsCommand rows other = Unit {0}

-- An outer command reaches another block, and ends the turn. Every other one is local: it touches its own task alone.
abbrev pub is_outer : Command → Bool
is_outer (Fork name) = true
is_outer (Kill name signo) = true
is_outer Stop = true
is_outer (Wait name) = true
is_outer (Getregs name set) = true
is_outer (Setregs name set count) = true
is_outer (Cont name) = true
is_outer other = false

abbrev pub is_yield : Command → Bool
is_yield Yield = true
is_yield other = false

abbrev pub is_return : Command → Bool
is_return Sigreturn = true
is_return other = false

-- ---- the lines of a block

-- a line that a kernel thread may have
abbrev pub is_kernel_command : Command → Bool
is_kernel_command (Ksec byte) = true
is_kernel_command Yield = true
is_kernel_command other = false

-- A kernel thread has kernel sections and yields alone, and no handler.
abbrev pub fits_kind : BlockKind → List Order → List Order → Bool
fits_kind Task body handler = true
fits_kind Child body handler = true
fits_kind Kthread body handler = list_all (λ (order : Order). is_kernel_command order.command) body && (length handler == 0)

-- The lines of a handler from one on: the last one is the return, and the others are local.
abbrev pub is_handler_from : Order → List Order → Bool
is_handler_from order [] = is_return order.command
is_handler_from order (next ∷ orders) = not (is_outer order.command) && not (is_return order.command) && is_handler_from next orders

-- no handler, or one that ends with its return
abbrev pub is_handler : List Order → Bool
is_handler [] = true
is_handler (order ∷ orders) = is_handler_from order orders

-- The lines of a block fit: those of its body and of its handler are commands of the machine, no return stands in the
-- body, and a handler ends with one.
pub record IsBody (rows : List Row) (block : Block) : Type 0 where
  pub body : AllByRecursion (λ (order : Order). IsCommand rows order.command) block.body
  pub handler : AllByRecursion (λ (order : Order). IsCommand rows order.command) block.handler
  pub inside : list_all (λ (order : Order). not (is_return order.command)) block.body ≡ true
  pub returns : is_handler block.handler ≡ true
  pub kind : fits_kind block.kind block.body block.handler ≡ true

-- each name is another
abbrev pub AreDistinct : List (List ℕ) → Type 0
AreDistinct [] = Unit {0}
AreDistinct (name ∷ names) = AllByRecursion (λ other. other ≡ name → ⊥) names × AreDistinct names

-- The numbers of the orders are those of lines in a row, from this one on.
abbrev pub AreNumbered : ℕ → List Order → Type 0
AreNumbered number [] = Unit {0}
AreNumbered number (order ∷ orders) = (order.number ≡ number) × AreNumbered (number + 1) orders

-- how many lines a handler has, with the one that begins it
abbrev pub handler_span : List Order → ℕ
handler_span [] = 0
handler_span (order ∷ orders) = length orders + 2

-- The numbers of the orders are those of their lines, where line `first` is the first block's own first line: a handler's
-- lines stand after the line that begins it, and this one after those of the body.
abbrev pub AreBlocksNumbered : ℕ → List Block → Type 0
AreBlocksNumbered first [] = Unit {0}
AreBlocksNumbered first (block ∷ blocks) =
    AreNumbered (first + 1) block.body × AreNumbered (first + length block.body + 2) block.handler
    × AreBlocksNumbered (first + length block.body + handler_span block.handler + 2) blocks

-- Numbers of lines that rise, each above the one before, the first above `last`.
abbrev pub AreRising : ℕ → List ℕ → Type 0
AreRising last [] = Unit {0}
AreRising last (number ∷ numbers) = (last < number) × AreRising number numbers

-- the lines of a block, its handler's after its body's
abbrev pub lines_of : Block → List Order
lines_of block = block.body ++ block.handler

-- the numbers of the orders, in the order of the blocks
abbrev pub order_numbers : List Block → List ℕ
order_numbers blocks = flat_map (λ (block : Block). map (λ (order : Order). order.number) (lines_of block)) blocks

-- A script whose parts are within their limits, and whose commands have names of blocks that they may have: each child is
-- forked by one line at most.
pub record IsValid (script : Script) : Type 0 where
  pub layout : IsLayout script.layout
  pub machine : IsTableOf script.machine script.layout
  pub cpus : (0 < script.cpus) × (script.cpus ≤ 16)
  pub quantum : (0 < script.quantum) × (script.quantum ≤ 32)
  pub large : script.large ≤ 64
  pub entries : AllByRecursion (λ cpu. cpu < script.cpus) script.sched
  pub schedule : length script.sched ≤ 4096
  pub some : 0 < length script.blocks
  pub few : length script.blocks ≤ 64
  pub names : AllByRecursion (λ (block : Block). is_name block.name ≡ true) script.blocks
  pub distinct : AreDistinct (map (λ (block : Block). block.name) script.blocks)
  pub rising : AreRising 0 (order_numbers script.blocks)
  pub bodies : AllByRecursion (λ (block : Block). IsBody script.layout block) script.blocks
  pub named : AllByRecursion (λ (block : Block). AreNamed script.blocks block.body) script.blocks
  pub forked : AreDistinct (all_forked_names script.blocks)
  pub events : most_events script ≤ 1048576

-- ---- what is found in a script

-- the number of the block of a name, and the number of blocks where none has it
abbrev pub block_named : Script → List ℕ → ℕ
block_named script name = position_or_len (λ (block : Block). bytes_eq block.name name) script.blocks

abbrev pub command_of : Option Order → Option Command
command_of None = None
command_of (Some order) = Some order.command

abbrev pub command_in : Option Block → ℕ → Option Command
command_in None line = None
command_in (Some block) line = command_of (find (λ (order : Order). order.number == line) (lines_of block))

-- the command on a line of a block, found by the line's number
abbrev pub command_at : Script → ℕ → ℕ → Option Command
command_at script t line = command_in (slice_get script.blocks t) line

abbrev pub is_user_kind : BlockKind → Bool
is_user_kind Task = true
is_user_kind Child = true
is_user_kind Kthread = false

abbrev pub is_user_block : Option Block → Bool
is_user_block None = false
is_user_block (Some block) = is_user_kind block.kind

-- the block is a user task
abbrev pub is_user : Script → ℕ → Bool
is_user script t = is_user_block (slice_get script.blocks t)
