-- The one spelling of each line of a script. The script language is this project's own.
use Rattle.std.specs.Prelude.{◌≡◌, ℕ, ◌^◌, ◌<◌, ◌≤◌, Bool, true, ◌&&◌, ◌||◌, ◌==◌, nat_lt, nat_le, List, [], ◌∷◌, ◌++◌, length, codes, decimal, min, if◌then◌else◌}
use Rattle.std.specs.List.{list_all, flat_map, AllByRecursion}
use Rattle.hex.specs.Hex.{encode_lower}
use Rattle.xs_base.specs.declared.component.Row.{Row}
use Rattle.xs_base.specs.declared.words.Set.{Set}
use Rattle.xs_base.specs.declared.words.Set.TheVariants as sets
use Rattle.xs_model.specs.declared.script.Named.{Named}
use Rattle.xs_model.specs.declared.script.Named.TheVariants as machines
use Rattle.xs_model.specs.declared.script.BlockKind.{BlockKind}
use Rattle.xs_model.specs.declared.script.BlockKind.TheVariants as blocks
use Rattle.xs_model.specs.declared.script.Command.{Command}
use Rattle.xs_model.specs.declared.script.Command.TheVariants as commands
use Rattle.xs_model.specs.Script.{is_name, is_letter_or_digit}
use Rattle.xs_script.specs.declared.line.Line.{Line}
use Rattle.xs_script.specs.declared.line.Line.TheVariants as lines

abbrev pub machine_name : Named → List ℕ
machine_name machines.Amx = codes "amx"
machine_name machines.Avx = codes "avx"
machine_name machines.Rows = codes "rows"

-- the four numbers of a row
abbrev pub row_text : Row → List ℕ
row_text r = decimal r.comp.0 ++ 32 ∷ (decimal r.size ++ 32 ∷ (decimal r.offset ++ 32 ∷ decimal r.flags))

-- the entries of a schedule, each after one space
abbrev pub entries_text : List ℕ → List ℕ
entries_text entries = flat_map (λ entry. 32 ∷ decimal entry) entries

-- the first word of a block of each kind, and the space after it
abbrev pub block_word : BlockKind → List ℕ
block_word blocks.Task = codes "task "
block_word blocks.Child = codes "child "
block_word blocks.Kthread = codes "kthread "

-- a signal's number, for a block
abbrev pub kill_text : List ℕ → ℕ → List ℕ
kill_text name number = codes "kill " ++ (name ++ 32 ∷ decimal number)

-- the word of a register set
abbrev pub set_word : Set → List ℕ
set_word sets.Xstate = codes "xstate"
set_word sets.Fx = codes "fx"

-- Words are separated by one space. Bytes are digits 0 to 9 and a to f, two a byte, in the order of addresses.
abbrev pub command_text : Command → List ℕ
command_text (commands.Set reg bytes) = codes "set " ++ (reg ++ 32 ∷ encode_lower bytes)
command_text (commands.Get reg) = codes "get " ++ reg
command_text (commands.Ksec byte) = codes "ksec " ++ encode_lower (byte ∷ [])
command_text commands.Tilerelease = codes "tilerelease"
command_text (commands.Perm feature) = codes "perm " ++ decimal feature
command_text commands.Yield = codes "yield"
command_text (commands.Peek at len) = codes "peek " ++ (decimal at ++ 32 ∷ decimal len)
command_text (commands.Poke at bytes) = codes "poke " ++ (decimal at ++ 32 ∷ encode_lower bytes)
command_text (commands.Bpeek at len) = codes "bpeek " ++ (decimal at ++ 32 ∷ decimal len)
command_text (commands.Bpoke at bytes) = codes "bpoke " ++ (decimal at ++ 32 ∷ encode_lower bytes)
command_text commands.Sigreturn = codes "sigreturn"
command_text (commands.Fork name) = codes "fork " ++ name
command_text (commands.Kill name signo) = kill_text name signo.number
command_text commands.Stop = codes "stop"
command_text (commands.Wait name) = codes "wait " ++ name
command_text (commands.Getregs name set) = codes "getregs " ++ (name ++ 32 ∷ set_word set)
command_text (commands.Setregs name set count) = codes "setregs " ++ (name ++ 32 ∷ (set_word set ++ 32 ∷ decimal count))
command_text (commands.Cont name) = codes "cont " ++ name

abbrev pub line_text : Line → List ℕ
line_text lines.Version = codes "xstate 1"
line_text (lines.Machine named) = codes "machine " ++ machine_name named
line_text (lines.Row r) = codes "row " ++ row_text r
line_text (lines.Cpus n) = codes "cpus " ++ decimal n
line_text (lines.Quantum n) = codes "quantum " ++ decimal n
line_text (lines.Large n) = codes "large " ++ decimal n
line_text (lines.Sched entries) = codes "sched" ++ entries_text entries
line_text (lines.Begin kind name) = block_word kind ++ name
line_text (lines.Order command) = command_text command
line_text (lines.NoSignal name number) = kill_text name number
line_text lines.Handler = codes "handler"
line_text lines.End = codes "end"

-- ---- which values have a spelling

abbrev pub IsNumber : ℕ → Type 0
IsNumber n = n < 2 ^ 32

-- a letter, a digit or a point
abbrev pub is_register_byte : ℕ → Bool
is_register_byte byte = is_letter_or_digit byte || (byte == 46)

-- the word of a register: 1 to 16 letters, digits and points
abbrev pub is_register_word : List ℕ → Bool
is_register_word word = list_all is_register_byte word && nat_lt 0 (length word) && nat_le (length word) 16

abbrev pub IsCommandLine : Command → Type 0
IsCommandLine (commands.Set reg bytes) = (is_register_word reg ≡ true) × (0 < length bytes) × AllByRecursion (λ byte. byte < 256) bytes
IsCommandLine (commands.Get reg) = is_register_word reg ≡ true
IsCommandLine (commands.Ksec byte) = byte < 256
IsCommandLine commands.Tilerelease = Unit {0}
IsCommandLine (commands.Perm feature) = IsNumber feature
IsCommandLine commands.Yield = Unit {0}
IsCommandLine (commands.Peek at len) = IsNumber at × IsNumber len
IsCommandLine (commands.Poke at bytes) = IsNumber at × (0 < length bytes) × AllByRecursion (λ byte. byte < 256) bytes
IsCommandLine (commands.Bpeek at len) = IsNumber at × IsNumber len
IsCommandLine (commands.Bpoke at bytes) = IsNumber at × (0 < length bytes) × AllByRecursion (λ byte. byte < 256) bytes
IsCommandLine commands.Sigreturn = Unit {0}
IsCommandLine (commands.Fork name) = is_name name ≡ true
IsCommandLine (commands.Kill name signo) = is_name name ≡ true
IsCommandLine commands.Stop = Unit {0}
IsCommandLine (commands.Wait name) = is_name name ≡ true
IsCommandLine (commands.Getregs name set) = is_name name ≡ true
IsCommandLine (commands.Setregs name set count) = (is_name name ≡ true) × IsNumber count
IsCommandLine (commands.Cont name) = is_name name ≡ true

-- a number that is that of a signal
abbrev pub IsSignal : ℕ → Type 0
IsSignal number = (1 ≤ number) × (number ≤ 31)

abbrev pub IsLine : Line → Type 0
IsLine lines.Version = Unit {0}
IsLine (lines.Machine named) = Unit {0}
IsLine (lines.Row r) = IsNumber r.comp.0 × IsNumber r.size × IsNumber r.offset × IsNumber r.flags
IsLine (lines.Cpus n) = IsNumber n
IsLine (lines.Quantum n) = IsNumber n
IsLine (lines.Large n) = IsNumber n
IsLine (lines.Sched entries) = (0 < length entries) × AllByRecursion IsNumber entries
IsLine (lines.Begin kind name) = is_name name ≡ true
IsLine (lines.Order command) = IsCommandLine command
IsLine (lines.NoSignal name number) = (is_name name ≡ true) × IsNumber number × (IsSignal number → ⊥)
IsLine lines.Handler = Unit {0}
IsLine lines.End = Unit {0}

-- ---- what a reader keeps of a line

-- No register has more than 64 bytes, no line writes more into a memory, and none has none: of a longer value none is kept,
-- and it is refused by its length.
abbrev pub kept_bytes : List ℕ → List ℕ
kept_bytes bytes = if nat_le (length bytes) 64 then bytes else []

-- A number above 255 is no component's: 255 is kept for it, which is none either.
abbrev pub kept_row : Row → Row
kept_row r = record r { comp = record { 0 = min r.comp.0 255 } }

abbrev pub kept_command : Command → Command
kept_command (commands.Set reg bytes) = commands.Set reg (kept_bytes bytes)
kept_command (commands.Poke at bytes) = commands.Poke at (kept_bytes bytes)
kept_command (commands.Bpoke at bytes) = commands.Bpoke at (kept_bytes bytes)
kept_command other = other

abbrev pub kept_line : Line → Line
kept_line lines.Version = lines.Version
kept_line (lines.Machine named) = lines.Machine named
kept_line (lines.Row r) = lines.Row (kept_row r)
kept_line (lines.Cpus n) = lines.Cpus n
kept_line (lines.Quantum n) = lines.Quantum n
kept_line (lines.Large n) = lines.Large n
kept_line (lines.Sched entries) = lines.Sched entries
kept_line (lines.Begin kind name) = lines.Begin kind name
kept_line (lines.Order command) = lines.Order (kept_command command)
kept_line (lines.NoSignal name number) = lines.NoSignal name number
kept_line lines.Handler = lines.Handler
kept_line lines.End = lines.End
