-- The parts of a line that a reader meets one by one, each with its text and with what fits it.
use Rattle.std.specs.Prelude.{◌≡◌, ℕ, ◌<◌, ◌%◌, Bool, ◌&&◌, ◌||◌, ◌==◌, nat_le, List, ◌∷◌, ◌++◌, length, ◌-◌, if◌then◌else◌}
use Rattle.std.specs.List.{list_all, AllByRecursion}
use Rattle.hex.specs.Hex.{encode_lower}
use Rattle.xs_model.specs.declared.script.Command.TheVariants as commands
use Rattle.xs_script.specs.declared.line.Line.{Line}
use Rattle.xs_script.specs.declared.line.Line.TheVariants as lines
use Rattle.xs_script.specs.ScriptLine.{IsSignal, IsLine, line_text}

-- bytes of a byte's size, at least one
abbrev pub IsValue : List ℕ → Type 0
IsValue bytes = (0 < length bytes) × AllByRecursion (λ byte. byte < 256) bytes

-- a digit of hex text: 0 to 9 or a to f
abbrev pub is_lower_digit : ℕ → Bool
is_lower_digit byte = (nat_le 48 byte && nat_le byte 57) || (nat_le 97 byte && nat_le byte 102)

-- the number that such a digit stands for
abbrev pub digit_value : ℕ → ℕ
digit_value digit = if nat_le digit 57 then digit - 48 else digit - 87

-- digits for whole bytes
abbrev pub is_hex_text : List ℕ → Bool
is_hex_text digits = list_all is_lower_digit digits && (length digits % 2 == 0)

-- The bytes are those that the hex text spells.
pub record IsSpelledBy (bytes digits : List ℕ) : Type 0 where
  pub spelled : digits ≡ encode_lower bytes
  pub fits : AllByRecursion (λ byte. byte < 256) bytes

-- A line that is none of a schedule. Those of a schedule have a reader of their own.
abbrev pub IsPlainLine : Line → Type 0
IsPlainLine (lines.Sched entries) = ⊥
IsPlainLine line = IsLine line

-- a line of signals, their handlers and the memory of a frame
abbrev pub IsSignalLine : Line → Type 0
IsSignalLine (lines.Order (commands.Peek at len)) = IsLine (lines.Order (commands.Peek at len))
IsSignalLine (lines.Order (commands.Poke at bytes)) = IsLine (lines.Order (commands.Poke at bytes))
IsSignalLine (lines.Order commands.Sigreturn) = IsLine (lines.Order commands.Sigreturn)
IsSignalLine (lines.Order (commands.Kill name signo)) = IsLine (lines.Order (commands.Kill name signo))
IsSignalLine (lines.NoSignal name number) = IsLine (lines.NoSignal name number)
IsSignalLine lines.Handler = IsLine lines.Handler
IsSignalLine line = ⊥

-- a line of a parent and its child, which waits for it and reaches its registers, and of the buffer for these
abbrev pub IsTraceLine : Line → Type 0
IsTraceLine (lines.Order (commands.Bpeek at len)) = IsLine (lines.Order (commands.Bpeek at len))
IsTraceLine (lines.Order (commands.Bpoke at bytes)) = IsLine (lines.Order (commands.Bpoke at bytes))
IsTraceLine (lines.Order commands.Stop) = IsLine (lines.Order commands.Stop)
IsTraceLine (lines.Order (commands.Wait name)) = IsLine (lines.Order (commands.Wait name))
IsTraceLine (lines.Order (commands.Getregs name set)) = IsLine (lines.Order (commands.Getregs name set))
IsTraceLine (lines.Order (commands.Setregs name set count)) = IsLine (lines.Order (commands.Setregs name set count))
IsTraceLine (lines.Order (commands.Cont name)) = IsLine (lines.Order (commands.Cont name))
IsTraceLine line = ⊥

-- another line of a block, its first and its last one too
abbrev pub IsBlockLine : Line → Type 0
IsBlockLine (lines.Begin kind name) = IsLine (lines.Begin kind name)
IsBlockLine (lines.Order (commands.Set reg bytes)) = IsLine (lines.Order (commands.Set reg bytes))
IsBlockLine (lines.Order (commands.Get reg)) = IsLine (lines.Order (commands.Get reg))
IsBlockLine (lines.Order (commands.Ksec byte)) = IsLine (lines.Order (commands.Ksec byte))
IsBlockLine (lines.Order commands.Tilerelease) = IsLine (lines.Order commands.Tilerelease)
IsBlockLine (lines.Order (commands.Perm feature)) = IsLine (lines.Order (commands.Perm feature))
IsBlockLine (lines.Order commands.Yield) = IsLine (lines.Order commands.Yield)
IsBlockLine (lines.Order (commands.Fork name)) = IsLine (lines.Order (commands.Fork name))
IsBlockLine lines.End = IsLine lines.End
IsBlockLine line = ⊥

-- a line before the schedule
abbrev pub IsHeadLine : Line → Type 0
IsHeadLine lines.Version = IsLine lines.Version
IsHeadLine (lines.Machine named) = IsLine (lines.Machine named)
IsHeadLine (lines.Row r) = IsLine (lines.Row r)
IsHeadLine (lines.Cpus n) = IsLine (lines.Cpus n)
IsHeadLine (lines.Quantum n) = IsLine (lines.Quantum n)
IsHeadLine (lines.Large n) = IsLine (lines.Large n)
IsHeadLine line = ⊥

-- the line of a signal's number for a block
abbrev pub IsKillLine : List ℕ → ℕ → Line → Type 0
IsKillLine name number (lines.Order (commands.Kill to signo)) = (to ≡ name) × (signo.number ≡ number)
IsKillLine name number (lines.NoSignal to other) = (to ≡ name) × (other ≡ number) × (IsSignal number → ⊥)
IsKillLine name number line = ⊥

-- no line but one of a schedule is the text's first
abbrev pub NoPlainLine : List ℕ → Type 0
NoPlainLine text = (line : Line) (rest : List ℕ) → IsPlainLine line → text ≡ line_text line ++ 10 ∷ rest → ⊥
