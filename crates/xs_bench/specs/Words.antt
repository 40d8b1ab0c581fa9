-- The words of the command line, and what the commands print: this project's own.
use Rattle.std.specs.Fmt.{digits}
use Rattle.std.specs.List.{flat_map}
use Rattle.std.specs.Prelude.{◌≡◌, ℕ, List, [], ◌∷◌, ◌++◌, codes, decimal, false, if◌then◌else◌}
use Rattle.xs_base.specs.declared.class.Class.{Class}
use Rattle.xs_base.specs.declared.class.Class.TheVariants.{Small, Large}
use Rattle.xs_base.specs.declared.component.Row.{Row}
use Rattle.xs_base.specs.Compact.{compact_offset, compact_size, is_extended}
use Rattle.xs_base.specs.Layout.{amx_rows, avx_rows, standard_size}
use Rattle.xs_bench.specs.declared.command.Machine.{Machine}
use Rattle.xs_bench.specs.declared.command.Machine.TheVariants.{Amx, Avx}
use Rattle.xs_bench.specs.declared.command.Command.{Command}
use Rattle.xs_bench.specs.declared.command.Command.TheVariants.{Layout, Places, Repeat}
use Rattle.xs_bench.specs.declared.command.Call.{Call}
use Rattle.xs_bench.specs.declared.command.Call.TheVariants.{Layer, Bank, Signal}
use Rattle.xs_bench.specs.declared.command.LayerCall.{LayerCall}
use Rattle.xs_bench.specs.declared.command.LayerCall.TheVariants.{StandardInto, StandardOf, CompactOf, CopyArea, GetXstate, SetXstate, Grow, Copy, CopyCompacted, CopySmall, CopyOne, CopyHeader, Nothing, WriteEvent, CopyEvent}
use Rattle.xs_bench.specs.declared.command.BankKind.{BankKind}
use Rattle.xs_bench.specs.declared.command.BankKind.TheVariants.{Plain, Track}
use Rattle.xs_bench.specs.declared.command.BankCall.{BankCall}
use Rattle.xs_bench.specs.declared.command.BankCall.TheVariants.{SaveFull, SaveOne, SaveUnmodified, SaveInitial, LoadFull, LoadOne, LoadInitial}
use Rattle.xs_bench.specs.declared.command.SignalCall.{SignalCall}
use Rattle.xs_bench.specs.declared.command.SignalCall.TheVariants.{Both, Return}

abbrev pub machine_word : Machine → List ℕ
machine_word Amx = codes "amx"
machine_word Avx = codes "avx"

abbrev pub rows_of_machine : Machine → List Row
rows_of_machine Amx = amx_rows
rows_of_machine Avx = avx_rows

abbrev pub kind_word : BankKind → List ℕ
kind_word Plain = codes "plain"
kind_word Track = codes "track"

abbrev pub bank_call_word : BankCall → List ℕ
bank_call_word SaveFull = codes "xsaves-full"
bank_call_word SaveOne = codes "xsaves-one"
bank_call_word SaveUnmodified = codes "xsaves-unmodified"
bank_call_word SaveInitial = codes "xsaves-initial"
bank_call_word LoadFull = codes "xrstors-full"
bank_call_word LoadOne = codes "xrstors-one"
bank_call_word LoadInitial = codes "xrstors-initial"

abbrev pub layer_call_word : LayerCall → List ℕ
layer_call_word StandardInto = codes "standard-into"
layer_call_word StandardOf = codes "standard-of"
layer_call_word CompactOf = codes "compact-of"
layer_call_word CopyArea = codes "copy-area"
layer_call_word GetXstate = codes "get-xstate"
layer_call_word SetXstate = codes "set-xstate"
layer_call_word Grow = codes "grow"
layer_call_word Copy = codes "copy"
layer_call_word CopyCompacted = codes "copy-compacted"
layer_call_word CopySmall = codes "copy-small"
layer_call_word CopyOne = codes "copy-one"
layer_call_word CopyHeader = codes "copy-header"
layer_call_word Nothing = codes "nothing"
layer_call_word WriteEvent = codes "write-event"
layer_call_word CopyEvent = codes "copy-event"

abbrev pub signal_call_word : SignalCall → List ℕ
signal_call_word Both = codes "signal"
signal_call_word Return = codes "sigreturn"

abbrev pub class_word : Class → List ℕ
class_word Small = codes "small"
class_word Large = codes "large"

-- A call on a bank: the bank, a dash, and the instruction with what it has to move. A step of a signal's handler: the step, a
-- dash, and the class of the task's area.
abbrev pub call_word : Call → List ℕ
call_word (Layer call) = layer_call_word call
call_word (Bank kind call) = kind_word kind ++ (codes "-" ++ bank_call_word call)
call_word (Signal call class) = signal_call_word call ++ (codes "-" ++ class_word class)

-- the words of a command; the last of places is the mask, and the last of a call its number of turns
abbrev pub SpellsCommand : List (List ℕ) → Command → Type 0
SpellsCommand words (Layout machine) = words ≡ codes "layout" ∷ machine_word machine ∷ []
SpellsCommand words (Places machine mask) = words ≡ codes "places" ∷ machine_word machine ∷ decimal mask.0 ∷ []
SpellsCommand words (Repeat call turns) = words ≡ codes "repeat" ∷ call_word call ∷ decimal turns ∷ []

-- a row's line: number, size, offset and flags
abbrev pub row_line : Row → List ℕ
row_line r =
    decimal r.comp.0 ++ (codes " " ++ (decimal r.size ++ (codes " " ++ (decimal r.offset ++ (codes " " ++ (decimal r.flags ++ codes "\n"))))))

-- the table of a machine
abbrev pub table_text : List Row → List ℕ
table_text rows = flat_map row_line rows

-- the row's component and its place in the compacted format, where it has one behind the header
abbrev pub place_text : List Row → ℕ → Row → List ℕ
place_text rows mask r = if is_extended mask r then codes " " ++ (decimal r.comp.0 ++ (codes ":" ++ decimal (compact_offset rows mask r.comp.0))) else []

-- the machine, the mask in hexadecimal, and the bytes of the standard and of the compacted format
abbrev pub sizes_text : Machine → List Row → ℕ → List ℕ
sizes_text machine rows mask =
    machine_word machine ++ (codes " " ++ (digits 16 false mask ++ (codes " " ++ (decimal (standard_size rows mask) ++ (codes " " ++ decimal (compact_size rows mask))))))

-- the line of places: the sizes and each place
abbrev pub places_line : Machine → ℕ → List ℕ
places_line machine mask =
    let rows = rows_of_machine machine in
    sizes_text machine rows mask ++ (flat_map (place_text rows mask) rows ++ codes "\n")
