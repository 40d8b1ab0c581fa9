-- What is kept of a line leads where the line leads.
use Rattle.std.proofs.Common.{◌≡◌, ℕ, Bool, not, ◌++◌, List, [], ◌∷◌, Option, Some, None, Ok, refl, ◌∙◌, ap}
use Rattle.std.specs.Prelude.{if◌then◌else◌}
use Rattle.xs_base.specs.declared.component.Row.{Row}
use Rattle.xs_base.specs.declared.layout_error.LayoutError.{LayoutError}
use Rattle.xs_base.specs.Layout.{row_error}
use Rattle.xs_base.specs.Task.{frame_length, buffer_length}
use Rattle.xs_model.specs.declared.script.BlockKind.{BlockKind}
use Rattle.xs_model.specs.declared.script.BlockKind.TheVariants as blocks
use Rattle.xs_model.specs.declared.script.Command.{Command}
use Rattle.xs_model.specs.declared.script.Command.TheVariants as commands
use Rattle.xs_model.specs.Script.{is_return, is_kernel_command}
use Rattle.xs_script.specs.declared.block_part.BlockPart.{BlockPart}
use Rattle.xs_script.specs.declared.block_part.BlockPart.TheVariants as parts
use Rattle.xs_script.specs.declared.refusal.LimitName.{LimitName}
use Rattle.xs_script.specs.declared.refusal.LimitName.TheVariants as limits
use Rattle.xs_script.specs.declared.line.Line.{Line}
use Rattle.xs_script.specs.declared.line.Line.TheVariants as lines
use Rattle.xs_script.specs.declared.refusal.Kind.TheVariants.{BadLine}
use Rattle.xs_script.specs.declared.head.Stage.{Stage}
use Rattle.xs_script.specs.declared.head.Stage.TheVariants as stages
use Rattle.xs_script.specs.ScriptLine.{kept_line, kept_row, kept_command}
use Rattle.xs_script.specs.LineOrder.{Stand, AtVersion, AtMachine, AtRow, AtCpus, AtQuantum, AtLarge, AtSched, AtBlock, InBlock, may_have, limit_unless, command_limit, limit_fault, order_fault, part_after, after_order, next, after_row}
use Rattle.xs_script.specs.Head.{stage_stand}
use Rattle.xs_script.proofs.Kept.{kept_row_error, kept_row_is, kept_fits}

-- the same of a row, whatever its test answers
same_row_test : (rows : List Row) (r k : Row) (e : Option LayoutError) → (e ≡ None → k ≡ r) → after_row rows k e ≡ after_row rows r e
same_row_test rows r k None h = ap (λ (x : Row). Ok (AtRow (rows ++ x ∷ []))) (h refl)
same_row_test rows r k (Some e) h = refl

pub kept_next_row : (rows : List Row) (r : Row) → next (AtRow rows) (lines.Row (kept_row r)) ≡ next (AtRow rows) (lines.Row r)
kept_next_row rows r =
    ap (λ (e : Option LayoutError). after_row rows (kept_row r) e) (kept_row_error rows r)
    ∙ same_row_test rows r (kept_row r) (row_error rows r) (λ e. kept_row_is rows r e)

-- what is kept of a command stands where the command may, and is out of the same limit
kept_return : (command : Command) → is_return (kept_command command) ≡ is_return command
kept_return (commands.Set reg bytes) = refl
kept_return (commands.Poke at bytes) = refl
kept_return (commands.Bpoke at bytes) = refl
kept_return other = refl

kept_kernel : (command : Command) → is_kernel_command (kept_command command) ≡ is_kernel_command command
kept_kernel (commands.Set reg bytes) = refl
kept_kernel (commands.Poke at bytes) = refl
kept_kernel (commands.Bpoke at bytes) = refl
kept_kernel other = refl

kept_may_have : (part : BlockPart) (kind : BlockKind) (command : Command) → may_have part kind (kept_command command) ≡ may_have part kind command
kept_may_have parts.Body blocks.Task command = ap not (kept_return command)
kept_may_have parts.Body blocks.Child command = ap not (kept_return command)
kept_may_have parts.Body blocks.Kthread command = kept_kernel command
kept_may_have parts.Handler kind command = refl
kept_may_have parts.Returned kind command = refl

pub kept_limit : (command : Command) → command_limit (kept_command command) ≡ command_limit command
kept_limit (commands.Set reg bytes) = refl
kept_limit (commands.Poke at bytes) = ap (limit_unless limits.Frame) (kept_fits frame_length at bytes)
kept_limit (commands.Bpoke at bytes) = ap (limit_unless limits.Buffer) (kept_fits buffer_length at bytes)
kept_limit other = refl

kept_part : (part : BlockPart) (command : Command) → part_after part (kept_command command) ≡ part_after part command
kept_part parts.Body command = refl
kept_part parts.Handler command = ap (λ (t : Bool). if t then parts.Returned else parts.Handler) (kept_return command)
kept_part parts.Returned command = refl

kept_order : (part : BlockPart) (kind : BlockKind) (names : List (List ℕ)) (command : Command) → next (InBlock part kind names) (lines.Order (kept_command command)) ≡ next (InBlock part kind names) (lines.Order command)
kept_order part kind names command =
    ap (λ (p : BlockPart). after_order (order_fault part kind (kept_command command)) (InBlock p kind names)) (kept_part part command)
    ∙ ap (λ (t : Bool). after_order (if t then limit_fault (command_limit (kept_command command)) else Some BadLine) (InBlock (part_after part command) kind names)) (kept_may_have part kind command)
    ∙ ap (λ (l : Option LimitName). after_order (if may_have part kind command then limit_fault l else Some BadLine) (InBlock (part_after part command) kind names)) (kept_limit command)

pub kept_next : (stand : Stand) (l : Line) → next stand (kept_line l) ≡ next stand l
kept_next stand lines.Version = refl
kept_next stand (lines.Machine named) = refl
kept_next AtVersion (lines.Row r) = refl
kept_next AtMachine (lines.Row r) = refl
kept_next (AtRow rows) (lines.Row r) = kept_next_row rows r
kept_next AtCpus (lines.Row r) = refl
kept_next (AtQuantum cpus) (lines.Row r) = refl
kept_next (AtLarge cpus) (lines.Row r) = refl
kept_next (AtSched cpus count) (lines.Row r) = refl
kept_next (AtBlock names) (lines.Row r) = refl
kept_next (InBlock part kind names) (lines.Row r) = refl
kept_next stand (lines.Cpus n) = refl
kept_next stand (lines.Quantum n) = refl
kept_next stand (lines.Large n) = refl
kept_next stand (lines.Sched entries) = refl
kept_next stand (lines.Begin kind name) = refl
kept_next AtVersion (lines.Order command) = refl
kept_next AtMachine (lines.Order command) = refl
kept_next (AtRow rows) (lines.Order command) = refl
kept_next AtCpus (lines.Order command) = refl
kept_next (AtQuantum cpus) (lines.Order command) = refl
kept_next (AtLarge cpus) (lines.Order command) = refl
kept_next (AtSched cpus count) (lines.Order command) = refl
kept_next (AtBlock names) (lines.Order command) = refl
kept_next (InBlock part kind names) (lines.Order command) = kept_order part kind names command
kept_next stand (lines.NoSignal name number) = refl
kept_next stand lines.Handler = refl
kept_next stand lines.End = refl

-- a row that leads on is kept
row_is_kept : (rows : List Row) (r : Row) (mid : Stand) (e : Option LayoutError) → row_error rows r ≡ e → after_row rows r e ≡ Ok mid → kept_row r ≡ r
row_is_kept rows r mid None is h = kept_row_is rows r is
row_is_kept rows r mid (Some error) is h = absurd (cc h)

-- Before the schedule a line that leads on is kept whole.
pub kept_of_head : (stage : Stage) (rows : List Row) (cpus : ℕ) (l : Line) (mid : Stand) → next (stage_stand stage rows cpus) l ≡ Ok mid → kept_line l ≡ l
kept_of_head stage rows cpus lines.Version mid h = refl
kept_of_head stage rows cpus (lines.Machine named) mid h = refl
kept_of_head stages.Version rows cpus (lines.Row r) mid h = absurd (cc h)
kept_of_head stages.Machine rows cpus (lines.Row r) mid h = absurd (cc h)
kept_of_head stages.Row rows cpus (lines.Row r) mid h = ap lines.Row (row_is_kept rows r mid (row_error rows r) refl h)
kept_of_head stages.Cpus rows cpus (lines.Row r) mid h = absurd (cc h)
kept_of_head stages.Quantum rows cpus (lines.Row r) mid h = absurd (cc h)
kept_of_head stages.Large rows cpus (lines.Row r) mid h = absurd (cc h)
kept_of_head stages.Sched rows cpus (lines.Row r) mid h = absurd (cc h)
kept_of_head stage rows cpus (lines.Cpus n) mid h = refl
kept_of_head stage rows cpus (lines.Quantum n) mid h = refl
kept_of_head stage rows cpus (lines.Large n) mid h = refl
kept_of_head stage rows cpus (lines.Sched entries) mid h = refl
kept_of_head stage rows cpus (lines.Begin kind name) mid h = refl
kept_of_head stages.Version rows cpus (lines.Order command) mid h = absurd (cc h)
kept_of_head stages.Machine rows cpus (lines.Order command) mid h = absurd (cc h)
kept_of_head stages.Row rows cpus (lines.Order command) mid h = absurd (cc h)
kept_of_head stages.Cpus rows cpus (lines.Order command) mid h = absurd (cc h)
kept_of_head stages.Quantum rows cpus (lines.Order command) mid h = absurd (cc h)
kept_of_head stages.Large rows cpus (lines.Order command) mid h = absurd (cc h)
kept_of_head stages.Sched rows cpus (lines.Order command) mid h = absurd (cc h)
kept_of_head stage rows cpus (lines.NoSignal name number) mid h = refl
kept_of_head stage rows cpus lines.Handler mid h = refl
kept_of_head stage rows cpus lines.End mid h = refl
