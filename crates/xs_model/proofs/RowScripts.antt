-- What scripts of worked histories are made of.
use Rattle.std.specs.Prelude.{ℕ, ◌^◌, ◌<◌, List}
use Rattle.std.proofs.Common.{lit≤}
use Rattle.xs_base.specs.declared.words.Signo.{Signo}
use Rattle.xs_base.specs.Layout.{amx_rows}
use Rattle.xs_model.specs.declared.script.Named.TheVariants.{Amx}
use Rattle.xs_model.specs.declared.script.BlockKind.{BlockKind}
use Rattle.xs_model.specs.declared.script.Command.{Command}
use Rattle.xs_model.specs.declared.script.Order.{Order}
use Rattle.xs_model.specs.declared.script.Block.{Block}
use Rattle.xs_model.specs.declared.script.Script.{Script}

abbrev pub order : (number : ℕ) → Command → number < 2 ^ 32 → Order
order number command small = record { number = number; command = command; in_range = small }

abbrev pub block : BlockKind → List ℕ → List Order → List Order → Block
block kind name body handler = record { kind = kind; name = name; body = body; handler = handler }

abbrev pub row_script : ℕ → ℕ → ℕ → List ℕ → List Block → Script
row_script cpus quantum large sched blocks = record { machine = Amx; layout = amx_rows; cpus = cpus; quantum = quantum; large = large; sched = sched; blocks = blocks }

-- the signal 10
abbrev pub user_signal : Signo
user_signal = record { number = 10; in_range = (lit≤ tt, lit≤ tt) }
