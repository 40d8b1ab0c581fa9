-- The line that tells a refusal. Its words are this project's own.
use Rattle.std.specs.Prelude.{ℕ, List, [], ◌∷◌, ◌++◌, codes, decimal}
use Rattle.xs_base.specs.declared.layout_error.LayoutError.{LayoutError}
use Rattle.xs_base.specs.declared.layout_error.LayoutError.TheVariants as errors
use Rattle.xs_script.specs.declared.refusal.LimitName.{LimitName}
use Rattle.xs_script.specs.declared.refusal.LimitName.TheVariants as limits
use Rattle.xs_script.specs.declared.refusal.Kind.{Kind}
use Rattle.xs_script.specs.declared.refusal.Kind.TheVariants as kinds

abbrev pub limit_word : LimitName → List ℕ
limit_word limits.Cpus = codes "cpus"
limit_word limits.Quantum = codes "quantum"
limit_word limits.Large = codes "large"
limit_word limits.Sched = codes "sched"
limit_word limits.Blocks = codes "blocks"
limit_word limits.Frame = codes "frame"
limit_word limits.Buffer = codes "buffer"
limit_word limits.Count = codes "count"
limit_word limits.Signal = codes "signal"

abbrev pub layout_word : LayoutError → List ℕ
layout_word errors.UnknownComponent = codes "unknown-component"
layout_word errors.Repeated = codes "repeated"
layout_word errors.SizeZero = codes "size-zero"
layout_word errors.SizeWrong = codes "size-wrong"
layout_word errors.FlagsWrong = codes "flags-wrong"
layout_word errors.TooLarge = codes "too-large"
layout_word errors.Overlap = codes "overlap"
layout_word errors.LegacyMissing = codes "legacy-missing"
layout_word errors.TileAlone = codes "tile-alone"

abbrev pub kind_text : Kind → List ℕ
kind_text kinds.BadLine = codes "bad-line"
kind_text (kinds.Limit name) = codes "limit " ++ limit_word name
kind_text (kinds.Layout error) = codes "layout " ++ layout_word error
kind_text kinds.Repeated = codes "repeated"
kind_text kinds.UnknownName = codes "unknown-name"
kind_text kinds.OuterInHandler = codes "outer-in-handler"
kind_text kinds.NotAwaited = codes "not-awaited"
kind_text (kinds.TooMuch events) = codes "too-much " ++ decimal events

-- `refused LINE KIND` and a line feed
abbrev pub refusal_text : ℕ → Kind → List ℕ
refusal_text line kind = ((codes "refused " ++ decimal line) ++ 32 ∷ kind_text kind) ++ 10 ∷ []
