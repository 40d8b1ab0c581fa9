-- The marks of a task after a turn, by its registers and by whether it has room for TILEDATA.
use Rattle.std.specs.Prelude.{ℕ, Bool, ◌&&◌, List, if◌then◌else◌}
use Rattle.xs_base.specs.declared.component.Row.{Row}
use Rattle.xs_base.specs.Component.{component_numbers}
use Rattle.xs_base.specs.File.{File, is_saved}
use Rattle.xs_base.specs.Layout.{features, default_features, set_of}
use Rattle.xs_base.specs.Sets.{has}
use Rattle.xs_base.specs.Task.{mark_by}

-- the components that a task may use
abbrev pub user_of : List Row → Bool → ℕ
user_of rows large = if large then features rows else default_features rows

abbrev pub marks_of : File → Bool → ℕ
marks_of file large = set_of (mark_by file (λ d. is_saved file d && has (user_of file.rows large) d)) component_numbers
