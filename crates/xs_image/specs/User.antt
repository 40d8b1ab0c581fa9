-- What a task may use, by the class of its area (Linux 6.6, arch/x86/include/asm/fpu/types.h, struct fpstate: user_xfeatures and
-- user_size).
use Rattle.std.specs.Prelude.{ℕ, List}
use Rattle.xs_base.specs.declared.class.Class.{Class}
use Rattle.xs_base.specs.declared.class.Class.TheVariants.{Small, Large}
use Rattle.xs_base.specs.declared.component.Row.{Row}
use Rattle.xs_base.specs.Layout.{features, default_features, full_size, default_size}

abbrev pub user_features : List Row → Class → ℕ
user_features rows Small = default_features rows
user_features rows Large = features rows

abbrev pub user_size : List Row → Class → ℕ
user_size rows Small = default_size rows
user_size rows Large = full_size rows
