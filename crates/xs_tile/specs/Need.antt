-- What a task lacks where an instruction of the tiles raises #NM (Linux 6.6, arch/x86/kernel/fpu/xstate.c, __xfd_enable_feature,
-- which asks for the permission before it asks for the area).
use Rattle.std.specs.Prelude.{Bool, not, if◌then◌else◌}
use Rattle.xs_tile.specs.declared.permission.Need.{Need}
use Rattle.xs_tile.specs.declared.permission.Need.TheVariants.{NeedsPermission, NeedsArea, Ready}

-- by whether it may use TILEDATA, and whether its area has room for it
abbrev pub need_of : Bool → Bool → Need
need_of permitted large = if not permitted then NeedsPermission else if large then Ready else NeedsArea
