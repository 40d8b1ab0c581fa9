-- Leave to use TILEDATA, and what its first use makes of a task (Linux 6.6, arch/x86/kernel/fpu/xstate.c,
-- xstate_request_perm and __xfd_enable_feature; SDM volume 1, 13.14). That a write of TILECFG traps is this project's own.
use Rattle.std.specs.Prelude.{ℕ, Bool, true, not, ◌&&◌, ◌||◌, ◌==◌, nat_le, List, Option, Some, None, if◌then◌else◌}
use Rattle.xs_base.specs.declared.component.Row.{Row}
use Rattle.xs_base.specs.declared.component.Place.{Place}
use Rattle.xs_base.specs.declared.words.Errno.{Errno}
use Rattle.xs_base.specs.declared.words.Errno.TheVariants as errnos
use Rattle.xs_base.specs.Component.{component_count, initial_part, tilecfg_number, tiledata_number}
use Rattle.xs_base.specs.File.{File, with_part}
use Rattle.xs_base.specs.Layout.{has_row}
use Rattle.xs_base.specs.Task.{PrivateTask}

-- The error of a request for leave to use this component: the number is none of a component, or it isn't TILEDATA or the
-- machine has none.
abbrev pub feature_error : List Row → ℕ → Option Errno
feature_error rows number =
    if nat_le component_count number then Some errnos.Invalid
    else if not (number == tiledata_number) || not (has_row rows tiledata_number) then Some errnos.NotSupported
    else None

-- the task after a request that is granted
abbrev pub permitted_task : PrivateTask → PrivateTask
permitted_task task = record task { permitted = true }

-- The instruction is one of the tiles: it reads or writes TILEDATA, or it writes TILECFG.
abbrev pub is_of_tiles : Place → Bool → Bool
is_of_tiles place is_write = (place.comp.0 == tiledata_number) || (is_write && (place.comp.0 == tilecfg_number))

-- A read or a write of this place by the task raises #NM: the machine has TILEDATA, and the task has no room for it.
abbrev pub raises_nm : PrivateTask → Place → Bool → Bool
raises_nm task place is_write = has_row task.file.rows tiledata_number && not task.large && is_of_tiles place is_write

-- the task with room for TILEDATA
abbrev pub grown : PrivateTask → PrivateTask
grown task = record task { large = true }

-- the file after a release of the tiles: TILECFG and TILEDATA are initial (SDM volume 2, TILERELEASE)
abbrev pub released_file : File → File
released_file file = with_part (with_part file tilecfg_number (initial_part tilecfg_number)) tiledata_number (initial_part tiledata_number)
