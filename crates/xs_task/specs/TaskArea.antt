-- The save area of a task (Linux 6.6, arch/x86/include/asm/fpu/types.h, struct fpstate). What an area may be is this project's
-- own.
use Rattle.std.specs.Prelude.{◌≡◌, ℕ, Bool, true, false, List, length, Option, Some, None}
use Rattle.xs_base.specs.declared.class.Class.{Class}
use Rattle.xs_base.specs.declared.class.Class.TheVariants.{Small, Large}
use Rattle.xs_base.specs.declared.component.Row.{Row}
use Rattle.xs_area.specs.declared.area.Lease.{Lease}
use Rattle.xs_base.specs.Task.{frame_length, buffer_length}
use Rattle.xs_task.specs.declared.task.Task.{Task}
use Rattle.xs_base.specs.Compact.{is_compacted}
use Rattle.xs_base.specs.Component.{initial_part, pkru_number}
use Rattle.xs_base.specs.File.{File, part}
use Rattle.xs_base.specs.Header.{xcomp_bv}
use Rattle.xs_base.specs.KernelArea.{class_features, class_size, IsLoadable}
use Rattle.xs_base.specs.Layout.{has_row}
use Rattle.xs_base.specs.Sets.{has}

-- An area that a task of the machine may have: it can be loaded, is compacted, and has the length of its class.
pub record IsTaskArea (rows : List Row) (lease : Lease) : Type 0 where
  pub loadable : IsLoadable rows lease.class lease.area.id lease.area.bytes.items
  pub len : length lease.area.bytes.items ≡ class_size rows lease.class
  pub compact : is_compacted (xcomp_bv lease.area.bytes.items) ≡ true

-- The task has both memories and an area: it is born and hasn't ended.
pub record IsTask (rows : List Row) (task : Task) : Type 0 where
  pub frame : length task.frame.items ≡ frame_length
  pub buffer : length task.buffer.items ≡ buffer_length
  pub some : task.lease ≡ None → ⊥
  pub area : (lease : Lease) → task.lease ≡ Some lease → IsTaskArea rows lease

-- The class has room for TILEDATA.
abbrev pub is_large : Class → Bool
is_large Small = false
is_large Large = true

abbrev pub has_large : Option Lease → Bool
has_large None = false
has_large (Some lease) = is_large lease.class

-- The area is the same one: its class, its number and its XCOMP_BV stay.
abbrev pub KeepsArea : Option Lease → Option Lease → Type 0
KeepsArea None new = new ≡ None
KeepsArea (Some old) None = ⊥
KeepsArea (Some old) (Some new) = (new.class ≡ old.class) × (new.area.id ≡ old.area.id) × (xcomp_bv new.area.bytes.items ≡ xcomp_bv old.area.bytes.items)

-- What of a file an area of the class can stand for, PKRU aside: a component that the class has no place for is initial (Linux
-- 6.6, arch/x86/kernel/fpu/core.c, fpu_clone, whose child has the default features alone).
pub record IsCutTo (rows : List Row) (class : Class) (file cut : File) : Type 0 where
  pub rows_are : cut.rows ≡ file.rows
  pub kept : (c : ℕ) → has (class_features rows class) c ≡ true → part cut c ≡ part file c
  pub left_out : (c : ℕ) → (c ≡ pkru_number → ⊥) → has_row rows c ≡ true → has (class_features rows class) c ≡ false → part cut c ≡ initial_part c
  pub control : cut.mxcsr ≡ file.mxcsr
