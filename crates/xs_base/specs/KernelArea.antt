-- The save areas that a kernel keeps for its tasks, in two sizes (Linux 6.6, arch/x86/kernel/fpu/xstate.c,
-- fpu__init_system_xstate and init_xstate_size; arch/x86/include/asm/fpu/types.h, struct fpstate). PKRU has no place in them:
-- the kernel keeps it beside (arch/x86/include/asm/processor.h, struct thread_struct). That every area of a size names the
-- same components, and the form of the conditions below, are this project's own.
use Rattle.std.specs.Prelude.{◌≡◌, ℕ, ◌<◌, ◌^◌, Bool, true, false, not, ◌&&◌, ◌==◌, List, ◌⊎◌}
use Rattle.xs_base.specs.declared.class.Class.{Class}
use Rattle.xs_base.specs.declared.class.Class.TheVariants.{Small, Large}
use Rattle.xs_base.specs.declared.component.Row.{Row}
use Rattle.xs_base.specs.Sets.{has}
use Rattle.xs_base.specs.Component.{component_numbers, pkru_number, tiledata_number}
use Rattle.xs_base.specs.Layout.{has_row, set_of}
use Rattle.xs_base.specs.Compact.{compacted, compact_size}
use Rattle.xs_base.specs.File.{File, IsFile}
use Rattle.xs_base.specs.Header.{xstate_bv, xcomp_bv}
use Rattle.xs_base.specs.HeaderCheck.{has_reserved}
use Rattle.xs_base.specs.Area.{StandsFor}

-- Component c has a place in the areas of the class, where the machine has it: TILEDATA only in Large ones.
abbrev pub is_of_class : Class → ℕ → Bool
is_of_class Small c = not (c == pkru_number) && not (c == tiledata_number)
is_of_class Large c = not (c == pkru_number)

-- the components that the areas of the class have a place for
abbrev pub class_features : List Row → Class → ℕ
class_features rows class = set_of (λ c. has_row rows c && is_of_class class c) component_numbers

-- the bytes of a compacted area of the class
abbrev pub class_size : List Row → Class → ℕ
class_size rows class = compact_size rows (class_features rows class)

-- The area can be loaded: it stands for a file whose MXCSR has no bit above 15, its XCOMP_BV is that of an area of the
-- class in either format, it has state of components of the class alone, its reserved bytes are zero, and its number is
-- one that a pool gives.
pub record IsLoadable (rows : List Row) (class : Class) (id : ℕ) (area : List ℕ) : Type 0 where
  pub file : File
  pub is_file : IsFile file
  pub stands : StandsFor rows area file
  pub control : file.mxcsr < 2 ^ 16
  pub names : (xcomp_bv area ≡ compacted (class_features rows class)) ⊎ (xcomp_bv area ≡ 0)
  pub bits : (c : ℕ) → has (xstate_bv area) c ≡ true → has (class_features rows class) c ≡ true
  pub reserved : has_reserved area ≡ false
  pub numbered : id ≡ 0 → ⊥
