-- What it is that a processor was set up (Linux 6.6, arch/x86/kernel/fpu/init.c, and core.c, init_fpstate).
use Rattle.std.specs.Prelude.{◌≡◌, ℕ, List}
use Rattle.xs_base.specs.declared.class.Class.TheVariants.{Small}
use Rattle.xs_base.specs.declared.component.Row.{Row}
use Rattle.xs_base.specs.Area.{StandsFor, HasPlaces}
use Rattle.xs_base.specs.Compact.{compacted}
use Rattle.xs_base.specs.File.{initial_file}
use Rattle.xs_base.specs.Header.{xcomp_bv}
use Rattle.xs_base.specs.KernelArea.{class_features, IsLoadable}
use Rattle.xs_bank.specs.Bank.{Bank}

-- The area is a Small one of the machine with these rows, in the compacted format. It stands for the initial file, can be loaded but
-- for its own number, which is 0, and has the bytes of each place that it names.
pub record IsInitialArea (rows : List Row) (area : List ℕ) : Type 0 where
  pub names : xcomp_bv area ≡ compacted (class_features rows Small)
  pub stands : StandsFor rows area (initial_file rows)
  pub loadable : (id : ℕ) → (id ≡ 0 → ⊥) → IsLoadable rows Small id area
  pub places : HasPlaces rows area (xcomp_bv area)

-- The processor of this bank and this initial area was set up for the machine with these rows. What is armed isn't told: it changes
-- with the tasks.
pub record WasSetUp (rows : List Row) (bank : Bank) (initial : List ℕ) : Type 0 where
  pub rows_are : bank.file.rows ≡ rows
  pub initial_is : IsInitialArea rows initial
