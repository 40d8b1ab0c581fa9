-- The components that a tracer is shown as saved of a task whose registers are in its area (Linux 6.6,
-- arch/x86/kernel/fpu/xstate.c, __copy_xstate_to_uabi_buf). The rule is this project's own.
use Rattle.std.specs.Prelude.{◌≡◌, ℕ, Bool, not, ◌&&◌, ◌||◌, ◌==◌, List, Option, Some, None, if◌then◌else◌}
use Rattle.xs_base.specs.declared.component.Row.{Row}
use Rattle.xs_area.specs.declared.area.Lease.{Lease}
use Rattle.xs_base.specs.Area.{StandsFor, control_in}
use Rattle.xs_base.specs.Component.{component_numbers, initial_mxcsr, pkru_number, sse_number}
use Rattle.xs_base.specs.File.{File, is_saved}
use Rattle.xs_base.specs.Header.{xstate_bv}
use Rattle.xs_base.specs.KernelArea.{class_features}
use Rattle.xs_base.specs.Layout.{set_of}
use Rattle.xs_base.specs.Sets.{has}

-- Component c is marked in the area: XSTATE_BV names it, which in an area that can be loaded is of the area's class; or it is SSE
-- and MXCSR isn't initial, for which XSAVEOPT sets no bit (SDM volume 1, 13.9).
abbrev pub is_marked_in : List ℕ → ℕ → Bool
is_marked_in area c = has (xstate_bv area) c || ((c == sse_number) && not (control_in area == initial_mxcsr))

-- Bit c of the marks: that of PKRU goes by its value alone.
abbrev pub has_mark : List ℕ → ℕ → ℕ → Bool
has_mark area pkru c = if c == pkru_number then not (pkru == 0) else is_marked_in area c

-- the marks of a task with this area and this PKRU
abbrev pub marks_of : Option Lease → ℕ → ℕ
marks_of None pkru = 0
marks_of (Some lease) pkru = set_of (has_mark lease.area.bytes.items pkru) component_numbers

-- The area stands for the file, and its marks are the components of its class that a save finds in it.
pub record IsSavedIn (rows : List Row) (lease : Lease) (file : File) : Type 0 where
  pub stands : StandsFor rows lease.area.bytes.items file
  pub marks : (c : ℕ) → is_marked_in lease.area.bytes.items c ≡ (has (class_features rows lease.class) c && is_saved file c)
