-- The file of an image in the standard format, component by component (SDM volume 1, 13.4; Linux 6.6,
-- arch/x86/kernel/fpu/xstate.c, copy_uabi_to_xstate). What belongs to no register is zero: this is the project's own.
use Rattle.std.specs.Prelude.{ℕ, ◌+◌, ◌&&◌, ◌==◌, List, map, slice_index, Option, Some, None, if◌then◌else◌}
use Rattle.std.specs.List.{range_with_len}
use Rattle.xs_base.specs.declared.component.Row.{Row}
use Rattle.xs_base.specs.declared.header.Parts.{Parts}
use Rattle.xs_base.specs.Component.{component_count, component_size, pkru_number}
use Rattle.xs_base.specs.File.{File, part, pkru_bytes, is_own}
use Rattle.xs_base.specs.Layout.{has_row, row_of}
use Rattle.xs_base.specs.Sets.{has}

-- component c, which stands in the bytes from place `at` on
abbrev pub taken_part : List ℕ → ℕ → ℕ → List ℕ
taken_part bytes at c = map (λ k. if is_own c k then slice_index bytes (at + k) else 0) (range_with_len 0 (component_size c))

-- where a row's component begins in the standard format
abbrev pub offset_of : Option Row → ℕ
offset_of None = 0
offset_of (Some r) = r.offset

-- Component c: PKRU is a number, what the bits name comes from its standard place, and every other one from the base.
unfoldable pub image_part : File → List ℕ → Parts → ℕ → List ℕ
image_part base bytes parts c =
    if c == pkru_number then pkru_bytes parts.pkru
    else if has_row base.rows c && has parts.bits.0 c then taken_part bytes (offset_of (row_of base.rows c)) c else part base c

-- the file of the parts of an image, over a base file
abbrev pub image_file : File → List ℕ → Parts → File
image_file base bytes parts = record { rows = base.rows; parts = map (image_part base bytes parts) (range_with_len 0 component_count); mxcsr = parts.mxcsr }
