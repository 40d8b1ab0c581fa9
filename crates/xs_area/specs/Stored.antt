-- What an area stores of a component.
use Rattle.std.specs.Prelude.{ℕ, ◌+◌, ◌==◌, List, slice_index, if◌then◌else◌}
use Rattle.xs_base.specs.Sets.{has}
use Rattle.xs_base.specs.Component.{pkru_number, initial_part}
use Rattle.xs_base.specs.File.{pkru_bytes, is_own}

-- Byte k of component c, which stands from `at` on where its bit of XSTATE_BV is 1, and is initial where it is 0. PKRU
-- is kept beside the area.
abbrev pub stored_byte : List ℕ → ℕ → ℕ → ℕ → ℕ → ℕ → ℕ
stored_byte area bits pkru at c k =
    if c == pkru_number then slice_index (pkru_bytes pkru) k
    else if has bits c then (if is_own c k then slice_index area (at + k) else 0)
    else slice_index (initial_part c) k
