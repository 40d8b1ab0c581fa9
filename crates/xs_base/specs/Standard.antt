-- The bytes of the standard format, byte by byte (SDM volume 1, 10.5.1 and 13.4). XSAVE writes them over what the memory
-- had before, its base.
use Rattle.std.specs.Prelude.{◌≡◌, ℕ, ◌-◌, ◌<◌, Bool, not, ◌&&◌, ◌||◌, List, [], ◌∷◌, ◌++◌, length, map, slice_index, if◌then◌else◌}
use Rattle.std.specs.List.{range_with_len}
use Rattle.std.specs.Int.{to_le_bytes, w32}
use Rattle.xs_base.specs.declared.component.Row.{Row}
use Rattle.xs_base.specs.Sets.{has}
use Rattle.xs_base.specs.File.{File, part, is_own}
use Rattle.xs_base.specs.Bytes.{is_within}
use Rattle.xs_base.specs.Component.{component_size, sse_number, avx_number}

-- Byte i is one of the row's component, which begins at `at`. Bytes 24 to 31 are no component's: MXCSR and its mask
-- stand there.
abbrev pub has_byte : ℕ → Row → ℕ → Bool
has_byte at r i = is_within at r.size i && not (is_within 24 8 i)

-- Byte k of component c as a save writes it. What belongs to no register is zero: this is the project's own.
abbrev pub saved_byte : File → ℕ → ℕ → ℕ
saved_byte file c k = if is_own c k then slice_index (part file c) k else 0

-- Byte i of an area: the byte of the component of the mask that has it, and d where none has it. The component of a row
-- stands at `place` of the row, and `byte c k` is byte k of component c. Places don't overlap, so at most one row has it.
unfoldable pub component_byte : (ℕ → ℕ → ℕ) → (Row → ℕ) → ℕ → ℕ → List Row → ℕ → ℕ
component_byte byte place mask i [] d = d
component_byte byte place mask i (r ∷ rows) d =
    component_byte byte place mask i rows (if has mask r.comp.0 && has_byte (place r) r i then byte r.comp.0 (i - place r) else d)

-- MXCSR and MXCSR_MASK: every bit up to 15 may be set. This value of the mask is the project's own.
unfoldable pub control_bytes : ℕ → List ℕ
control_bytes mxcsr = to_le_bytes w32 mxcsr ++ to_le_bytes w32 0xFFFF

-- MXCSR is saved with SSE and with AVX (SDM volume 1, 13.7).
abbrev pub has_control : ℕ → Bool
has_control mask = has mask sse_number || has mask avx_number

abbrev pub standard_byte : File → ℕ → List ℕ → ℕ → ℕ
standard_byte file mask base i =
    if is_within 24 8 i && has_control mask then slice_index (control_bytes file.mxcsr) (i - 24)
    else component_byte (saved_byte file) (λ r. r.offset) mask i file.rows (slice_index base i)

-- The standard bytes of the file for the mask, over the base.
unfoldable pub standard_bytes : File → ℕ → List ℕ → List ℕ
standard_bytes file mask base = map (standard_byte file mask base) (range_with_len 0 (length base))

-- These are the standard bytes of the file for the mask, over the base.
pub record IsStandard (file : File) (mask : ℕ) (base out : List ℕ) : Type 0 where
  pub len : length out ≡ length base
  pub each : (i : ℕ) → i < length base → slice_index out i ≡ standard_byte file mask base i

-- ---- one component written into an area, or into bytes of its own

-- The n bytes from `at` on are `byte 0` and so on, and every other byte is as before. Bytes 24 to 31 are as before too.
pub record IsWritten (at n : ℕ) (byte : ℕ → ℕ) (old new : List ℕ) : Type 0 where
  pub len : length new ≡ length old
  pub each : (i : ℕ) → slice_index new i ≡ (if is_within at n i && not (is_within 24 8 i) then byte (i - at) else slice_index old i)

-- Where component c stands from `at` on, what belongs to none of its registers is zero, and every other byte is as before.
pub record IsCleaned (at c : ℕ) (old new : List ℕ) : Type 0 where
  pub len : length new ≡ length old
  pub each : (i : ℕ) → slice_index new i ≡ (if is_within at (component_size c) i && not (is_own c (i - at)) then 0 else slice_index old i)
