-- What a copy of components into an area writes.
use Rattle.std.specs.Prelude.{◌≡◌, ℕ, ◌+◌, ◌<◌, Bool, true, false, not, ◌&&◌, ◌||◌, ◌==◌, List, length, slice_index, slice_index_or, slice_get, Some}
use Rattle.xs_base.specs.declared.component.Row.{Row}
use Rattle.xs_base.specs.Area.{has_room, is_named, KeepsForm}
use Rattle.xs_base.specs.Bytes.{is_within}
use Rattle.xs_base.specs.Component.{pkru_number, sse_number, initial_mxcsr}
use Rattle.xs_base.specs.Compact.{is_compacted, place}
use Rattle.xs_base.specs.File.{is_own}
use Rattle.xs_base.specs.Header.{xstate_bv, xcomp_bv, mxcsr}
use Rattle.xs_base.specs.Sets.{has}

-- Component c is copied: it is of the set, isn't PKRU, and the area has room for it.
abbrev pub is_copied : List Row → List ℕ → ℕ → ℕ → Bool
is_copied rows area set c = has set c && not (c == pkru_number) && has_room rows area c

-- The components of the set stand in the new area as they stood in `from` by `names`, as far as there is room; SSE is
-- initial where its bit is there for MXCSR alone.
pub record IsTaken (rows : List Row) (from : List ℕ) (names set control : ℕ) (old new : List ℕ) : Type 0 where
  pub form : KeepsForm old new
  pub bits : (c : ℕ) → has (xstate_bv new) c ≡ is_named rows old set control c
  pub copied : (i : ℕ) (r : Row) → slice_get rows i ≡ Some r → is_copied rows old set r.comp.0 ≡ true → (k : ℕ) → k < r.size → is_own r.comp.0 k ≡ true → slice_index new (place rows (xcomp_bv old) r + k) ≡ slice_index from (place rows names r + k)
  pub alone : is_copied rows old set sse_number ≡ false → has (xstate_bv new) sse_number ≡ true → (k : ℕ) → k < 256 → slice_index new (160 + k) ≡ 0
  pub control_is : mxcsr new ≡ control

-- ---- its two steps

-- The components of the set have been copied, those of the rows before `upto`; of the legacy region behind SSE and the
-- header nothing has.
pub record AreCopied (rows : List Row) (from : List ℕ) (names copied upto : ℕ) (old new : List ℕ) : Type 0 where
  pub len : length new ≡ length old
  pub each : (j : ℕ) (r : Row) → j < upto → j < length rows → r ≡ slice_index_or rows j r → has copied r.comp.0 ≡ true → (k : ℕ) → k < r.size → is_own r.comp.0 k ≡ true → slice_index new (place rows (xcomp_bv old) r + k) ≡ slice_index from (place rows names r + k)
  pub others : (k : ℕ) → is_within 416 160 k ≡ true → slice_index new k ≡ slice_index old k

-- A compacted area that has a place for SSE needs bit 1 for MXCSR alone.
abbrev pub is_alone : List ℕ → ℕ → ℕ → Bool
is_alone area copied control = is_compacted (xcomp_bv area) && has (xcomp_bv area) sse_number && not (has copied sse_number) && not (control == initial_mxcsr)

-- MXCSR and XSTATE_BV are written, and initial XMM registers where bit 1 is there for MXCSR alone.
pub record IsFinished (copied control : ℕ) (alone : Bool) (old new : List ℕ) : Type 0 where
  pub len : length new ≡ length old
  pub bits : (c : ℕ) → has (xstate_bv new) c ≡ (has copied c || ((c == sse_number) && alone))
  pub control_is : mxcsr new ≡ control
  pub zero_is : alone ≡ true → (k : ℕ) → k < 256 → slice_index new (160 + k) ≡ 0
  pub others : (k : ℕ) → is_within 24 8 k ≡ false → is_within 512 8 k ≡ false → (alone ≡ true → is_within 160 256 k ≡ false) → slice_index new k ≡ slice_index old k
