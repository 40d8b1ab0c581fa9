-- What the bytes of an Fx set leave of an area (SDM volume 1, 10.5.1 and 13.4.1).
use Rattle.std.specs.Prelude.{◌≡◌, ℕ, ◌+◌, ◌<◌, ◌≤◌, ◌||◌, ◌==◌, true, List, slice_index}
use Rattle.xs_base.specs.Area.{KeepsForm}
use Rattle.xs_base.specs.Component.{x87_number, sse_number}
use Rattle.xs_base.specs.File.{is_own}
use Rattle.xs_base.specs.Header.{xstate_bv, mxcsr}
use Rattle.xs_base.specs.Sets.{has}

-- x87 and the XMM registers come from the bytes, and MXCSR is given. XSTATE_BV names both, and nothing behind the header changes.
pub record HasLegacy (bytes : List ℕ) (control : ℕ) (old new : List ℕ) : Type 0 where
  pub form : KeepsForm old new
  pub bits : (c : ℕ) → has (xstate_bv new) c ≡ (has (xstate_bv old) c || (c == x87_number) || (c == sse_number))
  pub x87 : (k : ℕ) → k < 160 → is_own x87_number k ≡ true → slice_index new k ≡ slice_index bytes k
  pub xmm : (k : ℕ) → k < 256 → slice_index new (160 + k) ≡ slice_index bytes (160 + k)
  pub control_is : mxcsr new ≡ control
  pub others : (k : ℕ) → 576 ≤ k → slice_index new k ≡ slice_index old k
