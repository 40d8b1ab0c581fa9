-- One component of a file that takes bytes.
use Rattle.std.specs.Prelude.{◌≡◌, ℕ, true, false, List, length, slice_index}
use Rattle.xs_base.specs.Component.{component_size}
use Rattle.xs_base.specs.File.{File, part, is_own}

-- The component has the bytes, and zero where they belong to no register.
pub record IsCleanCopy (c : ℕ) (bytes out : List ℕ) : Type 0 where
  pub len : length out ≡ component_size c
  pub own : (k : ℕ) → is_own c k ≡ true → slice_index out k ≡ slice_index bytes k
  pub clean : (k : ℕ) → is_own c k ≡ false → slice_index out k ≡ 0

-- Component c was loaded from the bytes, and nothing else changed.
pub record IsPartLoaded (c : ℕ) (bytes : List ℕ) (old new : File) : Type 0 where
  pub rows_are : new.rows ≡ old.rows
  pub own : (k : ℕ) → is_own c k ≡ true → slice_index (part new c) k ≡ slice_index bytes k
  pub others : (d : ℕ) → (d ≡ c → ⊥) → part new d ≡ part old d
  pub control : new.mxcsr ≡ old.mxcsr
