-- A file written in the standard format: one component.
use Rattle.std.proofs.Common.{◌≡◌, ℕ, List, length, if◌then◌else◌, sym, subst}
use Rattle.std.specs.Prelude.{slice_index}
use Rattle.xs_base.specs.declared.component.Row.{Row}
use Rattle.xs_base.specs.File.{File, part, is_own}
use Rattle.xs_base.specs.Standard.{saved_byte, IsWritten}

-- A row's component was written with the bytes of the file.
pub saved_written : (file : File) (r : Row) (bytes old new : List ℕ) → bytes ≡ part file r.comp.0 → r.size ≡ length bytes → IsWritten r.offset (length bytes) (λ k. if is_own r.comp.0 k then slice_index bytes k else 0) old new → IsWritten r.offset r.size (saved_byte file r.comp.0) old new
saved_written file r bytes old new is size h =
    let at : IsWritten r.offset (length bytes) (saved_byte file r.comp.0) old new = subst (λ bs. IsWritten r.offset (length bytes) (λ k. if is_own r.comp.0 k then slice_index bs k else 0) old new) is h in
    subst (λ n. IsWritten r.offset n (saved_byte file r.comp.0) old new) (sym size) at
