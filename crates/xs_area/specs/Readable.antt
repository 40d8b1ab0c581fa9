-- Areas that can be read: this project's own.
use Rattle.std.specs.Prelude.{◌≡◌, ℕ, ◌≤◌, true, List, length, slice_get, Some}
use Rattle.xs_base.specs.declared.component.Row.{Row}
use Rattle.xs_base.specs.Area.{StandsFor, HasPlaces, has_room}
use Rattle.xs_base.specs.File.{File, IsFile}
use Rattle.xs_base.specs.Header.{xstate_bv}
use Rattle.xs_base.specs.Sets.{has}

-- The area has a header, stands for a file of the machine, and has the bytes of each component that it has state of.
pub record IsReadable (rows : List Row) (area : List ℕ) : Type 0 where
  pub header : 576 ≤ length area
  pub stands : (file : File) × IsFile file × StandsFor rows area file
  pub places : HasPlaces rows area (xstate_bv area)

-- The area has room for each row's component that it has state of.
abbrev pub HasRows : List Row → List ℕ → Type 0
HasRows rows area = (i : ℕ) (r : Row) → slice_get rows i ≡ Some r → has (xstate_bv area) r.comp.0 ≡ true → has_room rows area r.comp.0 ≡ true
