-- An area can be read exactly where its bits are of the machine and each row that they name has its place.
use Rattle.std.proofs.Common.{◌≡◌, ℕ, ◌+◌, ◌<◌, ◌≤◌, ◌^◌, ◌==◌, true, false, List, length, get_or, Some, bit_and, refl, sym, ap, ◌∙◌, arith, inl, inr}
use Rattle.std.proofs.lemmas.Bool.{cases_lt, eqb-true, eq-eqb, false≢true, le-leb, and_from}
use Rattle.std.proofs.lemmas.Option.{slice_get_read, slice_get_within, get_or_from_slice_get}
use Rattle.std.specs.Prelude.{slice_get}
use Rattle.xs_base.specs.declared.component.Row.{Row}
use Rattle.xs_base.specs.Sets.{has}
use Rattle.xs_base.specs.Compact.{place, has_place}
use Rattle.xs_base.specs.Header.{xstate_bv, xcomp_bv}
use Rattle.xs_base.specs.Layout.{IsLayout, has_row, row_of, features}
use Rattle.xs_base.specs.Area.{HasPlaces, control_in, ends_inside, has_room}
use Rattle.xs_base.proofs.AreaLemmas.{row_of_place, some_file}
use Rattle.xs_base.proofs.LayoutLemmas.{has_features}
use Rattle.xs_base.proofs.LayoutLemmas as layouts
use Rattle.xs_base.proofs.RowLemmas.{row_found, row_of_tells}
use Rattle.xs_base.proofs.SetLemmas.{within_set, set_within}
use Rattle.xs_area.specs.Readable.{IsReadable, HasRows}
use Rattle.xs_area.proofs.RoomLemmas.{room_row, room_tells}

-- There is room for the components of the rows before i that the bits name.
pub record HaveRoom (rows : List Row) (area : List ℕ) (i : ℕ) : Type 0 where
  pub each : (j : ℕ) (r : Row) → j < i → slice_get rows j ≡ Some r → has (xstate_bv area) r.comp.0 ≡ true → has_room rows area r.comp.0 ≡ true

-- before the first row
pub room_first : (rows : List Row) (area : List ℕ) → HaveRoom rows area 0
room_first rows area = record { each = λ j r lt. absurd (omega arith) }

-- one row more
pub room_more : (rows : List Row) (area : List ℕ) (i : ℕ) (r : Row) → r ≡ get_or rows i r → (has (xstate_bv area) r.comp.0 ≡ true → has_room rows area r.comp.0 ≡ true) → HaveRoom rows area i → HaveRoom rows area (i + 1)
room_more rows area i r is here at = record {
  each = λ j s less row named. elim (cases_lt j i) [
    | inl below ↦ at.each j s below row named
    | inr from ↦
        let one : j ≡ i = omega arith in
        let same : s ≡ r = sym (get_or_from_slice_get rows j s r row) ∙ ap (λ n. get_or rows n r) one ∙ sym is in
        rw same (here (rw same at named))
  ];
}

-- a row that there is no room for
pub room_missing : (rows : List Row) (area : List ℕ) (i : ℕ) (r : Row) → i < length rows → r ≡ get_or rows i r → has (xstate_bv area) r.comp.0 ≡ true → has_room rows area r.comp.0 ≡ false → HasRows rows area → ⊥
room_missing rows area i r lt is named out all =
    let row : slice_get rows i ≡ Some r = slice_get_read rows (length rows) i r refl lt is in
    false≢true (sym out ∙ all i r row named)

-- every row
pub room_all : (rows : List Row) (area : List ℕ) (i : ℕ) → length rows ≤ i → HaveRoom rows area i → HasRows rows area
room_all rows area i past at j r row named = let lt = slice_get_within rows j r row in at.each j r (omega arith) row named

-- ---- what the tests tell

-- an area that passes them can be read
pub readable_from : (rows : List Row) (area : List ℕ) → IsLayout rows → 576 ≤ length area → control_in area < 2 ^ 32 → (bit_and (xstate_bv area) (features rows) == xstate_bv area) ≡ true → HasRows rows area → IsReadable rows area
readable_from rows area table long control known all = record {
  header = long;
  stands = some_file rows area table control placed;
  places = λ i r row named.
      let lt = slice_get_within rows i r row in
      let is : r ≡ get_or rows i r = sym (get_or_from_slice_get rows i r r row) in
      room_row rows table area i r lt is (all i r row named);
}
  where
    placed : (c : ℕ) → has (xstate_bv area) c ≡ true → has_place rows (xcomp_bv area) c ≡ true
    placed c named =
        let there : has_row rows c ≡ true = sym (has_features rows table c) ∙ within_set (xstate_bv area) (features rows) (eqb-true _ _ known) c named in
        let found = layouts.row_found rows c there in
        let row : slice_get rows found.1.index ≡ Some found.0 = slice_get_read rows (length rows) found.1.index found.0 refl found.1.within found.1.is in
        (room_tells rows table area c (rw found.1.number at (all found.1.index found.0 row (rw found.1.number named)))).placed

-- and one that can be read passes them
pub readable_known : (rows : List Row) (area : List ℕ) → IsReadable rows area → (bit_and (xstate_bv area) (features rows) == xstate_bv area) ≡ true
readable_known rows area able =
    let table : IsLayout rows = rw able.stands.2.rows_are at able.stands.1.layout in
    eq-eqb _ _ (set_within (xstate_bv area) (features rows) (λ c named. rw (has_features rows table c) (row_of_place rows (xcomp_bv area) c (able.stands.2.placed c named))))

-- It has room for each component that it names.
pub readable_room : (rows : List Row) (area : List ℕ) → IsReadable rows area → (c : ℕ) → has (xstate_bv area) c ≡ true → has_room rows area c ≡ true
readable_room rows area able c named =
    let placed = able.stands.2.placed c named in
    let found = row_found rows c (row_of_place rows (xcomp_bv area) c placed) in
    let tells = row_of_tells rows c found.0 found.1 in
    let row : slice_get rows tells.index ≡ Some found.0 = slice_get_read rows (length rows) tells.index found.0 refl tells.within tells.is in
    let inside : ends_inside rows area (Some found.0) ≡ true = le-leb (place rows (xcomp_bv area) found.0 + found.0.size) (length area) (able.places tells.index found.0 row (rw tells.number named)) in
    and_from (has_place rows (xcomp_bv area) c) (ends_inside rows area (row_of rows c)) placed (rw found.1 inside)

pub readable_rows : (rows : List Row) (area : List ℕ) → IsReadable rows area → HasRows rows area
readable_rows rows area able i r row named = readable_room rows area able r.comp.0 named

-- ---- the places that XCOMP_BV names

-- The rows before i have their places where XCOMP_BV names them.
pub record HaveNamed (rows : List Row) (area : List ℕ) (i : ℕ) : Type 0 where
  pub each : (j : ℕ) (r : Row) → j < i → slice_get rows j ≡ Some r → has (xcomp_bv area) r.comp.0 ≡ true → place rows (xcomp_bv area) r + r.size ≤ length area

-- before the first row
pub named_first : (rows : List Row) (area : List ℕ) → HaveNamed rows area 0
named_first rows area = record { each = λ j r lt. absurd (omega arith) }

-- one row more
pub named_more : (rows : List Row) (area : List ℕ) (i : ℕ) (r : Row) → r ≡ get_or rows i r → (has (xcomp_bv area) r.comp.0 ≡ true → place rows (xcomp_bv area) r + r.size ≤ length area) → HaveNamed rows area i → HaveNamed rows area (i + 1)
named_more rows area i r is here at = record {
  each = λ j s less row named. elim (cases_lt j i) [
    | inl below ↦ at.each j s below row named
    | inr from ↦
        let one : j ≡ i = omega arith in
        let same : s ≡ r = sym (get_or_from_slice_get rows j s r row) ∙ ap (λ n. get_or rows n r) one ∙ sym is in
        rw same (here (rw same at named))
  ];
}

-- a row that ends outside the area
pub named_missing : (rows : List Row) (area : List ℕ) (i : ℕ) (r : Row) → i < length rows → r ≡ get_or rows i r → has (xcomp_bv area) r.comp.0 ≡ true → length area < place rows (xcomp_bv area) r + r.size → HasPlaces rows area (xcomp_bv area) → ⊥
named_missing rows area i r lt is named out all =
    let row : slice_get rows i ≡ Some r = slice_get_read rows (length rows) i r refl lt is in
    let inside = all i r row named in
    omega arith

-- every row
pub named_all : (rows : List Row) (area : List ℕ) (i : ℕ) → length rows ≤ i → HaveNamed rows area i → HasPlaces rows area (xcomp_bv area)
named_all rows area i past at j r row named = let lt = slice_get_within rows j r row in at.each j r (omega arith) row named
