-- An area each of whose XSTATE_BV bits has a place stands for a file: what the bits name stands in its place, and the
-- rest is initial.
use Rattle.std.proofs.Common.{◌≡◌, ◌⊎◌, ℕ, ◌+◌, ◌^◌, ◌<◌, Bool, true, false, not, ◌&&◌, ◌==◌, List, [], length, map, get_or, Option, Some, None, if◌then◌else◌, refl, sym, ap, ◌∙◌, inl, inr, arith, lit<}
use Rattle.std.proofs.lemmas.Bool.{cases_lt, cases_Bool, false≢true, ne_eqb}
use Rattle.std.proofs.lemmas.List.{get_or_past}
use Rattle.std.proofs.lemmas.List.FromFn.{length-map-range_with_len, get_or-map-range_with_len}
use Rattle.std.proofs.lemmas.Option.{slice_get_within, get_or_from_slice_get}
use Rattle.std.specs.List.{range_with_len}
use Rattle.std.specs.Prelude.{slice_get, slice_range}
use Rattle.std.proofs.lemmas.List.Edits.{get_or-between}
use Rattle.xs_base.specs.declared.component.Row.{Row}
use Rattle.xs_base.specs.Area.{StandsFor, control_in}
use Rattle.xs_base.specs.Component.{component_count, component_size, initial_part, initial_mxcsr}
use Rattle.xs_base.specs.Compact.{is_compacted, place, has_place}
use Rattle.xs_base.specs.File.{File, IsFile, part, is_own}
use Rattle.xs_base.specs.Header.{xstate_bv, xcomp_bv, mxcsr}
use Rattle.xs_base.specs.Image.{taken_part}
use Rattle.xs_base.specs.Layout.{IsLayout, has_row, row_of}
use Rattle.xs_base.specs.Sets.{has}
use Rattle.xs_base.proofs.ComponentLemmas.{length_initial}
use Rattle.xs_base.proofs.FileLemmas.{initial_clean}
use Rattle.xs_base.proofs.ImageLemmas.{length_taken, taken_byte, taken_clean}
use Rattle.xs_base.proofs.LayoutLemmas.{sound_at}
use Rattle.xs_base.proofs.RowLemmas.{row_of_at}

-- ---- the file of an area

-- the row's place, by the area's XCOMP_BV
abbrev pub place_in : List Row → List ℕ → Option Row → ℕ
place_in rows area None = 0
place_in rows area (Some r) = place rows (xcomp_bv area) r

-- component c of the file: PKRU is kept beside the area
unfoldable pub part_of : List Row → List ℕ → ℕ → List ℕ
part_of rows area c =
    if has (xstate_bv area) c && not (c == 9) then taken_part area (place_in rows area (row_of rows c)) c else initial_part c

abbrev pub file_of : List Row → List ℕ → File
file_of rows area = record { rows = rows; parts = map (part_of rows area) (range_with_len 0 component_count); mxcsr = control_in area }

-- ---- its parts

-- A part that the bits name is loaded, any other is initial.
part_loaded : (rows : List Row) (area : List ℕ) (c : ℕ) → (c ≡ 9 → ⊥) → has (xstate_bv area) c ≡ true → part_of rows area c ≡ taken_part area (place_in rows area (row_of rows c)) c
unfolding part_of
part_loaded rows area c other named = rw (named, ne_eqb c 9 other) refl

part_initial : (rows : List Row) (area : List ℕ) (c : ℕ) → has (xstate_bv area) c ≡ false → part_of rows area c ≡ initial_part c
unfolding part_of
part_initial rows area c absent = rw absent refl

length_part : (rows : List Row) (area : List ℕ) (c : ℕ) → length (part_of rows area c) ≡ component_size c
unfolding part_of
length_part rows area c = choose (has (xstate_bv area) c && not (c == 9))
  where
    at : ℕ
    at = place_in rows area (row_of rows c)

    choose : (b : Bool) → length (if b then taken_part area at c else initial_part c) ≡ component_size c
    choose true = length_taken area at c
    choose false = length_initial c

part_clean : (rows : List Row) (area : List ℕ) (c k : ℕ) → is_own c k ≡ false → get_or (part_of rows area c) k 0 ≡ 0
unfolding part_of
part_clean rows area c k loose = choose (has (xstate_bv area) c && not (c == 9))
  where
    at : ℕ
    at = place_in rows area (row_of rows c)

    choose : (b : Bool) → get_or (if b then taken_part area at c else initial_part c) k 0 ≡ 0
    choose true = taken_clean area at c k loose
    choose false = initial_clean c k loose

part_at : (rows : List Row) (area : List ℕ) (c : ℕ) → c < component_count → part (file_of rows area) c ≡ part_of rows area c
part_at rows area c lt = get_or-map-range_with_len (part_of rows area) 0 component_count c c [] lt (omega arith)

-- what has a place has a row
pub row_of_place : (rows : List Row) (xcomp c : ℕ) → has_place rows xcomp c ≡ true → has_row rows c ≡ true
row_of_place rows xcomp c h = first (has_row rows c) _ h
  where
    first : (a b : Bool) → (a && b) ≡ true → a ≡ true
    first true b e = refl
    first false b e = e

-- ---- it is a file, for which the area stands

module _ (rows : List Row) (area : List ℕ) (table : IsLayout rows) (placed : (c : ℕ) → has (xstate_bv area) c ≡ true → has_place rows (xcomp_bv area) c ≡ true) where
  file_is : control_in area < 2 ^ 32 → IsFile (file_of rows area)
  file_is control = record {
    layout = table;
    count = length-map-range_with_len (part_of rows area) 0 component_count;
    sizes = λ c lt. rw (part_at rows area c lt) (length_part rows area c);
    clean = λ c k loose. elim (cases_lt c component_count) [
      | inl lt ↦ rw (part_at rows area c lt) (part_clean rows area c k loose)
      | inr past ↦ rw (get_or_past (file_of rows area).parts c [] (omega (arith, length-map-range_with_len (part_of rows area) 0 component_count))) refl
    ];
    absent = λ c lt lacks apart. part_at rows area c lt ∙ part_initial rows area c (no_bit c lacks (cases_Bool (has (xstate_bv area) c)));
    control = control;
  }
    where
      no_bit : (c : ℕ) → has_row rows c ≡ false → (has (xstate_bv area) c ≡ true) ⊎ (has (xstate_bv area) c ≡ false) → has (xstate_bv area) c ≡ false
      no_bit c lacks (inl named) = absurd (false≢true (sym lacks ∙ row_of_place rows (xcomp_bv area) c (placed c named)))
      no_bit c lacks (inr absent) = absent

  stands_for : StandsFor rows area (file_of rows area)
  stands_for = record {
    rows_are = refl;
    placed = placed;
    present = λ i r row other named k small own.
        let c = r.comp.0 in
        let at = place rows (xcomp_bv area) r in
        let loaded : part (file_of rows area) c ≡ taken_part area at c = part_at rows area c (number i r row) ∙ part_loaded rows area c other named ∙ ap (λ o. taken_part area (place_in rows area o) c) (found i r row) in
        sym (ap (λ l. get_or l k 0) loaded ∙ taken_byte area at c k small ∙ ap (λ t. if t then get_or area (at + k) 0 else 0) own);
    absent = λ i r row other none. part_at rows area r.comp.0 (number i r row) ∙ part_initial rows area r.comp.0 none;
    control = refl;
  }
    where
      found : (i : ℕ) (r : Row) → slice_get rows i ≡ Some r → row_of rows r.comp.0 ≡ Some r
      found i r row = row_of_at rows table i r (slice_get_within rows i r row) (sym (get_or_from_slice_get rows i r r row))

      number : (i : ℕ) (r : Row) → slice_get rows i ≡ Some r → r.comp.0 < component_count
      number i r row = (sound_at rows table i r (slice_get_within rows i r row) (sym (get_or_from_slice_get rows i r r row))).number

-- the MXCSR of an area of bytes is a word
pub control_small : (area : List ℕ) → ((i : ℕ) → get_or area i 0 < 256) → control_in area < 2 ^ 32
unfolding mxcsr
control_small area small = choose (is_compacted (xcomp_bv area) && not (has (xstate_bv area) 1))
  where
    byte : (k : ℕ) → 24 + k < 28 → get_or (slice_range area 24 28) k 0 < 256
    byte k lt = rw (get_or-between area 24 28 k 0 lt) (small (24 + k))

    choose : (b : Bool) → (if b then initial_mxcsr else mxcsr area) < 2 ^ 32
    choose true = lit< tt
    choose false = omega (arith, byte 0 (lit< tt), byte 1 (lit< tt), byte 2 (lit< tt), byte 3 (lit< tt))

-- an area each of whose bits has a place stands for a file
pub some_file : (rows : List Row) (area : List ℕ) → IsLayout rows → control_in area < 2 ^ 32 → ((c : ℕ) → has (xstate_bv area) c ≡ true → has_place rows (xcomp_bv area) c ≡ true) → (file : File) × IsFile file × StandsFor rows area file
some_file rows area table control placed = (file_of rows area, file_is rows area table placed control, stands_for rows area table placed)
