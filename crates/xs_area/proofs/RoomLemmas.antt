-- Which components an area has room for, and the set of those that are copied.
use Rattle.std.proofs.Common.{◌≡◌, ◌⊎◌, ℕ, ◌+◌, ◌<◌, ◌≤◌, ◌==◌, ◌&&◌, ◌||◌, Bool, true, false, true≢false, not, nat_le, List, length, get_or, if◌then◌else◌, refl, sym, ap, ◌∙◌, arith, inl, inr}
use Rattle.std.proofs.lemmas.Bool.{cases_Bool, cases_eq, eq-eqb, ne_eqb, le-leb}
use Rattle.std.proofs.lemmas.Bool.Decides.{nat_tests}
use Rattle.std.proofs.lemmas.List.{get_or_default}
use Rattle.xs_base.proofs.SetLemmas.{has_none}
use Rattle.xs_base.specs.declared.component.Row.{Row}
use Rattle.xs_base.specs.Area.{has_room, ends_inside}
use Rattle.xs_base.specs.Compact.{is_compacted, place, has_place}
use Rattle.xs_base.specs.Header.{xcomp_bv}
use Rattle.xs_base.specs.Layout.{IsLayout, IsRowOf, has_row, row_of}
use Rattle.xs_base.specs.Sets.{has}
use Rattle.xs_base.proofs.LayoutLemmas.{sound_at}
use Rattle.xs_base.proofs.PlaceLemmas.{place_legacy}
use Rattle.xs_base.proofs.RowLemmas.{row_of_at, row_of_tells, row_found, has_sse}
use Rattle.xs_area.specs.Copy.{is_copied}

-- ---- room

-- whether there is room for a row's component
pub room_at : (rows : List Row) → IsLayout rows → (area : List ℕ) (i : ℕ) (r : Row) → i < length rows → r ≡ get_or rows i r → has_room rows area r.comp.0 ≡ (has_place rows (xcomp_bv area) r.comp.0 && nat_le (place rows (xcomp_bv area) r + r.size) (length area))
room_at rows table area i r lt is = ap (λ o. has_place rows (xcomp_bv area) r.comp.0 && ends_inside rows area o) (row_of_at rows table i r lt is)

-- what the test of a row's room answers
pub room_test : (rows : List Row) → IsLayout rows → (area : List ℕ) (i : ℕ) (r : Row) (names at : ℕ) → i < length rows → r ≡ get_or rows i r → names ≡ xcomp_bv area → at ≡ place rows names r → (has_place rows names r.comp.0 && nat_le (at + r.size) (length area)) ≡ has_room rows area r.comp.0
room_test rows table area i r names at lt is named placed = rw (placed, named) (sym (room_at rows table area i r lt is))

-- what room tells
pub record HasRoom (rows : List Row) (area : List ℕ) (c : ℕ) : Type 0 where
  pub placed : has_place rows (xcomp_bv area) c ≡ true
  pub row : Row
  pub is_row : IsRowOf rows c row
  pub fits : place rows (xcomp_bv area) row + row.size ≤ length area

pub room_tells : (rows : List Row) → IsLayout rows → (area : List ℕ) (c : ℕ) → has_room rows area c ≡ true → HasRoom rows area c
room_tells rows table area c h =
    let parts = both (has_place rows (xcomp_bv area) c) (ends_inside rows area (row_of rows c)) h in
    let own = first (has_row rows c) (not (is_compacted (xcomp_bv area)) || has (xcomp_bv area) c) parts.0 in
    let found = row_found rows c own in
    let inside : nat_le (place rows (xcomp_bv area) found.0 + found.0.size) (length area) ≡ true = ap (ends_inside rows area) (sym found.1) ∙ parts.1 in
    record { placed = parts.0; row = found.0; is_row = row_of_tells rows c found.0 found.1; fits = grind (arith, nat_tests) }
  where
    both : (a b : Bool) → (a && b) ≡ true → (a ≡ true) × (b ≡ true)
    both true true h = (refl, refl)
    both true false h = absurd (true≢false (sym h))
    both false b h = absurd (true≢false (sym h))

    first : (a b : Bool) → (a && b) ≡ true → a ≡ true
    first true b h = refl
    first false b h = absurd (true≢false (sym h))

-- room for a row's component
pub room_row : (rows : List Row) → IsLayout rows → (area : List ℕ) (i : ℕ) (r : Row) → i < length rows → r ≡ get_or rows i r → has_room rows area r.comp.0 ≡ true → place rows (xcomp_bv area) r + r.size ≤ length area
room_row rows table area i r lt is h =
    second (has_place rows (xcomp_bv area) r.comp.0) (place rows (xcomp_bv area) r + r.size) (length area) (sym (room_at rows table area i r lt is) ∙ h)
  where
    second : (a : Bool) (m n : ℕ) → (a && nat_le m n) ≡ true → m ≤ n
    second true m n h = grind (arith, nat_tests)
    second false m n h = absurd (true≢false (sym h))

-- SSE has room where it has a place: it stands in the legacy region.
pub room_sse : (rows : List Row) → IsLayout rows → (area : List ℕ) → 576 ≤ length area → has_room rows area 1 ≡ (not (is_compacted (xcomp_bv area)) || has (xcomp_bv area) 1)
room_sse rows table area long =
    let found = row_found rows 1 (has_sse rows table) in
    let row = found.0 in
    let tells = row_of_tells rows 1 row found.1 in
    let stands = (sound_at rows table tells.index row tells.within tells.is).sse tells.number in
    let at = place_legacy rows (xcomp_bv area) row (omega (arith, tells.number)) in
    let inside : nat_le (place rows (xcomp_bv area) row + row.size) (length area) ≡ true = le-leb _ _ (omega (arith, at, stands.0, stands.1)) in
    ap (λ b. b && (not (is_compacted (xcomp_bv area)) || has (xcomp_bv area) 1) && ends_inside rows area (row_of rows 1)) (has_sse rows table)
    ∙ ap (λ o. (not (is_compacted (xcomp_bv area)) || has (xcomp_bv area) 1) && ends_inside rows area o) found.1
    ∙ ap (λ b. (not (is_compacted (xcomp_bv area)) || has (xcomp_bv area) 1) && b) inside
    ∙ and_true (not (is_compacted (xcomp_bv area)) || has (xcomp_bv area) 1)
  where
    and_true : (b : Bool) → (b && true) ≡ b
    and_true true = refl
    and_true false = refl

-- ---- sets

-- The set has the components that are copied, of the rows before i.
pub record AreChosen (rows : List Row) (area : List ℕ) (set i : ℕ) (copied : ℕ) : Type 0 where
  pub sound : (c : ℕ) → has copied c ≡ true → is_copied rows area set c ≡ true
  pub whole : (j : ℕ) (r : Row) → j < i → j < length rows → r ≡ get_or rows j r → is_copied rows area set r.comp.0 ≡ true → has copied r.comp.0 ≡ true

-- one row more
pub chosen_more : (rows : List Row) → IsLayout rows → (area : List ℕ) (set i : ℕ) (copied more : ℕ) (r : Row) (wanted : Bool) → i < length rows → r ≡ get_or rows i r → AreChosen rows area set i copied → wanted ≡ is_copied rows area set r.comp.0 → ((c : ℕ) → has more c ≡ (if c == r.comp.0 then wanted else has copied c)) → AreChosen rows area set (i + 1) more
chosen_more rows table area set i copied more r wanted lt is at wants bits = record {
  sound = λ c h. elim (cases_eq c r.comp.0) [
    | inl same ↦ sym (here c same) ∙ h
    | inr apart ↦ at.sound c (sym (other c apart) ∙ h)
  ];
  whole = λ j s later within it chosen. elim (cases_eq s.comp.0 r.comp.0) [
    | inl same ↦ here s.comp.0 same ∙ chosen
    | inr apart ↦ other s.comp.0 apart ∙ at.whole j s (earlier j s it apart later) within it chosen
  ];
}
  where
    here : (c : ℕ) → c ≡ r.comp.0 → has more c ≡ is_copied rows area set c
    here c same = bits c ∙ ap (λ b. if b then wanted else has copied c) (eq-eqb c r.comp.0 same) ∙ wants ∙ ap (is_copied rows area set) (sym same)

    other : (c : ℕ) → (c ≡ r.comp.0 → ⊥) → has more c ≡ has copied c
    other c apart = bits c ∙ ap (λ b. if b then wanted else has copied c) (ne_eqb c r.comp.0 apart)

    earlier : (j : ℕ) (s : Row) → s ≡ get_or rows j s → (s.comp.0 ≡ r.comp.0 → ⊥) → j < i + 1 → j < i
    earlier j s it apart later = elim (cases_eq j i) [
      | inl one ↦ absurd (apart (ap (λ (x : Row). x.comp.0) (it ∙ ap (λ n. get_or rows n s) one ∙ get_or_default rows i s r lt ∙ sym is)))
      | inr less ↦ omega arith
    ]

-- before the first row
pub chosen_first : (rows : List Row) (area : List ℕ) (set : ℕ) → AreChosen rows area set 0 0
chosen_first rows area set = record { sound = λ c h. absurd (true≢false (sym h ∙ has_none c)); whole = λ j r none within it chosen. absurd (omega arith) }

-- every row
pub chosen_all : (rows : List Row) → IsLayout rows → (area : List ℕ) (set i : ℕ) (copied : ℕ) → length rows ≤ i → AreChosen rows area set i copied → (c : ℕ) → has copied c ≡ is_copied rows area set c
chosen_all rows table area set i copied past at c = here (cases_Bool (has copied c)) (cases_Bool (is_copied rows area set c))
  where
    second : (a b c : Bool) → (a && b && c) ≡ true → c ≡ true
    second true true true h = refl
    second true true false h = h
    second true false c h = absurd (true≢false (sym h))
    second false b c h = absurd (true≢false (sym h))

    here : (has copied c ≡ true) ⊎ (has copied c ≡ false) → (is_copied rows area set c ≡ true) ⊎ (is_copied rows area set c ≡ false) → has copied c ≡ is_copied rows area set c
    here (inl bit) b = bit ∙ sym (at.sound c bit)
    here (inr no_bit) (inr not_wanted) = no_bit ∙ sym not_wanted
    here (inr no_bit) (inl wanted) =
        let room = room_tells rows table area c (second (has set c) (not (c == 9)) (has_room rows area c) wanted) in
        let row = room.is_row in
        let chosen : is_copied rows area set room.row.comp.0 ≡ true = ap (is_copied rows area set) row.number ∙ wanted in
        let bit = at.whole row.index room.row (omega (arith, row.within)) row.within row.is chosen in
        absurd (true≢false (sym bit ∙ ap (has copied) row.number ∙ no_bit))
