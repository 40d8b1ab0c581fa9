-- Where the components of a machine stand, in the standard format and by XCOMP_BV in either.
use Rattle.std.proofs.Common.{◌≡◌, ◌≢◌, ◌⊎◌, inl, inr, ℕ, ◌+◌, ◌%◌, ◌<◌, ◌≤◌, ◌==◌, Bool, true, false, true≢false, not, ◌&&◌, ◌||◌, nat_le, List, length, get_or, if◌then◌else◌, refl, sym, ap, subst, ◌∙◌, arith, nat_lt, take}
use Rattle.std.proofs.lemmas.Bool.{cases_order, cases_lt, cases_eq, cases_Bool, le-leb}
use Rattle.std.proofs.lemmas.Bool.Decides.{nat_tests}
use Rattle.std.specs.List.{list_any}
use Rattle.xs_base.specs.declared.component.Row.{Row}
use Rattle.xs_base.specs.Bytes.{is_within}
use Rattle.xs_base.specs.File.{is_own}
use Rattle.xs_base.specs.Sets.{has}
use Rattle.xs_base.specs.Layout.{IsLayout, IsSound, has_row, row_end}
use Rattle.xs_base.specs.Compact.{is_extended, is_compacted, compact_offset, compact_size, place, has_place}
use Rattle.std.specs.Cmp.Derive.{both_true}
use Rattle.xs_base.proofs.ByteLemmas.{within_below, within_above, within_tells}
use Rattle.xs_base.proofs.CompactLemmas.{compact_offset_low, compact_size_low, compact_size_covers, compact_apart}
use Rattle.xs_base.proofs.LayoutLemmas.{AreApart, Passes, passes_in, rising, none_before, layout_parts, sound_at}

-- ---- places in the standard format

-- x87 and SSE end by byte 416
pub legacy_end : (r : Row) → IsSound r → r.comp.0 < 2 → r.offset + r.size ≤ 416
legacy_end r s lt = here (cases_lt r.comp.0 1)
  where
    here : (r.comp.0 < 1) ⊎ (1 ≤ r.comp.0) → r.offset + r.size ≤ 416
    here (inl none) = let f = s.x87 (omega arith) in omega (arith, f.0, f.1)
    here (inr one) = let f = s.sse (omega arith) in omega (arith, f.0, f.1)

-- A row's place is apart from that of each row before it. Here alone the test of a row's place in the standard format
-- tells that places are apart.
apart_before : (rows : List Row) → IsLayout rows → (i j : ℕ) (r s : Row) → i < j → j < length rows → r ≡ get_or rows i r → s ≡ get_or rows j s → AreApart r.offset r.size s.offset s.size
apart_before rows h i j r s less lt is it = here (cases_lt s.comp.0 2) (cases_lt r.comp.0 1)
  where
    p : Passes (take j rows) s
    p = passes_in rows (layout_parts rows h).0 j s lt it

    rise : r.comp.0 < s.comp.0
    rise = (rising rows h).each i j r s less lt is it

    sound : IsSound r
    sound = sound_at rows h i r (omega arith) is

    none : (any : Bool) → (nat_le 2 s.comp.0 && (nat_lt s.offset 576 || any)) ≡ false → 2 ≤ s.comp.0 → any ≡ false
    none true h two = grind (arith, nat_tests)
    none false h two = refl

    here : (s.comp.0 < 2) ⊎ (2 ≤ s.comp.0) → (r.comp.0 < 1) ⊎ (1 ≤ r.comp.0) → AreApart r.offset r.size s.offset s.size
    here (inr two) either =
        let any = none (list_any (λ (b : Row). nat_lt s.offset (row_end b)) (take j rows)) p.overlap two in
        let low : nat_lt s.offset (row_end r) ≡ false = none_before (λ (b : Row). nat_lt s.offset (row_end b)) rows i j r less lt is any in
        inl (grind (arith, nat_tests))
    here (inl legacy) (inl first) =
        let f = sound.x87 (omega arith) in
        let g = (sound_at rows h j s lt it).sse (omega (arith, rise)) in
        inl (omega (arith, f.0, f.1, g.0))
    here (inl legacy) (inr some) = absurd (omega (arith, rise))

-- two rows have no byte of the standard format in common
pub standard_apart : (rows : List Row) → IsLayout rows → (i j : ℕ) (r s : Row) → i < length rows → j < length rows → r ≡ get_or rows i r → s ≡ get_or rows j s → i ≢ j → AreApart r.offset r.size s.offset s.size
standard_apart rows h i j r s lt within is it other = here (cases_order i j)
  where
    turn : AreApart s.offset s.size r.offset r.size → AreApart r.offset r.size s.offset s.size
    turn (inl a) = inr a
    turn (inr b) = inl b

    here : (i ≡ j) ⊎ ((i < j) ⊎ (j < i)) → AreApart r.offset r.size s.offset s.size
    here (inl e) = absurd (other e)
    here (inr (inl less)) = apart_before rows h i j r s less within is it
    here (inr (inr more)) = turn (apart_before rows h j i s r more lt it is)

-- ---- by XCOMP_BV

-- in the standard format a row stands at its offset
pub place_standard : (rows : List Row) (xcomp : ℕ) (r : Row) → is_compacted xcomp ≡ false → place rows xcomp r ≡ r.offset
place_standard rows xcomp r off = ap (λ b. if b && nat_le 2 r.comp.0 then compact_offset rows xcomp r.comp.0 else r.offset) off

-- x87 and SSE stand at their offsets in both formats
pub place_legacy : (rows : List Row) (xcomp : ℕ) (r : Row) → r.comp.0 < 2 → place rows xcomp r ≡ r.offset
place_legacy rows xcomp r lt = here (is_compacted xcomp) (nat_le 2 r.comp.0) (grind (arith, nat_tests))
  where
    here : (b two : Bool) → two ≡ false → (if b && two then compact_offset rows xcomp r.comp.0 else r.offset) ≡ r.offset
    here true two off = ap (λ b. if b then compact_offset rows xcomp r.comp.0 else r.offset) off
    here false two off = refl

-- the others stand at their compacted places in the compacted format
pub place_compacted : (rows : List Row) (xcomp : ℕ) (r : Row) → is_compacted xcomp ≡ true → 2 ≤ r.comp.0 → place rows xcomp r ≡ compact_offset rows xcomp r.comp.0
place_compacted rows xcomp r on le = ap (λ b. if b && nat_le 2 r.comp.0 then compact_offset rows xcomp r.comp.0 else r.offset) on ∙ ap (λ b. if b then compact_offset rows xcomp r.comp.0 else r.offset) (le-leb 2 r.comp.0 le)

-- they stand behind the header in both formats
pub place_extended : (rows : List Row) (xcomp : ℕ) (r : Row) → IsSound r → 2 ≤ r.comp.0 → 576 ≤ place rows xcomp r
place_extended rows xcomp r s le = here (cases_Bool (is_compacted xcomp))
  where
    here : (is_compacted xcomp ≡ true) ⊎ (is_compacted xcomp ≡ false) → 576 ≤ place rows xcomp r
    here (inl on) = rw (place_compacted rows xcomp r on le) (compact_offset_low rows xcomp r.comp.0)
    here (inr off) = rw (place_standard rows xcomp r off) (s.extended le)

-- in the compacted format what has a place is of the set
pub named_of : (rows : List Row) (xcomp c : ℕ) → is_compacted xcomp ≡ true → has_place rows xcomp c ≡ true → has xcomp c ≡ true
named_of rows xcomp c on h = here (has_row rows c) (has xcomp c) (subst (λ (b : Bool). (has_row rows c && (not b || has xcomp c)) ≡ true) on h)
  where
    here : (a b : Bool) → (a && (not true || b)) ≡ true → b ≡ true
    here true true h = refl
    here true false h = h
    here false b h = cc

extended_of : (rows : List Row) (xcomp : ℕ) (r : Row) → is_compacted xcomp ≡ true → has_place rows xcomp r.comp.0 ≡ true → 2 ≤ r.comp.0 → is_extended xcomp r ≡ true
extended_of rows xcomp r on h le = both_true (le-leb 2 r.comp.0 le) (named_of rows xcomp r.comp.0 on h)

-- two rows that have places have no byte in common
pub places_apart : (rows : List Row) → IsLayout rows → (xcomp i j : ℕ) (r s : Row) → i < length rows → j < length rows → r ≡ get_or rows i r → s ≡ get_or rows j s → i ≢ j → has_place rows xcomp r.comp.0 ≡ true → has_place rows xcomp s.comp.0 ≡ true → AreApart (place rows xcomp r) r.size (place rows xcomp s) s.size
places_apart rows h xcomp i j r s lt within is it other placed and_placed =
    here (cases_Bool (is_compacted xcomp)) (cases_lt r.comp.0 2) (cases_lt s.comp.0 2)
  where
    here : (is_compacted xcomp ≡ true) ⊎ (is_compacted xcomp ≡ false) → (r.comp.0 < 2) ⊎ (2 ≤ r.comp.0) → (s.comp.0 < 2) ⊎ (2 ≤ s.comp.0) → AreApart (place rows xcomp r) r.size (place rows xcomp s) s.size
    here (inr off) two twice = rw (place_standard rows xcomp r off, place_standard rows xcomp s off) (standard_apart rows h i j r s lt within is it other)
    here (inl on) (inl legacy) (inl and_legacy) = rw (place_legacy rows xcomp r legacy, place_legacy rows xcomp s and_legacy) (standard_apart rows h i j r s lt within is it other)
    here (inl on) (inl legacy) (inr two) =
        let end = legacy_end r (sound_at rows h i r lt is) legacy in
        let low = place_extended rows xcomp s (sound_at rows h j s within it) two in
        rw (place_legacy rows xcomp r legacy) (inl (omega arith))
    here (inl on) (inr two) (inl legacy) =
        let end = legacy_end s (sound_at rows h j s within it) legacy in
        let low = place_extended rows xcomp r (sound_at rows h i r lt is) two in
        rw (place_legacy rows xcomp s legacy) (inr (omega arith))
    here (inl on) (inr two) (inr twice) =
        rw (place_compacted rows xcomp r on two, place_compacted rows xcomp s on twice)
        (compact_apart rows h xcomp i j r s lt within is it (extended_of rows xcomp r on placed two) (extended_of rows xcomp s on and_placed twice) other)

-- a component that has a place ends by the compact size in the compacted format
pub compacted_within : (rows : List Row) → IsLayout rows → (xcomp i : ℕ) (r : Row) → i < length rows → r ≡ get_or rows i r → is_compacted xcomp ≡ true → has_place rows xcomp r.comp.0 ≡ true → place rows xcomp r + r.size ≤ compact_size rows xcomp
compacted_within rows h xcomp i r lt is on placed = here (cases_lt r.comp.0 2)
  where
    here : (r.comp.0 < 2) ⊎ (2 ≤ r.comp.0) → place rows xcomp r + r.size ≤ compact_size rows xcomp
    here (inl legacy) =
        let end = legacy_end r (sound_at rows h i r lt is) legacy in
        let low = compact_size_low rows xcomp in
        rw (place_legacy rows xcomp r legacy) (omega arith)
    here (inr two) = rw (place_compacted rows xcomp r on two) (compact_size_covers rows h xcomp i r lt is (extended_of rows xcomp r on placed two))

-- ---- bytes of no row's place

-- a row's place is in the legacy region or behind the header
pub place_sides : (rows : List Row) (xcomp : ℕ) (r : Row) → IsSound r → (place rows xcomp r + r.size ≤ 416) ⊎ (576 ≤ place rows xcomp r)
place_sides rows xcomp r sound = elim (cases_lt r.comp.0 2) [
  | inl low ↦ inl (omega (arith, place_legacy rows xcomp r low, legacy_end r sound low))
  | inr high ↦ inr (place_extended rows xcomp r sound high)
]

-- so nothing of it is between
pub place_outside : (rows : List Row) (xcomp : ℕ) (r : Row) (k : ℕ) → IsSound r → is_within 416 160 k ≡ true → is_within (place rows xcomp r) r.size k ≡ false
place_outside rows xcomp r k sound inside =
    let tells = within_tells 416 160 k inside in
    elim (place_sides rows xcomp r sound) [
      | inl low ↦ within_above (place rows xcomp r) r.size k (omega arith)
      | inr high ↦ within_below (place rows xcomp r) r.size k (omega arith)
    ]

-- Bytes 24 to 31 belong to no register.
pub own_outside : (rows : List Row) (xcomp : ℕ) (r : Row) (k : ℕ) → IsSound r → is_own r.comp.0 k ≡ true → is_within 24 8 (place rows xcomp r + k) ≡ false
own_outside rows xcomp r k sound own = here (cases_eq r.comp.0 0) (cases_eq r.comp.0 1)
  where
    middle : (a b c : Bool) → (not a && not b && not c) ≡ true → b ≡ false
    middle true b c h = absurd (true≢false (sym h))
    middle false true c h = absurd (true≢false (sym h))
    middle false false c h = refl

    here : (r.comp.0 ≡ 0) ⊎ (r.comp.0 ≡ 0 → ⊥) → (r.comp.0 ≡ 1) ⊎ (r.comp.0 ≡ 1 → ⊥) → is_within 24 8 (place rows xcomp r + k) ≡ false
    here (inl x87) b =
        let at : place rows xcomp r + k ≡ k = omega (arith, place_legacy rows xcomp r (omega arith), (sound.x87 x87).0) in
        let own0 : is_own 0 k ≡ true = ap (λ c. is_own c k) (sym x87) ∙ own in
        ap (is_within 24 8) at ∙ middle (k == 5) (is_within 24 8 k) (nat_le 32 k && nat_le 10 (k % 16)) own0
    here (inr a) (inl sse) = within_above 24 8 (place rows xcomp r + k) (omega (arith, place_legacy rows xcomp r (omega arith), (sound.sse sse).0))
    here (inr a) (inr b) = within_above 24 8 (place rows xcomp r + k) (omega (arith, place_extended rows xcomp r sound (omega arith)))
