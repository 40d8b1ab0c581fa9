-- XCOMP_BV of a compacted area, and the places that it names.
use Rattle.std.proofs.Common.{◌≡◌, ℕ, ◌+◌, ◌<◌, ◌≤◌, ◌^◌, ◌==◌, Bool, true, false, ◌||◌, List, length, refl, sym, ap, ◌∙◌, arith}
use Rattle.std.proofs.lemmas.Bool.{ne_eqb}
use Rattle.std.proofs.lemmas.Nat.{or_comm}
use Rattle.std.specs.Prelude.{slice_get, Some}
use Rattle.xs_base.specs.declared.component.Row.{Row}
use Rattle.xs_base.specs.Area.{HasPlaces}
use Rattle.xs_base.specs.Compact.{compacted, compact_size, has_place, is_compacted, place}
use Rattle.xs_base.specs.Header.{xcomp_bv}
use Rattle.xs_base.specs.Layout.{IsLayout, has_row}
use Rattle.xs_base.specs.Sets.{has}
use Rattle.xs_base.proofs.CompactLemmas.{compact_end_same}
use Rattle.xs_base.proofs.LayoutLemmas.{sound_at, has_row_at}
use Rattle.xs_base.proofs.PlaceLemmas.{compacted_within}
use Rattle.xs_base.proofs.RowLemmas.{row_index}
use Rattle.xs_base.proofs.SetLemmas.{has_or}

-- its bits
pub has_compacted : (mask c : ℕ) → has (compacted mask) c ≡ (has mask c || (c == 63))
has_compacted mask c = ap (λ n. has n c) (or_comm (2 ^ 63) mask) ∙ has_or mask 63 c (omega arith)

or_true : (b : Bool) → (b || true) ≡ true
or_true true = refl
or_true false = refl

or_false : (b : Bool) → (b || false) ≡ b
or_false true = refl
or_false false = refl

-- it has bit 63
pub compacted_is : (mask : ℕ) → is_compacted (compacted mask) ≡ true
compacted_is mask = has_compacted mask 63 ∙ or_true (has mask 63)

-- and the components of the mask
pub compacted_has : (mask c : ℕ) → c < 63 → has (compacted mask) c ≡ has mask c
compacted_has mask c small = has_compacted mask c ∙ ap (λ b. has mask c || b) (ne_eqb c 63 (λ e. omega arith)) ∙ or_false (has mask c)

-- so a component of the machine and the mask has a place
pub compacted_placed : (rows : List Row) (mask c : ℕ) → c < 63 → has_row rows c ≡ true → has mask c ≡ true → has_place rows (compacted mask) c ≡ true
compacted_placed rows mask c small there on = rw (there, compacted_is mask, compacted_has mask c small, on) refl

-- within so many bytes
pub compact_room : (rows : List Row) (mask written names len : ℕ) → IsLayout rows → names ≡ compacted mask → ((c : ℕ) → has written c ≡ true → has mask c ≡ true) → compact_size rows mask ≤ len → (i : ℕ) (r : Row) → slice_get rows i ≡ Some r → has written r.comp.0 ≡ true → place rows names r + r.size ≤ len
compact_room rows mask written names len table are within room i r row on =
    let at = row_index rows i r row in
    let number = (sound_at rows table i r at.0 at.1).number in
    let placed = compacted_placed rows mask r.comp.0 (omega arith) (has_row_at rows i r at.0 at.1) (within r.comp.0 on) in
    let ends = compacted_within rows table (compacted mask) i r at.0 at.1 (compacted_is mask) placed in
    let size : compact_size rows (compacted mask) ≡ compact_size rows mask = compact_end_same (compacted mask) mask 576 rows (λ j s lt is. let small = (sound_at rows table j s lt is).number in compacted_has mask s.comp.0 (omega arith)) in
    rw are (omega arith)

-- an area of that size has every place that such an XCOMP_BV names
pub compacted_places : (rows : List Row) (mask : ℕ) (area : List ℕ) → IsLayout rows → xcomp_bv area ≡ compacted mask → compact_size rows mask ≤ length area → HasPlaces rows area (xcomp_bv area)
compacted_places rows mask area table names room i r row named =
    let at = row_index rows i r row in
    let number = (sound_at rows table i r at.0 at.1).number in
    compact_room rows mask mask (xcomp_bv area) (length area) table names (λ c on. on) room i r row (sym (compacted_has mask r.comp.0 (omega arith)) ∙ ap (λ n. has n r.comp.0) (sym names) ∙ named)
