-- What it tells that a load isn't refused.
use Rattle.std.proofs.Common.{◌≡◌, ℕ, ◌+◌, ◌≤◌, ◌==◌, Bool, true, false, not, ◌||◌, min, List, length, None, bit_and, refl, sym, ap, ◌∙◌, arith}
use Rattle.std.proofs.lemmas.Bool.{eqb-true, true≢false}
use Rattle.std.proofs.lemmas.Nat.Bits.{bit_at_and, bit_at-lt}
use Rattle.std.specs.Int.{bit_at}
use Rattle.std.specs.Prelude.{slice_get, Some}
use Rattle.xs_base.specs.declared.component.Row.{Row}
use Rattle.xs_base.specs.Area.{HasPlaces}
use Rattle.xs_base.specs.Compact.{place, is_compacted}
use Rattle.xs_base.specs.Header.{xstate_bv, xcomp_bv}
use Rattle.xs_base.specs.HeaderCheck.{has_outside}
use Rattle.xs_base.specs.Layout.{features}
use Rattle.xs_bank.specs.Load.{standard_trap, compacted_trap, named_in}
use Rattle.xs_base.specs.Sets.{has}
use Rattle.xs_base.proofs.LayoutLemmas.{else_none}

not_false : (b : Bool) → not b ≡ false → b ≡ true
not_false true h = refl
not_false false h = absurd (true≢false h)

-- a set that has nothing outside another
pub inside_has : (set allowed c : ℕ) → has_outside set allowed ≡ false → has set c ≡ true → has allowed c ≡ true
inside_has set allowed c inside on =
    let same : bit_and set allowed ≡ set = eqb-true (bit_and set allowed) set (not_false (bit_and set allowed == set) inside) in
    let one : bit_at set c ≡ 1 = eqb-true (bit_at set c) 1 on in
    let both : min (bit_at set c) (bit_at allowed c) ≡ 1 = sym (bit_at_and set allowed c) ∙ ap (λ n. bit_at n c) same ∙ one in
    let low = bit_at-lt allowed c in
    let other : bit_at allowed c ≡ 1 = omega arith in
    rw other refl

last_of : (a b d : Bool) → (a || b || d) ≡ false → d ≡ false
last_of false false d h = h
last_of false true d h = absurd (true≢false h)
last_of true b d h = absurd (true≢false h)

-- XRSTOR that isn't refused takes the standard format
pub standard_format : (rows : List Row) (armed mask : ℕ) (area : List ℕ) → standard_trap rows armed mask area ≡ None → xcomp_bv area ≡ 0
unfolding standard_trap
standard_format rows armed mask area none =
    let later = (else_none (has_outside (xstate_bv area) (features rows)) _ _ none).1 in
    let zero = (else_none (not (xcomp_bv area == 0)) _ _ later).0 in
    eqb-true (xcomp_bv area) 0 (not_false (xcomp_bv area == 0) zero)

-- XRSTORS that isn't refused takes the compacted format, where XCOMP_BV names what XSTATE_BV does
pub compacted_format : (rows : List Row) (armed mask : ℕ) (area : List ℕ) → compacted_trap rows armed mask area ≡ None → (is_compacted (xcomp_bv area) ≡ true) × ((c : ℕ) → has (xstate_bv area) c ≡ true → has (xcomp_bv area) c ≡ true)
unfolding compacted_trap
compacted_format rows armed mask area none =
    let first = else_none (has_outside (xstate_bv area) (features rows) || has_outside (named_in area) (features rows) || has_outside (xstate_bv area) (xcomp_bv area)) _ _ none in
    let second = else_none (not (is_compacted (xcomp_bv area))) _ _ first.1 in
    let inside = last_of (has_outside (xstate_bv area) (features rows)) (has_outside (named_in area) (features rows)) (has_outside (xstate_bv area) (xcomp_bv area)) first.0 in
    (not_false (is_compacted (xcomp_bv area)) second.0, λ c on. inside_has (xstate_bv area) (xcomp_bv area) c inside on)

-- so an area holds the places that a load takes
pub standard_places : (rows : List Row) (armed mask : ℕ) (area : List ℕ) → standard_trap rows armed mask area ≡ None → ((i : ℕ) (r : Row) → slice_get rows i ≡ Some r → has mask r.comp.0 ≡ true → has (xstate_bv area) r.comp.0 ≡ true → r.offset + r.size ≤ length area) → (i : ℕ) (r : Row) → slice_get rows i ≡ Some r → has mask r.comp.0 ≡ true → has (xstate_bv area) r.comp.0 ≡ true → place rows (xcomp_bv area) r + r.size ≤ length area
standard_places rows armed mask area none places i r row wanted on =
    rw (standard_format rows armed mask area none) (places i r row wanted on)

pub compacted_places : (rows : List Row) (armed mask : ℕ) (area : List ℕ) → compacted_trap rows armed mask area ≡ None → (is_compacted (xcomp_bv area) ≡ true → HasPlaces rows area (xcomp_bv area)) → (i : ℕ) (r : Row) → slice_get rows i ≡ Some r → has mask r.comp.0 ≡ true → has (xstate_bv area) r.comp.0 ≡ true → place rows (xcomp_bv area) r + r.size ≤ length area
compacted_places rows armed mask area none places i r row wanted on =
    let format = compacted_format rows armed mask area none in
    places format.0 i r row (format.1 r.comp.0 on)
