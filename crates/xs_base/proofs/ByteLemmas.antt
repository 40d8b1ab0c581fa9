-- The bytes of a list after one list was written over a part of it.
use Rattle.std.proofs.Common.{◌≡◌, ℕ, ◌+◌, ◌-◌, ◌<◌, ◌≤◌, true, false, List, length, get_or, if◌then◌else◌, sym, ap, ◌∙◌, arith, rules, length-append, length-take, length-drop}
use Rattle.std.proofs.lemmas.Bool.Decides.{nat_tests}
use Rattle.std.proofs.lemmas.List.{places}
use Rattle.std.proofs.lemmas.Grind.{same_number_lists}
use Rattle.std.proofs.lemmas.List.Edits.{length-between, get_or-between}
use Rattle.std.specs.Prelude.{slice_range}
use Rattle.xs_base.specs.Bytes.{splice, is_within}

-- ---- the test of a place

pub within_in : (at n i : ℕ) → at ≤ i → i < at + n → is_within at n i ≡ true
within_in at n i low high = grind (arith, nat_tests)

pub within_below : (at n i : ℕ) → i < at → is_within at n i ≡ false
within_below at n i low = grind (arith, nat_tests)

pub within_above : (at n i : ℕ) → at + n ≤ i → is_within at n i ≡ false
within_above at n i high = grind (arith, nat_tests)

-- what the test tells
pub within_tells : (at n i : ℕ) → is_within at n i ≡ true → (at ≤ i) × (i < at + n)
within_tells at n i h = (grind (arith, nat_tests), grind (arith, nat_tests))

-- ---- a list written over a part of another

-- the length stays
pub length_splice : (at : ℕ) (new old : List ℕ) → at + length new ≤ length old → length (splice at new old) ≡ length old
unfolding splice
length_splice at new old fits = simp (length-append, length-take, length-drop) (omega arith)

-- a byte before what was written
pub splice_below : (at : ℕ) (new old : List ℕ) (i : ℕ) → at + length new ≤ length old → i < at → get_or (splice at new old) i 0 ≡ get_or old i 0
unfolding splice
splice_below at new old i fits low = search (rules, places)

-- a byte that was written
pub splice_inside : (at : ℕ) (new old : List ℕ) (i : ℕ) → at + length new ≤ length old → at ≤ i → i < at + length new → get_or (splice at new old) i 0 ≡ get_or new (i - at) 0
unfolding splice
splice_inside at new old i fits low high = search (rules, places)

-- a byte behind it
pub splice_above : (at : ℕ) (new old : List ℕ) (i : ℕ) → at + length new ≤ length old → at + length new ≤ i → get_or (splice at new old) i 0 ≡ get_or old i 0
unfolding splice
splice_above at new old i fits high = search (rules, places)

-- any byte
pub splice_byte : (at : ℕ) (new old : List ℕ) (i : ℕ) → at + length new ≤ length old → get_or (splice at new old) i 0 ≡ (if is_within at (length new) i then get_or new (i - at) 0 else get_or old i 0)
splice_byte at new old i fits = grind (arith, nat_tests, splice_below at new old i fits, splice_inside at new old i fits, splice_above at new old i fits)

-- what was written stands there
pub range_splice : (at to : ℕ) (new old : List ℕ) → at + length new ≤ length old → to ≡ at + length new → slice_range (splice at new old) at to ≡ new
range_splice at to new old fits end =
    let long : to ≤ length (splice at new old) = omega (arith, length_splice at new old fits) in
    let many = length-between (splice at new old) at to long in
    same_number_lists (slice_range (splice at new old) at to) new (omega (arith, many))
    (λ k lt.
    let inside : at + k < to = omega (arith, many) in
    let back : at + k - at ≡ k = omega arith in
    get_or-between (splice at new old) at to k 0 inside ∙ splice_inside at new old (at + k) fits (omega arith) (omega arith) ∙ ap (λ n. get_or new n 0) back)

-- where the bytes are the same, their list is
pub range_same : (from to : ℕ) (a b : List ℕ) → to ≤ length a → to ≤ length b → ((k : ℕ) → from ≤ k → k < to → get_or a k 0 ≡ get_or b k 0) → slice_range a from to ≡ slice_range b from to
range_same from to a b la lb same =
    let ma = length-between a from to la in
    let mb = length-between b from to lb in
    same_number_lists (slice_range a from to) (slice_range b from to) (ma ∙ sym mb)
    (λ k lt.
    let inside : from + k < to = omega (arith, ma) in
    get_or-between a from to k 0 inside ∙ same (from + k) (omega arith) inside ∙ sym (get_or-between b from to k 0 inside))
