-- The registers of every machine, one by one: each name has one place, and each place lies in its component.
use Rattle.std.proofs.Common.{◌≡◌, ℕ, ◌+◌, ◌-◌, ◌/◌, ◌%◌, ◌<◌, ◌≤◌, Bool, true, false, not, ◌&&◌, ◌||◌, ◌==◌, nat_le, nat_lt, slice_index_or, List, [], ◌∷◌, ◌++◌, length, Option, Some, None, refl, sym, ap, ◌∙◌, inl, inr, arith, decimal}
use Rattle.std.proofs.lemmas.List.Folds.{list_all_at}
use Rattle.std.proofs.lemmas.List.FromFn.{length-range_with_len, get_or-range_with_len}
use Rattle.std.proofs.lemmas.Bool.{cases_lt, cases_Bool, and_parts, false≢true, leb-true, ltb-true, eqb-true, cond-true, cond-false, lt-ltb, le-ltb}
use Rattle.std.proofs.lemmas.Fmt.{decimal_digit, decimal_step}
use Rattle.std.specs.List.{list_all, range_with_len}
use Rattle.xs_base.specs.declared.component.Place.{Place}
use Rattle.xs_base.specs.Component.{component_count, component_size, sizes}
use Rattle.xs_base.specs.File.{is_own, is_mxcsr}
use Rattle.xs_base.specs.Register.{Single, Family, families, singles, IsNamed, Alone, Member, TileRow, index_text, member, tile_row, registers, place_among, place_or_none, place_of}

-- ---- the text of an index

-- a number of two digits
pub decimal_two : (n : ℕ) → 10 ≤ n → n < 100 → decimal n ≡ (48 + n / 10) ∷ (48 + n % 10) ∷ []
decimal_two n ge small =
    let front : n / 10 < 10 = omega arith in
    decimal_step n ge (omega arith) ∙ ap (λ ds. ds ++ (48 + n % 10) ∷ []) (decimal_digit (n / 10) front)

pub decimal_index : (n : ℕ) → n < 100 → decimal n ≡ index_text n
decimal_index n small =
    elim (cases_lt n 10) [
      | inl lt ↦ decimal_digit n lt ∙ sym (cond-true (nat_lt n 10) _ _ (lt-ltb n 10 lt))
      | inr ge ↦ decimal_two n ge small ∙ sym (cond-false (nat_lt n 10) _ _ (le-ltb n 10 ge))
    ]

-- ---- a test of each

-- Every register passes the test.
abbrev pub every : (Single → Bool) → Bool
every test =
    list_all test singles
    && (list_all (λ f. list_all (λ i. test (member f i)) (range_with_len 0 f.count)) families
    && list_all (λ tile. list_all (λ row. test (tile_row tile row)) (range_with_len 0 16)) (range_with_len 0 8))

-- what a test of a whole list says of one element
pub list_all_has : {A : Type 0} (test : A → Bool) (xs : List A) (k : ℕ) (x : A) → k < length xs → slice_index_or xs k x ≡ x → list_all test xs ≡ true → test x ≡ true
list_all_has test xs k x lt is all =
    let at : test (slice_index_or xs k x) ≡ true = elim (cases_Bool (test (slice_index_or xs k x))) [
      | inl t ↦ t
      | inr f ↦ absurd (false≢true (sym (list_all_at test xs k x lt f) ∙ all))
    ] in
    rw is at at

pub list_all_range : (test : ℕ → Bool) (a n k : ℕ) → a ≤ k → k < a + n → list_all test (range_with_len a n) ≡ true → test k ≡ true
list_all_range test a n k le lt all =
    let here : k - a < n = omega arith in
    let is : a + (k - a) ≡ k = omega arith in
    let at : slice_index_or (range_with_len a n) (k - a) k ≡ k = get_or-range_with_len a n (k - a) k here ∙ is in
    list_all_has test (range_with_len a n) (k - a) k (rw length-range_with_len here) at all

same_single : (test : Single → Bool) (name : List ℕ) (place : Place) (s : Single) → name ≡ s.name → place ≡ s.place → test s ≡ true → test (record { name = name; place = place }) ≡ true
same_single test name place s names places h =
    let e : record { name = name; place = place } ≡ s = rw (names, places) refl in
    ap test e ∙ h

-- the greatest index of a family is below 100
index_small : (f : Family) (k i : ℕ) → k < length families → slice_index_or families k f ≡ f → i < f.count → f.from + i < 100
index_small f k i lt is below =
    let h = leb-true (f.from + f.count) 100 (list_all_has (λ f. nat_le (f.from + f.count) 100) families k f lt is refl) in
    omega arith

pub each_register : (test : Single → Bool) (name : List ℕ) (place : Place) → every test ≡ true → IsNamed name place → test (record { name = name; place = place }) ≡ true
each_register test name place all (Alone (k, s, lt, is, (names, places))) =
    let parts = and_parts (list_all test singles) _ all in
    same_single test name place s names places (list_all_has test singles k s lt is parts.0)
each_register test name place all (Member (k, f, lt, is, m)) =
    let parts = and_parts (list_all test singles) _ all in
    let both = and_parts (list_all (λ f. list_all (λ i. test (member f i)) (range_with_len 0 f.count)) families) _ parts.1 in
    let one = list_all_has (λ f. list_all (λ i. test (member f i)) (range_with_len 0 f.count)) families k f lt is both.0 in
    let here = list_all_range (λ i. test (member f i)) 0 f.count m.index (omega arith) (omega (arith, m.within)) one in
    same_single test name place (member f m.index) (m.spelled ∙ ap (λ ds. f.stem ++ ds) (decimal_index (f.from + m.index) (index_small f k m.index lt is m.within))) m.placed here
each_register test name place all (TileRow h) =
    let parts = and_parts (list_all test singles) _ all in
    let both = and_parts (list_all (λ f. list_all (λ i. test (member f i)) (range_with_len 0 f.count)) families) _ parts.1 in
    let one = list_all_range (λ tile. list_all (λ row. test (tile_row tile row)) (range_with_len 0 16)) 0 8 h.tile (omega arith) (omega (arith, h.tiles)) both.1 in
    let here = list_all_range (λ row. test (tile_row h.tile row)) 0 16 h.row (omega arith) (omega (arith, h.rows)) one in
    let tiles = decimal_index h.tile (omega (arith, h.tiles)) in
    let rows = decimal_index h.row (omega (arith, h.rows)) in
    same_single test name place (tile_row h.tile h.row) (h.spelled ∙ rw (tiles, rows) refl) h.placed here

-- ---- what holds of each

abbrev pub is_place : Place → Option Place → Bool
is_place p None = false
is_place p (Some q) = (p.comp.0 == q.comp.0) && ((p.offset == q.offset) && (p.len == q.len))

place_from_test : (p : Place) (o : Option Place) → is_place p o ≡ true → o ≡ Some p
place_from_test p None h = absurd (false≢true h)
place_from_test p (Some q) h =
    let parts = and_parts (p.comp.0 == q.comp.0) ((p.offset == q.offset) && (p.len == q.len)) h in
    let both = and_parts (p.offset == q.offset) (p.len == q.len) parts.1 in
    let c = eqb-true p.comp.0 q.comp.0 parts.0 in
    let o = eqb-true p.offset q.offset both.0 in
    let n = eqb-true p.len q.len both.1 in
    let e : p ≡ q = rw (c, o, n) refl in
    ap Some (sym e)

-- a name is found first in the list with its own place
pub place_found : (name : List ℕ) (place : Place) → IsNamed name place → place_among registers name ≡ Some place
unfolding registers
place_found name place h =
    place_from_test place _ (each_register (λ s. is_place s.place (place_among registers s.name)) name place refl h)

-- The place of a register is a function of its name.
pub named_place : (name : List ℕ) (place : Place) → IsNamed name place → place_of name ≡ place
unfolding place_of
named_place name place h = ap place_or_none (place_found name place h)

-- A register has one place, on every machine that has it.
pub one_place : (name : List ℕ) (p q : Place) → IsNamed name p → IsNamed name q → p ≡ q
one_place name p q hp hq =
    let e : Some p ≡ Some q = sym (place_found name p hp) ∙ place_found name q hq in
    cc

-- a letter, a digit or a point
abbrev pub is_name_byte : ℕ → Bool
is_name_byte b = (nat_le 97 b && nat_le b 122) || ((nat_le 48 b && nat_le b 57) || (b == 46))

-- A name has 1 to 16 bytes.
pub name_length : (name : List ℕ) (place : Place) → IsNamed name place → (0 < length name) × (length name ≤ 16)
name_length name place h =
    let parts = and_parts (nat_lt 0 (length name)) (nat_le (length name) 16) (each_register (λ s. nat_lt 0 (length s.name) && nat_le (length s.name) 16) name place refl h) in
    (ltb-true 0 (length name) parts.0, leb-true (length name) 16 parts.1)

-- Each byte of a name is a letter from a to z, a digit or a point.
pub name_spelled : (name : List ℕ) (place : Place) → IsNamed name place → list_all is_name_byte name ≡ true
name_spelled name place h = each_register (λ s. list_all is_name_byte s.name) name place refl h

-- A register has 1 to 64 bytes.
pub place_length : (name : List ℕ) (place : Place) → IsNamed name place → (0 < place.len) × (place.len ≤ 64)
place_length name place h =
    let parts = and_parts (nat_lt 0 place.len) (nat_le place.len 64) (each_register (λ s. nat_lt 0 s.place.len && nat_le s.place.len 64) name place refl h) in
    (ltb-true 0 place.len parts.0, leb-true place.len 64 parts.1)

-- the component is one of the table's
pub place_component : (name : List ℕ) (place : Place) → IsNamed name place → place.comp.0 < component_count
place_component name place h =
    ltb-true place.comp.0 component_count (each_register (λ s. nat_lt s.place.comp.0 component_count) name place refl h)

-- A register but MXCSR lies in its component.
pub place_within : (name : List ℕ) (place : Place) → IsNamed name place → is_mxcsr place ≡ false → place.offset + place.len ≤ component_size place.comp.0
unfolding component_size sizes
place_within name place h apart =
    let either = each_register (λ s. is_mxcsr s.place || nat_le (s.place.offset + s.place.len) (component_size s.place.comp.0)) name place refl h in
    leb-true _ _ (rw apart at either)

-- MXCSR has four bytes.
pub control_length : (name : List ℕ) (place : Place) → IsNamed name place → is_mxcsr place ≡ true → place.len ≡ 4
control_length name place h is =
    let either = each_register (λ s. not (is_mxcsr s.place) || (s.place.len == 4)) name place refl h in
    eqb-true place.len 4 (rw is at either)

-- Each byte of a register is a register's.
pub place_own : (name : List ℕ) (place : Place) (k : ℕ) → IsNamed name place → place.offset ≤ k → k < place.offset + place.len → is_own place.comp.0 k ≡ true
place_own name place k h le lt =
    list_all_range (is_own place.comp.0) place.offset place.len k le lt (each_register (λ s. list_all (is_own s.place.comp.0) (range_with_len s.place.offset s.place.len)) name place refl h)
