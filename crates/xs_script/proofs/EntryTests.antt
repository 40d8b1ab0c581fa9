-- The tests of a schedule's entries.
use Rattle.std.proofs.Common.{◌≡◌, ℕ, ◌+◌, ◌<◌, ◌≤◌, Bool, true, false, ◌&&◌, nat_le, nat_lt, List, [], ◌∷◌, ◌++◌, length, refl, sym, ◌∙◌, ap, arith, length-append}
use Rattle.std.specs.List.{AllByRecursion, flat_map, list_all}
use Rattle.std.proofs.lemmas.Bool.{and_parts, le-leb, lt-ltb}
use Rattle.std.proofs.lemmas.Bool.Decides.{nat_tests}
use Rattle.xs_script.specs.LineOrder.{fits_sched}

-- the entries of groups, one group after another
abbrev pub joined : List (List ℕ) → List ℕ
joined groups = flat_map (λ group. group) groups

-- entries that pass are below the bound
below_all : (cpus : ℕ) (entries : List ℕ) → list_all (λ entry. nat_lt entry cpus) entries ≡ true → AllByRecursion (λ entry. entry < cpus) entries
below_all cpus [] h = tt
below_all cpus (n ∷ entries) h =
    let parts = and_parts (nat_lt n cpus) (list_all (λ entry. nat_lt entry cpus) entries) h in
    (below n cpus parts.0, below_all cpus entries parts.1)
  where
    below : (n cpus : ℕ) → nat_lt n cpus ≡ true → n < cpus
    below n cpus h = grind (arith, nat_tests)

-- entries below the bound pass
all_below : (cpus : ℕ) (entries : List ℕ) → AllByRecursion (λ entry. entry < cpus) entries → list_all (λ entry. nat_lt entry cpus) entries ≡ true
all_below cpus [] h = refl
all_below cpus (n ∷ entries) h =
    let first : nat_lt n cpus ≡ true = lt-ltb n cpus h.0 in
    rw (first, all_below cpus entries h.1) refl

pub at_most : (a b : ℕ) → nat_le a b ≡ true → a ≤ b
at_most a b h = grind (arith, nat_tests)

-- what the test of a line's entries tells
pub within_parts : (cpus count : ℕ) (entries : List ℕ) → fits_sched cpus count entries ≡ true → AllByRecursion (λ entry. entry < cpus) entries × (count + length entries ≤ 4096)
within_parts cpus count entries h =
    let parts = and_parts (list_all (λ entry. nat_lt entry cpus) entries) (nat_le (count + length entries) 4096) h in
    (below_all cpus entries parts.0, at_most (count + length entries) 4096 parts.1)

-- entries within the limits pass
pub within_test : (cpus count : ℕ) (entries : List ℕ) → AllByRecursion (λ entry. entry < cpus) entries → count + length entries ≤ 4096 → fits_sched cpus count entries ≡ true
within_test cpus count entries below few = rw (all_below cpus entries below, le-leb (count + length entries) 4096 few) refl

-- no entry is beyond a limit
pub none_within : (cpus count : ℕ) → count ≤ 4096 → true ≡ fits_sched cpus count []
none_within cpus count few = sym (within_test cpus count [] tt (omega arith))

-- a test of more elements
all_more : (test : ℕ → Bool) (xs : List ℕ) (x : ℕ) → list_all test (xs ++ x ∷ []) ≡ (list_all test xs && test x)
all_more test [] x = and_true (test x)
  where
    and_true : (b : Bool) → (b && true) ≡ b
    and_true true = refl
    and_true false = refl
all_more test (y ∷ xs) x = ap (λ (b : Bool). test y && b) (all_more test xs x) ∙ sym (and_assoc (test y) (list_all test xs) (test x))
  where
    and_assoc : (a b c : Bool) → ((a && b) && c) ≡ (a && (b && c))
    and_assoc true b c = refl
    and_assoc false b c = refl

-- four tests, of which the second follows from the last
four_tests : (a b c d : Bool) → (d ≡ true → b ≡ true) → ((a && c) && d) ≡ ((a && b) && (c && d))
four_tests false b c d h = refl
four_tests true true c d h = refl
four_tests true false c true h = cc (h refl)
four_tests true false true false h = refl
four_tests true false false false h = refl

-- there is room for one more
room_test : (n : ℕ) → nat_le (n + 1) 4096 ≡ nat_lt n 4096
room_test n = grind (arith, nat_tests)

room_before : (n : ℕ) → nat_lt n 4096 ≡ true → nat_le n 4096 ≡ true
room_before n h = grind (arith, nat_tests)

-- one entry more is within the limits where those before are, it is below the bound, and there is room for it
pub within_more : (cpus count : ℕ) (entries : List ℕ) (n : ℕ) → fits_sched cpus count (entries ++ n ∷ []) ≡ (fits_sched cpus count entries && (nat_lt n cpus && nat_lt (count + length entries) 4096))
within_more cpus count entries n =
    let long : count + length (entries ++ n ∷ []) ≡ count + length entries + 1 = rw length-append (omega arith) in
    let room : nat_le (count + length (entries ++ n ∷ [])) 4096 ≡ nat_lt (count + length entries) 4096 = ap (λ (m : ℕ). nat_le m 4096) long ∙ room_test (count + length entries) in
    rw (all_more (λ entry. nat_lt entry cpus) entries n, room)
    (four_tests (list_all (λ entry. nat_lt entry cpus) entries) (nat_le (count + length entries) 4096) (nat_lt n cpus) (nat_lt (count + length entries) 4096) (room_before (count + length entries)))
