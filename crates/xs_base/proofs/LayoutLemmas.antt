-- What the tests of a machine's table tell of its rows.
use Rattle.std.proofs.Common.{◌≡◌, ◌⊎◌, inl, inr, ℕ, zero, suc, ◌+◌, ◌<◌, ◌≤◌, Bool, true, false, ◌&&◌, ◌||◌, ◌==◌, nat_le, nat_lt, List, [], ◌∷◌, ◌++◌, length, take, get_or, append_assoc, Option, Some, None, if◌then◌else◌, refl, sym, ap, subst, ◌∙◌, arith}
use Rattle.std.proofs.lemmas.Bool.{cases_order, cases_Bool, false≢true, eq-eqb, eqb-true}
use Rattle.std.proofs.lemmas.List.{append-nil, get_or-take, get_or_default, length-take}
use Rattle.std.proofs.lemmas.Bool.Decides.{nat_tests}
use Rattle.std.proofs.lemmas.List.Folds.{list_any_at}
use Rattle.std.specs.List.{list_any}
use Rattle.xs_base.proofs.SetLemmas.{has_set_of}
use Rattle.xs_base.specs.declared.component.Row.{Row}
use Rattle.xs_base.specs.declared.layout_error.LayoutError.{LayoutError}
use Rattle.xs_base.specs.declared.layout_error.LayoutError.TheVariants as errors
use Rattle.xs_base.specs.declared.layout_error.LayoutFault.{LayoutFault}
use Rattle.xs_base.specs.Sets.{has}
use Rattle.xs_base.specs.Component.{component_numbers, component_count, component_size, sizes}
use Rattle.xs_base.specs.Layout.{is_known, is_unknown, is_repeated, has_wrong_size, has_wrong_flags, is_too_large, overlaps, row_error, first_row_fault, fault_or, fault_else, layout_fault, table_error, IsLayout, IsSound, IsRowOf, most_rows, amx_rows, avx_rows, has_row, row_end, features}

-- two runs of bytes have no byte in common
abbrev pub AreApart : ℕ → ℕ → ℕ → ℕ → Type 0
AreApart at m at' m' = (at + m ≤ at') ⊎ (at' + m' ≤ at)

-- the rows of `amx` are a machine's table
pub amx_is_layout : IsLayout amx_rows
unfolding layout_fault first_row_fault row_error table_error has_row amx_rows component_size sizes
amx_is_layout = refl

-- the rows of `avx` are a machine's table
pub avx_is_layout : IsLayout avx_rows
unfolding layout_fault first_row_fault row_error table_error has_row avx_rows component_size sizes
avx_is_layout = refl

-- of a list of tests none holds: not the first, and none of the others
pub else_none : {A : Type 0} → (b : Bool) (x : A) (rest : Option A) → (if b then Some x else rest) ≡ None → (b ≡ false) × (rest ≡ None)
else_none true x rest h = cc
else_none false x rest h = (refl, h)

-- what the tests of a row that passes answer
pub record Passes (before : List Row) (r : Row) : Type 0 where
  pub unknown : is_unknown r ≡ false
  pub repeated : is_repeated before r ≡ false
  pub zero : (r.size == 0) ≡ false
  pub size : has_wrong_size r ≡ false
  pub flags : has_wrong_flags r ≡ false
  pub large : is_too_large r ≡ false
  pub overlap : overlaps before r ≡ false

pub passes : (before : List Row) (r : Row) → row_error before r ≡ None → Passes before r
unfolding row_error
passes before r h =
    let a = else_none (is_unknown r) errors.UnknownComponent _ h in
    let b = else_none (is_repeated before r) errors.Repeated _ a.1 in
    let c = else_none (r.size == 0) errors.SizeZero _ b.1 in
    let d = else_none (has_wrong_size r) errors.SizeWrong _ c.1 in
    let e = else_none (has_wrong_flags r) errors.FlagsWrong _ d.1 in
    let f = else_none (is_too_large r) errors.TooLarge _ e.1 in
    let g = else_none (overlaps before r) errors.Overlap None f.1 in
    record { unknown = a.0; repeated = b.0; zero = c.0; size = d.0; flags = e.0; large = f.0; overlap = g.0 }

known_below : (n : ℕ) → is_known n ≡ true → n < component_count
known_below n h = grind (arith, nat_tests)

size_tells : (r : Row) → has_wrong_size r ≡ false → (r.size ≡ component_size r.comp.0) × (r.comp.0 ≡ 0 → r.offset ≡ 0) × (r.comp.0 ≡ 1 → r.offset ≡ 160)
size_tells r h = (grind (arith, nat_tests), λ e. grind (arith, nat_tests), λ e. grind (arith, nat_tests))

flags_tell : (r : Row) → has_wrong_flags r ≡ false → r.flags ≤ 7
flags_tell r h = grind (arith, nat_tests)

overlap_tells : (before : List Row) (r : Row) → overlaps before r ≡ false → 2 ≤ r.comp.0 → 576 ≤ r.offset
overlap_tells before r h two = here (list_any (λ (b : Row). nat_lt r.offset (row_end b)) before) h
  where
    here : (any : Bool) → (nat_le 2 r.comp.0 && (nat_lt r.offset 576 || any)) ≡ false → 576 ≤ r.offset
    here true h = grind (arith, nat_tests)
    here false h = grind (arith, nat_tests)

sizes_legacy : (component_size 0 ≡ 160) × (component_size 1 ≡ 256)
unfolding component_size sizes
sizes_legacy = (refl, refl)

-- a row that passes every test is sound, whatever stands before it
pub passes_sound : (before : List Row) (r : Row) → Passes before r → IsSound r
passes_sound before r p =
    let s = size_tells r p.size in
    record {
      known = grind (arith, nat_tests);
      number = known_below r.comp.0 (grind (arith, nat_tests));
      size = s.0;
      some = grind (arith, nat_tests);
      flags = flags_tell r p.flags;
      ends = grind (arith, nat_tests);
      x87 = λ e. (s.1 e, (s.0 ∙ ap component_size e) ∙ sizes_legacy.0);
      sse = λ e. (s.2 e, (s.0 ∙ ap component_size e) ∙ sizes_legacy.1);
      extended = overlap_tells before r p.overlap;
    }

-- a list of rows that has no fault: its first row has none, nor have the others
pub row_fault_none : (before : List Row) (r : Row) (rows : List Row) → first_row_fault before (r ∷ rows) ≡ None → (row_error before r ≡ None) × (first_row_fault (before ++ r ∷ []) rows ≡ None)
unfolding first_row_fault
row_fault_none before r rows h = fault_none (row_error before r) (Some (length before)) _ h
  where
    fault_none : (e : Option LayoutError) (at : Option ℕ) (later : Option LayoutFault) → fault_or at e later ≡ None → (e ≡ None) × (later ≡ None)
    fault_none None at later h = (refl, h)
    fault_none (Some e) at later h = cc

-- a machine's table has no fault in a row, and none as a whole
pub layout_parts : (rows : List Row) → IsLayout rows → (first_row_fault [] rows ≡ None) × (table_error rows ≡ None)
unfolding layout_fault
layout_parts rows h = parts (first_row_fault [] rows) (table_error rows) h
  where
    parts : (f : Option LayoutFault) (t : Option LayoutError) → fault_else f (fault_or None t None) ≡ None → (f ≡ None) × (t ≡ None)
    parts (Some f) t h = cc
    parts None None h = (refl, refl)
    parts None (Some t) h = cc

errors_from : (before rows : List Row) → first_row_fault before rows ≡ None → (i : ℕ) (r : Row) → i < length rows → r ≡ get_or rows i r → row_error (before ++ take i rows) r ≡ None
errors_from before [] h i r lt is = absurd (omega arith)
errors_from before (r0 ∷ rows) h zero r lt is = rw (append-nil before, is) (row_fault_none before r0 rows h).0
errors_from before (r0 ∷ rows) h (suc i) r lt is =
    rw append_assoc at (errors_from (before ++ r0 ∷ []) rows (row_fault_none before r0 rows h).1 i r (omega arith) is)

-- each row of a list without faults passes behind those before it
pub passes_in : (rows : List Row) → first_row_fault [] rows ≡ None → (i : ℕ) (r : Row) → i < length rows → r ≡ get_or rows i r → Passes (take i rows) r
passes_in rows h i r lt is = passes (take i rows) r (errors_from [] rows h i r lt is)

-- and is sound
pub sound_in : (rows : List Row) → first_row_fault [] rows ≡ None → (i : ℕ) (r : Row) → i < length rows → r ≡ get_or rows i r → IsSound r
sound_in rows h i r lt is = passes_sound (take i rows) r (passes_in rows h i r lt is)

-- each row of a machine's table is sound
pub sound_at : (rows : List Row) → IsLayout rows → (i : ℕ) (r : Row) → i < length rows → r ≡ get_or rows i r → IsSound r
sound_at rows h = sound_in rows (layout_parts rows h).0

-- ---- the numbers rise

-- no row before passes a test that none passes
pub none_before : (test : Row → Bool) (rows : List Row) (i j : ℕ) (r : Row) → i < j → j < length rows → r ≡ get_or rows i r → list_any test (take j rows) ≡ false → test r ≡ false
none_before test rows i j r less lt is none = elim (cases_Bool (test r)) [
  | inl on ↦
      let same : get_or (take j rows) i r ≡ r = get_or-take j rows i r less ∙ sym is in
      let long : i < length (take j rows) = omega (arith, length-take j rows) in
      absurd (false≢true (sym none ∙ list_any_at test (take j rows) i r long (ap test same ∙ on)))
  | inr off ↦ off
]

-- The numbers of the rows rise.
pub record AreRising (rows : List Row) : Type 0 where
  pub each : (i j : ℕ) (r s : Row) → i < j → j < length rows → r ≡ get_or rows i r → s ≡ get_or rows j s → r.comp.0 < s.comp.0

pub rising_rest : (r : Row) (rows : List Row) → AreRising (r ∷ rows) → AreRising rows
rising_rest r rows h = record { each = λ i j a b less lt is it. h.each (suc i) (suc j) a b (omega arith) (omega arith) is it }

pub rising_in : (rows : List Row) → first_row_fault [] rows ≡ None → AreRising rows
rising_in rows h = record {
  each = λ i j r s less lt is it.
      let low : nat_le s.comp.0 r.comp.0 ≡ false = none_before (λ (b : Row). nat_le s.comp.0 b.comp.0) rows i j r less lt is (passes_in rows h j s lt it).repeated in
      grind (arith, nat_tests);
}

pub rising : (rows : List Row) → IsLayout rows → AreRising rows
rising rows h = rising_in rows (layout_parts rows h).0

-- rows of one number are one row
pub same_index : (rows : List Row) → IsLayout rows → (i j : ℕ) (r s : Row) → i < length rows → j < length rows → r ≡ get_or rows i r → s ≡ get_or rows j s → r.comp.0 ≡ s.comp.0 → i ≡ j
same_index rows h i j r s lt within is it same = here (cases_order i j)
  where
    here : (i ≡ j) ⊎ ((i < j) ⊎ (j < i)) → i ≡ j
    here (inl e) = e
    here (inr (inl less)) = let rise = (rising rows h).each i j r s less within is it in absurd (omega arith)
    here (inr (inr more)) = let rise = (rising rows h).each j i s r more lt it is in absurd (omega arith)

-- a row is among the rows by its number
pub has_row_at : (rows : List Row) (i : ℕ) (r : Row) → i < length rows → r ≡ get_or rows i r → has_row rows r.comp.0 ≡ true
unfolding has_row
has_row_at rows i r lt is = list_any_at (λ (x : Row). x.comp.0 == r.comp.0) rows i r lt (eq-eqb (get_or rows i r).comp.0 r.comp.0 (ap (λ (x : Row). x.comp.0) (sym is)))

-- ---- how many rows there are

-- how many numbers of the list are below n
unfoldable below : ℕ → List ℕ → ℕ
below n [] = 0
below n (c ∷ cs) = (if nat_lt c n then 1 else 0) + below n cs

below_length : (n : ℕ) (cs : List ℕ) → below n cs ≤ length cs
unfolding below
below_length n [] = omega arith
below_length n (c ∷ cs) = one (nat_lt c n) (below_length n cs)
  where
    one : (b : Bool) → below n cs ≤ length cs → (if b then 1 else 0) + below n cs ≤ suc (length cs)
    one true rest = omega arith
    one false rest = omega arith

-- a greater number has at least as many below it
below_grows : (m n : ℕ) (cs : List ℕ) → m ≤ n → below m cs ≤ below n cs
unfolding below
below_grows m n [] le = omega arith
below_grows m n (c ∷ cs) le = one (nat_lt c m) refl (nat_lt c n) refl (below_grows m n cs le)
  where
    one : (a : Bool) → nat_lt c m ≡ a → (b : Bool) → nat_lt c n ≡ b → below m cs ≤ below n cs → (if a then 1 else 0) + below m cs ≤ (if b then 1 else 0) + below n cs
    one true is true it rest = omega arith
    one true is false it rest = absurd (grind (arith, nat_tests))
    one false is true it rest = omega arith
    one false is false it rest = omega arith

-- a greater number has one more below it, where the smaller one is of the list
below_rises : (m n : ℕ) (cs : List ℕ) → m < n → list_any (λ c. c == m) cs ≡ true → below m cs + 1 ≤ below n cs
unfolding below
below_rises m n [] lt h = cc
below_rises m n (c ∷ cs) lt h = one (c == m) refl (nat_lt c m) refl (nat_lt c n) refl h (below_grows m n cs (omega arith)) (below_rises m n cs lt)
  where
    one : (e : Bool) → (c == m) ≡ e → (a : Bool) → nat_lt c m ≡ a → (b : Bool) → nat_lt c n ≡ b → (e || list_any (λ k. k == m) cs) ≡ true → below m cs ≤ below n cs → (list_any (λ k. k == m) cs ≡ true → below m cs + 1 ≤ below n cs) → (if a then 1 else 0) + below m cs + 1 ≤ (if b then 1 else 0) + below n cs
    one true at true is true it any grows rises = absurd (grind (arith, nat_tests))
    one false at true is true it any grows rises = let r = rises any in omega arith
    one e at true is false it any grows rises = absurd (grind (arith, nat_tests))
    one true at false is true it any grows rises = omega arith
    one true at false is false it any grows rises = absurd (grind (arith, nat_tests))
    one false at false is true it any grows rises = let r = rises any in omega arith
    one false at false is false it any grows rises = let r = rises any in omega arith

-- each row has as many numbers below its own as rows before it
rank_in : (rows : List Row) → first_row_fault [] rows ≡ None → (i : ℕ) (r : Row) → i < length rows → r ≡ get_or rows i r → i ≤ below r.comp.0 component_numbers
rank_in rows h zero r lt is = omega arith
rank_in rows h (suc i) r lt is =
    let b : Row = get_or rows i r in
    let it : b ≡ get_or rows i b = get_or_default rows i r b (omega arith) in
    let less = (rising_in rows h).each i (suc i) b r (omega arith) lt it is in
    let rise = below_rises b.comp.0 r.comp.0 component_numbers less (sound_in rows h i b (omega arith) it).known in
    let rest = rank_in rows h i b (omega arith) it in
    omega arith

-- rows that pass are no more than the components
pub few_in : (rows : List Row) → first_row_fault [] rows ≡ None → length rows ≤ most_rows
few_in [] h = omega arith
few_in (r0 ∷ rows) h =
    let r : Row = get_or (r0 ∷ rows) (length rows) r0 in
    let is : r ≡ get_or (r0 ∷ rows) (length rows) r = get_or_default (r0 ∷ rows) (length rows) r0 r (omega arith) in
    let rank = rank_in (r0 ∷ rows) h (length rows) r (omega arith) is in
    let rise = below_rises r.comp.0 (suc r.comp.0) component_numbers (omega arith) (sound_in (r0 ∷ rows) h (length rows) r (omega arith) is).known in
    let most : below (suc r.comp.0) component_numbers ≤ most_rows = below_length (suc r.comp.0) component_numbers in
    omega arith

-- a machine's table has a row for each component at most
pub few_rows : (rows : List Row) → IsLayout rows → length rows ≤ most_rows
few_rows rows h = few_in rows (layout_parts rows h).0

-- ---- features

-- a component that the rows have has a row
pub row_found : (rows : List Row) (c : ℕ) → has_row rows c ≡ true → (r : Row) × IsRowOf rows c r
unfolding has_row
row_found [] c h = cc
row_found (r ∷ rows) c h = one (r.comp.0 == c) refl h (row_found rows c)
  where
    one : (b : Bool) → (r.comp.0 == c) ≡ b → (b || list_any (λ (x : Row). x.comp.0 == c) rows) ≡ true → (list_any (λ (x : Row). x.comp.0 == c) rows ≡ true → (x : Row) × IsRowOf rows c x) → (x : Row) × IsRowOf (r ∷ rows) c x
    one true is any rest = (r, record { index = 0; within = omega arith; is = refl; number = eqb-true r.comp.0 c is })
    one false is any rest =
        let found = rest any in
        let within : found.1.index < length rows = found.1.within in
        (found.0, record { index = suc found.1.index; within = omega arith; is = found.1.is; number = found.1.number })

-- what the rows have is a component
pub has_row_known : (rows : List Row) → IsLayout rows → (c : ℕ) → has_row rows c ≡ true → is_known c ≡ true
has_row_known rows h c on =
    let found = row_found rows c on in
    subst (λ (n : ℕ). is_known n ≡ true) found.1.number (sound_at rows h found.1.index found.0 found.1.within found.1.is).known

set_known : (b k : Bool) → (b ≡ true → k ≡ true) → (b && k) ≡ b
set_known true k h = h refl
set_known false k h = refl

-- the features are the components of the rows
pub has_features : (rows : List Row) → IsLayout rows → (c : ℕ) → has (features rows) c ≡ has_row rows c
has_features rows h c = has_set_of (has_row rows) component_numbers refl c ∙ set_known (has_row rows c) (is_known c) (has_row_known rows h c)
