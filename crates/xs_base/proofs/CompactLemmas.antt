-- Places in the compacted format.
use Rattle.std.proofs.Common.{◌≡◌, ◌≢◌, ◌⊎◌, inl, inr, ℕ, zero, suc, ◌+◌, ◌*◌, ◌/◌, ◌<◌, ◌≤◌, Bool, true, false, ◌&&◌, ◌||◌, ◌==◌, nat_le, List, [], ◌∷◌, length, get_or, drop, if◌then◌else◌, refl, sym, ap, subst, ◌∙◌, arith}
use Rattle.std.proofs.lemmas.Bool.{cases_order, eq-eqb, ne_eqb, eqb-true}
use Rattle.std.proofs.lemmas.Bool.Decides.{nat_tests}
use Rattle.std.specs.List.{list_any}
use Rattle.std.proofs.lemmas.List.{at_drop_more, at_drop_all}
use Rattle.xs_base.specs.declared.component.Row.{Row}
use Rattle.xs_base.specs.Sets.{has}
use Rattle.xs_base.specs.Component.{component_numbers, component_size, sizes}
use Rattle.xs_base.specs.Layout.{IsLayout, IsSound}
use Rattle.xs_base.specs.Compact.{aligned, is_extended, compact_after, compact_end, compact_from, compact_size, compact_offset}
use Rattle.xs_base.proofs.LayoutLemmas.{AreApart, AreRising, rising, rising_rest, sound_at}

-- ---- one row on, from row i

pub compact_end_more : (mask n : ℕ) (rows : List Row) (i : ℕ) (r : Row) → i < length rows → r ≡ get_or rows i r → compact_end mask n (drop i rows) ≡ compact_end mask (compact_after mask n r) (drop (i + 1) rows)
unfolding compact_end
compact_end_more mask n rows i r lt is = at_drop_more (compact_end mask n) rows i r lt ∙ ap (λ (x : Row). compact_end mask n (x ∷ drop (i + 1) rows)) (sym is)

pub compact_end_all : (mask n : ℕ) (rows : List Row) (i : ℕ) → length rows ≤ i → compact_end mask n (drop i rows) ≡ n
unfolding compact_end
compact_end_all mask n rows i le = at_drop_all (compact_end mask n) rows i le

from_step : (mask c n : ℕ) (rows : List Row) (i : ℕ) (r : Row) → i < length rows → r ≡ get_or rows i r → compact_from mask c n (drop i rows) ≡ (if r.comp.0 == c then aligned r n else compact_from mask c (compact_after mask n r) (drop (i + 1) rows))
unfolding compact_from
from_step mask c n rows i r lt is = at_drop_more (compact_from mask c n) rows i r lt ∙ ap (λ (x : Row). compact_from mask c n (x ∷ drop (i + 1) rows)) (sym is)

pub compact_from_more : (mask c n : ℕ) (rows : List Row) (i : ℕ) (r : Row) → i < length rows → r ≡ get_or rows i r → r.comp.0 ≢ c → compact_from mask c n (drop i rows) ≡ compact_from mask c (compact_after mask n r) (drop (i + 1) rows)
compact_from_more mask c n rows i r lt is other =
    let step = from_step mask c n rows i r lt is in
    let no = ne_eqb r.comp.0 c other in
    step ∙ ap (λ b. if b then aligned r n else compact_from mask c (compact_after mask n r) (drop (i + 1) rows)) no

pub compact_from_here : (mask c n : ℕ) (rows : List Row) (i : ℕ) (r : Row) → i < length rows → r ≡ get_or rows i r → r.comp.0 ≡ c → compact_from mask c n (drop i rows) ≡ aligned r n
compact_from_here mask c n rows i r lt is same =
    from_step mask c n rows i r lt is ∙ ap (λ b. if b then aligned r n else compact_from mask c (compact_after mask n r) (drop (i + 1) rows)) (eq-eqb r.comp.0 c same)

pub compact_from_all : (mask c n : ℕ) (rows : List Row) (i : ℕ) → length rows ≤ i → compact_from mask c n (drop i rows) ≡ n
unfolding compact_from
compact_from_all mask c n rows i le = at_drop_all (compact_from mask c n) rows i le

-- ---- bounds

pub aligned_low : (r : Row) (n : ℕ) → n ≤ aligned r n
aligned_low r n = one (has r.flags 1)
  where
    one : (b : Bool) → n ≤ (if b then (n + 63) / 64 * 64 else n)
    one true = omega arith
    one false = omega arith

pub aligned_high : (r : Row) (n : ℕ) → aligned r n ≤ n + 63
aligned_high r n = one (has r.flags 1)
  where
    one : (b : Bool) → (if b then (n + 63) / 64 * 64 else n) ≤ n + 63
    one true = omega arith
    one false = omega arith

pub after_low : (mask n : ℕ) (r : Row) → n ≤ compact_after mask n r
after_low mask n r = one (is_extended mask r) (aligned_low r n)
  where
    one : (b : Bool) → n ≤ aligned r n → n ≤ (if b then aligned r n + r.size else n)
    one true low = omega arith
    one false low = omega arith

pub after_high : (mask n : ℕ) (r : Row) → compact_after mask n r ≤ n + 63 + r.size
after_high mask n r = one (is_extended mask r) (aligned_high r n)
  where
    one : (b : Bool) → aligned r n ≤ n + 63 → (if b then aligned r n + r.size else n) ≤ n + 63 + r.size
    one true high = omega arith
    one false high = omega arith

pub compact_end_low : (mask n : ℕ) (rows : List Row) → n ≤ compact_end mask n rows
unfolding compact_end
compact_end_low mask n [] = omega arith
compact_end_low mask n (r ∷ rows) = let rest = compact_end_low mask (compact_after mask n r) rows in let here = after_low mask n r in omega arith

pub compact_from_low : (mask c n : ℕ) (rows : List Row) → n ≤ compact_from mask c n rows
unfolding compact_from
compact_from_low mask c n [] = omega arith
compact_from_low mask c n (r ∷ rows) = one (r.comp.0 == c) (compact_from_low mask c (compact_after mask n r) rows) (after_low mask n r) (aligned_low r n)
  where
    one : (b : Bool) → compact_after mask n r ≤ compact_from mask c (compact_after mask n r) rows → n ≤ compact_after mask n r → n ≤ aligned r n → n ≤ (if b then aligned r n else compact_from mask c (compact_after mask n r) rows)
    one true rest after here = here
    one false rest after here = omega arith

-- ---- components of the mask, one behind the other

first_here : (mask n : ℕ) (r : Row) (rows : List Row) → compact_from mask r.comp.0 n (r ∷ rows) ≡ aligned r n
unfolding compact_from
first_here mask n r rows = ap (λ b. if b then aligned r n else compact_from mask r.comp.0 (compact_after mask n r) rows) (eq-eqb r.comp.0 r.comp.0 refl)

first_other : (mask c n : ℕ) (r : Row) (rows : List Row) → r.comp.0 < c → compact_from mask c n (r ∷ rows) ≡ compact_from mask c (compact_after mask n r) rows
unfolding compact_from
first_other mask c n r rows lt = ap (λ b. if b then aligned r n else compact_from mask c (compact_after mask n r) rows) (ne_eqb r.comp.0 c (λ e. omega arith))

end_none : (mask n : ℕ) → compact_end mask n [] ≡ n
unfolding compact_end
end_none mask n = refl

end_step : (mask n : ℕ) (r : Row) (rows : List Row) → compact_end mask n (r ∷ rows) ≡ compact_end mask (compact_after mask n r) rows
unfolding compact_end
end_step mask n r rows = refl

-- the place behind a component of the mask
pub after_extended : (mask n : ℕ) (r : Row) → is_extended mask r ≡ true → compact_after mask n r ≡ aligned r n + r.size
after_extended mask n r on = ap (λ b. if b then aligned r n + r.size else n) on

-- a component of the mask ends by the end of them all
pub compact_fits : (mask n : ℕ) (rows : List Row) → AreRising rows → (i : ℕ) (r : Row) → i < length rows → r ≡ get_or rows i r → is_extended mask r ≡ true → compact_from mask r.comp.0 n rows + r.size ≤ compact_end mask n rows
compact_fits mask n [] h i r lt is on = absurd (omega arith)
compact_fits mask n (r0 ∷ rows) h zero r lt is on =
    let P : Row → Type 0 = λ x. is_extended mask x ≡ true → compact_from mask x.comp.0 n (r0 ∷ rows) + x.size ≤ compact_end mask n (r0 ∷ rows) in
    subst P (sym is) (λ here.
    let here_is = first_here mask n r0 rows in
    let step = end_step mask n r0 rows in
    let after = after_extended mask n r0 here in
    let low = compact_end_low mask (compact_after mask n r0) rows in
    omega arith) on
compact_fits mask n (r0 ∷ rows) h (suc i) r lt is on =
    let rise = h.each 0 (suc i) r0 r (omega arith) lt refl is in
    let skip = first_other mask r.comp.0 n r0 rows rise in
    let step = end_step mask n r0 rows in
    let rest = compact_fits mask (compact_after mask n r0) rows (rising_rest r0 rows h) i r (omega arith) is on in
    omega arith

-- a component of the mask ends by the place of each later one
pub compact_order : (mask n : ℕ) (rows : List Row) → AreRising rows → (i j : ℕ) (r s : Row) → i < j → j < length rows → r ≡ get_or rows i r → s ≡ get_or rows j s → is_extended mask r ≡ true → compact_from mask r.comp.0 n rows + r.size ≤ compact_from mask s.comp.0 n rows
compact_order mask n [] h i j r s lt within is it on = absurd (omega arith)
compact_order mask n (r0 ∷ rows) h i zero r s lt within is it on = absurd (omega arith)
compact_order mask n (r0 ∷ rows) h zero (suc j) r s lt within is it on =
    let rise = h.each 0 (suc j) r0 s (omega arith) within refl it in
    let skip = first_other mask s.comp.0 n r0 rows rise in
    let low = compact_from_low mask s.comp.0 (compact_after mask n r0) rows in
    let P : Row → Type 0 = λ x. is_extended mask x ≡ true → compact_from mask x.comp.0 n (r0 ∷ rows) + x.size ≤ compact_from mask s.comp.0 n (r0 ∷ rows) in
    subst P (sym is) (λ here.
    let here_is = first_here mask n r0 rows in
    let after = after_extended mask n r0 here in
    omega arith) on
compact_order mask n (r0 ∷ rows) h (suc i) (suc j) r s lt within is it on =
    let first = first_other mask r.comp.0 n r0 rows (h.each 0 (suc i) r0 r (omega arith) (omega arith) refl is) in
    let second = first_other mask s.comp.0 n r0 rows (h.each 0 (suc j) r0 s (omega arith) within refl it) in
    let rest = compact_order mask (compact_after mask n r0) rows (rising_rest r0 rows h) i j r s (omega arith) (omega arith) is it on in
    omega arith

-- ---- a machine's table

-- no place is before the end of the header
pub compact_offset_low : (rows : List Row) (mask c : ℕ) → 576 ≤ compact_offset rows mask c
compact_offset_low rows mask c = compact_from_low mask c 576 rows

-- no size is below it
pub compact_size_low : (rows : List Row) (mask : ℕ) → 576 ≤ compact_size rows mask
compact_size_low rows mask = compact_end_low mask 576 rows

-- each component of the mask ends by the size
pub compact_size_covers : (rows : List Row) → IsLayout rows → (mask i : ℕ) (r : Row) → i < length rows → r ≡ get_or rows i r → is_extended mask r ≡ true → compact_offset rows mask r.comp.0 + r.size ≤ compact_size rows mask
compact_size_covers rows h mask = compact_fits mask 576 rows (rising rows h)

-- components of the mask are apart
pub compact_apart : (rows : List Row) → IsLayout rows → (mask i j : ℕ) (r s : Row) → i < length rows → j < length rows → r ≡ get_or rows i r → s ≡ get_or rows j s → is_extended mask r ≡ true → is_extended mask s ≡ true → i ≢ j → AreApart (compact_offset rows mask r.comp.0) r.size (compact_offset rows mask s.comp.0) s.size
compact_apart rows h mask i j r s lt within is it on and_on other = here (cases_order i j)
  where
    here : (i ≡ j) ⊎ ((i < j) ⊎ (j < i)) → AreApart (compact_offset rows mask r.comp.0) r.size (compact_offset rows mask s.comp.0) s.size
    here (inl e) = absurd (other e)
    here (inr (inl less)) = inl (compact_order mask 576 rows (rising rows h) i j r s less within is it on)
    here (inr (inr more)) = inr (compact_order mask 576 rows (rising rows h) j i s r more lt it is and_on)

-- sets that name the same rows place them alike, and make one size
pub compact_end_same : (mask other n : ℕ) (rows : List Row) → ((i : ℕ) (r : Row) → i < length rows → r ≡ get_or rows i r → has mask r.comp.0 ≡ has other r.comp.0) → compact_end mask n rows ≡ compact_end other n rows
compact_end_same mask other n [] each = end_none mask n ∙ sym (end_none other n)
compact_end_same mask other n (r ∷ rows) each =
    let same : compact_after mask n r ≡ compact_after other n r = ap (λ b. if nat_le 2 r.comp.0 && b then aligned r n + r.size else n) (each 0 r (omega arith) refl) in
    let rest = compact_end_same mask other (compact_after mask n r) rows (λ i s lt is. each (suc i) s (omega arith) is) in
    ((end_step mask n r rows ∙ rest) ∙ ap (λ k. compact_end other k rows) same) ∙ sym (end_step other n r rows)

-- ---- row after row

-- The components before place i end at `end`, which few rows can't make large.
pub record IsAlong (i end : ℕ) : Type 0 where
  pub low : 576 ≤ end
  pub few : end ≤ 576 + 16447 * i

pub along_none : IsAlong 0 576
along_none = record { low = omega arith; few = omega arith }

pub along_more : (mask i end : ℕ) (r : Row) → IsSound r → IsAlong i end → IsAlong (i + 1) (compact_after mask end r)
along_more mask i end r s h =
    let low = after_low mask end r in
    let high = after_high mask end r in
    let first = h.low in
    let few = h.few in
    let size : r.size ≤ 16384 = omega (arith, s.ends) in
    record { low = omega arith; few = omega arith }

-- The components of the mask before place i end at `end`.
pub record IsEnded (mask : ℕ) (rows : List Row) (i end : ℕ) : Type 0 where
  pub rest : compact_end mask 576 rows ≡ compact_end mask end (drop i rows)
  pub along : IsAlong i end

pub ended_more : (mask : ℕ) (rows : List Row) (i end : ℕ) (r : Row) → i < length rows → r ≡ get_or rows i r → IsSound r → IsEnded mask rows i end → IsEnded mask rows (i + 1) (compact_after mask end r)
ended_more mask rows i end r lt is s h = record { rest = h.rest ∙ compact_end_more mask end rows i r lt is; along = along_more mask i end r s h.along }

pub ended_all : (mask : ℕ) (rows : List Row) (i end : ℕ) → length rows ≤ i → IsEnded mask rows i end → end ≡ compact_size rows mask
ended_all mask rows i end le h = sym (h.rest ∙ compact_end_all mask end rows i le)

-- Component c isn't before place i, and those of the mask there end at `end`.
pub record IsSought (mask c : ℕ) (rows : List Row) (i end : ℕ) : Type 0 where
  pub rest : compact_from mask c 576 rows ≡ compact_from mask c end (drop i rows)
  pub along : IsAlong i end

pub sought_more : (mask c : ℕ) (rows : List Row) (i end : ℕ) (r : Row) → i < length rows → r ≡ get_or rows i r → IsSound r → r.comp.0 ≢ c → IsSought mask c rows i end → IsSought mask c rows (i + 1) (compact_after mask end r)
sought_more mask c rows i end r lt is s other h = record { rest = h.rest ∙ compact_from_more mask c end rows i r lt is other; along = along_more mask i end r s h.along }

pub sought_here : (mask c : ℕ) (rows : List Row) (i end : ℕ) (r : Row) → i < length rows → r ≡ get_or rows i r → r.comp.0 ≡ c → IsSought mask c rows i end → aligned r end ≡ compact_offset rows mask c
sought_here mask c rows i end r lt is same h = sym (h.rest ∙ compact_from_here mask c end rows i r lt is same)

pub sought_all : (mask c : ℕ) (rows : List Row) (i end : ℕ) → length rows ≤ i → IsSought mask c rows i end → end ≡ compact_offset rows mask c
sought_all mask c rows i end le h = sym (h.rest ∙ compact_from_all mask c end rows i le)

-- ---- no size is above 16384

-- what the components of the list from number k on can add to an end, each aligned
unfoldable left_from : ℕ → List ℕ → ℕ
left_from k [] = 0
left_from k (c ∷ cs) = (if nat_le k c then 63 + component_size c else 0) + left_from k cs

left_grows : (k m : ℕ) (cs : List ℕ) → k ≤ m → left_from m cs ≤ left_from k cs
unfolding left_from
left_grows k m [] le = omega arith
left_grows k m (c ∷ cs) le = one (nat_le m c) refl (nat_le k c) refl (left_grows k m cs le)
  where
    one : (a : Bool) → nat_le m c ≡ a → (b : Bool) → nat_le k c ≡ b → left_from m cs ≤ left_from k cs → (if a then 63 + component_size c else 0) + left_from m cs ≤ (if b then 63 + component_size c else 0) + left_from k cs
    one true is true it rest = omega arith
    one true is false it rest = absurd (grind (arith, nat_tests))
    one false is true it rest = omega arith
    one false is false it rest = omega arith

-- a component of the list takes its own
left_falls : (k n : ℕ) (cs : List ℕ) → k ≤ n → list_any (λ c. c == n) cs ≡ true → left_from (suc n) cs + (63 + component_size n) ≤ left_from k cs
unfolding left_from
left_falls k n [] le h = cc
left_falls k n (c ∷ cs) le h = one (c == n) refl (nat_le (suc n) c) refl (nat_le k c) refl h (left_grows k (suc n) cs (omega arith)) (left_falls k n cs le)
  where
    one : (e : Bool) → (c == n) ≡ e → (a : Bool) → nat_le (suc n) c ≡ a → (b : Bool) → nat_le k c ≡ b → (e || list_any (λ d. d == n) cs) ≡ true → left_from (suc n) cs ≤ left_from k cs → (list_any (λ d. d == n) cs ≡ true → left_from (suc n) cs + (63 + component_size n) ≤ left_from k cs) → (if a then 63 + component_size c else 0) + left_from (suc n) cs + (63 + component_size n) ≤ (if b then 63 + component_size c else 0) + left_from k cs
    one true at true is b it any grows falls = absurd (grind (arith, nat_tests))
    one true at false is true it any grows falls = let same : component_size c ≡ component_size n = ap component_size (eqb-true c n at) in omega arith
    one true at false is false it any grows falls = absurd (grind (arith, nat_tests))
    one false at true is true it any grows falls = let rest = falls any in omega arith
    one false at true is false it any grows falls = absurd (grind (arith, nat_tests))
    one false at false is true it any grows falls = let rest = falls any in omega arith
    one false at false is false it any grows falls = let rest = falls any in omega arith

left_most : left_from 0 component_numbers ≤ 15808
unfolding left_from component_size sizes
left_most = omega arith

-- rows from number k on end within what they can add
compact_end_most : (mask n k : ℕ) (rows : List Row) → AreRising rows → ((i : ℕ) (r : Row) → i < length rows → r ≡ get_or rows i r → IsSound r × (k ≤ r.comp.0)) → compact_end mask n rows ≤ n + left_from k component_numbers
compact_end_most mask n k [] h each = let none = end_none mask n in omega arith
compact_end_most mask n k (r ∷ rows) h each =
    let first = each 0 r (omega arith) refl in
    let size = first.0.size in
    let step = end_step mask n r rows in
    let high = after_high mask n r in
    let falls = left_falls k r.comp.0 component_numbers first.1 first.0.known in
    let rest = compact_end_most mask (compact_after mask n r) (suc r.comp.0) rows (rising_rest r rows h) (λ i s lt is. ((each (suc i) s (omega arith) is).0, h.each 0 (suc i) r s (omega arith) (omega arith) refl is)) in
    omega arith

pub compact_size_most : (rows : List Row) → IsLayout rows → (mask : ℕ) → compact_size rows mask ≤ 16384
compact_size_most rows table mask =
    let most = compact_end_most mask 576 0 rows (rising rows table) (λ i r lt is. (sound_at rows table i r lt is, omega arith)) in
    let all = left_most in
    omega arith
