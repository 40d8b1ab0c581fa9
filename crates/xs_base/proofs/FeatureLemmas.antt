-- The features of a machine, row after row.
use Rattle.std.proofs.Common.{◌≡◌, ◌≢◌, ℕ, ◌+◌, ◌*◌, ◌%◌, ◌^◌, ◌<◌, ◌≤◌, Bool, true, false, not, ◌&&◌, ◌||◌, ◌==◌, List, length, get_or, drop, bit_or, refl, sym, ap, ◌∙◌, arith}
use Rattle.std.specs.List.{list_any}
use Rattle.std.proofs.lemmas.List.{at_drop_more, at_drop_all}
use Rattle.std.proofs.lemmas.Bool.{ne_eqb}
use Rattle.std.proofs.lemmas.Bool.Decides.{nat_tests}
use Rattle.xs_base.specs.declared.component.Row.{Row}
use Rattle.xs_base.specs.Sets.{has}
use Rattle.xs_base.specs.Component.{component_numbers}
use Rattle.xs_base.specs.Layout.{IsLayout, is_known, has_row, features, default_features}
use Rattle.xs_base.proofs.SetLemmas.{has_or, has_set_of, same_set}
use Rattle.xs_base.proofs.LayoutLemmas.{has_features}

-- The set has the components of the rows before place i.
pub record IsGathered (rows : List Row) (i set : ℕ) : Type 0 where
  pub each : (c : ℕ) → (has set c || has_row (drop i rows) c) ≡ has_row rows c

pub row_more : (rows : List Row) (i : ℕ) (r : Row) (c : ℕ) → i < length rows → r ≡ get_or rows i r → has_row (drop i rows) c ≡ ((r.comp.0 == c) || has_row (drop (i + 1) rows) c)
unfolding has_row
row_more rows i r c lt is =
    at_drop_more (λ (xs : List Row). list_any (λ (x : Row). x.comp.0 == c) xs) rows i r lt
    ∙ ap (λ (x : Row). (x.comp.0 == c) || list_any (λ (x : Row). x.comp.0 == c) (drop (i + 1) rows)) (sym is)

-- a row of another component is passed over
pub row_skip : (rows : List Row) (i : ℕ) (r : Row) (c : ℕ) → i < length rows → r ≡ get_or rows i r → r.comp.0 ≢ c → has_row (drop (i + 1) rows) c ≡ has_row (drop i rows) c
row_skip rows i r c lt is other = sym (row_more rows i r c lt is ∙ ap (λ b. b || has_row (drop (i + 1) rows) c) (ne_eqb r.comp.0 c other))

pub row_none : (rows : List Row) (i c : ℕ) → length rows ≤ i → has_row (drop i rows) c ≡ false
unfolding has_row
row_none rows i c le = at_drop_all (λ (xs : List Row). list_any (λ (x : Row). x.comp.0 == c) xs) rows i le

turned : (a d : Bool) (c k : ℕ) → ((a || (c == k)) || d) ≡ (a || ((k == c) || d))
turned a d c k = grind (arith, nat_tests)

pub gathered_more : (rows : List Row) (i set : ℕ) (r : Row) → i < length rows → r ≡ get_or rows i r → r.comp.0 < 64 → IsGathered rows i set → IsGathered rows (i + 1) (bit_or set (1 * 2 ^ r.comp.0 % 2 ^ 64))
gathered_more rows i set r lt is small h = record {
  each = λ c.
      ap (λ b. b || has_row (drop (i + 1) rows) c) (has_or set r.comp.0 c small)
      ∙ turned (has set c) (has_row (drop (i + 1) rows) c) c r.comp.0
      ∙ ap (λ b. has set c || b) (sym (row_more rows i r c lt is))
      ∙ h.each c;
}

or_none : (b : Bool) → (b || false) ≡ b
or_none true = refl
or_none false = refl

pub gathered_all : (rows : List Row) (i set : ℕ) → length rows ≤ i → IsGathered rows i set → (c : ℕ) → has set c ≡ has_row rows c
gathered_all rows i set le h c = sym (or_none (has set c)) ∙ sym (ap (λ b. has set c || b) (row_none rows i c le)) ∙ h.each c

-- a set is known by its components
pub features_are : (rows : List Row) (set : ℕ) → IsLayout rows → ((c : ℕ) → has set c ≡ has_row rows c) → set ≡ features rows
features_are rows set h same = same_set set (features rows) (λ c. same c ∙ sym (has_features rows h c))

between : (a b k : Bool) → ((a && b) && k) ≡ ((a && k) && b)
between true true true = refl
between true true false = refl
between true false true = refl
between true false false = refl
between false b k = refl

-- the default features are the features without TILEDATA
pub has_default : (rows : List Row) (c : ℕ) → has (default_features rows) c ≡ (has (features rows) c && not (c == 18))
has_default rows c =
    has_set_of (λ k. has_row rows k && not (k == 18)) component_numbers refl c
    ∙ between (has_row rows c) (not (c == 18)) (is_known c)
    ∙ ap (λ b. b && not (c == 18)) (sym (has_set_of (has_row rows) component_numbers refl c))

pub default_features_are : (rows : List Row) (set : ℕ) → ((c : ℕ) → has set c ≡ (has (features rows) c && not (c == 18))) → set ≡ default_features rows
default_features_are rows set same = same_set set (default_features rows) (λ c. same c ∙ sym (has_default rows c))
