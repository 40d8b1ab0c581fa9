-- The components of a class of areas.
use Rattle.std.proofs.Common.{◌≡◌, ℕ, Bool, true, false, ◌&&◌, List, refl, sym, ap, ◌∙◌}
use Rattle.xs_base.specs.declared.class.Class.{Class}
use Rattle.xs_base.specs.declared.class.Class.TheVariants.{Small, Large}
use Rattle.xs_base.specs.declared.component.Row.{Row}
use Rattle.xs_base.specs.Component.{component_numbers}
use Rattle.xs_base.specs.KernelArea.{is_of_class, class_features}
use Rattle.xs_base.specs.Layout.{IsLayout, has_row, is_known}
use Rattle.xs_base.specs.Sets.{has}
use Rattle.xs_base.proofs.LayoutLemmas.{has_row_known}
use Rattle.xs_base.proofs.RowLemmas.{has_sse}
use Rattle.xs_base.proofs.SetLemmas.{has_set_of, same_set}

known : (a b k : Bool) → (a ≡ true → k ≡ true) → (a && b) ≡ ((a && b) && k)
known true true k h = sym (h refl)
known true false k h = refl
known false b k h = refl

-- by their numbers
pub has_class : (rows : List Row) (class : Class) → IsLayout rows → (c : ℕ) → has (class_features rows class) c ≡ (has_row rows c && is_of_class class c)
has_class rows class table c =
    has_set_of (λ d. has_row rows d && is_of_class class d) component_numbers refl c
    ∙ sym (known (has_row rows c) (is_of_class class c) (is_known c) (has_row_known rows table c))

-- and as the only set of those
pub class_features_are : (rows : List Row) (class : Class) (set : ℕ) → IsLayout rows → ((c : ℕ) → has set c ≡ (has_row rows c && is_of_class class c)) → set ≡ class_features rows class
class_features_are rows class set table are = same_set set (class_features rows class) (λ c. are c ∙ sym (has_class rows class table c))

-- every class has SSE
pub class_sse : (rows : List Row) (class : Class) (mask : ℕ) → IsLayout rows → mask ≡ class_features rows class → has mask 1 ≡ true
class_sse rows class mask table is = ap (λ m. has m 1) is ∙ has_class rows class table 1 ∙ ap (λ b. b && is_of_class class 1) (has_sse rows table) ∙ here class
  where
    here : (class : Class) → is_of_class class 1 ≡ true
    here Small = refl
    here Large = refl
