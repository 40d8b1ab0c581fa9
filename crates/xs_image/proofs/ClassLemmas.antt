-- What a task may use, by the class of its area.
use Rattle.std.proofs.Common.{◌≡◌, ℕ, ◌==◌, Bool, true, false, not, ◌&&◌, List, refl, sym, ap, ◌∙◌}
use Rattle.std.proofs.lemmas.Bool.{ne_eqb}
use Rattle.xs_base.specs.declared.class.Class.{Class}
use Rattle.xs_base.specs.declared.class.Class.TheVariants.{Small, Large}
use Rattle.xs_base.specs.declared.component.Row.{Row}
use Rattle.xs_base.specs.KernelArea.{class_features, is_of_class}
use Rattle.xs_base.specs.Layout.{IsLayout, has_row}
use Rattle.xs_base.specs.Sets.{has}
use Rattle.xs_base.proofs.ClassLemmas.{has_class}
use Rattle.xs_base.proofs.FeatureLemmas.{has_default}
use Rattle.xs_base.proofs.LayoutLemmas.{has_features}
use Rattle.xs_base.proofs.RowLemmas.{has_x87, has_sse}
use Rattle.xs_image.specs.User.{user_features}

-- x87 and SSE always
pub user_x87 : (rows : List Row) (class : Class) → IsLayout rows → has (user_features rows class) 0 ≡ true
user_x87 rows Small table = has_default rows 0 ∙ ap (λ b. b && true) (has_features rows table 0 ∙ has_x87 rows table)
user_x87 rows Large table = has_features rows table 0 ∙ has_x87 rows table

pub user_sse : (rows : List Row) (class : Class) → IsLayout rows → has (user_features rows class) 1 ≡ true
user_sse rows Small table = has_default rows 1 ∙ ap (λ b. b && true) (has_features rows table 1 ∙ has_sse rows table)
user_sse rows Large table = has_features rows table 1 ∙ has_sse rows table

-- what a task may use has a place in its area, PKRU aside
pub user_class : (rows : List Row) (class : Class) (c : ℕ) → IsLayout rows → (c ≡ 9 → ⊥) → has (user_features rows class) c ≡ true → has (class_features rows class) c ≡ true
user_class rows class c table other on = has_class rows class table c ∙ here class on
  where
    all : (a b : Bool) → b ≡ true → (a && b) ≡ a
    all true b h = h
    all false b h = refl

    none : not (c == 9) ≡ true
    none = ap not (ne_eqb c 9 other)

    here : (class : Class) → has (user_features rows class) c ≡ true → (has_row rows c && is_of_class class c) ≡ true
    here Small on = ap (λ b. has_row rows c && (b && not (c == 18))) none ∙ ap (λ b. b && not (c == 18)) (sym (has_features rows table c)) ∙ sym (has_default rows c) ∙ on
    here Large on = all (has_row rows c) (not (c == 9)) none ∙ sym (has_features rows table c) ∙ on
