-- What a task may use, with x87 and SSE always, and the bytes of the standard format with it.
use Rattle.std.proofs.Common.{◌≡◌, ℕ, ◌+◌, ◌<◌, ◌≤◌, ◌==◌, Bool, true, false, not, ◌&&◌, ◌||◌, List, length, get_or, if◌then◌else◌, refl, ap, ◌∙◌}
use Rattle.std.proofs.lemmas.Bool.{and_parts, false≢true}
use Rattle.xs_base.specs.declared.class.Class.{Class}
use Rattle.xs_base.specs.declared.class.Class.TheVariants.{Small, Large}
use Rattle.xs_base.specs.declared.component.Row.{Row}
use Rattle.xs_base.specs.Layout.{IsLayout, has_row, features, default_features, full_size, default_size}
use Rattle.xs_base.specs.Sets.{has}
use Rattle.xs_base.proofs.FeatureLemmas.{has_default}
use Rattle.xs_base.proofs.LayoutLemmas.{has_features}
use Rattle.xs_base.proofs.RowLemmas.{has_x87, has_sse}
use Rattle.xs_base.proofs.SizeLemmas.{end_covers, end_low, end_most}
use Rattle.xs_task.specs.TaskArea.{is_large}
use Rattle.xs_image.specs.User.{user_features, user_size}

-- by the class of an area
pub user_by : (rows : List Row) (class : Class) → user_features rows class ≡ (if is_large class then features rows else default_features rows)
user_by rows Small = refl
user_by rows Large = refl

pub size_by : (rows : List Row) (class : Class) → user_size rows class ≡ (if is_large class then full_size rows else default_size rows)
size_by rows Small = refl
size_by rows Large = refl

-- by their numbers
pub has_user : (rows : List Row) → IsLayout rows → (large : Bool) (c : ℕ) → has (if large then features rows else default_features rows) c ≡ (has_row rows c && (large || not (c == 18)))
has_user rows table true c = has_features rows table c ∙ all (has_row rows c)
  where
    all : (b : Bool) → b ≡ (b && true)
    all true = refl
    all false = refl
has_user rows table false c = has_default rows c ∙ ap (λ b. b && not (c == 18)) (has_features rows table c)

yes : (a b : Bool) → a ≡ true → (a && (b || true)) ≡ true
yes true true on = refl
yes true false on = refl
yes false b on = absurd (false≢true on)

pub user_x87 : (rows : List Row) (large : Bool) → IsLayout rows → has (if large then features rows else default_features rows) 0 ≡ true
user_x87 rows large table = has_user rows table large 0 ∙ yes (has_row rows 0) large (has_x87 rows table)

pub user_sse : (rows : List Row) (large : Bool) → IsLayout rows → has (if large then features rows else default_features rows) 1 ≡ true
user_sse rows large table = has_user rows table large 1 ∙ yes (has_row rows 1) large (has_sse rows table)

pub size_low : (rows : List Row) (large : Bool) → 576 ≤ (if large then full_size rows else default_size rows)
size_low rows true = end_low (λ _. true) rows
size_low rows false = end_low (λ c. not (c == 18)) rows

pub size_most : (rows : List Row) (large : Bool) → IsLayout rows → (if large then full_size rows else default_size rows) ≤ 16384
size_most rows true table = end_most (λ _. true) rows table
size_most rows false table = end_most (λ c. not (c == 18)) rows table

pub size_covers : (rows : List Row) (large : Bool) (i : ℕ) (r : Row) → i < length rows → r ≡ get_or rows i r → (has_row rows r.comp.0 && (large || not (r.comp.0 == 18))) ≡ true → r.offset + r.size ≤ (if large then full_size rows else default_size rows)
size_covers rows true i r lt is on = end_covers (λ _. true) rows i r lt is refl
size_covers rows false i r lt is on = end_covers (λ c. not (c == 18)) rows i r lt is ((and_parts (has_row rows r.comp.0) (not (r.comp.0 == 18)) on).1)
