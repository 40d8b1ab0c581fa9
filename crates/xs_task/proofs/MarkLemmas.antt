-- The marks of a saved area are those of the private task after a turn.
use Rattle.std.proofs.Common.{◌≡◌, ℕ, ◌+◌, ◌^◌, ◌==◌, Bool, true, false, not, ◌&&◌, ◌||◌, List, [], ◌∷◌, refl, sym, ap, ◌∙◌, if◌then◌else◌, Some}
use Rattle.xs_base.specs.declared.class.Class.{Class}
use Rattle.xs_base.specs.declared.class.Class.TheVariants.{Small, Large}
use Rattle.xs_base.specs.declared.component.Row.{Row}
use Rattle.xs_area.specs.declared.area.Lease.{Lease}
use Rattle.xs_base.specs.Component.{component_numbers}
use Rattle.xs_base.specs.File.{is_saved, pkru_of}
use Rattle.xs_base.specs.KernelArea.{is_of_class}
use Rattle.xs_base.specs.Layout.{IsLayout, has_row, set_of, features, default_features}
use Rattle.xs_base.specs.Sets.{has}
use Rattle.xs_base.specs.Task.{PrivateTask, is_marked, marks_after, user_features}
use Rattle.xs_task.specs.Marks.{is_marked_in, has_mark, marks_of, IsSavedIn}
use Rattle.xs_task.specs.TaskArea.{is_large}
use Rattle.xs_base.proofs.ClassLemmas.{has_class}
use Rattle.xs_base.proofs.FeatureLemmas.{has_default}
use Rattle.xs_base.proofs.LayoutLemmas.{has_features}

-- ---- sets

-- one test of each component, one set
set_of_same : (f h : ℕ → Bool) (cs : List ℕ) → ((c : ℕ) → f c ≡ h c) → set_of f cs ≡ set_of h cs
unfolding set_of
set_of_same f h [] same = refl
set_of_same f h (c ∷ cs) same = ap (λ b. (if b then 2 ^ c else 0) + set_of f cs) (same c) ∙ ap (λ n. (if h c then 2 ^ c else 0) + n) (set_of_same f h cs same)

-- the user features by number
pub has_user : (rows : List Row) → IsLayout rows → (large : Bool) (c : ℕ) → has (if large then features rows else default_features rows) c ≡ (has_row rows c && (large || not (c == 18)))
has_user rows table true c = has_features rows table c ∙ all (has_row rows c)
  where
    all : (b : Bool) → b ≡ (b && true)
    all true = refl
    all false = refl
has_user rows table false c = has_default rows c ∙ ap (λ b. b && not (c == 18)) (has_features rows table c)

-- they are those of the area's class, PKRU aside
user_class : (class : Class) (c : ℕ) (a s : Bool) → (c == 9) ≡ false → (s && (a && (is_large class || not (c == 18)))) ≡ ((a && is_of_class class c) && s)
user_class Small c a s none = rw none (small_class a s (c == 18))
  where
    small_class : (a s t : Bool) → (s && (a && (false || not t))) ≡ ((a && (not false && not t)) && s)
    small_class true true true = refl
    small_class true true false = refl
    small_class true false true = refl
    small_class true false false = refl
    small_class false true t = refl
    small_class false false t = refl
user_class Large c a s none = rw none (large_class a s (c == 18))
  where
    large_class : (a s t : Bool) → (s && (a && (true || not t))) ≡ ((a && not false) && s)
    large_class true true t = refl
    large_class true false t = refl
    large_class false true t = refl
    large_class false false t = refl

pick : (b x y v w : Bool) → x ≡ v → (b ≡ false → y ≡ w) → (if b then x else y) ≡ (if b then v else w)
pick true x y v w on off = on
pick false x y v w on off = off refl

-- ---- the marks

module _ (rows : List Row) (lease : Lease) (private : PrivateTask) (table : IsLayout rows) (rows_are : private.file.rows ≡ rows) (large : private.large ≡ is_large lease.class) (saved : IsSavedIn rows lease private.file) where
  user_is : (c : ℕ) → has (user_features private) c ≡ (has_row rows c && (is_large lease.class || not (c == 18)))
  user_is c = ap (λ (rs : List Row). has (if private.large then features rs else default_features rs) c) rows_are ∙ has_user rows table private.large c ∙ ap (λ (l : Bool). has_row rows c && (l || not (c == 18))) large

  one_mark : (c : ℕ) → is_marked private c ≡ has_mark lease.area.bytes.items (pkru_of private.file) c
  one_mark c = pick (c == 9) (not (pkru_of private.file == 0)) (is_saved private.file c && has (user_features private) c) (not (pkru_of private.file == 0)) (is_marked_in lease.area.bytes.items c) refl
      (λ other. ap (λ b. is_saved private.file c && b) (user_is c) ∙ user_class lease.class c (has_row rows c) (is_saved private.file c) other ∙ ap (λ b. b && is_saved private.file c) (sym (has_class rows lease.class table c)) ∙ sym (saved.marks c))

  pub marks_kept : marks_after private ≡ marks_of (Some lease) (pkru_of private.file)
  unfolding marks_after
  marks_kept = set_of_same (is_marked private) (has_mark lease.area.bytes.items (pkru_of private.file)) component_numbers one_mark
