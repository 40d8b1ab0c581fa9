-- A list in two parts, and an element of one of them changed.
use Rattle.std.proofs.Common.{◌≡◌, ℕ, ◌-◌, ◌<◌, List, ◌++◌, length, sym, ap, ◌∙◌, arith, get_or, slice_set}
use Rattle.std.proofs.lemmas.List.{get_or_append_left, get_or-append_right, set-append_left, set-append_right}
use Rattle.std.proofs.lemmas.Option.{get_or_from_slice_get}
use Rattle.std.specs.Prelude.{Some, slice_get}

module _ {A : Type 0} (xs front back : List A) (n : ℕ) (is : xs ≡ front ++ back) (long : length front ≡ n) where
  -- an element of the front
  pub front_at : (i : ℕ) (x d : A) → i < n → slice_get xs i ≡ Some x → get_or front i d ≡ x
  front_at i x d within at =
      let inside : i < length front = omega arith in
      sym (get_or_append_left front back d i inside) ∙ ap (λ (l : List A). get_or l i d) (sym is) ∙ get_or_from_slice_get xs i x d at

  -- the first of the rest
  pub back_at : (x d : A) → slice_get xs n ≡ Some x → get_or back 0 d ≡ x
  back_at x d at =
      let zero : n - n ≡ 0 = omega arith in
      let first : get_or (front ++ back) n d ≡ get_or back (n - n) d = get_or-append_right front back n n d long (omega arith) in
      ap (λ (m : ℕ). get_or back m d) (sym zero) ∙ sym first ∙ ap (λ (l : List A). get_or l n d) (sym is) ∙ get_or_from_slice_get xs n x d at

  pub set_front : (i : ℕ) (y : A) → i < n → slice_set front i y ++ back ≡ slice_set xs i y
  set_front i y within =
      let inside : i < length front = omega arith in
      sym (ap (λ (l : List A). slice_set l i y) is ∙ set-append_left front back i y inside)

  pub set_back : (y : A) → front ++ slice_set back 0 y ≡ slice_set xs n y
  set_back y =
      let zero : n - n ≡ 0 = omega arith in
      let first : slice_set (front ++ back) n y ≡ front ++ slice_set back (n - n) y = set-append_right front back n n y long (omega arith) in
      ap (λ (m : ℕ). front ++ slice_set back m y) (sym zero) ∙ sym first ∙ ap (λ (l : List A). slice_set l n y) (sym is)
