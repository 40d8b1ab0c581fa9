-- Blocks before and after events, seen one by one: how many are such.
use Rattle.std.proofs.Common.{◌≡◌, ℕ, zero, suc, ◌+◌, ◌==◌, ◌<◌, ◌≤◌, Bool, true, false, not, ◌||◌, List, [], ◌∷◌, length, refl, sym, ap, ◌∙◌, subst, arith, inl, inr, ne_eqb}
use Rattle.std.proofs.lemmas.Bool.{cases_eq}
use Rattle.std.proofs.lemmas.Option.{same_Some}
use Rattle.std.specs.Prelude.{Option, Some, None, slice_get}
use Rattle.std.specs.List.{list_any, AllByRecursion}
use Rattle.xs_model.specs.declared.stage.Stage.{Stage}
use Rattle.xs_model.specs.declared.stage.Stage.TheVariants.{Unborn}
use Rattle.xs_model.specs.State.{BlockState, lives, stage_at, stage_of}
use Rattle.xs_board.specs.Board.{one, tally}

-- there is an element at each place
pub existing : {A : Type 0} (xs : List A) (t : ℕ) → t < length xs → (x : A) × (slice_get xs t ≡ Some x)
existing [] t in_range = absurd (omega arith)
existing (x ∷ xs) zero in_range = (x, refl)
existing (x ∷ xs) (suc t) in_range = existing xs t (omega arith)

-- what holds of all holds of each
pub each_of : {A : Type 0} (P : A → Type 0) (xs : List A) (t : ℕ) (x : A) → AllByRecursion P xs → slice_get xs t ≡ Some x → P x
each_of P [] t x all at = absurd (cc at)
each_of P (y ∷ xs) zero x all at = let same : y ≡ x = same_Some y x at in subst P same all.0
each_of P (y ∷ xs) (suc t) x all at = each_of P xs t x all.1 at

-- the block of a stage that isn't that of an unborn one
pub block_in : (blocks : List BlockState) (t : ℕ) (stage : Stage) → (stage ≡ Unborn → ⊥) → stage_at blocks t ≡ stage → (block : BlockState) × (slice_get blocks t ≡ Some block) × (block.stage ≡ stage)
block_in blocks t stage born is = found (slice_get blocks t) refl
  where
    found : (there : Option BlockState) → slice_get blocks t ≡ there → (block : BlockState) × (slice_get blocks t ≡ Some block) × (block.stage ≡ stage)
    found None at = absurd (born (sym is ∙ ap stage_of at))
    found (Some block) at = (block, at, sym (ap stage_of at) ∙ is)

-- A block is such before as after, whatever its number.
abbrev pub AreAlike : (ℕ → Stage → Bool) → List BlockState → List BlockState → ℕ → Type 0
AreAlike such xs ys u = (n : ℕ) → such n (stage_at ys u) ≡ such n (stage_at xs u)

-- as many are such where each is such before as after
pub tally_same : (such : ℕ → Stage → Bool) (i : ℕ) (xs ys : List BlockState) → length ys ≡ length xs → ((u : ℕ) → AreAlike such xs ys u) → tally such i ys ≡ tally such i xs
tally_same such i [] [] len same = refl
tally_same such i [] (y ∷ ys) len same = absurd (omega (arith, len))
tally_same such i (x ∷ xs) [] len same = absurd (omega (arith, len))
tally_same such i (x ∷ xs) (y ∷ ys) len same =
    let here : one (such i y.stage) ≡ one (such i x.stage) = ap one (same 0 i) in
    let rest = tally_same such (i + 1) xs ys (omega (arith, len)) (λ u. same (suc u)) in
    omega (arith, here, rest)

-- how many are such after one block changed
pub tally_point : (such : ℕ → Stage → Bool) (i t n : ℕ) (xs ys : List BlockState) (x y : BlockState) → length ys ≡ length xs → slice_get xs t ≡ Some x → slice_get ys t ≡ Some y → ((u : ℕ) → (u ≡ t → ⊥) → AreAlike such xs ys u) → n ≡ i + t → tally such i ys + one (such n x.stage) ≡ tally such i xs + one (such n y.stage)
tally_point such i t n [] ys x y len before now others sum = absurd (cc before)
tally_point such i t n (a ∷ xs) [] x y len before now others sum = absurd (cc now)
tally_point such i zero n (a ∷ xs) (b ∷ ys) x y len before now others sum =
    let was : a ≡ x = same_Some a x before in
    let is : b ≡ y = same_Some b y now in
    let number : n ≡ i = omega (arith, sum) in
    let first : one (such n x.stage) ≡ one (such i a.stage) = ap (λ (m : ℕ). one (such m x.stage)) number ∙ ap (λ (c : BlockState). one (such i c.stage)) (sym was) in
    let second : one (such n y.stage) ≡ one (such i b.stage) = ap (λ (m : ℕ). one (such m y.stage)) number ∙ ap (λ (c : BlockState). one (such i c.stage)) (sym is) in
    let more = tally_same such (i + 1) xs ys (omega (arith, len)) (λ u. others (suc u) (λ (e : suc u ≡ zero). absurd (cc e))) in
    omega (arith, first, second, more)
tally_point such i (suc t) n (a ∷ xs) (b ∷ ys) x y len before now others sum =
    let first : one (such i b.stage) ≡ one (such i a.stage) = ap one (others 0 (λ (e : zero ≡ suc t). absurd (cc e)) i) in
    let rest = tally_point such (i + 1) t n xs ys x y (omega (arith, len)) before now (λ u other. others (suc u) (λ (e : suc u ≡ suc t). other (omega (arith, e)))) (omega (arith, sum)) in
    omega (arith, first, rest)

-- a list with another element at a place
replaced : {A : Type 0} (xs : List A) (i : ℕ) (x y : A) → slice_get xs i ≡ Some x → (ys : List A) × (length ys ≡ length xs) × (slice_get ys i ≡ Some y) × ((u : ℕ) → (u ≡ i → ⊥) → slice_get ys u ≡ slice_get xs u)
replaced [] i x y at = absurd (cc at)
replaced (z ∷ xs) zero x y at = (y ∷ xs, refl, refl, others)
  where
    others : (u : ℕ) → (u ≡ zero → ⊥) → slice_get (y ∷ xs) u ≡ slice_get (z ∷ xs) u
    others zero apart = absurd (apart refl)
    others (suc u) apart = refl
replaced {A = A} (z ∷ xs) (suc i) x y at = let rest = replaced xs i x y at in (z ∷ rest.0, ap suc rest.1, rest.2, others rest.0 rest.3)
  where
    others : (ys : List A) → ((u : ℕ) → (u ≡ i → ⊥) → slice_get ys u ≡ slice_get xs u) → (u : ℕ) → (u ≡ suc i → ⊥) → slice_get (z ∷ ys) u ≡ slice_get (z ∷ xs) u
    others ys same zero apart = refl
    others ys same (suc u) apart = same u (λ (e : u ≡ i). apart (ap suc e))

-- how many are such after two blocks changed
pub tally_two : (such : ℕ → Stage → Bool) (t c : ℕ) (xs ys : List BlockState) (x now born new : BlockState) → length ys ≡ length xs → slice_get xs t ≡ Some x → slice_get ys t ≡ Some now → slice_get xs c ≡ Some born → slice_get ys c ≡ Some new → (t ≡ c → ⊥) → ((u : ℕ) → (u ≡ t → ⊥) → (u ≡ c → ⊥) → AreAlike such xs ys u) → tally such 0 ys + one (such t x.stage) + one (such c born.stage) ≡ tally such 0 xs + one (such t now.stage) + one (such c new.stage)
tally_two such t c xs ys x now born new len before after unborn is apart others =
    let mid = replaced xs c born new unborn in
    let first = tally_point such 0 c c xs mid.0 born new mid.1 unborn mid.2 (λ u other n. ap (λ (b : Option BlockState). such n (stage_of b)) (mid.3 u other)) (omega arith) in
    let second = tally_point such 0 t t mid.0 ys x now (omega (arith, len, mid.1)) (mid.3 t apart ∙ before) after
    (λ u other n. elim (cases_eq u c) [
      | inl same ↦ ap (λ (v : ℕ). such n (stage_at ys v)) same ∙ ap (λ (b : Option BlockState). such n (stage_of b)) is ∙ sym (ap (λ (v : ℕ). such n (stage_at mid.0 v)) same ∙ ap (λ (b : Option BlockState). such n (stage_of b)) mid.2)
      | inr far ↦ others u other far n ∙ sym (ap (λ (b : Option BlockState). such n (stage_of b)) (mid.3 u far))
    ]) (omega arith) in
    omega (arith, first, second)

-- at most one
at_most : (b : Bool) → one b ≤ 1
at_most true = omega arith
at_most false = omega arith

-- at most all are such
pub tally_most : (such : ℕ → Stage → Bool) (i : ℕ) (blocks : List BlockState) → tally such i blocks ≤ length blocks
tally_most such i [] = omega arith
tally_most such i (block ∷ blocks) = let rest = tally_most such (i + 1) blocks in let head = at_most (such i block.stage) in omega arith

-- some are such where one is
pub tally_some : (such : ℕ → Stage → Bool) (i t n : ℕ) (blocks : List BlockState) (block : BlockState) → slice_get blocks t ≡ Some block → n ≡ i + t → such n block.stage ≡ true → 0 < tally such i blocks
tally_some such i t n [] block at sum on = absurd (cc)
tally_some such i zero n (first ∷ blocks) block at sum on =
    let here : first ≡ block = cc in
    let number : i ≡ n = omega arith in
    let is : one (such i first.stage) ≡ 1 = rw (here, number, on) refl in
    omega arith
tally_some such i (suc t) n (first ∷ blocks) block at sum on =
    let rest = tally_some such (i + 1) t n blocks block at (omega arith) on in
    omega arith

-- none lives exactly where none is counted
pub none_counted : (blocks : List BlockState) (i : ℕ) → not (list_any (λ (block : BlockState). lives block.stage) blocks) ≡ (tally (λ t stage. lives stage) i blocks == 0)
none_counted [] i = refl
none_counted (block ∷ blocks) i = by_test (list_any (λ (block : BlockState). lives block.stage) blocks) (tally (λ t stage. lives stage) (i + 1) blocks) (none_counted blocks (i + 1)) (lives block.stage)
  where
    by_test : (any : Bool) (count : ℕ) → not any ≡ (count == 0) → (b : Bool) → not (b || any) ≡ ((one b + count) == 0)
    by_test any count rest true = sym (ne_eqb (1 + count) 0 (λ (e : 1 + count ≡ 0). omega arith))
    by_test any count rest false = rest ∙ ap (λ (n : ℕ). n == 0) (omega arith)
