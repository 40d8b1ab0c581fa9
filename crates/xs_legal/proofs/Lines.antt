-- The line at a task's place.
use Rattle.std.proofs.Common.{◌≡◌, ℕ, zero, suc, ◌+◌, ◌<◌, ◌^◌, Bool, true, false, List, [], ◌∷◌, ◌++◌, map, Some, slice_get, if◌then◌else◌, subst, arith}
use Rattle.std.specs.List.{AllByRecursion}
use Rattle.xs_base.specs.Task.{PrivateTask}
use Rattle.xs_model.specs.declared.script.Block.{Block}
use Rattle.xs_model.specs.declared.script.Order.{Order}
use Rattle.xs_model.specs.declared.script.Script.{Script}
use Rattle.xs_model.specs.Line.{line_at}
use Rattle.xs_model.specs.Script.{AreRising, order_numbers, IsBody, IsCommand, IsValid}

-- what holds of all holds of each
pub each_of : {A : Type 0} (P : A → Type 0) (xs : List A) (i : ℕ) (x : A) → AllByRecursion P xs → slice_get xs i ≡ Some x → P x
each_of P [] i x all at = absurd (cc at)
each_of P (y ∷ xs) zero x all at = let same : y ≡ x = cc in subst P same all.0
each_of P (y ∷ xs) (suc i) x all at = each_of P xs i x all.1 at

-- ---- numbers of lines

abbrev numbers : List Order → List ℕ
numbers orders = map (λ (order : Order). order.number) orders

rising_first : (last : ℕ) (xs ys : List ℕ) → AreRising last (xs ++ ys) → AreRising last xs
rising_first last [] ys rising = tt
rising_first last (x ∷ xs) ys rising = (rising.0, rising_first x xs ys rising.1)

rising_second : (last : ℕ) (xs ys : List ℕ) → AreRising last (xs ++ ys) → (l : ℕ) × AreRising l ys
rising_second last [] ys rising = (last, rising)
rising_second last (x ∷ xs) ys rising = rising_second x xs ys rising.1

block_rising : (last : ℕ) (blocks : List Block) (t : ℕ) (lines : Block) → AreRising last (order_numbers blocks) → slice_get blocks t ≡ Some lines → (l : ℕ) × AreRising l (numbers (lines.body ++ lines.handler))
block_rising last [] t lines rising at = absurd (cc at)
block_rising last (first ∷ blocks) zero lines rising at =
    let same : first ≡ lines = cc in
    subst (λ (b : Block). (l : ℕ) × AreRising l (numbers (b.body ++ b.handler))) same (last, rising_first last (numbers (first.body ++ first.handler)) (order_numbers blocks) rising)
block_rising last (first ∷ blocks) (suc t) lines rising at =
    let rest = rising_second last (numbers (first.body ++ first.handler)) (order_numbers blocks) rising in
    block_rising rest.0 blocks t lines rest.1 at

-- a line's number is above its place
above : (last : ℕ) (orders : List Order) (i : ℕ) (order : Order) → AreRising last (numbers orders) → slice_get orders i ≡ Some order → last + i < order.number
above last [] i order rising at = absurd (cc at)
above last (first ∷ orders) zero order rising at = let same : first ≡ order = cc in subst (λ (o : Order). last + 0 < o.number) same (omega (arith, rising.0))
above last (first ∷ orders) (suc i) order rising at = let beyond = above first.number orders i order rising.1 at in let here : last < first.number = rising.0 in omega arith

in_first : (orders more : List Order) (i : ℕ) (order : Order) → slice_get orders i ≡ Some order → slice_get (orders ++ more) i ≡ Some order
in_first [] more i order at = absurd (cc at)
in_first (first ∷ orders) more zero order at = at
in_first (first ∷ orders) more (suc i) order at = in_first orders more i order at

-- the lines of a handler are behind those of the body
behind : (last : ℕ) (orders more : List Order) → AreRising last (numbers (orders ++ more)) → (l : ℕ) × AreRising l (numbers more)
behind last [] more rising = (last, rising)
behind last (first ∷ orders) more rising = behind first.number orders more rising.1

low_place : (last : ℕ) (lines : Block) (task : PrivateTask) (order : Order) → AreRising last (numbers (lines.body ++ lines.handler)) → line_at lines task ≡ Some order → task.place < order.number
low_place last lines task order rising at = by_lines task.handling at
  where
    by_lines : (h : Bool) → slice_get (if h then lines.handler else lines.body) task.place ≡ Some order → task.place < order.number
    by_lines true at = let l = behind last lines.body lines.handler rising in let high = above l.0 lines.handler task.place order l.1 at in omega arith
    by_lines false at = let high = above last (lines.body ++ lines.handler) task.place order rising (in_first lines.body lines.handler task.place order at) in omega arith

-- ---- the line

-- what holds of all lines of a block holds of the one at the task's place
line_all : (P : Order → Type 0) (lines : Block) (task : PrivateTask) (order : Order) → AllByRecursion P lines.body → AllByRecursion P lines.handler → line_at lines task ≡ Some order → P order
line_all P lines task order body handler at = by_lines task.handling at
  where
    by_lines : (h : Bool) → slice_get (if h then lines.handler else lines.body) task.place ≡ Some order → P order
    by_lines true at = each_of P lines.handler task.place order handler at
    by_lines false at = each_of P lines.body task.place order body at

module _ (script : Script) (valid : IsValid script) (t : ℕ) (lines : Block) (task : PrivateTask) (order : Order) (known : slice_get script.blocks t ≡ Some lines) (at : line_at lines task ≡ Some order) where
  -- its command is one of the machine
  pub command_known : IsCommand script.layout order.command
  command_known =
      let fits : IsBody script.layout lines = each_of (IsBody script.layout) script.blocks t lines valid.bodies known in
      line_all (λ (o : Order). IsCommand script.layout o.command) lines task order fits.body fits.handler at

  -- its place is a small number
  pub place_small : task.place + 1 < 2 ^ 32
  place_small =
      let rising = block_rising 0 script.blocks t lines valid.rising known in
      let high = low_place rising.0 lines task order rising.1 at in
      let small : order.number < 2 ^ 32 = order.in_range in
      omega arith
