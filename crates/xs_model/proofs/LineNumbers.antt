-- In a valid script a line is found by its number.
use Rattle.std.proofs.Common.{◌≡◌, ℕ, zero, suc, ◌<◌, ◌==◌, Bool, true, false, List, [], ◌∷◌, ◌++◌, map, ap, ◌∙◌, subst, arith, ne_eqb, eq-eqb}
use Rattle.std.specs.Prelude.{Option, Some, if◌then◌else◌, slice_get}
use Rattle.std.specs.List.{find}
use Rattle.xs_base.specs.Task.{PrivateTask}
use Rattle.xs_model.specs.declared.script.Block.{Block}
use Rattle.xs_model.specs.declared.script.Order.{Order}
use Rattle.xs_model.specs.declared.script.Script.{Script}
use Rattle.xs_model.specs.Script.{AreRising, order_numbers, IsValid, command_at, command_of, command_in}
use Rattle.xs_model.specs.Line.{line_at}

-- the numbers of orders
abbrev numbers : List Order → List ℕ
numbers orders = map (λ (order : Order). order.number) orders

-- the order of a number
abbrev finds : ℕ → List Order → Option Order
finds line orders = find (λ (order : Order). order.number == line) orders

-- the numbers of rising ones are above the first
later : (last : ℕ) (orders : List Order) (i : ℕ) (order : Order) → AreRising last (numbers orders) → slice_get orders i ≡ Some order → last < order.number
later last [] i order rising at = absurd (cc)
later last (first ∷ orders) zero order rising at = let same : first ≡ order = cc in subst (λ (o : Order). last < o.number) same rising.0
later last (first ∷ orders) (suc i) order rising at = let beyond = later first.number orders i order rising.1 at in let here : last < first.number = rising.0 in omega arith

-- the order at a place is found by its number
found : (last : ℕ) (orders : List Order) (i : ℕ) (order : Order) → AreRising last (numbers orders) → slice_get orders i ≡ Some order → finds order.number orders ≡ Some order
found last [] i order rising at = absurd (cc)
found last (first ∷ orders) zero order rising at =
    let same : first ≡ order = cc in
    rw (eq-eqb first.number order.number (ap (λ (o : Order). o.number) same)) (ap Some same)
found last (first ∷ orders) (suc i) order rising at =
    let beyond : first.number < order.number = later first.number orders i order rising.1 at in
    rw (ne_eqb first.number order.number (λ (same : first.number ≡ order.number). omega arith)) (found first.number orders i order rising.1 at)

-- a place in the first of two lists
pub in_first : {A : Type 0} (xs ys : List A) (i : ℕ) (x : A) → slice_get xs i ≡ Some x → slice_get (xs ++ ys) i ≡ Some x
in_first [] ys i x at = absurd (cc)
in_first (y ∷ xs) ys zero x at = at
in_first (y ∷ xs) ys (suc i) x at = in_first xs ys i x at

-- a place in the second
pub in_second : {A : Type 0} (xs ys : List A) (i : ℕ) (x : A) → slice_get ys i ≡ Some x → (j : ℕ) × (slice_get (xs ++ ys) j ≡ Some x)
in_second [] ys i x at = (i, at)
in_second (y ∷ xs) ys i x at = let rest = in_second xs ys i x at in (suc rest.0, rest.1)

-- a place in the body or in the handler
in_block : (lines : Block) (handling : Bool) (place : ℕ) (order : Order) → slice_get (if handling then lines.handler else lines.body) place ≡ Some order → (j : ℕ) × (slice_get (lines.body ++ lines.handler) j ≡ Some order)
in_block lines true place order at = in_second lines.body lines.handler place order at
in_block lines false place order at = (place, in_first lines.body lines.handler place order at)

-- the first of two lists rises
rising_first : (last : ℕ) (xs ys : List ℕ) → AreRising last (xs ++ ys) → AreRising last xs
rising_first last [] ys rising = tt
rising_first last (x ∷ xs) ys rising = (rising.0, rising_first x xs ys rising.1)

-- so does the second
rising_second : (last : ℕ) (xs ys : List ℕ) → AreRising last (xs ++ ys) → (l : ℕ) × AreRising l ys
rising_second last [] ys rising = (last, rising)
rising_second last (x ∷ xs) ys rising = rising_second x xs ys rising.1

-- the numbers of one block rise
block_rising : (last : ℕ) (blocks : List Block) (t : ℕ) (lines : Block) → AreRising last (order_numbers blocks) → slice_get blocks t ≡ Some lines → (l : ℕ) × AreRising l (numbers (lines.body ++ lines.handler))
block_rising last [] t lines rising at = absurd (cc)
block_rising last (first ∷ blocks) zero lines rising at =
    let same : first ≡ lines = cc in
    subst (λ (b : Block). (l : ℕ) × AreRising l (numbers (b.body ++ b.handler))) same (last, rising_first last (numbers (first.body ++ first.handler)) (order_numbers blocks) rising)
block_rising last (first ∷ blocks) (suc t) lines rising at =
    let rest = rising_second last (numbers (first.body ++ first.handler)) (order_numbers blocks) rising in
    block_rising rest.0 blocks t lines rest.1 at

-- The lines of the script are found by their numbers.
abbrev pub AreLinesFound : Script → Type 0
AreLinesFound script = (t : ℕ) (lines : Block) (task : PrivateTask) (order : Order) → slice_get script.blocks t ≡ Some lines → line_at lines task ≡ Some order → command_at script t order.number ≡ Some order.command

-- so it is in a valid script
pub lines_found : (script : Script) → IsValid script → AreLinesFound script
lines_found script valid t lines task order known at =
    let place = in_block lines task.handling task.place order at in
    let rising = block_rising 0 script.blocks t lines valid.rising known in
    let there = found rising.0 (lines.body ++ lines.handler) place.0 order rising.1 place.1 in
    ap (λ (block : Option Block). command_in block order.number) known ∙ ap command_of there
