-- How many of the areas that user tasks have are Large ones.
use Rattle.std.proofs.Common.{◌≡◌, ℕ, zero, suc, ◌+◌, ◌<◌, ◌≤◌, Bool, true, false, ◌&&◌, List, [], ◌∷◌, refl, ap, ◌∙◌, arith}
use Rattle.std.proofs.lemmas.Option.{same_Some}
use Rattle.std.specs.Prelude.{Some, if◌then◌else◌, slice_get}
use Rattle.xs_model.specs.declared.stage.Stage.{Stage}
use Rattle.xs_model.specs.Due.{large_count}
use Rattle.xs_model.specs.State.{BlockState, lives}
use Rattle.xs_board.specs.Board.{one, tally}

-- Each living block with room for TILEDATA is such.
abbrev pub HaveRoom : (ℕ → Stage → Bool) → ℕ → List BlockState → Type 0
HaveRoom such i blocks = (u : ℕ) (block : BlockState) → slice_get blocks u ≡ Some block → block.task.large ≡ true → lives block.stage ≡ true → such (i + u) block.stage ≡ true

-- the first block of a list, and the others
first_room : (such : ℕ → Stage → Bool) (i : ℕ) (block : BlockState) (blocks : List BlockState) → HaveRoom such i (block ∷ blocks) → block.task.large ≡ true → lives block.stage ≡ true → such i block.stage ≡ true
first_room such i block blocks each large alive = let here : i ≡ i + 0 = omega arith in ap (λ (n : ℕ). such n block.stage) here ∙ each 0 block refl large alive

rest_room : (such : ℕ → Stage → Bool) (i : ℕ) (block : BlockState) (blocks : List BlockState) → HaveRoom such i (block ∷ blocks) → HaveRoom such (i + 1) blocks
rest_room such i block blocks each u other at large alive = let there : i + 1 + u ≡ i + suc u = omega arith in ap (λ (n : ℕ). such n other.stage) there ∙ each (suc u) other at large alive

-- how much a block counts
abbrev counted : Bool → Bool → ℕ
counted large alive = if large && alive then 1 else 0

-- one that counts is such
one_most : (large alive is : Bool) → (large ≡ true → alive ≡ true → is ≡ true) → counted large alive ≤ one is
one_most true true true counts = omega arith
one_most true true false counts = absurd (let on = counts refl refl in cc on)
one_most true false is counts = omega arith
one_most false alive is counts = omega arith

-- at most as many have room as are such
large_most : (such : ℕ → Stage → Bool) (i : ℕ) (blocks : List BlockState) → HaveRoom such i blocks → large_count blocks ≤ tally such i blocks
large_most such i [] each = omega arith
large_most such i (block ∷ blocks) each =
    let here = one_most block.task.large (lives block.stage) (such i block.stage) (first_room such i block blocks each) in
    let rest = large_most such (i + 1) blocks (rest_room such i block blocks each) in
    omega (arith, here, rest)

-- and fewer where one that is such has none
pub large_fewer : (such : ℕ → Stage → Bool) (i t n : ℕ) (blocks : List BlockState) (block : BlockState) → HaveRoom such i blocks → slice_get blocks t ≡ Some block → n ≡ i + t → block.task.large ≡ false → such n block.stage ≡ true → large_count blocks < tally such i blocks
large_fewer such i t n [] block each at sum small is = absurd (cc at)
large_fewer such i zero n (first ∷ blocks) block each at sum small is =
    let same : first ≡ block = same_Some first block at in
    let number : i ≡ n = omega (arith, sum) in
    let none : counted first.task.large (lives first.stage) ≡ 0 = ap (λ (b : BlockState). counted b.task.large (lives b.stage)) same ∙ ap (λ (l : Bool). counted l (lives block.stage)) small in
    let some : one (such i first.stage) ≡ 1 = ap (λ (b : BlockState). one (such i b.stage)) same ∙ ap (λ (k : ℕ). one (such k block.stage)) number ∙ ap one is in
    let rest = large_most such (i + 1) blocks (rest_room such i first blocks each) in
    omega (arith, none, some, rest)
large_fewer such i (suc t) n (first ∷ blocks) block each at sum small is =
    let here = one_most first.task.large (lives first.stage) (such i first.stage) (first_room such i first blocks each) in
    let rest = large_fewer such (i + 1) t n blocks block (rest_room such i first blocks each) at (omega (arith, sum)) small is in
    omega (arith, here, rest)
