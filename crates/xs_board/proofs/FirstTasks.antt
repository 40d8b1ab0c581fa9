-- The tasks, the queue and the pool before the first event, block by block.
use Rattle.std.proofs.Common.{◌≡◌, ℕ, zero, suc, ◌+◌, ◌<◌, ◌≤◌, List, [], ◌∷◌, ◌++◌, length, drop, get_or, refl, sym, ap, ◌∙◌, subst, arith, inl, inr, add-one, drop-cons}
use Rattle.std.proofs.lemmas.Bool.{cases_lt}
use Rattle.std.proofs.lemmas.Option.{slice_get_read, same_Some}
use Rattle.std.specs.Prelude.{Option, Some, None, slice_get}
use Rattle.xs_base.specs.declared.component.Row.{Row}
use Rattle.xs_model.specs.declared.script.Block.{Block}
use Rattle.xs_model.specs.declared.script.BlockKind.{BlockKind}
use Rattle.xs_model.specs.declared.script.BlockKind.TheVariants as kinds
use Rattle.xs_pool.specs.Pool.{Pool}
use Rattle.xs_task.specs.declared.task.Task.{Task}
use Rattle.xs_board.specs.Opening.{one_user, users_in, born_if, born_from, IsFirstTask, AreFirst, pool_first}

-- the numbers from a block on
pub born_step : (blocks : List Block) (i : ℕ) (block : Block) → i < length blocks → block ≡ get_or blocks i block → born_from i (drop i blocks) ≡ born_if block.kind i ++ born_from (i + 1) (drop (i + 1) blocks)
born_step blocks i block within is =
    let next : suc i ≡ i + 1 = omega arith in
    ap (born_from i) (drop-cons blocks i block within)
    ∙ ap (λ (b : Block). born_if b.kind i ++ born_from (i + 1) (drop (suc i) blocks)) (sym is)
    ∙ ap (λ (n : ℕ). born_if block.kind i ++ born_from (i + 1) (drop n blocks)) next

-- at most one
pub born_few : (kind : BlockKind) (i : ℕ) → length (born_if kind i) ≤ 1
born_few kinds.Task i = omega arith
born_few kinds.Child i = omega arith
born_few kinds.Kthread i = omega arith

-- at most every block is a user task
pub users_few : (blocks : List Block) → users_in blocks ≤ length blocks
users_few [] = omega arith
users_few (block ∷ blocks) = let rest = users_few blocks in let here = at_most block.kind in omega arith
  where
    at_most : (kind : BlockKind) → one_user kind ≤ 1
    at_most kinds.Task = omega arith
    at_most kinds.Child = omega arith
    at_most kinds.Kthread = omega arith

-- the users from a block on
pub users_step : (blocks : List Block) (i : ℕ) (block : Block) → i < length blocks → block ≡ get_or blocks i block → users_in (drop i blocks) ≡ one_user block.kind + users_in (drop (i + 1) blocks)
users_step blocks i block within is = rw add-one (ap users_in (drop-cons blocks i block within) ∙ ap (λ (b : Block). one_user b.kind + users_in (drop (suc i) blocks)) (sym is))

-- ---- the pool after the area of one block

-- one area more is out for a user task
pub pool_out : (kind : BlockKind) (pool : Pool) → (pool_first kind pool).small.out ≡ pool.small.out + one_user kind
pool_out kinds.Task pool = refl
pool_out kinds.Child pool = refl
pool_out kinds.Kthread pool = omega arith

-- the pool is as large as before
pub pool_capacity : (kind : BlockKind) (pool : Pool) → (pool_first kind pool).small.capacity ≡ pool.small.capacity
pool_capacity kinds.Task pool = refl
pool_capacity kinds.Child pool = refl
pool_capacity kinds.Kthread pool = refl

-- its Large areas stay as they are
pub pool_large : (kind : BlockKind) (pool : Pool) → (pool_first kind pool).large ≡ pool.large
pool_large kinds.Task pool = refl
pool_large kinds.Child pool = refl
pool_large kinds.Kthread pool = refl

-- one lease more was given to a user task
pub pool_given : (kind : BlockKind) (pool : Pool) → (pool_first kind pool).given ≡ pool.given + one_user kind
pool_given kinds.Task pool = refl
pool_given kinds.Child pool = refl
pool_given kinds.Kthread pool = omega arith

-- ---- the tasks

-- the elements before the last
before_last : {A : Type 0} (xs : List A) (t : ℕ) (x d : A) → t < length xs → get_or (xs ++ x ∷ []) t d ≡ get_or xs t d
before_last [] t x d within = absurd (omega arith)
before_last (y ∷ xs) zero x d within = refl
before_last (y ∷ xs) (suc t) x d within = before_last xs t x d (omega arith)

-- the last element
at_last : {A : Type 0} (xs : List A) (t : ℕ) (x d : A) → t ≡ length xs → get_or (xs ++ x ∷ []) t d ≡ x
at_last [] zero x d is = refl
at_last [] (suc t) x d is = absurd (omega arith)
at_last (y ∷ xs) zero x d is = absurd (omega arith)
at_last (y ∷ xs) (suc t) x d is = at_last xs t x d (omega arith)

-- one task more is home
pub first_more : (rows : List Row) (blocks : List Block) (n : ℕ) (home : List (Option Task)) (block : Block) (task : Task) → AreFirst rows blocks n home → length home ≡ n → n < length blocks → block ≡ get_or blocks n block → IsFirstTask rows block.kind n task → AreFirst rows blocks (n + 1) (home ++ Some task ∷ [])
first_more rows blocks n home block task first long within is own t other below at = elim (cases_lt t n) [
  | inl lower ↦ let was = first t other lower at in (was.0, before_last home t (Some task) None (omega arith) ∙ was.1, was.2)
  | inr same ↦
      let t_is : t ≡ n = omega arith in
      let there : slice_get blocks n ≡ Some block = slice_get_read blocks (length blocks) n block refl within is in
      let block_is : other ≡ block = same_Some other block (sym at ∙ ap (slice_get blocks) t_is ∙ there) in
      (task, at_last home t (Some task) None (omega arith), subst (λ (b : Block). IsFirstTask rows b.kind t task) (sym block_is) (subst (λ (k : ℕ). IsFirstTask rows block.kind k task) (sym t_is) own))
]
