-- Sums over the blocks: their work, those that wait and the fresh turns, where some of the blocks change.
use Rattle.std.proofs.Common.{◌≡◌, ℕ, zero, suc, ◌+◌, ◌≤◌, List, [], ◌∷◌, map, length, refl, ap, ◌∙◌, inl, inr, ◌⊎◌, ⊎_elim, arith}
use Rattle.std.proofs.lemmas.Bool.{cases_eq}
use Rattle.std.specs.Prelude.{Some, slice_get}
use Rattle.xs_model.specs.declared.script.Block.{Block}
use Rattle.xs_model.specs.declared.stage.Stage.{Stage}
use Rattle.xs_model.specs.declared.stage.Stage.TheVariants.{Unborn, Ready, Turn, Stopped, Waiting, Ended}
use Rattle.xs_model.specs.State.{BlockState, stage_at, changed}
use Rattle.xs_model.proofs.Bookkeeping.{work, total, is_waiting, waiters, is_fresh, fresh}
use Rattle.xs_model.proofs.Touched.{Alike}

-- ---- work

-- one block changed
pub total_changed : (h t : ℕ) (f : BlockState → BlockState) (rest : List Block) (blocks : List BlockState) (lines : Block) (block : BlockState) → slice_get rest t ≡ Some lines → slice_get blocks t ≡ Some block → total h rest (changed t f blocks) + work h lines block ≡ total h rest blocks + work h lines (f block)
total_changed h t f [] blocks lines block known at = absurd (cc)
total_changed h t f (l ∷ rest) [] lines block known at = absurd (cc)
total_changed h zero f (l ∷ rest) (b ∷ blocks) lines block known at =
    let same : l ≡ lines = cc in
    let too : b ≡ block = cc in
    let one : work h l b ≡ work h lines block = ap (λ (x : Block). work h x b) same ∙ ap (work h lines) too in
    let two : work h l (f b) ≡ work h lines (f block) = ap (λ (x : Block). work h x (f b)) same ∙ ap (λ (x : BlockState). work h lines (f x)) too in
    omega arith
total_changed h (suc t) f (l ∷ rest) (b ∷ blocks) lines block known at = let tail = total_changed h t f rest blocks lines block known at in omega arith

-- what costs no block more
pub total_map : (h : ℕ) (f : BlockState → BlockState) → ((lines : Block) (block : BlockState) → work h lines (f block) ≤ work h lines block) → (rest : List Block) (blocks : List BlockState) → total h rest (map f blocks) ≤ total h rest blocks
total_map h f less [] blocks = omega arith
total_map h f less (l ∷ rest) [] = omega arith
total_map h f less (l ∷ rest) (b ∷ blocks) = let here = less l b in let tail = total_map h f less rest blocks in omega arith

-- what costs one block at most k
pub total_grows : (h k t : ℕ) (f : BlockState → BlockState) → ((lines : Block) (block : BlockState) → work h lines (f block) ≤ work h lines block + k) → (rest : List Block) (blocks : List BlockState) → total h rest (changed t f blocks) ≤ total h rest blocks + k
total_grows h k t f less [] blocks = omega arith
total_grows h k t f less (l ∷ rest) [] = omega arith
total_grows h k zero f less (l ∷ rest) (b ∷ blocks) = let here = less l b in omega arith
total_grows h k (suc t) f less (l ∷ rest) (b ∷ blocks) = let tail = total_grows h k t f less rest blocks in omega arith

-- ---- waiters

-- one block changed
pub waiters_changed : (t : ℕ) (f : BlockState → BlockState) (blocks : List BlockState) (block : BlockState) → slice_get blocks t ≡ Some block → waiters (changed t f blocks) + is_waiting block.stage ≡ waiters blocks + is_waiting (f block).stage
waiters_changed t f [] block at = absurd (cc)
waiters_changed zero f (b ∷ blocks) block at =
    let too : b ≡ block = cc in
    let one : is_waiting b.stage ≡ is_waiting block.stage = ap (λ (x : BlockState). is_waiting x.stage) too in
    let two : is_waiting (f b).stage ≡ is_waiting (f block).stage = ap (λ (x : BlockState). is_waiting (f x).stage) too in
    omega arith
waiters_changed (suc t) f (b ∷ blocks) block at = let tail = waiters_changed t f blocks block at in omega arith

-- what leaves each waiter
pub waiters_same : (f : BlockState → BlockState) → ((block : BlockState) → is_waiting (f block).stage ≡ is_waiting block.stage) → (t : ℕ) (blocks : List BlockState) → waiters (changed t f blocks) ≡ waiters blocks
waiters_same f same t [] = refl
waiters_same f same zero (b ∷ blocks) = let here = same b in omega arith
waiters_same f same (suc t) (b ∷ blocks) = let tail = waiters_same f same t blocks in omega arith

-- What wakes those alone that wait for t.
pub record WakesOnly (t : ℕ) (f : BlockState → BlockState) : Type 0 where
  pub others : (block : BlockState) → (block.stage ≡ Waiting t → ⊥) → is_waiting (f block).stage ≡ is_waiting block.stage

-- One block at most waits for t.
abbrev pub OneWaits : List BlockState → ℕ → Type 0
OneWaits blocks t = (v u : ℕ) → stage_at blocks v ≡ Waiting t → stage_at blocks u ≡ Waiting t → v ≡ u

-- it waits for t, or not
is_it : (t : ℕ) (s : Stage) → (s ≡ Waiting t) ⊎ (s ≡ Waiting t → ⊥)
is_it t Unborn = inr (λ (e : Unborn ≡ Waiting t). cc)
is_it t Ready = inr (λ (e : Ready ≡ Waiting t). cc)
is_it t (Turn cpu ran) = inr (λ (e : Turn cpu ran ≡ Waiting t). cc)
is_it t Stopped = inr (λ (e : Stopped ≡ Waiting t). cc)
is_it t (Waiting child) = ⊎_elim (λ (same : child ≡ t). inl (ap Waiting same)) (λ (other : child ≡ t → ⊥). inr (λ (e : Waiting child ≡ Waiting t). other (cc))) (cases_eq child t)
is_it t Ended = inr (λ (e : Ended ≡ Waiting t). cc)

-- where none waits for t
waiters_none : (t : ℕ) (f : BlockState → BlockState) → WakesOnly t f → (blocks : List BlockState) → ((v : ℕ) → stage_at blocks v ≡ Waiting t → ⊥) → waiters (map f blocks) ≡ waiters blocks
waiters_none t f wakes [] never = refl
waiters_none t f wakes (b ∷ blocks) never = let here = wakes.others b (never 0) in let tail = waiters_none t f wakes blocks (λ v. never (suc v)) in omega arith

-- a block counts once at most
one_at_most : (s : Stage) → is_waiting s ≤ 1
one_at_most Unborn = omega arith
one_at_most Ready = omega arith
one_at_most (Turn cpu ran) = omega arith
one_at_most Stopped = omega arith
one_at_most (Waiting child) = omega arith
one_at_most Ended = omega arith

-- one waiter at most is woken
pub waiters_map : (t : ℕ) (f : BlockState → BlockState) → WakesOnly t f → (blocks : List BlockState) → OneWaits blocks t → waiters blocks ≤ waiters (map f blocks) + 1
waiters_map t f wakes [] unique = omega arith
waiters_map t f wakes (b ∷ blocks) unique = ⊎_elim
    (λ (here : b.stage ≡ Waiting t).
    let tail = waiters_none t f wakes blocks (λ v at. let same : zero ≡ suc v = unique zero (suc v) here at in omega arith) in
    let one = one_at_most b.stage in
    omega arith)
    (λ (other : b.stage ≡ Waiting t → ⊥).
    let here = wakes.others b other in
    let tail = waiters_map t f wakes blocks (λ v u one two. let same : suc v ≡ suc u = unique (suc v) (suc u) one two in omega arith) in
    omega arith)
    (is_it t b.stage)

-- ---- fresh turns

-- a block counts once at most
one_fresh : (s : Stage) → is_fresh s ≤ 1
one_fresh Unborn = omega arith
one_fresh Ready = omega arith
one_fresh (Turn cpu zero) = omega arith
one_fresh (Turn cpu (suc ran)) = omega arith
one_fresh Stopped = omega arith
one_fresh (Waiting child) = omega arith
one_fresh Ended = omega arith

-- the change of one block ends one fresh turn at most
pub fresh_own : (t : ℕ) (f : BlockState → BlockState) (blocks : List BlockState) → fresh blocks ≤ fresh (changed t f blocks) + 1
fresh_own t f [] = omega arith
fresh_own zero f (b ∷ blocks) = let one = one_fresh b.stage in omega arith
fresh_own (suc t) f (b ∷ blocks) = let rest = fresh_own t f blocks in omega arith

-- one block changed
pub fresh_changed : (t : ℕ) (f : BlockState → BlockState) (blocks : List BlockState) (block : BlockState) → slice_get blocks t ≡ Some block → fresh (changed t f blocks) + is_fresh block.stage ≡ fresh blocks + is_fresh (f block).stage
fresh_changed t f [] block at = absurd (cc)
fresh_changed zero f (b ∷ blocks) block at =
    let too : b ≡ block = cc in
    let one : is_fresh b.stage ≡ is_fresh block.stage = ap (λ (x : BlockState). is_fresh x.stage) too in
    let two : is_fresh (f b).stage ≡ is_fresh (f block).stage = ap (λ (x : BlockState). is_fresh (f x).stage) too in
    omega arith
fresh_changed (suc t) f (b ∷ blocks) block at = let tail = fresh_changed t f blocks block at in omega arith

-- blocks that are as fresh one by one
pub fresh_alike : (R : BlockState → BlockState → Type 0) → ((x y : BlockState) → R x y → is_fresh y.stage ≡ is_fresh x.stage) → (old new : List BlockState) → Alike R old new → fresh new ≡ fresh old
fresh_alike R same [] [] alike = refl
fresh_alike R same (x ∷ old) [] alike = absurd alike
fresh_alike R same [] (y ∷ new) alike = absurd alike
fresh_alike R same (x ∷ old) (y ∷ new) alike = let here = same x y alike.0 in let tail = fresh_alike R same old new alike.1 in omega arith

-- there are as many as blocks at most
pub fresh_most : (blocks : List BlockState) → fresh blocks ≤ length blocks
fresh_most [] = omega arith
fresh_most (b ∷ blocks) = let one = one_fresh b.stage in let rest = fresh_most blocks in omega arith
