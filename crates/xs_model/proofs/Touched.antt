-- What an event does to a block beside its own turn, block by block.
use Rattle.std.proofs.Common.{◌≡◌, ℕ, zero, suc, Bool, true, false, List, [], ◌∷◌, map, length, refl, ap}
use Rattle.std.specs.Prelude.{Option, Some, None, slice_get, if◌then◌else◌}
use Rattle.xs_base.specs.declared.words.Set.{Set}
use Rattle.xs_base.specs.declared.words.Signo.{Signo}
use Rattle.xs_model.specs.declared.script.Command.{Command}
use Rattle.xs_model.specs.declared.script.Command.TheVariants as commands
use Rattle.xs_model.specs.declared.script.Script.{Script}
use Rattle.xs_model.specs.declared.event.Reply.{Reply}
use Rattle.xs_model.specs.declared.event.Event.{Event}
use Rattle.xs_model.specs.declared.event.Event.TheVariants.{Start, Local, Outer, Grow, Kill, End}
use Rattle.xs_model.specs.Script.{block_named, command_at}
use Rattle.xs_model.specs.Note.{is_count}
use Rattle.xs_model.specs.State.{BlockState, changed}
use Rattle.xs_model.specs.Outer.{is_held, woken, continued, freed, born, signalled, buffer_of, registers_set, buffer_filled, reach_of, outer_reach}
use Rattle.xs_model.specs.Machine.{reach}

-- The ways in which an event reaches a block, where these were the blocks before it.
pub data Touched (blocks : List BlockState) (old new : BlockState) : Type 0 where
  Stays : new ≡ old → Touched blocks old new
  Wakes : (t : ℕ) → new ≡ woken t old → Touched blocks old new
  Frees : (t : ℕ) → new ≡ freed t old → Touched blocks old new
  Continues : new ≡ continued old → Touched blocks old new
  Signals : (signo : Signo) → new ≡ signalled signo old → Touched blocks old new
  Takes : (set : Set) (count t : ℕ) → new ≡ registers_set set count (buffer_of (slice_get blocks t)) old → Touched blocks old new
  Fills : (set : Set) (child : ℕ) → new ≡ buffer_filled set (slice_get blocks child) old → Touched blocks old new
  Bears : (t : ℕ) → new ≡ born t (slice_get blocks t) old → Touched blocks old new

-- the lists are as long, and R holds of each pair of their blocks
abbrev pub Alike : (BlockState → BlockState → Type 0) → List BlockState → List BlockState → Type 0
Alike R [] [] = Unit {0}
Alike R (x ∷ xs) [] = ⊥
Alike R [] (y ∷ ys) = ⊥
Alike R (x ∷ xs) (y ∷ ys) = R x y × Alike R xs ys

-- the same blocks are alike
pub alike_same : (R : BlockState → BlockState → Type 0) → ((b : BlockState) → R b b) → (blocks : List BlockState) → Alike R blocks blocks
alike_same R same [] = tt
alike_same R same (b ∷ blocks) = (same b, alike_same R same blocks)

-- each block changed
pub alike_map : (R : BlockState → BlockState → Type 0) (f : BlockState → BlockState) → ((b : BlockState) → R b (f b)) → (blocks : List BlockState) → Alike R blocks (map f blocks)
alike_map R f each [] = tt
alike_map R f each (b ∷ blocks) = (each b, alike_map R f each blocks)

-- one block changed
pub alike_changed : (R : BlockState → BlockState → Type 0) (f : BlockState → BlockState) → ((b : BlockState) → R b b) → ((b : BlockState) → R b (f b)) → (i : ℕ) (blocks : List BlockState) → Alike R blocks (changed i f blocks)
alike_changed R f same each i [] = tt
alike_changed R f same each zero (b ∷ blocks) = (each b, alike_same R same blocks)
alike_changed R f same each (suc i) (b ∷ blocks) = (same b, alike_changed R f same each i blocks)

-- changed or not
pub alike_if : (R : BlockState → BlockState → Type 0) (test : Bool) (old new : List BlockState) → Alike R old new → Alike R old old → Alike R old (if test then new else old)
alike_if R true old new one two = one
alike_if R false old new one two = two

-- a block stays as it was
same_block : (blocks : List BlockState) (b : BlockState) → Touched blocks b b
same_block blocks b = Stays refl

-- all of them do
all_stay : (blocks old : List BlockState) → Alike (Touched blocks) old old
all_stay blocks old = alike_same (Touched blocks) (same_block blocks) old

-- one is touched, where the test says so
one_touched : (blocks : List BlockState) (test : Bool) (f : BlockState → BlockState) (i : ℕ) → ((b : BlockState) → Touched blocks b (f b)) → Alike (Touched blocks) blocks (if test then changed i f blocks else blocks)
one_touched blocks test f i each = alike_if (Touched blocks) test blocks (changed i f blocks) (alike_changed (Touched blocks) f (same_block blocks) each i blocks) (all_stay blocks blocks)

-- what an outer command does to each block
reach_of_touches : (script : Script) (t : ℕ) (command : Command) (reply : Reply) (blocks : List BlockState) → Alike (Touched blocks) blocks (reach_of script t command reply blocks)
reach_of_touches script t (commands.Fork name) reply blocks = one_touched blocks true (born t (slice_get blocks t)) (block_named script name) (λ b. Bears t refl)
reach_of_touches script t (commands.Kill name signo) reply blocks = one_touched blocks (is_count reply) (signalled signo) (block_named script name) (λ b. Signals signo refl)
reach_of_touches script t commands.Stop reply blocks = alike_if (Touched blocks) (is_held reply) blocks (map (woken t) blocks) (alike_map (Touched blocks) (woken t) (λ b. Wakes t refl) blocks) (all_stay blocks blocks)
reach_of_touches script t (commands.Getregs name set) reply blocks = one_touched blocks (is_count reply) (buffer_filled set (slice_get blocks (block_named script name))) t (λ b. Fills set (block_named script name) refl)
reach_of_touches script t (commands.Setregs name set count) reply blocks = one_touched blocks (is_count reply) (registers_set set count (buffer_of (slice_get blocks t))) (block_named script name) (λ b. Takes set count t refl)
reach_of_touches script t (commands.Cont name) reply blocks = one_touched blocks (is_count reply) continued (block_named script name) (λ b. Continues refl)
reach_of_touches script t other reply blocks = all_stay blocks blocks

-- what an event does to each block beside its own turn
pub reach_touches : (script : Script) (event : Event) (blocks : List BlockState) → Alike (Touched blocks) blocks (reach script event blocks)
reach_touches script (Start t cpu how signal) blocks = all_stay blocks blocks
reach_touches script (Local t line reply) blocks = all_stay blocks blocks
reach_touches script (Outer t line reply) blocks = by_command (command_at script t line)
  where
    by_command : (command : Option Command) → Alike (Touched blocks) blocks (outer_reach script t command reply blocks)
    by_command None = all_stay blocks blocks
    by_command (Some command) = reach_of_touches script t command reply blocks
reach_touches script (Grow t) blocks = all_stay blocks blocks
reach_touches script (Kill t signo why) blocks = alike_map (Touched blocks) (freed t) (λ b. Frees t refl) blocks
reach_touches script (End t) blocks = alike_map (Touched blocks) (freed t) (λ b. Frees t refl) blocks

-- ---- what follows, for any R

-- alike lists are as long
pub alike_length : (R : BlockState → BlockState → Type 0) (xs ys : List BlockState) → Alike R xs ys → length ys ≡ length xs
alike_length R [] [] alike = refl
alike_length R (x ∷ xs) [] alike = absurd alike
alike_length R [] (y ∷ ys) alike = absurd alike
alike_length R (x ∷ xs) (y ∷ ys) alike = ap suc (alike_length R xs ys alike.1)

-- R of two blocks that may not be there
abbrev pub Both : (BlockState → BlockState → Type 0) → Option BlockState → Option BlockState → Type 0
Both R None None = Unit {0}
Both R (Some x) None = ⊥
Both R None (Some y) = ⊥
Both R (Some x) (Some y) = R x y

-- R holds of the blocks at a place
pub alike_at : (R : BlockState → BlockState → Type 0) (xs ys : List BlockState) → Alike R xs ys → (v : ℕ) → Both R (slice_get xs v) (slice_get ys v)
alike_at R [] [] alike v = tt
alike_at R (x ∷ xs) [] alike v = absurd alike
alike_at R [] (y ∷ ys) alike v = absurd alike
alike_at R (x ∷ xs) (y ∷ ys) alike zero = alike.0
alike_at R (x ∷ xs) (y ∷ ys) alike (suc v) = alike_at R xs ys alike.1 v
