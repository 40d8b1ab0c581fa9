-- What is kept while the turns of the blocks go on in order: a processor has one turn at most, the notes know the
-- processor of each turn, and a task is held exactly where two numbers say so.
use Rattle.std.proofs.Common.{◌≡◌, ℕ, ◌==◌, Bool, true, false, ◌&&◌, List}
use Rattle.std.specs.Prelude.{Option, Some, None}
use Rattle.xs_model.specs.Note.{Act, Starts, Grows, Sets, Note, is_at, cpu_of, mark_of, last_of}
use Rattle.xs_model.specs.Held.{is_start, is_calm, held_by}

-- a note by its parts
abbrev pub note : ℕ → Act → Note
note t act = record { task = t; act = act }

-- the processor's mark is the task, and the task's last processor is this one
abbrev pub two_numbers : (ℕ → Bool) → List Note → ℕ → ℕ → Bool
two_numbers user past c t = is_at (mark_of user past c) t && is_at (last_of past t) c

-- How the turns of the blocks go on by an event. A turn is given by its processor.
pub record Orderly (old : ℕ → Option ℕ) (n : Note) (new : ℕ → Option ℕ) : Type 0 where
  pub others : (v : ℕ) → (n.task == v) ≡ false → new v ≡ old v
  pub starting : (c : ℕ) → n.act ≡ Starts c → (old n.task ≡ None) × (new n.task ≡ Some c) × ((v : ℕ) → old v ≡ Some c → ⊥)
  pub going : is_start n.act ≡ false → (c : ℕ) × (old n.task ≡ Some c) × ((d : ℕ) → new n.task ≡ Some d → d ≡ c)
  pub growing : n.act ≡ Grows → new n.task ≡ None
  pub setting : (u : ℕ) → n.act ≡ Sets u → old u ≡ None

-- What the notes know of a block in a turn on the processor.
pub record Turning (user : ℕ → Bool) (past : List Note) (u c : ℕ) : Type 0 where
  pub cpu : cpu_of past u ≡ Some c
  pub last : last_of past u ≡ Some c
  pub calm : user u ≡ true → is_calm user past c u ≡ true
  pub mark : user u ≡ true → (t : ℕ) → (u == t) ≡ false → is_at (mark_of user past c) t ≡ false

-- What is kept.
pub record IsKept (user : ℕ → Bool) (past : List Note) (turns : ℕ → Option ℕ) : Type 0 where
  pub turning : (u c : ℕ) → turns u ≡ Some c → Turning user past u c
  pub alone : (u v c : ℕ) → turns u ≡ Some c → turns v ≡ Some c → (u == v) ≡ true
  pub law : (c t : ℕ) → user t ≡ true → held_by user past c t ≡ two_numbers user past c t
