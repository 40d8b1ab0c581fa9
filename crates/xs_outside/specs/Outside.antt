-- What stands outside the program, as far as a caller knows of it: a source that it reads and a sink that it writes. What a
-- command does is said of the outside before and after it. This project's own.
use Rattle.std.specs.Prelude.{◌≡◌, ℕ, ◌+◌, ◌≤◌, List, [], ◌∷◌, ◌++◌, length, Option}
use Rattle.std.specs.List.{AllByRecursion}
use Rattle.std.specs.Io.KnownBytes.{Appends, Consumes, IsAtEnd}
use Rattle.xs_io.specs.Causes.{Rose}
use Rattle.xs_io.specs.declared.source.Source as sources
use Rattle.xs_io.specs.declared.sink.Sink as sinks

-- the bytes that the source has left, where they are known, and how many faults it had
pub record Input : Type 0 where
  pub left : Option (List ℕ)
  pub faults : ℕ

-- the bytes that the sink was given, where they are known, and how many faults it had
pub record Output : Type 0 where
  pub written : Option (List ℕ)
  pub faults : ℕ

pub record Outside : Type 0 where
  pub input : Input
  pub output : Output

abbrev pub input_of : {S : Type 0} → sources.Ghosts S → S → Input
input_of S source = record { left = S.left source; faults = S.fault_count source }

abbrev pub output_of : {K : Type 0} → sinks.Ghosts K → K → Output
output_of K sink = record { written = K.written sink; faults = K.fault_count sink }

abbrev pub outside : {S K : Type 0} → sources.Ghosts S → sinks.Ghosts K → S → K → Outside
outside S K source sink = record { input = input_of S source; output = output_of K sink }

-- ---- what was read

-- the most bytes of a script
abbrev pub script_limit : ℕ
script_limit = 1048576

-- The input was read: to its end, or where it is longer than the limit until one byte more was taken.
pub record IsRead (limit : ℕ) (before after : Input) (bytes : List ℕ) : Type 0 where
  pub taken : Consumes before.left after.left bytes
  pub most : length bytes ≤ limit + 1
  pub whole : length bytes ≤ limit → IsAtEnd after.left

-- No more was taken than one byte above the limit.
pub record TakesAtMost (limit : ℕ) (before after : Input) : Type 0 where
  pub bytes : List ℕ
  pub taken : Consumes before.left after.left bytes
  pub most : length bytes ≤ limit + 1

-- An input was read without a fault, and its answer ends so.
pub record ReadAndEnds (limit : ℕ) (before after : Outside) (Ends : List ℕ → Type 0) : Type 0 where
  pub unfailed : after.input.faults ≡ before.input.faults
  pub input : List ℕ
  pub read : IsRead limit before.input after.input input
  pub ends : Ends input

-- ---- what was written

-- no byte of the text is a line feed
abbrev pub LacksLineFeed : List ℕ → Type 0
LacksLineFeed text = AllByRecursion (λ byte. byte ≡ 10 → ⊥) text

-- a line with its line feed
abbrev pub IsLine : List ℕ → Type 0
IsLine bytes = (words : List ℕ) × LacksLineFeed words × (bytes ≡ words ++ 10 ∷ [])

-- Known bytes grow by a front of the text, which isn't all of it: by none of it, or by a part from its first byte on.
abbrev pub AppendsFront : Option (List ℕ) → Option (List ℕ) → List ℕ → Type 0
AppendsFront old new text = (front : List ℕ) × (rest : List ℕ) × (text ≡ front ++ rest) × Appends old new front × (rest ≡ [] → ⊥)

-- Nothing was written, and no write failed.
pub record WritesNothing (before after : Output) : Type 0 where
  pub same : after.written ≡ before.written
  pub unfailed : after.faults ≡ before.faults

-- The text was written whole, and no write failed.
pub record Writes (before after : Output) (text : List ℕ) : Type 0 where
  pub whole : Appends before.written after.written text
  pub unfailed : after.faults ≡ before.faults

-- A write failed, and a front of the text was written by then.
pub record FailsIn (before after : Output) (text : List ℕ) : Type 0 where
  pub front : AppendsFront before.written after.written text
  pub failed : Rose before.faults after.faults
