-- The bytes that a tracer is given: how many they are, and that they fit the buffer.
use Rattle.std.proofs.Common.{◌≡◌, ℕ, ◌-◌, ◌<◌, ◌≤◌, true, List, [], length, bit_and, lit<, arith}
use Rattle.std.proofs.lemmas.List.FromFn.{length-map-range_with_len}
use Rattle.xs_base.specs.declared.component.Row.{Row}
use Rattle.xs_base.specs.declared.words.Set.{Set}
use Rattle.xs_base.specs.declared.words.Set.TheVariants.{Xstate, Fx}
use Rattle.xs_base.specs.Layout.{IsLayout, features}
use Rattle.xs_base.specs.RegisterSet.{set_byte, set_size, set_reply}
use Rattle.xs_base.specs.Task.{PrivateTask, IsPrivateTask, user_features, buffer_length}
use Rattle.xs_base.proofs.ByteRangeLemmas.{AreBytes, long_are, map_are, either_is}
use Rattle.xs_base.proofs.SizeLemmas.{end_most}
use Rattle.xs_base.proofs.ValidLemmas.{standard_byte_is}

-- a set has its size
pub reply_length : (task : PrivateTask) (set : Set) → length (set_reply task set) ≡ set_size task set
unfolding set_reply
reply_length task set = length-map-range_with_len (set_byte task set) 0 (set_size task set)

-- which the buffer has room for
pub size_fits : (task : PrivateTask) (set : Set) → IsLayout task.file.rows → set_size task set ≤ buffer_length
size_fits task Xstate table = end_most (λ c. true) task.file.rows table
size_fits task Fx table = omega arith

byte_is : (rows : List Row) (task : PrivateTask) → IsPrivateTask rows task → (set : Set) (i : ℕ) → set_byte task set i < 256
byte_is rows task h Xstate i =
    either_is _ _ _ (long_are (bit_and task.marks (user_features task)) (i - 512))
    (either_is _ _ _ (long_are (features task.file.rows) (i - 464)) (standard_byte_is task.file (features task.file.rows) [] i h.file.bytes (λ k. lit< tt)))
byte_is rows task h Fx i = either_is _ _ 0 (standard_byte_is task.file 3 [] i h.file.bytes (λ k. lit< tt)) (lit< tt)

-- and is of bytes
pub reply_are : (rows : List Row) (task : PrivateTask) → IsPrivateTask rows task → (set : Set) → AreBytes (set_reply task set)
unfolding set_reply
reply_are rows task h set = map_are (set_byte task set) (set_size task set) (byte_is rows task h set)
