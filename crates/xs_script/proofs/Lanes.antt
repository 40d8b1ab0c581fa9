-- The hex text of bytes is that of no other bytes.
use Rattle.std.proofs.Common.{◌≡◌, ℕ, ◌<◌, zero, suc, List, [], ◌∷◌, arith, slice_index}
use Rattle.std.specs.List.{AllByRecursion}
use Rattle.hex.specs.Hex.{IsBytes, encode_lower}
use Rattle.hex.proofs.HexLemmas.{decode_of-same, decode_of-encode_lower}

-- bytes by their indices, from bytes by recursion
pub IsBytes-from_recursion : (bytes : List ℕ) → AllByRecursion (λ byte. byte < 256) bytes → IsBytes bytes
IsBytes-from_recursion [] h = λ i. omega arith
IsBytes-from_recursion (b ∷ bytes) h = λ i. elim i as (λ i. slice_index (b ∷ bytes) i < 256) [
  | zero ↦ h.0
  | suc i ↦ IsBytes-from_recursion bytes h.1 i
]

-- bytes of one text are the same
pub one_hex : (a b : List ℕ) → AllByRecursion (λ byte. byte < 256) a → AllByRecursion (λ byte. byte < 256) b → encode_lower a ≡ encode_lower b → a ≡ b
one_hex a b fa fb e =
    decode_of-same (encode_lower a) a b (decode_of-encode_lower a (IsBytes-from_recursion a fa)) (rw e (decode_of-encode_lower b (IsBytes-from_recursion b fb)))
