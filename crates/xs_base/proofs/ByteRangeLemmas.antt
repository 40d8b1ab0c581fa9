-- Lists of bytes: each number is below 256.
use Rattle.std.proofs.Common.{ℕ, zero, suc, ◌+◌, ◌<◌, Bool, true, false, List, [], ◌∷◌, ◌++◌, length, get_or, map, take, drop, if◌then◌else◌, inl, inr, arith, lit<}
use Rattle.std.proofs.lemmas.Bool.{cases_lt}
use Rattle.std.proofs.lemmas.List.{get_or_past}
use Rattle.std.proofs.lemmas.List.FromFn.{length-map-range_with_len, get_or-map-range_with_len}
use Rattle.std.specs.Int.{to_le_bytes, w32, w64}
use Rattle.std.specs.List.{range_with_len}
use Rattle.xs_base.specs.Bytes.{zeros, splice}
use Rattle.xs_base.proofs.ComponentLemmas.{zero_at}

abbrev pub AreBytes : List ℕ → Type 0
AreBytes bytes = (k : ℕ) → get_or bytes k 0 < 256

pub zeros_are : (n : ℕ) → AreBytes (zeros n)
zeros_are n k = rw zero_at (lit< tt)

-- the four bytes of a number, and the eight
pub word_are : (value : ℕ) → AreBytes (to_le_bytes w32 value)
word_are value zero = omega arith
word_are value (suc zero) = omega arith
word_are value (suc (suc zero)) = omega arith
word_are value (suc (suc (suc zero))) = omega arith
word_are value (suc (suc (suc (suc k)))) = lit< tt

pub long_are : (value : ℕ) → AreBytes (to_le_bytes w64 value)
long_are value zero = omega arith
long_are value (suc zero) = omega arith
long_are value (suc (suc zero)) = omega arith
long_are value (suc (suc (suc zero))) = omega arith
long_are value (suc (suc (suc (suc zero)))) = omega arith
long_are value (suc (suc (suc (suc (suc zero))))) = omega arith
long_are value (suc (suc (suc (suc (suc (suc zero)))))) = omega arith
long_are value (suc (suc (suc (suc (suc (suc (suc zero))))))) = omega arith
long_are value (suc (suc (suc (suc (suc (suc (suc (suc k)))))))) = lit< tt

pub append_are : (a b : List ℕ) → AreBytes a → AreBytes b → AreBytes (a ++ b)
append_are [] b ha hb k = hb k
append_are (x ∷ a) b ha hb zero = ha zero
append_are (x ∷ a) b ha hb (suc k) = append_are a b (λ j. ha (suc j)) hb k

pub take_are : (n : ℕ) (xs : List ℕ) → AreBytes xs → AreBytes (take n xs)
take_are zero xs h k = lit< tt
take_are (suc n) [] h k = lit< tt
take_are (suc n) (x ∷ xs) h zero = h zero
take_are (suc n) (x ∷ xs) h (suc k) = take_are n xs (λ j. h (suc j)) k

pub drop_are : (n : ℕ) (xs : List ℕ) → AreBytes xs → AreBytes (drop n xs)
drop_are zero xs h k = h k
drop_are (suc n) [] h k = lit< tt
drop_are (suc n) (x ∷ xs) h k = drop_are n xs (λ j. h (suc j)) k

-- one list of bytes written over a part of another
pub splice_are : (at : ℕ) (new old : List ℕ) → AreBytes new → AreBytes old → AreBytes (splice at new old)
unfolding splice
splice_are at new old hn ho = append_are (take at old) (new ++ drop (at + length new) old) (take_are at old ho) (append_are new (drop (at + length new) old) hn (drop_are (at + length new) old ho))

pub map_are : (f : ℕ → ℕ) (n : ℕ) → ((k : ℕ) → f k < 256) → AreBytes (map f (range_with_len 0 n))
map_are f n h k = elim (cases_lt k n) [
  | inl lt ↦ rw (get_or-map-range_with_len f 0 n k k 0 lt (omega arith)) (h k)
  | inr past ↦ rw (get_or_past (map f (range_with_len 0 n)) k 0 (omega (arith, length-map-range_with_len f 0 n))) (lit< tt)
]

-- one of two bytes
pub either_is : (b : Bool) (x y : ℕ) → x < 256 → y < 256 → (if b then x else y) < 256
either_is true x y hx hy = hx
either_is false x y hx hy = hy
