-- The digits of bytes in pieces.
use Rattle.std.proofs.Common.{◌≡◌, ℕ, ◌+◌, ◌-◌, ◌*◌, ◌/◌, ◌%◌, ◌<◌, ◌≤◌, List, [], ◌∷◌, ◌++◌, length, take, drop, slice_index, refl, ap, sym, ◌∙◌, arith, append_assoc, append-nil, take-append-drop, length-append}
use Rattle.std.proofs.lemmas.List.{take_rest, drop_all}
use Rattle.hex.specs.Hex.{encode_lower, encode_with, lower_digits}
use Rattle.hex.proofs.HexLemmas.{length-encode_with}
use Rattle.hex.proofs.Pairs.{encode_with-drop}

-- the digits of two pieces joined
pub encode_append : (t xs ys : List ℕ) → encode_with t (xs ++ ys) ≡ encode_with t xs ++ encode_with t ys
unfolding encode_with
encode_append t [] ys = refl
encode_append t (x ∷ xs) ys = ap (λ ds. slice_index t (x / 16) ∷ slice_index t (x % 16) ∷ ds) (encode_append t xs ys)

-- the digits of a front and of the rest
encode_cut : (n : ℕ) (xs : List ℕ) → encode_lower xs ≡ encode_lower (take n xs) ++ encode_lower (drop n xs)
encode_cut n xs = ap encode_lower (sym (take-append-drop n xs)) ∙ encode_append lower_digits (take n xs) (drop n xs)

-- the digits of a front, then those of the rest
pub piece_more : (n : ℕ) (line digits rest all new : List ℕ) → new ≡ line ++ digits → digits ≡ encode_lower (take n rest)
    → line ++ encode_lower rest ≡ all → new ++ encode_lower (take (length rest - n) (drop n rest)) ≡ all
piece_more n line digits rest all new put is so_far =
    ap (λ l. l ++ encode_lower (take (length rest - n) (drop n rest))) put
    ∙ append_assoc line digits (encode_lower (take (length rest - n) (drop n rest)))
    ∙ ap (λ ds. line ++ ds)
    (ap (λ xs. digits ++ encode_lower xs) (take_rest rest n) ∙ ap (λ ds. ds ++ encode_lower (drop n rest)) is ∙ sym (encode_cut n rest))
    ∙ so_far

-- there is room for those of the rest
pub piece_room : (n : ℕ) (line digits rest new : List ℕ) → new ≡ line ++ digits → digits ≡ encode_lower (take n rest) → n ≤ length rest
    → length line + 2 * length rest ≤ 192 → length new + 2 * length (take (length rest - n) (drop n rest)) ≤ 192
piece_room n line digits rest new put is fits room =
    let a : length new ≡ length line + length digits = ap length put ∙ length-append line digits in
    let b : length digits ≡ 2 * length (take n rest) = ap length is ∙ length-encode_with lower_digits (take n rest) in
    let c : length rest ≡ length (take n rest) + length (drop n rest) = ap length (sym (take-append-drop n rest)) ∙ length-append (take n rest) (drop n rest) in
    let d : length (take (length rest - n) (drop n rest)) ≡ length (drop n rest) = ap length (take_rest rest n) in
    omega (arith, a, b, c, d)

-- the digits of one byte, then those of the rest
pub byte_more : (line rest all new : List ℕ) (i high low : ℕ) → new ≡ line ++ high ∷ low ∷ [] → i < length rest
    → high ≡ slice_index lower_digits (slice_index rest i / 16) → low ≡ slice_index lower_digits (slice_index rest i % 16)
    → line ++ encode_lower (drop i rest) ≡ all → new ++ encode_lower (drop (i + 1) rest) ≡ all
byte_more line rest all new i high low put lt h l so_far =
    ap (λ ds. ds ++ encode_lower (drop (i + 1) rest)) put
    ∙ append_assoc line (high ∷ low ∷ []) (encode_lower (drop (i + 1) rest))
    ∙ ap (λ ds. line ++ ds) (ap (λ d. d ∷ low ∷ encode_lower (drop (i + 1) rest)) h ∙ ap (λ d. slice_index lower_digits (slice_index rest i / 16) ∷ d ∷ encode_lower (drop (i + 1) rest)) l ∙ sym (encode_with-drop lower_digits rest i lt))
    ∙ so_far

-- after the last byte all digits are there
pub bytes_done : (line rest all : List ℕ) (i : ℕ) → length rest ≤ i → line ++ encode_lower (drop i rest) ≡ all → line ≡ all
unfolding encode_with
bytes_done line rest all i le so_far = rw (drop_all i rest le, append-nil) at so_far

-- there is room for those of the rest
pub byte_room : (line rest new : List ℕ) (i high low : ℕ) → new ≡ line ++ high ∷ low ∷ [] → i < length rest
    → length line + 2 * (length rest - i) ≤ 192 → length new + 2 * (length rest - (i + 1)) ≤ 192
byte_room line rest new i high low put lt room = omega (arith, ap length put, length-append line (high ∷ low ∷ []))
