-- Which texts are the lower-case hex of some bytes: those of an even number of its digits.
use Rattle.std.proofs.Common.{◌≡◌, ℕ, ◌+◌, ◌*◌, ◌/◌, ◌%◌, ◌<◌, ◌≤◌, zero, suc, ◌&&◌, ◌||◌, ◌==◌, not, nat_lt, Bool, true, List, [], ◌∷◌, length, slice_index, slice_set, take, refl, ◌∙◌, arith, length-take-le, inl, inr, eqb-true}
use Rattle.std.specs.List.{list_all, AllByRecursion}
use Rattle.std.proofs.lemmas.Bool.{and_parts, cases_lt}
use Rattle.std.proofs.lemmas.List.{get_or-set_same, get_or-set_other, get_or-take}
use Rattle.std.proofs.lemmas.Bool.Decides.{nat_tests}
use Rattle.hex.specs.Hex.{encode_with, encode_lower, lower_digits}
use Rattle.hex.proofs.HexLemmas.{length-encode_with}
use Rattle.xs_script.specs.Parts.{is_lower_digit, is_hex_text, digit_value, IsSpelledBy}

-- a test of each number below n
abbrev all_below : (ℕ → Bool) → ℕ → Bool
all_below p zero = true
all_below p (suc n) = p n && all_below p n

-- so one number passes
at_below : (p : ℕ → Bool) (n k : ℕ) → all_below p n ≡ true → k < n → p k ≡ true
at_below p zero k h lt = absurd (omega arith)
at_below p (suc n) k h lt =
    let parts = and_parts (p n) (all_below p n) h in
    elim (cases_lt k n) [
      | inl below ↦ at_below p n k parts.1 below
      | inr top ↦
          let e : k ≡ n = omega arith in
          rw e parts.0
    ]

abbrev is_value_of : ℕ → Bool
is_value_of c = not (is_lower_digit c) || ((slice_index lower_digits (digit_value c) == c) && nat_lt (digit_value c) 16)

-- a digit is that of its value
pub value_is : (c : ℕ) → is_lower_digit c ≡ true → (digit_value c < 16) × (slice_index lower_digits (digit_value c) ≡ c)
value_is c h =
    let small : c < 128 = grind (arith, nat_tests) in
    let t = rw h at (at_below is_value_of 128 c refl small) in
    let parts = and_parts (slice_index lower_digits (digit_value c) == c) (nat_lt (digit_value c) 16) t in
    (below (digit_value c) parts.1, eqb-true (slice_index lower_digits (digit_value c)) c parts.0)
  where
    below : (v : ℕ) → nat_lt v 16 ≡ true → v < 16
    below v t = grind (arith, nat_tests)

-- the digit of a value
digit_is : (v : ℕ) → v < 16 → is_lower_digit (slice_index lower_digits v) ≡ true
digit_is v small = at_below (λ v. is_lower_digit (slice_index lower_digits v)) 16 v refl small

-- the byte of two values
byte_of : (h l : ℕ) → h < 16 → l < 16 → (h * 16 + l < 256) × ((h * 16 + l) / 16 ≡ h) × ((h * 16 + l) % 16 ≡ l)
byte_of h l fh fl = (omega arith, omega arith, omega arith)

-- the bytes that an even number of digits spells
pub hex_bytes : (ds : List ℕ) → list_all is_lower_digit ds ≡ true → length ds % 2 ≡ 0 → (bs : List ℕ) × AllByRecursion (λ byte. byte < 256) bs × (ds ≡ encode_lower bs)
unfolding encode_with
hex_bytes [] h even = ([], tt, refl)
hex_bytes (x ∷ []) h even = cc
hex_bytes (x ∷ (y ∷ ds)) h even =
    let px = and_parts (is_lower_digit x) (is_lower_digit y && list_all is_lower_digit ds) h in
    let py = and_parts (is_lower_digit y) (list_all is_lower_digit ds) px.1 in
    let vx = value_is x px.0 in
    let vy = value_is y py.0 in
    let b = byte_of (digit_value x) (digit_value y) vx.0 vy.0 in
    let rest = hex_bytes ds py.1 (omega arith) in
    let first : slice_index lower_digits ((digit_value x * 16 + digit_value y) / 16) ≡ x = rw b.1 vx.1 in
    let second : slice_index lower_digits ((digit_value x * 16 + digit_value y) % 16) ≡ y = rw b.2 vy.1 in
    ((digit_value x * 16 + digit_value y) ∷ rest.0, (b.0, rest.1), cc (first, second, rest.2))

-- the text of bytes has digits alone
digits_of : (bs : List ℕ) → AllByRecursion (λ byte. byte < 256) bs → list_all is_lower_digit (encode_lower bs) ≡ true
unfolding encode_with
digits_of [] h = refl
digits_of (b ∷ bs) h =
    let fits = h.0 in
    let high = digit_is (b / 16) (omega arith) in
    let low = digit_is (b % 16) (omega arith) in
    let more = digits_of bs h.1 in
    rw (high, low, more) refl

-- an even number is one
even_twice : (n : ℕ) → ((2 * n) % 2 == 0) ≡ true
even_twice n = let e : (2 * n) % 2 ≡ 0 = omega arith in rw e refl

-- so it is hex text
pub hex_text : (bs : List ℕ) → AllByRecursion (λ byte. byte < 256) bs → is_hex_text (encode_lower bs) ≡ true
hex_text bs h =
    let digits = digits_of bs h in
    let long : length (encode_lower bs) ≡ 2 * length bs = length-encode_with lower_digits bs in
    rw (digits, long, even_twice (length bs)) refl

-- hex text is that of some bytes
pub hex_text_bytes : (ds : List ℕ) → is_hex_text ds ≡ true → (bs : List ℕ) × AllByRecursion (λ byte. byte < 256) bs × (ds ≡ encode_lower bs)
hex_text_bytes ds h =
    let parts = and_parts (list_all is_lower_digit ds) (length ds % 2 == 0) h in
    hex_bytes ds parts.0 (eqb-true (length ds % 2) 0 parts.1)

-- ---- decoding

-- each byte is that of its two digits
abbrev pub AreDecoded : List ℕ → List ℕ → Type 0
AreDecoded bs ds = (k : ℕ) → k < length bs → slice_index bs k ≡ 16 * digit_value (slice_index ds (2 * k)) + digit_value (slice_index ds (2 * k + 1))

later_decoded : (b x y : ℕ) (bs ds : List ℕ) → AreDecoded (b ∷ bs) (x ∷ (y ∷ ds)) → AreDecoded bs ds
later_decoded b x y bs ds h k below =
    let first : 2 * suc k ≡ suc (suc (2 * k)) = omega arith in
    let second : suc (suc (2 * k)) + 1 ≡ suc (suc (2 * k + 1)) = omega arith in
    rw (first, second) at (h (suc k) (omega arith))

-- such bytes are those that the text spells
pub decoded : (ds bs : List ℕ) → list_all is_lower_digit ds ≡ true → length ds ≡ 2 * length bs → AreDecoded bs ds → IsSpelledBy bs ds
unfolding encode_with
decoded [] [] h long each = record { spelled = refl; fits = tt }
decoded [] (b ∷ bs) h long each = absurd (omega arith)
decoded (x ∷ ds) [] h long each = absurd (omega arith)
decoded (x ∷ []) (b ∷ bs) h long each = absurd (omega arith)
decoded (x ∷ (y ∷ ds)) (b ∷ bs) h long each =
    let px = and_parts (is_lower_digit x) (is_lower_digit y && list_all is_lower_digit ds) h in
    let py = and_parts (is_lower_digit y) (list_all is_lower_digit ds) px.1 in
    let vx = value_is x px.0 in
    let vy = value_is y py.0 in
    let here : b ≡ 16 * digit_value x + digit_value y = each 0 (omega arith) in
    let high : b / 16 ≡ digit_value x = omega (arith, here, vx.0, vy.0) in
    let low : b % 16 ≡ digit_value y = omega (arith, here, vx.0, vy.0) in
    let first : slice_index lower_digits (b / 16) ≡ x = rw high vx.1 in
    let second : slice_index lower_digits (b % 16) ≡ y = rw low vy.1 in
    let rest = decoded ds bs py.1 (omega arith) (later_decoded b x y bs ds each) in
    record { spelled = cc (first, second, rest.spelled); fits = (omega (arith, here, vx.0, vy.0), rest.fits) }

-- one byte more
pub decoded_more : (bs ds : List ℕ) (i byte : ℕ) → i < length bs → byte ≡ 16 * digit_value (slice_index ds (2 * i)) + digit_value (slice_index ds (2 * i + 1)) → ((k : ℕ) → k < i → slice_index bs k ≡ 16 * digit_value (slice_index ds (2 * k)) + digit_value (slice_index ds (2 * k + 1))) → (k : ℕ) → k < i + 1 → slice_index (slice_set bs i byte) k ≡ 16 * digit_value (slice_index ds (2 * k)) + digit_value (slice_index ds (2 * k + 1))
decoded_more bs ds i byte room is before k below = elim (cases_lt k i) [
  | inl less ↦ get_or-set_other bs i k byte 0 (λ e. omega arith) ∙ before k less
  | inr top ↦
      let same : k ≡ i = omega arith in
      rw same (get_or-set_same bs i byte 0 room ∙ is)
]

-- the bytes so far
pub decoded_taken : (bs ds : List ℕ) (n : ℕ) → n ≤ length bs → ((k : ℕ) → k < n → slice_index bs k ≡ 16 * digit_value (slice_index ds (2 * k)) + digit_value (slice_index ds (2 * k + 1))) → AreDecoded (take n bs) ds
decoded_taken bs ds n room h k below =
    let long : length (take n bs) ≡ n = length-take-le n bs room in
    let under : k < n = omega (arith, long) in
    get_or-take n bs k 0 under ∙ h k under

-- hex text and its bytes, each by its two digits
pub spelled_taken : (ds bs : List ℕ) (i : ℕ) → is_hex_text ds ≡ true → length bs ≡ 64 → length ds ≤ 128 → length ds / 2 ≤ i → ((k : ℕ) → k < i → slice_index bs k ≡ 16 * digit_value (slice_index ds (2 * k)) + digit_value (slice_index ds (2 * k + 1))) → IsSpelledBy (take (length ds / 2) bs) ds
spelled_taken ds bs i hex room short over h =
    let parts = and_parts (list_all is_lower_digit ds) (length ds % 2 == 0) hex in
    let even = eqb-true (length ds % 2) 0 parts.1 in
    let long : length (take (length ds / 2) bs) ≡ length ds / 2 = length-take-le (length ds / 2) bs (omega arith) in
    decoded ds (take (length ds / 2) bs) parts.0 (omega (arith, long)) (decoded_taken bs ds (length ds / 2) (omega arith) (λ k below. h k (omega arith)))
