-- The digits of a number, read one by one.
use Rattle.std.proofs.Common.{◌≡◌, ℕ, ◌+◌, ◌-◌, ◌*◌, ◌/◌, ◌%◌, ◌<◌, ◌≤◌, ◌^◌, List, [], ◌∷◌, ◌++◌, length, take, decimal, refl, sym, ap, subst, ◌∙◌, inl, inr, eq-zero-or-pos, arith}
use Rattle.std.specs.List.{AllByRecursion}
use Rattle.std.specs.Str.Parse.{AllDigits, digits_value}
use Rattle.std.proofs.lemmas.List.{append_assoc}
use Rattle.std.proofs.lemmas.Fmt.{decimal_digit, decimal_step, decimal_is_IsNumeral, first_decimal, decimal_nonempty}
use Rattle.std.proofs.lemmas.Str.Parse.{digit_from_value, digits_value-take-le}
use Rattle.xs_text.specs.Reading.{IsNumber, NoneRead}
use Rattle.xs_text.proofs.SpacedWords.{above_decimal}
use Rattle.xs_text.proofs.Cuts.{front_of}

-- each byte is a decimal digit
abbrev AreDigits : List ℕ → Type 0
AreDigits ds = AllByRecursion (λ d. (48 ≤ d) × (d < 58)) ds

are_digits : (ds : List ℕ) → AllDigits 10 ds → AreDigits ds
are_digits [] h = tt
are_digits (c ∷ ds) h =
    let range = digit_from_value c h.0 in
    ((omega (arith, range.0), omega (arith, range.1)), are_digits ds h.1)

-- a number's text
digits_of : (n : ℕ) → IsNumber n → AreDigits (decimal n)
digits_of n small = are_digits (decimal n) (decimal_is_IsNumeral n (omega arith)).0.1

-- the later ones of digits
later_digits : (xs ys : List ℕ) → AreDigits (xs ++ ys) → AreDigits ys
later_digits [] ys h = h
later_digits (x ∷ xs) ys h = later_digits xs ys h.1

-- no digit is the first byte of the text
abbrev pub NoDigit : List ℕ → Type 0
NoDigit bytes = (digit : ℕ) (rest : List ℕ) → digit < 10 → bytes ≡ (48 + digit) ∷ rest → ⊥

-- one digit more
pub decimal_push : (n d : ℕ) → 0 < n → n < 2 ^ 32 → d < 10 → decimal (10 * n + d) ≡ decimal n ++ (48 + d) ∷ []
decimal_push n d some small digit =
    let front : (10 * n + d) / 10 ≡ n = omega arith in
    let last : (10 * n + d) % 10 ≡ d = omega arith in
    decimal_step (10 * n + d) (omega arith) (omega arith) ∙ rw (front, last) refl

-- the text of digits so far with one more
pub pushed : (n d : ℕ) (bytes left rest : List ℕ) → 0 < n → n < 2 ^ 32 → d < 10 → bytes ≡ decimal n ++ left → left ≡ (48 + d) ∷ rest → bytes ≡ decimal (10 * n + d) ++ rest
pushed n d bytes left rest some small digit e f =
    rw (decimal_push n d some small digit, append_assoc) (e ∙ ap (λ (t : List ℕ). decimal n ++ t) f)

front_taken : (xs ys : List ℕ) → take (length xs) (xs ++ ys) ≡ xs
front_taken [] ys = refl
front_taken (x ∷ xs) ys = ap (λ (t : List ℕ). x ∷ t) (front_taken xs ys)

-- a number whose digits another's begin with is at most that
front_le : (m n : ℕ) (ys : List ℕ) → m < 2 ^ 64 → n < 2 ^ 64 → decimal n ≡ decimal m ++ ys → m ≤ n
front_le m n ys fm fn e =
    let mine = (decimal_is_IsNumeral m fm).1 in
    let other = (decimal_is_IsNumeral n fn).1 in
    let taken : take (length (decimal m)) (decimal n) ≡ decimal m = rw e (front_taken (decimal m) ys) in
    let le = digits_value-take-le 10 (decimal n) (length (decimal m)) (omega arith) in
    let same = ap (digits_value 10) taken in
    omega (arith, mine, other, le, same)

-- A number whose text begins with more digits than 32 bits have is none.
pub too_large : (end n d : ℕ) (bytes left rest : List ℕ) → end ≤ 32 → 0 < n → n < 2 ^ 32 → d < 10 → 2 ^ 32 ≤ 10 * n + d → bytes ≡ decimal n ++ left → left ≡ (48 + d) ∷ rest → NoneRead decimal IsNumber end bytes
too_large end n d bytes left rest low some small digit large e f x more fits g =
    let all = pushed n d bytes left rest some small digit e f in
    let (ys, is, back) = front_of 47 end (decimal (10 * n + d)) (decimal x) rest more (above_decimal (10 * n + d) (omega arith)) (omega arith) (sym all ∙ g) in
    let le = front_le (10 * n + d) x ys (omega arith) (omega arith) is in
    omega (arith, le, fits, large)

-- What comes after digits and is no digit comes after the number.
pub after_digits : (end n x : ℕ) (bytes left more : List ℕ) → end ≤ 32 → n < 2 ^ 32 → IsNumber x → bytes ≡ decimal n ++ left → NoDigit left → bytes ≡ decimal x ++ end ∷ more → left ≡ end ∷ more
after_digits end n x bytes left more low small fits e none g =
    let (ys, is, back) = front_of 47 end (decimal n) (decimal x) left more (above_decimal n (omega arith)) (omega arith) (sym e ∙ g) in
    by_rest ys (later_digits (decimal n) ys (subst AreDigits is (digits_of x fits))) back
  where
    by_rest : (ys : List ℕ) → AreDigits ys → left ≡ ys ++ end ∷ more → left ≡ end ∷ more
    by_rest [] h back = back
    by_rest (y ∷ ys) h back =
        let digit : 48 + (y - 48) ≡ y = omega (arith, h.0.0) in
        absurd (none (y - 48) (ys ++ end ∷ more) (omega (arith, h.0.1)) (back ∙ ap (λ (d : ℕ). d ∷ (ys ++ end ∷ more)) (sym digit)))

-- a number's text begins with a digit
starts : (x : ℕ) → IsNumber x → (d : ℕ) × (ds : List ℕ) × (d < 10) × (decimal x ≡ (48 + d) ∷ ds)
starts x fits = by_digits (decimal x) refl (digits_of x fits)
  where
    by_digits : (ds : List ℕ) → decimal x ≡ ds → AreDigits ds → (d : ℕ) × (more : List ℕ) × (d < 10) × (decimal x ≡ (48 + d) ∷ more)
    by_digits [] e h = let some = decimal_nonempty x (omega arith) in absurd (omega (arith, ap length e, some))
    by_digits (c ∷ ds) e h =
        let digit : 48 + (c - 48) ≡ c = omega (arith, h.0.0) in
        (c - 48, ds, omega (arith, h.0.1), e ∙ ap (λ (d : ℕ). d ∷ ds) (sym digit))

-- A text that begins with no digit begins with no number.
pub no_number : (end : ℕ) (bytes : List ℕ) → NoDigit bytes → NoneRead decimal IsNumber end bytes
no_number end bytes none x more fits e =
    let (d, ds, digit, is) = starts x fits in
    none d (ds ++ end ∷ more) digit (e ∙ ap (λ (t : List ℕ). t ++ end ∷ more) is)

-- the digit of a number of one digit
pub one_digit : (d : ℕ) (bytes rest : List ℕ) → d < 10 → bytes ≡ (48 + d) ∷ rest → bytes ≡ decimal d ++ rest
one_digit d bytes rest digit e = e ∙ sym (ap (λ (t : List ℕ). t ++ rest) (decimal_digit d digit))

-- a number whose text begins with a 0 is 0
no_zero : (x : ℕ) (ds : List ℕ) → IsNumber x → decimal x ≡ 48 ∷ ds → x ≡ 0
no_zero x ds fits e = elim (eq-zero-or-pos x) [
  | inl none ↦ none
  | inr some ↦
      let first = rw e at (first_decimal x some (omega arith)) in
      absurd (omega (arith, first))
]

-- After a 0 comes the byte that ends the number.
pub after_zero : (end d : ℕ) (bytes rest : List ℕ) → d ≡ 0 → bytes ≡ (48 + d) ∷ rest → ((more : List ℕ) → rest ≡ end ∷ more → ⊥) → NoneRead decimal IsNumber end bytes
after_zero end d bytes rest none_is e none x more fits g =
    let (f, ds, digit, is) = starts x fits in
    let both : (48 + d) ∷ rest ≡ ((48 + f) ∷ ds) ++ end ∷ more = sym e ∙ g ∙ ap (λ (t : List ℕ). t ++ end ∷ more) is in
    let first : 48 + d ≡ 48 + f = cc in
    let tail : rest ≡ ds ++ end ∷ more = cc in
    let front : 48 + f ≡ 48 = omega (arith, first, none_is) in
    let x_is : x ≡ 0 = no_zero x ds fits (is ∙ ap (λ (b : ℕ). b ∷ ds) front) in
    let short : decimal x ≡ 48 ∷ [] = ap decimal x_is ∙ decimal_digit 0 (omega arith) in
    let both_digits : (48 + f) ∷ ds ≡ 48 ∷ [] = sym is ∙ short in
    let last : ds ≡ [] = cc in
    none more (tail ∙ ap (λ (t : List ℕ). t ++ end ∷ more) last)

-- the number 0, read
pub zero_read : (end d : ℕ) (bytes rest more : List ℕ) → d ≡ 0 → bytes ≡ (48 + d) ∷ rest → rest ≡ end ∷ more → bytes ≡ decimal 0 ++ end ∷ more
zero_read end d bytes rest more none_is e f =
    e ∙ ap (λ (n : ℕ). (48 + n) ∷ rest) none_is ∙ ap (λ (t : List ℕ). 48 ∷ t) f ∙ sym (ap (λ (t : List ℕ). t ++ end ∷ more) (decimal_digit 0 (omega arith)))
