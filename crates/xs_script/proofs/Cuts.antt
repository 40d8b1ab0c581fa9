-- Texts cut at a byte that is nowhere before the cut.
use Rattle.std.proofs.Common.{◌≡◌, ℕ, ◌<◌, ◌^◌, ◌&&◌, ◌/◌, ◌%◌, nat_le, Bool, true, false, List, [], ◌∷◌, ◌++◌, refl, sym, ◌∙◌, arith, codes, decimal, length, slice_index, Some, None, eq-eqb}
use Rattle.std.specs.Prelude.{nat_lt}
use Rattle.std.specs.List.{list_all, AllByRecursion}
use Rattle.std.specs.Str.Parse.{AllDigits}
use Rattle.std.proofs.lemmas.Bool.{and_parts, ne_eqb}
use Rattle.std.proofs.lemmas.Fmt.{decimal_is_IsNumeral}
use Rattle.std.proofs.lemmas.Str.Parse.{digit_from_value}
use Rattle.hex.specs.Hex.{hex_digit_value, encode_with, encode_lower, lower_digits}
use Rattle.hex.proofs.HexLemmas.{IsDigits-lower_digits}
use Rattle.xs_base.specs.declared.words.Set.{Set}
use Rattle.xs_base.specs.declared.words.Set.TheVariants as sets
use Rattle.xs_model.specs.Script.{is_name, is_letter, is_letter_or_digit}
use Rattle.xs_script.specs.ScriptLine.{set_word, is_register_byte, is_register_word}
use Rattle.xs_base.specs.Bytes.{Lacks}
use Rattle.xs_script.specs.Refusal.{before}

-- joined texts lack a byte
pub Lacks-append : (byte : ℕ) (a b : List ℕ) → Lacks byte a → Lacks byte b → Lacks byte (a ++ b)
Lacks-append byte [] b la lb = lb
Lacks-append byte (x ∷ a) b la lb = (la.0, Lacks-append byte a b la.1 lb)

-- the bytes before the first such byte
pub before_cut : (byte : ℕ) (a x : List ℕ) → Lacks byte a → before byte (a ++ byte ∷ x) ≡ a
before_cut byte [] x l = let t = eq-eqb byte byte refl in rw t refl
before_cut byte (c ∷ a) x l = let t = ne_eqb c byte l.0 in rw (t, before_cut byte a x l.1) refl

-- and where there is none
pub before_all : (byte : ℕ) (a : List ℕ) → Lacks byte a → before byte a ≡ a
before_all byte [] l = refl
before_all byte (c ∷ a) l = let t = ne_eqb c byte l.0 in rw (t, before_all byte a l.1) refl

-- digits lack each byte that is no digit
Lacks-digits : (byte : ℕ) (ds : List ℕ) → byte < 48 → AllDigits 10 ds → Lacks byte ds
Lacks-digits byte [] small h = tt
Lacks-digits byte (c ∷ ds) small h =
    let range = digit_from_value c h.0 in
    (λ e. absurd (omega (arith, range.0)), Lacks-digits byte ds small h.1)

-- so do decimal numbers
pub Lacks-decimal : (byte n : ℕ) → byte < 48 → n < 2 ^ 64 → Lacks byte (decimal n)
Lacks-decimal byte n small fits = Lacks-digits byte (decimal n) small (decimal_is_IsNumeral n fits).0.1

-- bytes that pass a test lack each byte that doesn't
pub Lacks-passing : (byte : ℕ) (test : ℕ → Bool) (bs : List ℕ) → test byte ≡ false → list_all test bs ≡ true → Lacks byte bs
Lacks-passing byte test [] other h = tt
Lacks-passing byte test (b ∷ bs) other h =
    let parts = and_parts (test b) (list_all test bs) h in
    (λ e. let t = rw e at parts.0 in cc (sym t ∙ other), Lacks-passing byte test bs other parts.1)

-- names lack each byte that is no letter and no digit
pub Lacks-name : (byte : ℕ) (name : List ℕ) → is_letter byte ≡ false → is_letter_or_digit byte ≡ false → is_name name ≡ true → Lacks byte name
Lacks-name byte [] letter other h = tt
Lacks-name byte (b ∷ bs) letter other h =
    let outer = and_parts (is_letter b && list_all is_letter_or_digit bs) (nat_le (length bs) 15) h in
    let parts = and_parts (is_letter b) (list_all is_letter_or_digit bs) outer.0 in
    (λ e. let t = rw e at parts.0 in cc (sym t ∙ letter), Lacks-passing byte is_letter_or_digit bs other parts.1)

-- so do the words of register sets
pub Lacks-set : (byte : ℕ) (set : Set) → is_letter byte ≡ false → is_letter_or_digit byte ≡ false → Lacks byte (set_word set)
Lacks-set byte sets.Xstate letter other = Lacks-name byte (codes "xstate") letter other refl
Lacks-set byte sets.Fx letter other = Lacks-name byte (codes "fx") letter other refl

-- so do the words of registers, of each byte that is no point either
pub Lacks-register : (byte : ℕ) (word : List ℕ) → is_register_byte byte ≡ false → is_register_word word ≡ true → Lacks byte word
Lacks-register byte word other h =
    let outer = and_parts (list_all is_register_byte word && nat_lt 0 (length word)) (nat_le (length word) 16) h in
    let parts = and_parts (list_all is_register_byte word) (nat_lt 0 (length word)) outer.0 in
    Lacks-passing byte is_register_byte word other parts.0

-- a digit of the hex table is none but such a byte
digit_is_digit : (byte d : ℕ) → hex_digit_value byte ≡ None → d < 16 → slice_index lower_digits d ≡ byte → ⊥
digit_is_digit byte d other small e =
    let v = rw e at (IsDigits-lower_digits d small) in
    let n : Some d ≡ None = sym v ∙ other in
    cc n

-- hex text lacks each byte that is no hex digit
pub Lacks-hex : (byte : ℕ) (bytes : List ℕ) → hex_digit_value byte ≡ None → AllByRecursion (λ b. b < 256) bytes → Lacks byte (encode_lower bytes)
unfolding encode_with
Lacks-hex byte [] other h = tt
Lacks-hex byte (b ∷ bytes) other h =
    let fits = h.0 in
    let high : b / 16 < 16 = omega arith in
    let low : b % 16 < 16 = omega arith in
    (digit_is_digit byte (b / 16) other high, (digit_is_digit byte (b % 16) other low, Lacks-hex byte bytes other h.1))
