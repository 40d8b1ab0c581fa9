-- Numbers as a command line spells them.
use Rattle.std.proofs.Common.{◌≡◌, ℕ, ◌<◌, ◌^◌, List, [], ◌∷◌, length, Some, Result, Ok, Err, decimal, refl, sym, ap, ◌∙◌, arith}
use Rattle.std.proofs.lemmas.Bool.{ne_eqb}
use Rattle.std.proofs.lemmas.Fmt.{decimal-digits_value}
use Rattle.std.proofs.lemmas.Str.Parse.{numerals_by_value, tells_digits}
use Rattle.std.specs.Prelude.{slice_get}
use Rattle.std.specs.Result.{result_ok}
use Rattle.std.specs.Str.Parse.{IsNumeral, ParsesUnsigned, digits_value, without_leading_plus}

-- a number that std reads, with no sign and no needless zero in front
plain_digits : (bs : List ℕ) (n first : ℕ) → IsNumeral 10 (without_leading_plus bs) × (digits_value 10 (without_leading_plus bs) < 2 ^ 64) → n ≡ digits_value 10 (without_leading_plus bs) → Some first ≡ slice_get bs 0 → (first ≡ 43 → ⊥) → (first ≡ 48 → length bs ≡ 1) → bs ≡ decimal n
plain_digits [] n first read is at unsigned plain = absurd (omega (arith, read.0.0))
plain_digits (b ∷ bs) n first read is at unsigned plain =
    let same : b ≡ first = cc in
    let whole : without_leading_plus (b ∷ bs) ≡ b ∷ bs = rw (ne_eqb b 43 (λ e. unsigned (sym same ∙ e))) refl in
    let read' = rw whole at read in
    sym (ap decimal (is ∙ ap (digits_value 10) whole) ∙ decimal-digits_value (numerals_by_value _ tells_digits) (b ∷ bs) read'.0.1 read'.0.0 (λ e. plain (sym same ∙ e)) read'.1)

pub plain_number : {E : Type 0} (bs : List ℕ) (r : Result ℕ E) (n first : ℕ) → ParsesUnsigned 64 10 bs r → Some n ≡ result_ok r → Some first ≡ slice_get bs 0 → (first ≡ 43 → ⊥) → (first ≡ 48 → length bs ≡ 1) → bs ≡ decimal n
plain_number bs (Ok m) n first read is at unsigned plain = let e : n ≡ m = cc in plain_digits bs n first read.0 (e ∙ read.1) at unsigned plain
plain_number bs (Err e) n first read is at unsigned plain = absurd cc
