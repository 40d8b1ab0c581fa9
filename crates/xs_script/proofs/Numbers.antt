-- The text of a number, read by std.
use Rattle.std.proofs.Common.{◌≡◌, ℕ, ◌<◌, ◌^◌, List, Result, Ok, Err, ap, arith, decimal}
use Rattle.std.specs.Result.{result_unwrap_or}
use Rattle.std.specs.Str.Parse.{IsNumeral, digits_value, without_leading_plus}
use Rattle.std.proofs.lemmas.Fmt.{parse-decimal}

-- what std reads as a 32-bit number
abbrev pub IsParsed : List ℕ → Type 0
IsParsed bs = IsNumeral 10 (without_leading_plus bs) × (digits_value 10 (without_leading_plus bs) < 2 ^ 32)

-- what std reads of a number's text is the number
pub parsed_decimal : (n x : ℕ) (bs : List ℕ) → n < 2 ^ 32 → bs ≡ decimal n → IsParsed bs × (x ≡ digits_value 10 (without_leading_plus bs)) → x ≡ n
parsed_decimal n x bs small e h =
    ap (λ (r : Result ℕ ℕ). result_unwrap_or r 0) (parse-decimal 32 n bs (Ok x) small (omega arith) e h)

-- std reads each number's text
pub unparsed_decimal : (n : ℕ) (bs : List ℕ) → n < 2 ^ 32 → bs ≡ decimal n → ¬ (IsParsed bs) → ⊥
unparsed_decimal n bs small e h =
    cc (parse-decimal {E = ℕ} 32 n bs (Err 0) small (omega arith) e h)
