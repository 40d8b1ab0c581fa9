-- Words and lines are cut where they were joined.
use Rattle.std.proofs.Common.{◌≡◌, ℕ, ◌<◌, ◌≤◌, ◌^◌, true, List, [], ◌∷◌, ◌++◌, refl, sym, arith}
use Rattle.std.specs.Prelude.{nat_lt, decimal}
use Rattle.std.specs.List.{AllByRecursion, list_all}
use Rattle.std.specs.Str.Parse.{AllDigits}
use Rattle.std.specs.Char.{digit_value}
use Rattle.std.proofs.lemmas.Bool.{and_parts}
use Rattle.std.proofs.lemmas.Bool.Decides.{nat_tests}
use Rattle.std.proofs.lemmas.Fmt.{decimal_is_IsNumeral}
use Rattle.xs_text.specs.Text.{words}

-- each byte is above c
abbrev pub AllAbove : ℕ → List ℕ → Type 0
AllAbove c bytes = AllByRecursion (λ n. c < n) bytes

-- each of the lists has only bytes above the space
abbrev pub AreWords : List (List ℕ) → Type 0
AreWords more = AllByRecursion (λ word. AllAbove 32 word) more

-- Two lists that are cut at the first c are cut alike.
pub cut_same : (c : ℕ) (a b x y : List ℕ) → AllAbove c a → AllAbove c b → a ++ c ∷ x ≡ b ++ c ∷ y → (a ≡ b) × (x ≡ y)
cut_same c [] [] x y h k e = (refl, cc)
cut_same c [] (q ∷ b) x y h k e = let same : c ≡ q = cc in absurd (omega arith)
cut_same c (p ∷ a) [] x y h k e = let same : p ≡ c = cc in absurd (omega arith)
cut_same c (p ∷ a) (q ∷ b) x y h k e =
    let first : p ≡ q = cc in
    let tails : a ++ c ∷ x ≡ b ++ c ∷ y = cc in
    let rest = cut_same c a b x y h.1 k.1 tails in
    (cc (first, rest.0), rest.1)

-- A list of bytes above c has no c.
pub no_cut : (c : ℕ) (a b y : List ℕ) → AllAbove c a → a ≡ b ++ c ∷ y → ⊥
no_cut c [] [] y h e = cc
no_cut c [] (q ∷ b) y h e = cc
no_cut c (p ∷ a) [] y h e = let same : p ≡ c = cc in omega arith
no_cut c (p ∷ a) (q ∷ b) y h e = no_cut c a b y h.1 cc

-- Words joined by spaces are the same words.
pub words_same : (a b : List ℕ) (more others : List (List ℕ)) → AllAbove 32 a → AllAbove 32 b → AreWords more → AreWords others
    → words a more ≡ words b others → (a ≡ b) × (more ≡ others)
words_same a b [] [] h k hs ks e = (e, refl)
words_same a b [] (y ∷ ys) h k hs ks e = absurd (no_cut 32 a b (words y ys) h e)
words_same a b (x ∷ xs) [] h k hs ks e = absurd (no_cut 32 b a (words x xs) k (sym e))
words_same a b (x ∷ xs) (y ∷ ys) h k hs ks e =
    let cut = cut_same 32 a b (words x xs) (words y ys) h k e in
    let rest = words_same x y xs ys hs.0 ks.0 hs.1 ks.1 cut.1 in
    (cut.0, cc (rest.0, rest.1))

-- what is above d is above what is below d
pub above_less : (c d : ℕ) (bytes : List ℕ) → c ≤ d → AllAbove d bytes → AllAbove c bytes
above_less c d [] le h = tt
above_less c d (x ∷ xs) le h = (omega arith, above_less c d xs le h.1)

-- what is above c in two lists is so in both joined
pub above_append : (c : ℕ) (a b : List ℕ) → AllAbove c a → AllAbove c b → AllAbove c (a ++ b)
above_append c [] b h k = k
above_append c (x ∷ xs) b h k = (h.0, above_append c xs b h.1 k)

-- words joined by spaces have no line feed
pub above_words : (first : List ℕ) (more : List (List ℕ)) → AllAbove 32 first → AreWords more → AllAbove 10 (words first more)
above_words first [] h hs = above_less 10 32 first (omega arith) h
above_words first (x ∷ xs) h hs =
    above_append 10 first (32 ∷ words x xs) (above_less 10 32 first (omega arith) h) (omega arith, above_words x xs hs.0 hs.1)

-- a test of two numbers
below_from_test : (c x : ℕ) → nat_lt c x ≡ true → c < x
below_from_test c x h = grind (arith, nat_tests)

-- the bytes of a literal, by a test that computes
pub above_literal : (c : ℕ) (bytes : List ℕ) → list_all (nat_lt c) bytes ≡ true → AllAbove c bytes
above_literal c [] h = tt
above_literal c (x ∷ xs) h =
    let parts = and_parts (nat_lt c x) (list_all (nat_lt c) xs) h in
    (below_from_test c x parts.0, above_literal c xs parts.1)

-- a decimal digit is at least 48
digit_above : (c : ℕ) → digit_value c < 10 → 47 < c
digit_above c h = grind (arith, nat_tests)

-- decimal digits are at least 48
above_digits : (ds : List ℕ) → AllDigits 10 ds → AllAbove 47 ds
above_digits [] h = tt
above_digits (c ∷ cs) h = (digit_above c h.0, above_digits cs h.1)

-- a number's digits
pub above_decimal : (n : ℕ) → n < 2 ^ 64 → AllAbove 47 (decimal n)
above_decimal n h = above_digits (decimal n) (decimal_is_IsNumeral n h).0.1
