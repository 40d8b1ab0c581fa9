-- Texts that begin with a word and the byte that ends it.
use Rattle.std.proofs.Common.{◌≡◌, ℕ, ◌≤◌, List, [], ◌∷◌, ◌++◌, refl, sym, ◌∙◌, arith, length, ap, ◌+◌, ◌<◌, length-append}
use Rattle.xs_base.specs.Bytes.{Lacks}
use Rattle.xs_base.proofs.Cuts.{one_cut}
use Rattle.xs_text.proofs.SpacedWords.{AllAbove}

-- bytes above one that is at least this lack it
pub lacks_above : (byte c : ℕ) (bytes : List ℕ) → byte ≤ c → AllAbove c bytes → Lacks byte bytes
lacks_above byte c [] le h = tt
lacks_above byte c (b ∷ bytes) le h = (λ e. absurd (omega (arith, h.0)), lacks_above byte c bytes le h.1)

-- What comes after the first word of a text, which has one.
pub next_words : (end c : ℕ) (bytes a b x y : List ℕ) → end ≤ c → AllAbove c a → AllAbove c b → bytes ≡ a ++ end ∷ x → bytes ≡ b ++ end ∷ y → (a ≡ b) × (x ≡ y)
next_words end c bytes a b x y le h k e f = one_cut end a b x y (lacks_above end c a le h) (lacks_above end c b le k) (sym e ∙ f)

-- A text that begins with bytes above the one that ends another's first word begins with a front of that word.
pub front_of : (c end : ℕ) (a b x y : List ℕ) → AllAbove c a → end ≤ c → a ++ x ≡ b ++ end ∷ y → (ys : List ℕ) × (b ≡ a ++ ys) × (x ≡ ys ++ end ∷ y)
front_of c end [] b x y h le e = (b, refl, e)
front_of c end (p ∷ a) [] x y h le e = let same : p ≡ end = cc in absurd (omega (arith, h.0))
front_of c end (p ∷ a) (q ∷ b) x y h le e =
    let first : p ≡ q = cc in
    let tails : a ++ x ≡ b ++ end ∷ y = cc in
    let (ys, is, rest) = front_of c end a b x y h.1 le tails in
    (ys, cc, rest)

-- the text after a word is shorter
pub shorter : (end : ℕ) (bytes word rest : List ℕ) → bytes ≡ word ++ end ∷ rest → length rest < length bytes
shorter end bytes word rest e =
    let long : length bytes ≡ length word + length (end ∷ rest) = ap length e ∙ length-append word (end ∷ rest) in
    omega arith
