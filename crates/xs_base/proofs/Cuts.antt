-- Texts cut at a byte that is nowhere before the cut.
use Rattle.std.proofs.Common.{◌≡◌, ℕ, List, [], ◌∷◌, ◌++◌, refl}
use Rattle.xs_base.specs.Bytes.{Lacks}

-- A text is cut at the first such byte in one way.
pub one_cut : (byte : ℕ) (a b x y : List ℕ) → Lacks byte a → Lacks byte b → a ++ byte ∷ x ≡ b ++ byte ∷ y → (a ≡ b) × (x ≡ y)
one_cut byte [] [] x y la lb e = (refl, cc)
one_cut byte [] (c ∷ b) x y la lb e = let same : c ≡ byte = cc in absurd (lb.0 same)
one_cut byte (c ∷ a) [] x y la lb e = let same : c ≡ byte = cc in absurd (la.0 same)
one_cut byte (c ∷ a) (d ∷ b) x y la lb e =
    let tail : a ++ byte ∷ x ≡ b ++ byte ∷ y = cc in
    let head : c ≡ d = cc in
    let r = one_cut byte a b x y la.1 lb.1 tail in
    let same = r.0 in
    (cc, r.1)

-- A text without the byte has no cut.
pub no_cut : (byte : ℕ) (bytes a x : List ℕ) → Lacks byte bytes → bytes ≡ a ++ byte ∷ x → ⊥
no_cut byte [] [] x l e = cc
no_cut byte [] (c ∷ a) x l e = cc
no_cut byte (b ∷ bytes) [] x l e = let same : b ≡ byte = cc in l.0 same
no_cut byte (b ∷ bytes) (c ∷ a) x l e =
    let tail : bytes ≡ a ++ byte ∷ x = cc in
    no_cut byte bytes a x l.1 tail
