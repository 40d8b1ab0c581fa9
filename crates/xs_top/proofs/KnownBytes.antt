-- What two writes, one after the other, do to known bytes.
use Rattle.std.proofs.Common.{◌≡◌, ℕ, List, [], ◌∷◌, ◌++◌, None, Some, refl, sym, ap, ◌∙◌, append_assoc}
use Rattle.std.specs.Prelude.{Option}
use Rattle.std.specs.Io.KnownBytes.{Appends}
use Rattle.xs_outside.specs.Outside.{AppendsFront}

-- Two writes append the bytes of the first and then those of the second.
pub Appends_then : (a b c : Option (List ℕ)) (xs ys : List ℕ)
    → Appends a b xs → Appends b c ys → Appends a c (xs ++ ys)
Appends_then None b c xs ys p q = tt
Appends_then (Some x) None c xs ys p q = absurd p
Appends_then (Some x) (Some y) None xs ys p q = absurd q
Appends_then (Some x) (Some y) (Some z) xs ys p q = q ∙ ap (λ l. l ++ ys) p ∙ append_assoc x xs ys

-- A text and then a front of another are a front of the two.
pub AppendsFront_then : (a b c : Option (List ℕ)) (xs ys : List ℕ)
    → Appends a b xs → AppendsFront b c ys → AppendsFront a c (xs ++ ys)
AppendsFront_then a b c xs ys p q =
    (xs ++ q.0, q.1, ap (λ l. xs ++ l) q.2 ∙ sym (append_assoc xs q.0 q.1), Appends_then a b c xs q.0 p q.3, q.4)

-- what begins with some bytes isn't empty
append_some : (xs ys : List ℕ) → (xs ≡ [] → ⊥) → xs ++ ys ≡ [] → ⊥
append_some [] ys some e = some refl
append_some (x ∷ xs) ys some e = cc e

-- A front of a text is one of the longer text.
pub AppendsFront_more : (a b : Option (List ℕ)) (xs ys : List ℕ) → AppendsFront a b xs → AppendsFront a b (xs ++ ys)
AppendsFront_more a b xs ys p = (p.0, p.1 ++ ys, ap (λ l. l ++ ys) p.2 ∙ append_assoc p.0 p.1 ys, p.3, append_some p.1 ys p.4)
