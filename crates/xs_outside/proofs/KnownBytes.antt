-- What two reads or two writes, one after the other, do to known bytes.
use Rattle.std.proofs.Common.{◌≡◌, ℕ, List, [], ◌∷◌, ◌++◌, take, drop, None, Some, refl, sym, ap, ◌∙◌, append_assoc, take-append-drop, rules, ◌-◌, length}
use Rattle.std.proofs.lemmas.Grind.{common_steps}
use Rattle.std.specs.Prelude.{Option}
use Rattle.std.specs.Io.KnownBytes.{Appends, Consumes}
use Rattle.xs_outside.specs.Outside.{AppendsFront}

-- Two reads consume the bytes of the first and then those of the second.
pub Consumes_then : (a b c : Option (List ℕ)) (xs ys : List ℕ)
    → Consumes a b xs → Consumes b c ys → Consumes a c (xs ++ ys)
Consumes_then None b c xs ys p q = tt
Consumes_then (Some x) None c xs ys p q = absurd p
Consumes_then (Some x) (Some y) None xs ys p q = absurd q
Consumes_then (Some x) (Some y) (Some z) xs ys p q = p ∙ ap (λ l. xs ++ l) q ∙ sym (append_assoc xs ys z)

-- Two writes append the bytes of the first and then those of the second.
pub Appends_then : (a b c : Option (List ℕ)) (xs ys : List ℕ)
    → Appends a b xs → Appends b c ys → Appends a c (xs ++ ys)
Appends_then None b c xs ys p q = tt
Appends_then (Some x) None c xs ys p q = absurd p
Appends_then (Some x) (Some y) None xs ys p q = absurd q
Appends_then (Some x) (Some y) (Some z) xs ys p q = q ∙ ap (λ l. l ++ ys) p ∙ append_assoc x xs ys

-- A text and then a front of another are a front of the two.
AppendsFront_then : (a b c : Option (List ℕ)) (xs ys : List ℕ)
    → Appends a b xs → AppendsFront b c ys → AppendsFront a c (xs ++ ys)
AppendsFront_then a b c xs ys p q =
    (xs ++ q.0, q.1, ap (λ l. xs ++ l) q.2 ∙ sym (append_assoc xs q.0 q.1), Appends_then a b c xs q.0 p q.3, q.4)

-- what begins with some bytes isn't empty
append_some : (xs ys : List ℕ) → (xs ≡ [] → ⊥) → xs ++ ys ≡ [] → ⊥
append_some [] ys some e = some refl
append_some (x ∷ xs) ys some e = cc e

-- A front of a text is one of the longer text.
AppendsFront_more : (a b : Option (List ℕ)) (xs ys : List ℕ) → AppendsFront a b xs → AppendsFront a b (xs ++ ys)
AppendsFront_more a b xs ys p = (p.0, p.1 ++ ys, ap (λ l. l ++ ys) p.2 ∙ append_assoc p.0 p.1 ys, p.3, append_some p.1 ys p.4)

-- A front that grew by a line leaves what comes after it.
pub front_then : (text front rest line more : List ℕ) → text ≡ front ++ rest → rest ≡ line ++ more → text ≡ (front ++ line) ++ more
front_then text front rest line more e f = e ∙ ap (λ l. front ++ l) f ∙ sym (append_assoc front line more)

-- Where the write of a line failed behind a front of the text, a front of the text was written.
pub fails_within : (a b c : Option (List ℕ)) (text front rest line more : List ℕ) → text ≡ front ++ rest → rest ≡ line ++ more → Appends a b front → AppendsFront b c line → AppendsFront a c text
fails_within a b c text front rest line more e f written fails =
    let lines = AppendsFront_then a b c front line written fails in
    rw (front_then text front rest line more e f) (AppendsFront_more a c (front ++ line) more lines)

-- A front that grew by n bytes of the rest leaves the rest after them.
pub front_more : (text front rest : List ℕ) (n : ℕ) → text ≡ front ++ rest
    → text ≡ (front ++ take n rest) ++ take (length rest - n) (drop n rest)
front_more text front rest n e =
    let all : take (length rest - n) (drop n rest) ≡ drop n rest = search (rules, common_steps) in
    let cut = ap (λ l. front ++ l) (sym (take-append-drop n rest)) in
    let joined = sym (append_assoc front (take n rest) (drop n rest)) in
    e ∙ cut ∙ joined ∙ ap (λ l. (front ++ take n rest) ++ l) (sym all)
