-- What two writes, one after the other, do to known bytes.
use Rattle.std.proofs.Common.{◌≡◌, ℕ, List, [], ◌∷◌, ◌++◌, None, Some, refl, ap, sym, ◌∙◌, append_assoc}
use Rattle.std.specs.Prelude.{Option}
use Rattle.std.specs.Io.KnownBytes.{Appends}
use Rattle.xs_outside.specs.Outside.{Output, Writes, FailsIn}

appends_then : (a b c : Option (List ℕ)) (xs ys : List ℕ) → Appends a b xs → Appends b c ys → Appends a c (xs ++ ys)
appends_then None b c xs ys p q = tt
appends_then (Some x) None c xs ys p q = absurd p
appends_then (Some x) (Some y) None xs ys p q = absurd q
appends_then (Some x) (Some y) (Some z) xs ys p q = q ∙ ap (λ l. l ++ ys) p ∙ append_assoc x xs ys

-- what begins with some bytes isn't empty
some_first : (xs ys : List ℕ) → (xs ≡ [] → ⊥) → xs ++ ys ≡ [] → ⊥
some_first [] ys some e = some refl
some_first (x ∷ xs) ys some e = cc e

-- Two texts are written whole.
pub writes_both : (before between after : Output) (xs ys : List ℕ) → Writes before between xs → Writes between after ys → Writes before after (xs ++ ys)
writes_both before between after xs ys p q = record {
  whole = appends_then before.written between.written after.written xs ys p.whole q.whole;
  unfailed = q.unfailed ∙ p.unfailed;
}

-- A write failed in the second of two texts, or in the first.
pub fails_in_second : (before between after : Output) (xs ys : List ℕ) → Writes before between xs → FailsIn between after ys → FailsIn before after (xs ++ ys)
fails_in_second before between after xs ys p q =
    let front = q.front in
    record {
      front = (xs ++ front.0, front.1, ap (λ l. xs ++ l) front.2 ∙ sym (append_assoc xs front.0 front.1), appends_then before.written between.written after.written xs front.0 p.whole front.3, front.4);
      failed = rw (← p.unfailed) q.failed;
    }

pub fails_in_first : (before after : Output) (xs ys : List ℕ) → FailsIn before after xs → FailsIn before after (xs ++ ys)
fails_in_first before after xs ys p =
    let front = p.front in
    record {
      front = (front.0, front.1 ++ ys, ap (λ l. l ++ ys) front.2 ∙ append_assoc front.0 front.1 ys, front.3, some_first front.1 ys front.4);
      failed = p.failed;
    }
