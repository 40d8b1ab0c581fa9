-- PKRU's component, as its number and as its bytes.
use Rattle.std.proofs.Common.{◌≡◌, ℕ, ◌+◌, ◌-◌, ◌<◌, List, [], ◌++◌, take, drop, length, get_or, set, false, sym, ap, ◌∙◌, inl, inr, arith}
use Rattle.std.proofs.lemmas.Bool.{cases_lt, le-ltb}
use Rattle.std.proofs.lemmas.List.{get_or_past, ext_get_or, length-take, length-take-le, length-drop, get_or-take, get_or-drop, take-append-drop, set-get_or}
use Rattle.std.proofs.lemmas.Nat.{le_bytes_4}
use Rattle.std.specs.Int.{to_le_bytes, w32}
use Rattle.xs_base.specs.Bytes.{zeros}
use Rattle.xs_base.specs.File.{File, IsFile, part, with_pkru, pkru_of, is_own}
use Rattle.xs_base.proofs.ComponentLemmas.{length_zeros, zero_at, pkru_size}

-- a file with its own PKRU is that file
pub own_pkru : (file : File) (value : ℕ) → IsFile file → ((k : ℕ) → get_or (part file 9) k 0 < 256) → value ≡ pkru_of file → with_pkru file value ≡ file
own_pkru file value h bytes is =
    let size : length (part file 9) ≡ 8 = h.sizes 9 (omega arith) ∙ pkru_size in
    let first : length (take 4 (part file 9)) ≡ 4 = length-take-le 4 (part file 9) (omega arith) in
    let four : to_le_bytes w32 value ≡ take 4 (part file 9) = le_bytes_4 (take 4 (part file 9)) value first (λ i. small i) is in
    let after : length (drop 4 (part file 9)) ≡ 4 = length-drop 4 (part file 9) ∙ ap (λ n. n - 4) size in
    let rest : zeros 4 ≡ drop 4 (part file 9) = ext_get_or 0 (zeros 4) (drop 4 (part file 9)) (length_zeros 4 ∙ sym after) (λ i lt. zero_at 4 i ∙ sym (get_or-drop 4 (part file 9) i 0 ∙ h.clean 9 (4 + i) (high i))) in
    ap (λ (ps : List (List ℕ)). record file { parts = ps }) (ap (set file.parts 9) (ap (λ (bs : List ℕ). bs ++ zeros 4) four ∙ ap (λ (bs : List ℕ). take 4 (part file 9) ++ bs) rest ∙ take-append-drop 4 (part file 9)) ∙ set-get_or file.parts 9 [])
  where
    small : (i : ℕ) → get_or (take 4 (part file 9)) i 0 < 256
    small i = elim (cases_lt i 4) [
      | inl low ↦ rw (get_or-take 4 (part file 9) i 0 low) (bytes i)
      | inr past ↦ let len = length-take 4 (part file 9) in rw (get_or_past (take 4 (part file 9)) i 0 (omega (arith, len))) (omega arith)
    ]

    high : (i : ℕ) → is_own 9 (4 + i) ≡ false
    high i = le-ltb (4 + i) 4 (omega arith)
