-- When files are the same.
use Rattle.std.proofs.Common.{◌≡◌, ℕ, ◌<◌, true, List, [], ◌++◌, length, get_or, take, refl, sym, ap, ◌∙◌, inl, inr, arith, lit<}
use Rattle.std.proofs.lemmas.Bool.{cases_Bool, cases_eq, cases_lt, le-ltb}
use Rattle.std.proofs.lemmas.List.{ext_get_or, get_or-take, get_or_append_left, length-set, length-take-le}
use Rattle.std.proofs.lemmas.Nat.{le_bytes_4}
use Rattle.std.specs.Int.{to_le_bytes, w32}
use Rattle.xs_base.specs.Component.{component_count}
use Rattle.xs_base.specs.Bytes.{zeros, splice}
use Rattle.xs_base.specs.File.{File, IsFile, part, is_own, pkru_bytes, pkru_of, with_pkru}
use Rattle.xs_base.proofs.ByteRangeLemmas.{AreBytes, take_are}
use Rattle.xs_base.proofs.ComponentLemmas.{length_zeros, pkru_size}
use Rattle.xs_base.proofs.FileLemmas.{part_here, part_other, pkru_clean, pkru_length, splice_whole}

-- a component has the bytes that belong to registers of another file, and zeros
pub same_part : (from new : File) (c : ℕ) → IsFile from → IsFile new → c < component_count
    → ((k : ℕ) → is_own c k ≡ true → get_or (part new c) k 0 ≡ get_or (part from c) k 0) → part new c ≡ part from c
same_part from new c old good known own =
    ext_get_or 0 (part new c) (part from c) (good.sizes c known ∙ sym (old.sizes c known)) (λ k lt. elim (cases_Bool (is_own c k)) [
      | inl is ↦ own k is
      | inr isnt ↦ good.clean c k isnt ∙ sym (old.clean c k isnt)
    ])

-- files of the same components
pub same_file : (a b : File) → IsFile a → IsFile b → a.rows ≡ b.rows → ((c : ℕ) → c < component_count → part a c ≡ part b c) → a.mxcsr ≡ b.mxcsr → a ≡ b
same_file a b one other rows parts control =
    let size : length a.parts ≡ length b.parts = one.count ∙ sym other.count in
    let all : a.parts ≡ b.parts = ext_get_or [] a.parts b.parts size (λ c lt. parts c (rw one.count at lt)) in
    rw (rows, all, control) refl

-- the bytes of a file's PKRU are those of its number
pub own_bytes : (file : File) → IsFile file → AreBytes (part file 9) → part file 9 ≡ pkru_bytes (pkru_of file)
own_bytes file good small =
    let size = good.sizes 9 (lit< tt) in
    let first : length (take 4 (part file 9)) ≡ 4 = length-take-le 4 (part file 9) (omega (arith, size ∙ pkru_size)) in
    let four : to_le_bytes w32 (pkru_of file) ≡ take 4 (part file 9) = le_bytes_4 (take 4 (part file 9)) (pkru_of file) first (take_are 4 (part file 9) small) refl in
    ext_get_or 0 (part file 9) (pkru_bytes (pkru_of file)) (size ∙ sym (pkru_length (pkru_of file)))
    (λ k lt. elim (cases_lt k 4) [
      | inl low ↦ sym (ap (λ (bs : List ℕ). get_or (bs ++ zeros 4) k 0) four ∙ get_or_append_left (take 4 (part file 9)) (zeros 4) 0 k (omega arith) ∙ get_or-take 4 (part file 9) k 0 low)
      | inr high ↦ good.clean 9 k (le-ltb k 4 high) ∙ sym (pkru_clean (pkru_of file) k (le-ltb k 4 high))
    ])

-- A file that has another one's components but for PKRU, and is given its PKRU and its MXCSR, is the other one.
pub file_copied : (from to new : File) (value : ℕ) → IsFile from → IsFile new → AreBytes (part from 9) → to.rows ≡ from.rows
    → ((d : ℕ) → d < component_count → (d ≡ 9 → ⊥) → part to d ≡ part from d) → value ≡ pkru_of from
    → new ≡ record (with_pkru to value) { mxcsr = from.mxcsr } → new ≡ from
file_copied from to new value old good small rows parts own is =
    same_file new from good old (ap (λ (f : File). f.rows) is ∙ rows) each (ap (λ (f : File). f.mxcsr) is)
  where
    count : length to.parts ≡ component_count
    count = sym (length-set to.parts 9 (pkru_bytes value)) ∙ sym (ap (λ (f : File). length f.parts) is) ∙ good.count

    each : (c : ℕ) → c < component_count → part new c ≡ part from c
    each c known = elim (cases_eq c 9) [
      | inl nine ↦ rw nine (ap (λ (f : File). part f 9) is ∙ part_here to 9 (pkru_bytes value) (omega (arith, count)) ∙ ap pkru_bytes own ∙ sym (own_bytes from old small))
      | inr other ↦ ap (λ (f : File). part f c) is ∙ part_other to 9 c (pkru_bytes value) other ∙ parts c known other
    ]

-- zeros over all bytes
pub all_zeros : (old new : List ℕ) (n : ℕ) → length old ≡ n → new ≡ splice 0 (zeros n) old → new ≡ zeros n
all_zeros old new n size is = is ∙ splice_whole (zeros n) old (length_zeros n ∙ sym size)
