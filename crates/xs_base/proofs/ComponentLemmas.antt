-- One component written into bytes: what is cleaned, what is initial, and that bytes 24 to 31 stay.
use Rattle.std.proofs.Common.{◌≡◌, ℕ, ◌+◌, ◌-◌, ◌*◌, ◌%◌, ◌<◌, ◌≤◌, Bool, true, false, not, ◌&&◌, ◌||◌, ◌==◌, nat_le, nat_lt, List, [], ◌∷◌, ◌++◌, length, get_or, if◌then◌else◌, refl, sym, ap, ◌∙◌, inl, inr, arith, length-append}
use Rattle.std.proofs.lemmas.Bool.{cases_Bool, cases_lt, cases_eq, ne_eqb}
use Rattle.std.proofs.lemmas.Bool.Decides.{nat_tests}
use Rattle.std.proofs.lemmas.Grind.{same_number_lists}
use Rattle.std.proofs.lemmas.List.{get_or-replicate, get_or_past, length-replicate, get_or-append_right, get_or_append_left}
use Rattle.std.proofs.lemmas.List.Edits.{length-between, get_or-between}
use Rattle.std.specs.Prelude.{slice_range}
use Rattle.xs_base.specs.Bytes.{zeros, splice, is_within}
use Rattle.xs_base.specs.Component.{component_size, initial_part, sizes}
use Rattle.xs_base.specs.File.{is_own}
use Rattle.xs_base.specs.Standard.{IsWritten, IsCleaned}
use Rattle.xs_base.proofs.ByteLemmas.{length_splice, splice_byte, splice_inside, within_tells}

-- ---- zeros

pub length_zeros : (n : ℕ) → length (zeros n) ≡ n
unfolding zeros
length_zeros n = length-replicate n 0

pub zero_at : (n i : ℕ) → get_or (zeros n) i 0 ≡ 0
unfolding zeros
zero_at n i = elim (cases_lt i n) [ inl low ↦ get_or-replicate n i 0 0 low | inr high ↦ get_or_past (zeros n) i 0 (omega (arith, length_zeros n)) ]

-- any byte where some were made zero
pub cleared_byte : (at n : ℕ) (old : List ℕ) (i : ℕ) → at + n ≤ length old → get_or (splice at (zeros n) old) i 0 ≡ (if is_within at n i then 0 else get_or old i 0)
cleared_byte at n old i fits =
    let fits' : at + length (zeros n) ≤ length old = omega (arith, length_zeros n) in
    rw (splice_byte at (zeros n) old i fits', length_zeros n, zero_at n (i - at)) refl

-- ---- sizes

pub x87_size : component_size 0 ≡ 160
unfolding component_size sizes
x87_size = refl

pub sse_size : component_size 1 ≡ 256
unfolding component_size sizes
sse_size = refl

pub pkru_size : component_size 9 ≡ 8
unfolding component_size sizes
pkru_size = refl

-- ---- cleaning

-- Byte k of component 0 belongs to no register, where of the ST slots only those before slot `slot` are looked at. The
-- slots are counted from byte 0 on.
abbrev pub is_loose : ℕ → ℕ → Bool
is_loose slot k = (k == 5) || is_within 24 8 k || (nat_lt k (16 * slot) && (nat_le 32 k && nat_le 10 (k % 16)))

pub record IsCleanedTo (at slot : ℕ) (old new : List ℕ) : Type 0 where
  pub len : length new ≡ length old
  pub each : (i : ℕ) → get_or new i 0 ≡ (if is_within at 160 i && is_loose slot (i - at) then 0 else get_or old i 0)

-- before the first slot
pub cleaned_first : (at : ℕ) (old : List ℕ) → at + 160 ≤ length old → IsCleanedTo at 2 old (splice (at + 24) (zeros 8) (splice (at + 5) (zeros 1) old))
cleaned_first at old fits =
    let one = splice (at + 5) (zeros 1) old in
    let l1 : length one ≡ length old = length_splice (at + 5) (zeros 1) old (omega (arith, length_zeros 1)) in
    record {
      len = length_splice (at + 24) (zeros 8) one (omega (arith, length_zeros 8)) ∙ l1;
      each = λ i. each i (cleared_byte (at + 24) 8 one i (omega arith)) (cleared_byte (at + 5) 1 old i (omega arith));
    }
  where
    each : (i : ℕ) → {a b : ℕ} → a ≡ (if is_within (at + 24) 8 i then 0 else b) → b ≡ (if is_within (at + 5) 1 i then 0 else get_or old i 0) → a ≡ (if is_within at 160 i && is_loose 2 (i - at) then 0 else get_or old i 0)
    each i e f = grind (arith, nat_tests)

-- one slot more
pub cleaned_more : (at slot : ℕ) (old new : List ℕ) → at + 160 ≤ length old → 2 ≤ slot → slot < 10 → IsCleanedTo at slot old new → IsCleanedTo at (slot + 1) old (splice (at + 16 * slot + 10) (zeros 6) new)
cleaned_more at slot old new fits low high h =
    record {
      len = length_splice (at + 16 * slot + 10) (zeros 6) new (omega (arith, length_zeros 6, h.len)) ∙ h.len;
      each = λ i. each i (cleared_byte (at + 16 * slot + 10) 6 new i (omega (arith, h.len))) (h.each i);
    }
  where
    each : (i : ℕ) → {a b : ℕ} → a ≡ (if is_within (at + 16 * slot + 10) 6 i then 0 else b) → b ≡ (if is_within at 160 i && is_loose slot (i - at) then 0 else get_or old i 0) → a ≡ (if is_within at 160 i && is_loose (slot + 1) (i - at) then 0 else get_or old i 0)
    each i e f = grind (arith, nat_tests)

-- every slot was looked at
pub cleaned_all : (at slot : ℕ) (old new : List ℕ) → slot ≡ 10 → IsCleanedTo at slot old new → IsCleaned at 0 old new
cleaned_all at slot old new last h = record { len = h.len; each = λ i. h.each i ∙ rw last (same i) }
  where
    loose : (a b c d e : Bool) → (e ≡ true) → (a || b || (e && (c && d))) ≡ not (not a && not b && not (c && d))
    loose true b c d e h = refl
    loose false true c d e h = refl
    loose false false c d e h = rw h (twice (c && d))
      where
        twice : (b : Bool) → b ≡ not (not b)
        twice true = refl
        twice false = refl

    same : (i : ℕ) → (if is_within at 160 i && is_loose 10 (i - at) then 0 else get_or old i 0) ≡ (if is_within at (component_size 0) i && not (is_own 0 (i - at)) then 0 else get_or old i 0)
    same i = rw x87_size (elim (cases_Bool (is_within at 160 i)) [
      | inl inside ↦
          let tells = within_tells at 160 i inside in
          let low : nat_lt (i - at) 160 ≡ true = grind (arith, nat_tests) in
          rw (inside, loose (i - at == 5) (is_within 24 8 (i - at)) (nat_le 32 (i - at)) (nat_le 10 ((i - at) % 16)) (nat_lt (i - at) 160) low) refl
      | inr outside ↦ rw outside refl
    ])

-- PKRU
pub cleaned_pkru : (at : ℕ) (old : List ℕ) → at + 8 ≤ length old → IsCleaned at 9 old (splice (at + 4) (zeros 4) old)
cleaned_pkru at old fits = record {
  len = length_splice (at + 4) (zeros 4) old (omega (arith, length_zeros 4));
  each = λ i. cleared_byte (at + 4) 4 old i (omega arith) ∙ rw pkru_size (same i);
}
  where
    same : (i : ℕ) → (if is_within (at + 4) 4 i then 0 else get_or old i 0) ≡ (if is_within at 8 i && not (is_own 9 (i - at)) then 0 else get_or old i 0)
    same i = grind (arith, nat_tests)

-- ---- bytes 24 to 31 stay

-- what stands there before is put back
pub kept_control : (at n : ℕ) (byte : ℕ → ℕ) (old mid control : List ℕ) → 32 ≤ length old → length mid ≡ length old → control ≡ slice_range old 24 32 → ((i : ℕ) → get_or mid i 0 ≡ (if is_within at n i then byte (i - at) else get_or old i 0)) → IsWritten at n byte old (splice 24 control mid)
kept_control at n byte old mid control long len same each =
    let eight : length control ≡ 8 = rw same (length-between old 24 32 long) in
    let byte_of : (j : ℕ) → j < 8 → get_or control j 0 ≡ get_or old (24 + j) 0 = λ j lt. rw same (get_or-between old 24 32 j 0 (omega arith)) in
    record {
      len = length_splice 24 control mid (omega arith) ∙ len;
      each = λ i. elim (cases_Bool (is_within 24 8 i)) [
        | inl inside ↦
            let tells = within_tells 24 8 i inside in
            let back : 24 + (i - 24) ≡ i = omega arith in
            splice_inside 24 control mid i (omega arith) (omega arith) (omega arith) ∙ byte_of (i - 24) (omega arith) ∙ ap (λ k. get_or old k 0) back ∙ rw inside (left (is_within at n i) (byte (i - at)) (get_or old i 0))
        | inr outside ↦ rw (splice_byte 24 control mid i (omega arith), eight, outside) (each i ∙ right (is_within at n i) (byte (i - at)) (get_or old i 0))
      ];
    }
  where
    left : (b : Bool) (x y : ℕ) → y ≡ (if b && not true then x else y)
    left true x y = refl
    left false x y = refl

    right : (b : Bool) (x y : ℕ) → (if b then x else y) ≡ (if b && not false then x else y)
    right true x y = refl
    right false x y = refl

-- a component was written over, cleaned, and bytes 24 to 31 put back
pub component_put : (at c : ℕ) (bytes old mid control : List ℕ) → length bytes ≡ component_size c → at + length bytes ≤ length old → 32 ≤ length old → control ≡ slice_range old 24 32 → IsCleaned at c (splice at bytes old) mid → IsWritten at (length bytes) (λ k. if is_own c k then get_or bytes k 0 else 0) old (splice 24 control mid)
component_put at c bytes old mid control size fits long same cleaned =
    kept_control at (length bytes) (λ k. if is_own c k then get_or bytes k 0 else 0) old mid control long (cleaned.len ∙ length_splice at bytes old fits) same
    (λ i. cleaned.each i ∙ rw (← size) (rw (splice_byte at bytes old i fits) (both (is_within at (length bytes) i) (is_own c (i - at)) (get_or bytes (i - at) 0) (get_or old i 0))))
  where
    both : (a b : Bool) (x y : ℕ) → (if a && not b then 0 else (if a then x else y)) ≡ (if a then (if b then x else 0) else y)
    both true true x y = refl
    both true false x y = refl
    both false b x y = refl

-- an initial component was written, and bytes 24 to 31 put back
pub initial_put : (at n c : ℕ) (old control : List ℕ) → length (initial_part c) ≡ n → at + n ≤ length old → 32 ≤ length old → control ≡ slice_range old 24 32 → IsWritten at n (λ k. get_or (initial_part c) k 0) old (splice 24 control (splice at (initial_part c) old))
initial_put at n c old control size fits long same =
    let fits' : at + length (initial_part c) ≤ length old = omega (arith, size) in
    kept_control at n (λ k. get_or (initial_part c) k 0) old (splice at (initial_part c) old) control long (length_splice at (initial_part c) old fits') same
    (λ i. splice_byte at (initial_part c) old i fits' ∙ rw size refl)

-- ---- initial configurations

-- one list and another right behind it
pub splice_behind : (at : ℕ) (a b old : List ℕ) → at + length a + length b ≤ length old → splice (at + length a) b (splice at a old) ≡ splice at (a ++ b) old
splice_behind at a b old fits =
    let one = splice at a old in
    let l1 : length one ≡ length old = length_splice at a old (omega arith) in
    let ab : length (a ++ b) ≡ length a + length b = length-append a b in
    same_number_lists (splice (at + length a) b one) (splice at (a ++ b) old)
    (length_splice (at + length a) b one (omega arith) ∙ l1 ∙ sym (length_splice at (a ++ b) old (omega arith)))
    (λ i lt. rw (splice_byte (at + length a) b one i (omega arith), splice_byte at a old i (omega arith), splice_byte at (a ++ b) old i (omega arith), ab) (each i))
  where
    each : (i : ℕ) → (if is_within (at + length a) (length b) i then get_or b (i - (at + length a)) 0 else (if is_within at (length a) i then get_or a (i - at) 0 else get_or old i 0)) ≡ (if is_within at (length a + length b) i then get_or (a ++ b) (i - at) 0 else get_or old i 0)
    each i =
        let low : i - at < length a → get_or (a ++ b) (i - at) 0 ≡ get_or a (i - at) 0 = λ h. get_or_append_left a b 0 (i - at) h in
        let same : i - at - length a ≡ i - (at + length a) = omega arith in
        let high : length a ≤ i - at → get_or (a ++ b) (i - at) 0 ≡ get_or b (i - (at + length a)) 0 = λ h. get_or-append_right a b (length a) (i - at) 0 refl h ∙ ap (λ k. get_or b k 0) same in
        grind (arith, nat_tests)

pub initial_x87 : initial_part 0 ≡ (0x7f ∷ 0x03 ∷ []) ++ zeros 158
unfolding initial_part
initial_x87 = refl

pub initial_other : (c : ℕ) → (c ≡ 0 → ⊥) → initial_part c ≡ zeros (component_size c)
unfolding initial_part
initial_other c other = rw (ne_eqb c 0 other) refl

-- an initial component has its size
pub length_initial : (c : ℕ) → length (initial_part c) ≡ component_size c
length_initial c = elim (cases_eq c 0) [
  | inl zero ↦ rw zero (ap length initial_x87 ∙ (omega (arith, length_zeros 158) ∙ sym x87_size))
  | inr other ↦ ap length (initial_other c other) ∙ length_zeros (component_size c)
]

pub x87_is : (c size : ℕ) → c ≡ 0 → size ≡ component_size c → size ≡ 160
x87_is c size zero is = is ∙ (ap component_size zero ∙ x87_size)

-- FCW, and zeros behind it
pub initial_x87_written : (at c size : ℕ) (old : List ℕ) → c ≡ 0 → size ≡ component_size c → at + size ≤ length old → splice (at + 2) (zeros (size - 2)) (splice at (0x7f ∷ 0x03 ∷ []) old) ≡ splice at (initial_part c) old
initial_x87_written at c size old zero is fits =
    let many : size ≡ 160 = x87_is c size zero is in
    let left : size - 2 ≡ 158 = omega arith in
    rw (left, zero, initial_x87) (splice_behind at (0x7f ∷ 0x03 ∷ []) (zeros 158) old (omega (arith, length_zeros 158)))

pub initial_other_written : (at c size : ℕ) (old : List ℕ) → (c ≡ 0 → ⊥) → size ≡ component_size c → splice at (zeros size) old ≡ splice at (initial_part c) old
initial_other_written at c size old other is = rw (is, initial_other c other) refl
