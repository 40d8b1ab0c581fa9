-- A frame's XSTATE_BV.
use Rattle.std.proofs.Common.{◌≡◌, ℕ, ◌<◌, ◌==◌, ◌^◌, Bool, true, false, not, ◌&&◌, ◌||◌, List, ◌++◌, length, get_or, take, refl, sym, ap, ◌∙◌, inl, inr, bit_and, if◌then◌else◌, arith, lit<}
use Rattle.std.proofs.lemmas.Bool.{ne_eqb, cases_Bool, cases_eq, cases_lt, le-ltb}
use Rattle.std.proofs.lemmas.List.{ext_get_or, get_or_append_left, get_or-take, length-take-le}
use Rattle.std.proofs.lemmas.Nat.{from_le_bytes-to_le_bytes_4, le_bytes_4}
use Rattle.std.proofs.lemmas.Slice.Eq.{bytes_eq-Decides}
use Rattle.std.specs.Int.{from_le_bytes, to_le_bytes, w32}
use Rattle.std.specs.Prelude.{bytes_eq}
use Rattle.xs_base.specs.declared.class.Class.{Class}
use Rattle.xs_base.specs.declared.class.Class.TheVariants.{Small, Large}
use Rattle.xs_base.specs.declared.component.Row.{Row}
use Rattle.xs_base.specs.Area.{control_in}
use Rattle.xs_base.specs.Bytes.{zeros}
use Rattle.xs_base.specs.Component.{component_numbers, component_size, sizes, initial_part, initial_mxcsr}
use Rattle.xs_base.specs.File.{File, IsFile, part, in_use, pkru_bytes, pkru_of}
use Rattle.xs_base.specs.Frame.{frame_bits}
use Rattle.xs_base.specs.Header.{xstate_bv}
use Rattle.xs_base.specs.KernelArea.{class_features, is_of_class}
use Rattle.xs_base.specs.Layout.{IsLayout, has_row, is_known}
use Rattle.xs_base.specs.Sets.{has}
use Rattle.xs_base.proofs.ByteRangeLemmas.{AreBytes, take_are}
use Rattle.xs_base.proofs.ClassLemmas.{has_class}
use Rattle.xs_base.proofs.ComponentLemmas.{pkru_size}
use Rattle.xs_base.proofs.FileLemmas.{pkru_clean, pkru_length}
use Rattle.xs_base.proofs.LayoutLemmas.{has_row_known}
use Rattle.xs_base.proofs.SetLemmas.{has_and, has_set_of, same_set}
use Rattle.xs_area.specs.declared.area.Lease.{Lease}
use Rattle.xs_task.specs.Marks.{IsSavedIn}
use Rattle.xs_task.specs.TaskArea.{is_large}
use Rattle.xs_image.specs.User.{user_features}
use Rattle.xs_frame.proofs.UserLemmas.{has_user, user_by}
use Rattle.xs_frame.specs.Named.{is_framed}

-- ---- PKRU

eight_zeros : pkru_bytes 0 ≡ initial_part 9
unfolding initial_part component_size sizes zeros
eight_zeros = refl

pub no_pkru : from_le_bytes w32 (take 4 (initial_part 9)) ≡ 0
unfolding initial_part component_size sizes zeros
no_pkru = refl

-- its component is initial exactly where it is 0
pkru_used : (value : ℕ) → value < 2 ^ 32 → bytes_eq (pkru_bytes value) (initial_part 9) ≡ (value == 0)
pkru_used value small = elim (cases_eq value 0) [
  | inl none ↦ rw none ((bytes_eq-Decides (pkru_bytes 0) (initial_part 9)).1 eight_zeros)
  | inr some ↦ elim (cases_Bool (bytes_eq (pkru_bytes value) (initial_part 9))) [
    | inl same ↦ absurd (some (sym (from_le_bytes-to_le_bytes_4 value small) ∙ ap (λ (bs : List ℕ). from_le_bytes w32 (take 4 bs)) ((bytes_eq-Decides (pkru_bytes value) (initial_part 9)).0 same) ∙ no_pkru))
    | inr other ↦ other ∙ sym (ne_eqb value 0 some)
  ]
]

-- the bytes of a file's PKRU are those of its number
pub own_bytes : (file : File) → IsFile file → AreBytes (part file 9) → part file 9 ≡ pkru_bytes (pkru_of file)
own_bytes file good small =
    let size = good.sizes 9 (lit< tt) in
    let first : length (take 4 (part file 9)) ≡ 4 = length-take-le 4 (part file 9) (omega (arith, size ∙ pkru_size)) in
    let four : to_le_bytes w32 (pkru_of file) ≡ take 4 (part file 9) = le_bytes_4 (take 4 (part file 9)) (pkru_of file) first (take_are 4 (part file 9) small) refl in
    ext_get_or 0 (part file 9) (pkru_bytes (pkru_of file)) (size ∙ sym (pkru_length (pkru_of file)))
    (λ k lt. elim (cases_lt k 4) [
      | inl low ↦ sym (ap (λ (bs : List ℕ). get_or (bs ++ zeros 4) k 0) four ∙ get_or_append_left (take 4 (part file 9)) (zeros 4) 0 k (omega arith) ∙ get_or-take 4 (part file 9) k 0 low)
      | inr high ↦ good.clean 9 k (le-ltb k 4 high) ∙ sym (pkru_clean (pkru_of file) k (le-ltb k 4 high))
    ])

-- ---- each bit

or_none : (a : Bool) → (a || false) ≡ a
or_none true = refl
or_none false = refl

module _ (rows : List Row) (lease : Lease) (pkru : ℕ) (file : File) (table : IsLayout rows) (rows_are : file.rows ≡ rows) (saved : IsSavedIn rows lease file) (own : part file 9 ≡ pkru_bytes pkru) (small : pkru < 2 ^ 32) where
  abbrev user : ℕ
  user = user_features rows lease.class

  abbrev bv : ℕ
  bv = xstate_bv lease.area.bytes.items

  user_is : (c : ℕ) → has (user_features rows lease.class) c ≡ (has_row rows c && (is_large lease.class || not (c == 18)))
  user_is c = ap (λ m. has m c) (user_by rows lease.class) ∙ has_user rows table (is_large lease.class) c

  used : (c : ℕ) → in_use file c ≡ (has_row rows c && not (bytes_eq (part file c) (initial_part c)))
  used c = ap (λ (rs : List Row). has_row rs c && not (bytes_eq (part file c) (initial_part c))) rows_are

  used_nine : in_use file 9 ≡ (has_row rows 9 && not (pkru == 0))
  used_nine = used 9 ∙ ap (λ (bs : List ℕ). has_row rows 9 && not (bytes_eq bs (initial_part 9))) own ∙ ap (λ b. has_row rows 9 && not b) (pkru_used pkru small)

  -- what the area says of a component but SSE
  marked : (c : ℕ) → (c ≡ 1 → ⊥) → has (xstate_bv lease.area.bytes.items) c ≡ (has (class_features rows lease.class) c && in_use file c)
  marked c other =
      let none = ne_eqb c 1 other in
      let area = lease.area.bytes.items in
      sym (ap (λ b. has (xstate_bv area) c || (b && not (control_in area == initial_mxcsr))) none ∙ or_none (has (xstate_bv area) c))
      ∙ saved.marks c
      ∙ ap (λ b. has (class_features rows lease.class) c && (in_use file c || (b && not (file.mxcsr == initial_mxcsr)))) none
      ∙ ap (λ b. has (class_features rows lease.class) c && b) (or_none (in_use file c))

  one_bit : (c : ℕ) → is_framed lease.area.bytes.items user pkru c ≡ (((in_use file c && has user c) || (c == 0) || (c == 1)) && is_known c)
  one_bit c = elim (cases_eq c 0) [
    | inl zero_is ↦ rw zero_is (zero_case (in_use file 0 && has user 0))
    | inr n0 ↦ elim (cases_eq c 1) [
      | inl one_is ↦ rw one_is (one_case (in_use file 1 && has user 1))
      | inr n1 ↦ elim (cases_eq c 9) [
        | inl nine_is ↦ rw nine_is (
            ap (λ b. b && not (pkru == 0)) (user_is 9)
            ∙ nine (has_row rows 9) (is_large lease.class) (pkru == 0)
            ∙ sym (ap (λ b. ((b && has user 9) || false || false) && true) used_nine ∙ ap (λ b. (((has_row rows 9 && not (pkru == 0)) && b) || false || false) && true) (user_is 9)))
        | inr n9 ↦
            ap (λ b. if b then true else if c == 1 then true else if c == 9 then has user 9 && not (pkru == 0) else has (bit_and bv user) c) (ne_eqb c 0 n0)
            ∙ ap (λ b. if b then true else if c == 9 then has user 9 && not (pkru == 0) else has (bit_and bv user) c) (ne_eqb c 1 n1)
            ∙ ap (λ b. if b then has user 9 && not (pkru == 0) else has (bit_and bv user) c) (ne_eqb c 9 n9)
            ∙ has_and bv user c
            ∙ ap (λ b. b && has user c) (marked c n1 ∙ ap (λ b. b && in_use file c) (has_class rows lease.class table c) ∙ ap (λ b. (has_row rows c && is_of_class lease.class c) && b) (used c))
            ∙ ap (λ b. ((has_row rows c && is_of_class lease.class c) && (has_row rows c && not (bytes_eq (part file c) (initial_part c)))) && b) (user_is c)
            ∙ there lease.class (has_row rows c) (not (bytes_eq (part file c) (initial_part c))) (is_known c) (ne_eqb c 9 n9) (has_row_known rows table c)
            ∙ sym (
            ap (λ b. ((in_use file c && has user c) || b || (c == 1)) && is_known c) (ne_eqb c 0 n0)
            ∙ ap (λ b. ((in_use file c && has user c) || false || b) && is_known c) (ne_eqb c 1 n1)
            ∙ ap (λ b. ((b && has user c) || false || false) && is_known c) (used c)
            ∙ ap (λ b. (((has_row rows c && not (bytes_eq (part file c) (initial_part c))) && b) || false || false) && is_known c) (user_is c))
      ]
    ]
  ]
    where
      zero_case : (x : Bool) → true ≡ ((x || true || false) && true)
      zero_case true = refl
      zero_case false = refl

      one_case : (x : Bool) → true ≡ ((x || false || true) && true)
      one_case true = refl
      one_case false = refl

      nine : (a large z : Bool) → ((a && (large || true)) && not z) ≡ ((((a && not z) && (a && (large || true))) || false || false) && true)
      nine true true true = refl
      nine true true false = refl
      nine true false true = refl
      nine true false false = refl
      nine false large z = refl

      small_class : (a u t k : Bool) → (a ≡ true → k ≡ true) → (((a && (not false && not t)) && (a && u)) && (a && (false || not t))) ≡ ((((a && u) && (a && (false || not t))) || false || false) && k)
      small_class true true true k h = refl
      small_class true false true k h = refl
      small_class true true false k h = sym (h refl)
      small_class true false false k h = refl
      small_class false u t k h = refl

      large_class : (a u t k : Bool) → (a ≡ true → k ≡ true) → (((a && not false) && (a && u)) && (a && (true || not t))) ≡ ((((a && u) && (a && (true || not t))) || false || false) && k)
      large_class true true t k h = sym (h refl)
      large_class true false t k h = refl
      large_class false u t k h = refl

      there : (class : Class) (a u k : Bool) → (c == 9) ≡ false → (a ≡ true → k ≡ true) → (((a && is_of_class class c) && (a && u)) && (a && (is_large class || not (c == 18)))) ≡ ((((a && u) && (a && (is_large class || not (c == 18)))) || false || false) && k)
      there Small a u k none h = rw none (small_class a u (c == 18) k h)
      there Large a u k none h = rw none (large_class a u (c == 18) k h)

  pub bits_are : (bits : ℕ) → ((c : ℕ) → has bits c ≡ is_framed lease.area.bytes.items user pkru c) → bits ≡ frame_bits file user
  unfolding frame_bits
  bits_are bits each =
      same_set bits (frame_bits file user) (λ c. each c ∙ one_bit c ∙ sym (has_set_of (λ d. (in_use file d && has user d) || (d == 0) || (d == 1)) component_numbers refl c))
