-- A task's area with the legacy registers of an Fx set.
use Rattle.std.proofs.Common.{◌≡◌, ℕ, ◌+◌, ◌-◌, ◌<◌, ◌≤◌, ◌^◌, ◌==◌, Bool, true, false, not, ◌&&◌, ◌||◌, List, length, get_or, if◌then◌else◌, refl, sym, ap, ◌∙◌, arith, inl, inr, Some, lit<}
use Rattle.std.proofs.lemmas.Bool.{ne_eqb, false≢true, true≢false, cases_eq}
use Rattle.std.proofs.lemmas.List.Edits.{get_or-between, length-between}
use Rattle.std.specs.Int.{to_le_bytes, w64}
use Rattle.std.specs.List.{list_any}
use Rattle.std.specs.Prelude.{slice_get, slice_range}
use Rattle.xs_base.specs.declared.class.Class.{Class}
use Rattle.xs_base.specs.declared.class.Class.TheVariants.{Small, Large}
use Rattle.xs_base.specs.declared.component.Row.{Row}
use Rattle.xs_area.specs.declared.area.Lease.{Lease}
use Rattle.xs_base.specs.Area.{StandsFor, StandsAt, control_in}
use Rattle.xs_base.specs.Bytes.{splice, is_within}
use Rattle.xs_base.specs.Compact.{is_compacted, compacted, has_place, place}
use Rattle.xs_base.specs.Component.{component_size, initial_part, initial_mxcsr}
use Rattle.xs_base.specs.File.{File, IsFile, part, with_part, is_own}
use Rattle.xs_base.specs.Header.{xstate_bv, xcomp_bv, mxcsr}
use Rattle.xs_base.specs.Image.{taken_part}
use Rattle.xs_base.specs.KernelArea.{class_features, is_of_class}
use Rattle.xs_base.specs.Layout.{IsLayout, IsSound, has_row}
use Rattle.xs_base.specs.RegisterSet.{fx_file}
use Rattle.xs_base.specs.Sets.{has}
use Rattle.xs_base.specs.Standard.{IsWritten, control_bytes}
use Rattle.xs_task.specs.Marks.{is_marked_in}
use Rattle.xs_task.specs.TaskArea.{IsTaskArea}
use Rattle.xs_regset.specs.Legacy.{HasLegacy}
use Rattle.xs_base.proofs.ByteLemmas.{length_splice, splice_byte, range_same, within_in, within_below, within_above}
use Rattle.xs_base.proofs.ClassLemmas.{has_class, class_sse}
use Rattle.xs_base.proofs.CompactedLemmas.{compacted_placed}
use Rattle.xs_base.proofs.ComponentLemmas.{x87_size, sse_size}
use Rattle.xs_base.proofs.FileLemmas.{part_here, part_other, part_is_file, with_control}
use Rattle.xs_base.proofs.HeaderLemmas.{xstate_bv_splice, xcomp_bv_same, mxcsr_same, mxcsr_splice}
use Rattle.xs_base.proofs.ImageLemmas.{length_taken, taken_byte, taken_clean}
use Rattle.xs_base.proofs.LayoutLemmas.{sound_at}
use Rattle.xs_base.proofs.PlaceLemmas.{place_legacy, place_extended}
use Rattle.xs_base.proofs.RowLemmas.{has_x87, has_sse, row_index}
use Rattle.xs_base.proofs.StandardLemmas.{control_eight}
use Rattle.xs_regset.proofs.MarkLemmas.{area_table, marked_bits}

-- ---- the four writes

pub bit_order : (h z o : Bool) → (if o then true else if z then true else h) ≡ (h || z || o)
bit_order true true true = refl
bit_order true true false = refl
bit_order true false true = refl
bit_order true false false = refl
bit_order false true true = refl
bit_order false true false = refl
bit_order false false true = refl
bit_order false false false = refl

module _ (bytes old one two : List ℕ) (control bits : ℕ) (long : 576 ≤ length old) (count : length bytes ≡ 512)
    (x87 : IsWritten 0 (length (slice_range bytes 0 160)) (λ k. if is_own 0 k then get_or (slice_range bytes 0 160) k 0 else 0) old one)
    (xmm : IsWritten 160 (length (slice_range bytes 160 416)) (λ k. if is_own 1 k then get_or (slice_range bytes 160 416) k 0 else 0) one two) where
  three : List ℕ
  three = splice 24 (control_bytes control) two

  four : List ℕ
  four = splice 512 (to_le_bytes w64 bits) three

  x87_len : length (slice_range bytes 0 160) ≡ 160
  x87_len = let ranged = length-between bytes 0 160 (omega (arith, count)) in omega (arith, ranged)

  xmm_len : length (slice_range bytes 160 416) ≡ 256
  xmm_len = let ranged = length-between bytes 160 416 (omega (arith, count)) in omega (arith, ranged)

  two_len : length two ≡ length old
  two_len = xmm.len ∙ x87.len

  fits : 24 + length (control_bytes control) ≤ length two
  fits = omega (arith, control_eight control, two_len, long)

  three_len : length three ≡ length old
  unfolding three
  three_len = length_splice 24 (control_bytes control) two fits ∙ two_len

  fits_bits : 512 + length (to_le_bytes w64 bits) ≤ length three
  fits_bits = omega (arith, three_len, long)

  four_len : length four ≡ length old
  unfolding four
  four_len = length_splice 512 (to_le_bytes w64 bits) three fits_bits ∙ three_len

  four_at : (k : ℕ) → is_within 512 8 k ≡ false → get_or four k 0 ≡ get_or three k 0
  unfolding four
  four_at k off = splice_byte 512 (to_le_bytes w64 bits) three k fits_bits ∙ ap (λ b. if b then get_or (to_le_bytes w64 bits) (k - 512) 0 else get_or three k 0) off

  three_at : (k : ℕ) → is_within 24 8 k ≡ false → get_or three k 0 ≡ get_or two k 0
  unfolding three
  three_at k off = splice_byte 24 (control_bytes control) two k fits ∙ ap (λ n. if is_within 24 n k then get_or (control_bytes control) (k - 24) 0 else get_or two k 0) (control_eight control) ∙ ap (λ b. if b then get_or (control_bytes control) (k - 24) 0 else get_or two k 0) off

  -- a byte of XMM, and one that isn't
  two_at : (k : ℕ) → is_within 160 256 k ≡ true → is_within 24 8 k ≡ false → get_or two k 0 ≡ get_or (slice_range bytes 160 416) (k - 160) 0
  two_at k on off = xmm.each k ∙ ap (λ n. if is_within 160 n k && not (is_within 24 8 k) then get_or (slice_range bytes 160 416) (k - 160) 0 else get_or one k 0) xmm_len ∙ ap (λ b. if b && not (is_within 24 8 k) then get_or (slice_range bytes 160 416) (k - 160) 0 else get_or one k 0) on ∙ ap (λ b. if not b then get_or (slice_range bytes 160 416) (k - 160) 0 else get_or one k 0) off

  one_at : (k : ℕ) → is_within 160 256 k ≡ false → get_or two k 0 ≡ get_or one k 0
  one_at k off = xmm.each k ∙ ap (λ n. if is_within 160 n k && not (is_within 24 8 k) then get_or (slice_range bytes 160 416) (k - 160) 0 else get_or one k 0) xmm_len ∙ ap (λ b. if b && not (is_within 24 8 k) then get_or (slice_range bytes 160 416) (k - 160) 0 else get_or one k 0) off

  old_at : (k : ℕ) → is_within 0 160 k ≡ false → get_or one k 0 ≡ get_or old k 0
  old_at k off = x87.each k ∙ ap (λ n. if is_within 0 n k && not (is_within 24 8 k) then (if is_own 0 (k - 0) then get_or (slice_range bytes 0 160) (k - 0) 0 else 0) else get_or old k 0) x87_len ∙ ap (λ b. if b && not (is_within 24 8 k) then (if is_own 0 (k - 0) then get_or (slice_range bytes 0 160) (k - 0) 0 else 0) else get_or old k 0) off

  -- behind XMM nothing changes but XSTATE_BV
  behind : (k : ℕ) → 416 ≤ k → is_within 512 8 k ≡ false → get_or four k 0 ≡ get_or old k 0
  behind k past off = four_at k off ∙ three_at k (within_above 24 8 k (omega (arith, past))) ∙ one_at k (within_above 160 256 k (omega (arith, past))) ∙ old_at k (within_above 0 160 k (omega (arith, past)))

  -- a byte of a register of x87
  x87_at : (k : ℕ) → k < 160 → is_own 0 k ≡ true → get_or four k 0 ≡ get_or bytes k 0
  x87_at k lt own =
      four_at k (within_below 512 8 k (omega (arith, lt))) ∙ three_at k outside ∙ one_at k (within_below 160 256 k (omega (arith, lt)))
      ∙ x87.each k ∙ ap (λ n. if is_within 0 n k && not (is_within 24 8 k) then (if is_own 0 (k - 0) then get_or (slice_range bytes 0 160) (k - 0) 0 else 0) else get_or old k 0) x87_len
      ∙ ap (λ b. if b && not (is_within 24 8 k) then (if is_own 0 (k - 0) then get_or (slice_range bytes 0 160) (k - 0) 0 else 0) else get_or old k 0) (within_in 0 160 k (omega arith) (omega (arith, lt)))
      ∙ ap (λ b. if not b then (if is_own 0 (k - 0) then get_or (slice_range bytes 0 160) (k - 0) 0 else 0) else get_or old k 0) outside
      ∙ ap (λ n. if is_own 0 n then get_or (slice_range bytes 0 160) n 0 else 0) back ∙ ap (λ b. if b then get_or (slice_range bytes 0 160) k 0 else 0) own
      ∙ get_or-between bytes 0 160 k 0 (omega (arith, lt)) ∙ ap (λ n. get_or bytes n 0) front
    where
      back : k - 0 ≡ k
      back = omega arith

      front : 0 + k ≡ k
      front = omega arith

      first : (a b c : Bool) → (not a && not b && not c) ≡ true → b ≡ false
      first true true c h = absurd (false≢true h)
      first true false c h = refl
      first false true c h = absurd (false≢true h)
      first false false c h = refl

      outside : is_within 24 8 k ≡ false
      outside = first (k == 5) (is_within 24 8 k) _ own

  pub legacy_put : bits < 2 ^ 64 → control < 2 ^ 32 → ((c : ℕ) → has bits c ≡ (has (xstate_bv old) c || (c == 0) || (c == 1))) → HasLegacy bytes control old (splice 512 (to_le_bytes w64 bits) (splice 24 (control_bytes control) two))
  unfolding four three
  legacy_put small low are = record {
    form = record {
      len = four_len;
      names = xcomp_bv_same four old (omega (arith, four_len, long)) (omega (arith, long)) (λ k from to. behind k (omega (arith, from)) (within_above 512 8 k (omega (arith, from))));
      reserved = range_same 528 576 four old (omega (arith, four_len, long)) long (λ k from to. behind k (omega (arith, from)) (within_above 512 8 k (omega (arith, from))));
    };
    bits = λ c. ap (λ n. has n c) (xstate_bv_splice three bits (omega (arith, three_len, long)) small) ∙ are c;
    x87 = x87_at;
    xmm = λ k lt.
        let back : 160 + k - 160 ≡ k = omega arith in
        four_at (160 + k) (within_below 512 8 (160 + k) (omega (arith, lt))) ∙ three_at (160 + k) (within_above 24 8 (160 + k) (omega arith))
        ∙ two_at (160 + k) (within_in 160 256 (160 + k) (omega arith) (omega (arith, lt))) (within_above 24 8 (160 + k) (omega arith))
        ∙ ap (λ n. get_or (slice_range bytes 160 416) n 0) back ∙ get_or-between bytes 160 416 k 0 (omega (arith, lt));
    control_is = mxcsr_same four three (omega (arith, four_len, long)) (omega (arith, three_len, long)) (λ k from to. four_at k (within_below 512 8 k (omega (arith, to)))) ∙ mxcsr_splice two control (omega (arith, two_len, long)) low;
    others = λ k past. behind k (omega (arith, past)) (within_above 512 8 k (omega (arith, past)));
  }

-- ---- the file

module _ (file : File) (bytes : List ℕ) (good : IsFile file) where
  first_is_file : IsFile (with_part file 0 (taken_part bytes 0 0))
  first_is_file = part_is_file file 0 (taken_part bytes 0 0) (lit< tt) (length_taken bytes 0 0) (taken_clean bytes 0 0) (has_x87 file.rows good.layout) good

  both_is_file : IsFile (with_part (with_part file 0 (taken_part bytes 0 0)) 1 (taken_part bytes 160 1))
  both_is_file = part_is_file (with_part file 0 (taken_part bytes 0 0)) 1 (taken_part bytes 160 1) (lit< tt) (length_taken bytes 160 1) (taken_clean bytes 160 1) (has_sse file.rows good.layout) first_is_file

  pub fx_is_file : mxcsr bytes < 2 ^ 32 → IsFile (fx_file file bytes)
  fx_is_file small = with_control (with_part (with_part file 0 (taken_part bytes 0 0)) 1 (taken_part bytes 160 1)) (mxcsr bytes) small both_is_file

  pub fx_other : (c : ℕ) → (c ≡ 0 → ⊥) → (c ≡ 1 → ⊥) → part (fx_file file bytes) c ≡ part file c
  fx_other c zero one = part_other (with_part file 0 (taken_part bytes 0 0)) 1 c (taken_part bytes 160 1) one ∙ part_other file 0 c (taken_part bytes 0 0) zero

  fx_x87 : part (fx_file file bytes) 0 ≡ taken_part bytes 0 0
  fx_x87 = part_other (with_part file 0 (taken_part bytes 0 0)) 1 0 (taken_part bytes 160 1) (λ e. absurd (cc e)) ∙ part_here file 0 (taken_part bytes 0 0) (omega (arith, good.count))

  fx_xmm : part (fx_file file bytes) 1 ≡ taken_part bytes 160 1
  fx_xmm = part_here (with_part file 0 (taken_part bytes 0 0)) 1 (taken_part bytes 160 1) (omega (arith, first_is_file.count))

  pub fx_x87_byte : (k : ℕ) → k < 160 → is_own 0 k ≡ true → get_or (part (fx_file file bytes) 0) k 0 ≡ get_or bytes k 0
  fx_x87_byte k lt own = ap (λ l. get_or l k 0) fx_x87 ∙ taken_byte bytes 0 0 k (omega (arith, lt, x87_size)) ∙ ap (λ b. if b then get_or bytes (0 + k) 0 else 0) own ∙ ap (λ n. get_or bytes n 0) front
    where
      front : 0 + k ≡ k
      front = omega arith

  pub fx_xmm_byte : (k : ℕ) → k < 256 → get_or (part (fx_file file bytes) 1) k 0 ≡ get_or bytes (160 + k) 0
  fx_xmm_byte k lt = ap (λ l. get_or l k 0) fx_xmm ∙ taken_byte bytes 160 1 k (omega (arith, lt, sse_size))

-- ---- the area

module _ (rows : List Row) (lease : Lease) (area : IsTaskArea rows lease) (bytes new : List ℕ) (control : ℕ) (h : HasLegacy bytes control lease.area.bytes.items new) where
  table : IsLayout rows
  table = area_table rows lease area

  names : xcomp_bv lease.area.bytes.items ≡ compacted (class_features rows lease.class)
  names = elim area.loadable.names [
    | inl are ↦ are
    | inr zero_is ↦ absurd (false≢true (sym (ap is_compacted zero_is) ∙ area.compact))
  ]

  compact_new : is_compacted (xcomp_bv new) ≡ true
  compact_new = ap is_compacted h.form.names ∙ area.compact

  -- the class has both components
  class_x87 : has (class_features rows lease.class) 0 ≡ true
  class_x87 = has_class rows lease.class table 0 ∙ ap (λ b. b && is_of_class lease.class 0) (has_x87 rows table) ∙ here lease.class
    where
      here : (class : Class) → is_of_class class 0 ≡ true
      here Small = refl
      here Large = refl

  class_one : has (class_features rows lease.class) 1 ≡ true
  class_one = class_sse rows lease.class (class_features rows lease.class) table refl

  -- the bits
  bit_x87 : has (xstate_bv new) 0 ≡ true
  bit_x87 = h.bits 0 ∙ here (has (xstate_bv lease.area.bytes.items) 0)
    where
      here : (b : Bool) → (b || true || false) ≡ true
      here true = refl
      here false = refl

  bit_sse : has (xstate_bv new) 1 ≡ true
  bit_sse = h.bits 1 ∙ here (has (xstate_bv lease.area.bytes.items) 1)
    where
      here : (b : Bool) → (b || false || true) ≡ true
      here true = refl
      here false = refl

  bit_other : (c : ℕ) → (c ≡ 0 → ⊥) → (c ≡ 1 → ⊥) → has (xstate_bv new) c ≡ has (xstate_bv lease.area.bytes.items) c
  bit_other c zero one = h.bits c ∙ ap (λ b. has (xstate_bv lease.area.bytes.items) c || b || (c == 1)) (ne_eqb c 0 zero) ∙ ap (λ b. has (xstate_bv lease.area.bytes.items) c || false || b) (ne_eqb c 1 one) ∙ here (has (xstate_bv lease.area.bytes.items) c)
    where
      here : (b : Bool) → (b || false || false) ≡ b
      here true = refl
      here false = refl

  -- a fact of the old bits and of both components is one of the new bits
  each_bit : (P : ℕ → Type 0) → P 0 → P 1 → ((c : ℕ) → has (xstate_bv lease.area.bytes.items) c ≡ true → P c) → (c : ℕ) → has (xstate_bv new) c ≡ true → P c
  each_bit P zero one old c on = elim (cases_eq c 0) [
    | inl is ↦ rw is zero
    | inr z ↦ (elim (cases_eq c 1) [
      | inl is ↦ rw is one
      | inr o ↦ old c (sym (bit_other c z o) ∙ on)
    ])
  ]

  placed_new : (c : ℕ) → c < 63 → has_row rows c ≡ true → has (class_features rows lease.class) c ≡ true → has_place rows (xcomp_bv new) c ≡ true
  placed_new c lt row on = ap (λ n. has_place rows n c) (h.form.names ∙ names) ∙ compacted_placed rows (class_features rows lease.class) c lt row on

  control_new : control_in new ≡ control
  control_new = off (is_compacted (xcomp_bv new)) (has (xstate_bv new) 1) bit_sse ∙ h.control_is
    where
      off : (k b : Bool) → b ≡ true → (if k && not b then initial_mxcsr else mxcsr new) ≡ mxcsr new
      off true true on = refl
      off false true on = refl
      off k false on = absurd (false≢true on)

  module _ (file : File) (good : IsFile file) (stands : StandsFor rows lease.area.bytes.items file) (is : control ≡ mxcsr bytes) where
    present_new : (i : ℕ) (r : Row) → slice_get rows i ≡ Some r → (r.comp.0 ≡ 9 → ⊥) → has (xstate_bv new) r.comp.0 ≡ true → StandsAt new (place rows (xcomp_bv new) r) (fx_file file bytes) r.comp.0
    present_new i r row other on = elim (cases_eq r.comp.0 0) [
      | inl zero ↦ λ k lt own.
          let at : place rows (xcomp_bv new) r ≡ 0 = place_legacy rows (xcomp_bv new) r (omega (arith, zero)) ∙ (sound.x87 zero).0 in
          let at_k : place rows (xcomp_bv new) r + k ≡ k = omega (arith, at) in
          let small : k < 160 = omega (arith, lt, ap component_size zero, x87_size) in
          let owned : is_own 0 k ≡ true = ap (λ c. is_own c k) (sym zero) ∙ own in
          ap (λ n. get_or new n 0) at_k ∙ h.x87 k small owned ∙ sym (fx_x87_byte file bytes good k small owned) ∙ ap (λ c. get_or (part (fx_file file bytes) c) k 0) (sym zero)
      | inr z ↦ (elim (cases_eq r.comp.0 1) [
        | inl one ↦ λ k lt own.
            let at : place rows (xcomp_bv new) r ≡ 160 = place_legacy rows (xcomp_bv new) r (omega (arith, one)) ∙ (sound.sse one).0 in
            let small : k < 256 = omega (arith, lt, ap component_size one, sse_size) in
            ap (λ n. get_or new (n + k) 0) at ∙ h.xmm k small ∙ sym (fx_xmm_byte file bytes good k small) ∙ ap (λ c. get_or (part (fx_file file bytes) c) k 0) (sym one)
        | inr o ↦ λ k lt own.
            let far = place_extended rows (xcomp_bv new) r sound (omega (arith, z, o)) in
            h.others (place rows (xcomp_bv new) r + k) (omega (arith, far)) ∙ ap (λ n. get_or lease.area.bytes.items (place rows n r + k) 0) h.form.names
            ∙ stands.present i r row other (sym (bit_other r.comp.0 z o) ∙ on) k lt own ∙ ap (λ l. get_or l k 0) (sym (fx_other file bytes good r.comp.0 z o))
      ])
    ]
      where
        sound : IsSound r
        sound = let at = row_index rows i r row in sound_at rows table i r at.0 at.1

    absent_new : (i : ℕ) (r : Row) → slice_get rows i ≡ Some r → (r.comp.0 ≡ 9 → ⊥) → has (xstate_bv new) r.comp.0 ≡ false → part (fx_file file bytes) r.comp.0 ≡ initial_part r.comp.0
    absent_new i r row other off = fx_other file bytes good r.comp.0 zero one ∙ stands.absent i r row other (sym (bit_other r.comp.0 zero one) ∙ off)
      where
        zero : r.comp.0 ≡ 0 → ⊥
        zero same = true≢false (sym bit_x87 ∙ ap (has (xstate_bv new)) (sym same) ∙ off)

        one : r.comp.0 ≡ 1 → ⊥
        one same = true≢false (sym bit_sse ∙ ap (has (xstate_bv new)) (sym same) ∙ off)

    pub legacy_stands : StandsFor rows new (fx_file file bytes)
    legacy_stands = record {
      rows_are = stands.rows_are;
      placed = each_bit (λ c. has_place rows (xcomp_bv new) c ≡ true) (placed_new 0 (lit< tt) (has_x87 rows table) class_x87) (placed_new 1 (lit< tt) (has_sse rows table) class_one) (λ c on. ap (λ n. has_place rows n c) h.form.names ∙ stands.placed c on);
      present = present_new;
      absent = absent_new;
      control = sym (control_new ∙ is);
    }

  pub legacy_marks : (c : ℕ) → is_marked_in new c ≡ (is_marked_in lease.area.bytes.items c || (c == 0) || (c == 1))
  legacy_marks c = marked_bits new compact_new c ∙ h.bits c ∙ ap (λ b. b || (c == 0) || (c == 1)) (sym (marked_bits lease.area.bytes.items area.compact c))

  -- it is still a task's
  pub legacy_area : (after : Lease) → after.class ≡ lease.class → after.area.id ≡ lease.area.id → after.area.bytes.items ≡ new → control ≡ mxcsr bytes → control < 2 ^ 16 → IsTaskArea rows after
  legacy_area after class id items is small = record {
    loadable = rw (class, items) (record {
      file = fx_file area.loadable.file bytes;
      is_file = fx_is_file area.loadable.file bytes area.loadable.is_file (omega (arith, is, small));
      stands = legacy_stands area.loadable.file area.loadable.is_file area.loadable.stands is;
      control = rw is at small;
      names = inl (h.form.names ∙ names);
      bits = each_bit (λ c. has (class_features rows lease.class) c ≡ true) class_x87 class_one area.loadable.bits;
      reserved = ap (λ (bs : List ℕ). list_any (λ byte. not (byte == 0)) bs) h.form.reserved ∙ area.loadable.reserved;
      numbered = rw id area.loadable.numbered;
    });
    len = rw (class, items) (h.form.len ∙ area.len);
    compact = rw items compact_new;
  }
