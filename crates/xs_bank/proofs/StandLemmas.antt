-- What an area stands for after a save.
use Rattle.std.proofs.Common.{◌≡◌, inl, inr, ℕ, ◌+◌, ◌-◌, ◌<◌, ◌≤◌, ◌^◌, ◌==◌, Bool, true, false, not, ◌&&◌, ◌||◌, List, length, get_or, if◌then◌else◌, refl, sym, ap, subst, ◌∙◌, arith}
use Rattle.std.proofs.lemmas.Bool.{cases_Bool, cases_eq, eq-eqb, eqb-true, true≢false, false≢true}
use Rattle.std.proofs.lemmas.Slice.Eq.{bytes_eq-Decides}
use Rattle.std.proofs.lemmas.List.{get_or_default}
use Rattle.std.proofs.lemmas.Option.{slice_get_read}
use Rattle.std.specs.Prelude.{slice_get, Some, bytes_eq}
use Rattle.xs_base.specs.declared.component.Row.{Row}
use Rattle.xs_base.specs.Area.{StandsAt, StandsFor, control_in}
use Rattle.xs_bank.specs.Bank.{IsKept}
use Rattle.xs_base.specs.Bytes.{splice, is_within}
use Rattle.xs_base.specs.Compact.{place, has_place, is_compacted, compacted}
use Rattle.xs_base.specs.Component.{initial_part, initial_mxcsr}
use Rattle.xs_base.specs.File.{File, IsFile, part, is_own, in_use, is_saved}
use Rattle.xs_base.specs.Header.{xstate_bv, xcomp_bv, mxcsr}
use Rattle.xs_base.specs.Layout.{IsLayout, has_row}
use Rattle.xs_bank.specs.Save.{IsWrittenArea, IsStandardSave, IsCompactedSave, StandsWithin, IsInitialOutside}
use Rattle.xs_base.specs.Sets.{has}
use Rattle.xs_base.specs.Standard.{saved_byte, component_byte, control_bytes, has_control, has_byte}
use Rattle.xs_base.proofs.ByteLemmas.{length_splice, splice_inside, within_above, within_below, within_in}
use Rattle.xs_base.proofs.LayoutLemmas.{sound_at, has_row_at, row_found}
use Rattle.xs_base.proofs.PlaceLemmas.{places_apart}
use Rattle.xs_base.proofs.StandardLemmas.{component_none, component_one, component_control}
use Rattle.xs_base.proofs.PlaceLemmas.{place_sides, own_outside}
use Rattle.xs_base.proofs.HeaderLemmas.{mxcsr_splice, mxcsr_same}
use Rattle.xs_base.proofs.StandardLemmas.{control_eight}
use Rattle.xs_base.proofs.RowLemmas.{row_index}
use Rattle.xs_base.proofs.CompactedLemmas.{compacted_is, compacted_placed}

-- ---- the bytes of an area that was written

module _ (file : File) (names : ℕ) (control : Bool) (written : ℕ) (before after : List ℕ) (table : IsLayout file.rows) (h : IsWrittenArea file names control written before after) where
  outside_header : (i : ℕ) (r : Row) → i < length file.rows → r ≡ get_or file.rows i r → (k : ℕ) → k < r.size → is_within 512 16 (place file.rows names r + k) ≡ false
  outside_header i r lt is k small = elim (place_sides file.rows names r (sound_at file.rows table i r lt is)) [
    | inl low ↦ within_below 512 16 (place file.rows names r + k) (omega arith)
    | inr high ↦ within_above 512 16 (place file.rows names r + k) (omega arith)
  ]

  at_row : (i : ℕ) (r : Row) → i < length file.rows → r ≡ get_or file.rows i r → (k : ℕ) → k < r.size → is_own r.comp.0 k ≡ true → get_or after (place file.rows names r + k) 0 ≡ component_byte (saved_byte file) (place file.rows names) written (place file.rows names r + k) file.rows (get_or before (place file.rows names r + k) 0)
  at_row i r lt is k small own =
      let sound = sound_at file.rows table i r lt is in
      h.each (place file.rows names r + k) (outside_header i r lt is k small)
      ∙ ap (λ b. if b && control then get_or (control_bytes file.mxcsr) (place file.rows names r + k - 24) 0 else component_byte (saved_byte file) (place file.rows names) written (place file.rows names r + k) file.rows (get_or before (place file.rows names r + k) 0)) (own_outside file.rows names r k sound own)

  module _ (named : (j : ℕ) (s : Row) → j < length file.rows → s ≡ get_or file.rows j s → has written s.comp.0 ≡ true → has_place file.rows names s.comp.0 ≡ true) (i : ℕ) (r : Row) (lt : i < length file.rows) (is : r ≡ get_or file.rows i r) (placed : has_place file.rows names r.comp.0 ≡ true) where
    -- no other row has the byte
    none_other : (k : ℕ) → k < r.size → (j : ℕ) (s : Row) → j < length file.rows → s ≡ get_or file.rows j s → has written s.comp.0 ≡ true → (j ≡ i → ⊥) → has_byte (place file.rows names s) s (place file.rows names r + k) ≡ false
    none_other k small j s lt_j is_j on apart =
        ap (λ b. b && not (is_within 24 8 (place file.rows names r + k))) (elim (places_apart file.rows table names i j r s lt lt_j is is_j (λ e. apart (sym e)) placed (named j s lt_j is_j on)) [
          | inl before_s ↦ within_below (place file.rows names s) s.size (place file.rows names r + k) (omega arith)
          | inr behind_s ↦ within_above (place file.rows names s) s.size (place file.rows names r + k) (omega arith)
        ])

    pub written_at : has written r.comp.0 ≡ true → (k : ℕ) → k < r.size → is_own r.comp.0 k ≡ true → get_or after (place file.rows names r + k) 0 ≡ get_or (part file r.comp.0) k 0
    written_at on k small own =
        let p = place file.rows names r in
        let sound = sound_at file.rows table i r lt is in
        let back : p + k - p ≡ k = omega arith in
        let here : has_byte p r (p + k) ≡ true = rw (within_in p r.size (p + k) (omega arith) (omega arith), own_outside file.rows names r k sound own) refl in
        at_row i r lt is k small own
        ∙ component_one (saved_byte file) (place file.rows names) written file.rows i r (p + k) (get_or before (p + k) 0) lt is on here (λ j s lt_j is_j w apart. none_other k small j s lt_j is_j w apart)
        ∙ ap (λ n. saved_byte file r.comp.0 n) back
        ∙ ap (λ b. if b then get_or (part file r.comp.0) k 0 else 0) own

    pub left_at : has written r.comp.0 ≡ false → (k : ℕ) → k < r.size → is_own r.comp.0 k ≡ true → get_or after (place file.rows names r + k) 0 ≡ get_or before (place file.rows names r + k) 0
    left_at off k small own =
        let p = place file.rows names r in
        at_row i r lt is k small own
        ∙ component_none (saved_byte file) (place file.rows names) written file.rows (p + k) (get_or before (p + k) 0) (λ j s lt_j is_j w. elim (cases_eq j i) [
          | inl one ↦ absurd (true≢false (sym w ∙ ap (λ (t : Row). has written t.comp.0) (is_j ∙ ap (λ n. get_or file.rows n s) one ∙ get_or_default file.rows i s r lt ∙ sym is) ∙ off))
          | inr apart ↦ none_other k small j s lt_j is_j w apart
        ])

  -- MXCSR was written
  pub control_written : control ≡ true → 576 ≤ length before → file.mxcsr < 2 ^ 32 → mxcsr after ≡ file.mxcsr
  control_written on long small =
      let len = h.len in
      let eight = control_eight file.mxcsr in
      let fits : 24 + length (control_bytes file.mxcsr) ≤ length before = omega arith in
      let same_len = length_splice 24 (control_bytes file.mxcsr) before fits in
      mxcsr_same after (splice 24 (control_bytes file.mxcsr) before) (omega arith) (omega arith) (λ k low high.
      h.each k (within_below 512 16 k (omega arith))
      ∙ ap (λ b. if b && control then get_or (control_bytes file.mxcsr) (k - 24) 0 else component_byte (saved_byte file) (place file.rows names) written k file.rows (get_or before k 0)) (within_in 24 8 k low (omega arith))
      ∙ ap (λ b. if b then get_or (control_bytes file.mxcsr) (k - 24) 0 else component_byte (saved_byte file) (place file.rows names) written k file.rows (get_or before k 0)) on
      ∙ sym (splice_inside 24 (control_bytes file.mxcsr) before k fits low (omega arith)))
      ∙ mxcsr_splice before file.mxcsr (omega arith) small

  -- MXCSR was left
  pub control_left : control ≡ false → 576 ≤ length before → mxcsr after ≡ mxcsr before
  control_left off long =
      let len = h.len in
      mxcsr_same after before (omega arith) (omega arith) (λ k low high.
      h.each k (within_below 512 16 k (omega arith))
      ∙ ap (λ b. if b && control then get_or (control_bytes file.mxcsr) (k - 24) 0 else component_byte (saved_byte file) (place file.rows names) written k file.rows (get_or before k 0)) (within_in 24 8 k low (omega arith))
      ∙ ap (λ b. if b then get_or (control_bytes file.mxcsr) (k - 24) 0 else component_byte (saved_byte file) (place file.rows names) written k file.rows (get_or before k 0)) off
      ∙ component_control (saved_byte file) (place file.rows names) written file.rows k (get_or before k 0) (within_in 24 8 k low (omega arith)))

-- ---- components in use

-- A component of the machine that isn't in use is initial.
pub unused_initial : (file : File) (c : ℕ) → has_row file.rows c ≡ true → in_use file c ≡ false → part file c ≡ initial_part c
unused_initial file c there off = (bytes_eq-Decides (part file c) (initial_part c)).0 (here (has_row file.rows c) (bytes_eq (part file c) (initial_part c)) there off)
  where
    here : (a b : Bool) → a ≡ true → (a && not b) ≡ false → b ≡ true
    here true true there off = refl
    here true false there off = absurd (true≢false off)
    here false b there off = absurd (false≢true there)

pub initial_unused : (file : File) (c : ℕ) → part file c ≡ initial_part c → in_use file c ≡ false
initial_unused file c is = here (has_row file.rows c) (bytes_eq (part file c) (initial_part c)) ((bytes_eq-Decides (part file c) (initial_part c)).1 is)
  where
    here : (a b : Bool) → b ≡ true → (a && not b) ≡ false
    here true true same = refl
    here true false same = absurd (false≢true same)
    here false b same = refl

pub used_row : (file : File) (c : ℕ) → in_use file c ≡ true → has_row file.rows c ≡ true
used_row file c on = here (has_row file.rows c) (not (bytes_eq (part file c) (initial_part c))) on
  where
    here : (a b : Bool) → (a && b) ≡ true → a ≡ true
    here true b h = refl
    here false b h = h

-- ---- the standard format

module _ (file : File) (mask written : ℕ) (before after : List ℕ) (is_file : IsFile file) (s : IsStandardSave file mask written before after) (zero_is : xcomp_bv before ≡ 0) (long : 576 ≤ length before) (left : (i : ℕ) (r : Row) → slice_get file.rows i ≡ Some r → has mask r.comp.0 ≡ true → in_use file r.comp.0 ≡ true → has written r.comp.0 ≡ false → IsKept file before r) where
  names_zero : xcomp_bv after ≡ 0
  names_zero = s.names ∙ zero_is

  place_of_row : (c : ℕ) → has_row file.rows c ≡ true → has_place file.rows 0 c ≡ true
  place_of_row c there = rw there refl

  bit_used : (c : ℕ) → has mask c ≡ true → has (xstate_bv after) c ≡ in_use file c
  bit_used c wanted = s.bits c ∙ ap (λ b. if b then in_use file c else has (xstate_bv before) c) wanted

  kept_at : (i : ℕ) (r : Row) → IsKept file before r → in_use file r.comp.0 ≡ true → StandsAt before (place file.rows 0 r) file r.comp.0
  kept_at i r keep used = elim (cases_Bool (has (xstate_bv before) r.comp.0)) [
    | inl on ↦ subst (λ n. StandsAt before (place file.rows n r) file r.comp.0) zero_is (keep.present on)
    | inr off ↦ absurd (true≢false (sym used ∙ initial_unused file r.comp.0 (keep.absent off)))
  ]

  present_at : (i : ℕ) (r : Row) → slice_get file.rows i ≡ Some r → has mask r.comp.0 ≡ true → in_use file r.comp.0 ≡ true → StandsAt after (place file.rows 0 r) file r.comp.0
  present_at i r row wanted used k small own =
      let at = row_index file.rows i r row in
      let sound = sound_at file.rows is_file.layout i r at.0 at.1 in
      let in_size : k < r.size = omega (arith, sound.size) in
      let named : (j : ℕ) (t : Row) → j < length file.rows → t ≡ get_or file.rows j t → has written t.comp.0 ≡ true → has_place file.rows 0 t.comp.0 ≡ true = λ j t lt_j is_j on. place_of_row t.comp.0 (has_row_at file.rows j t lt_j is_j) in
      let placed = place_of_row r.comp.0 (has_row_at file.rows i r at.0 at.1) in
      elim (cases_Bool (has written r.comp.0)) [
        | inl on ↦ written_at file 0 (has_control mask) written before after is_file.layout s.bytes named i r at.0 at.1 placed on k in_size own
        | inr off ↦ left_at file 0 (has_control mask) written before after is_file.layout s.bytes named i r at.0 at.1 placed off k in_size own ∙ kept_at i r (left i r row wanted used off) used k small own
      ]

  or_true_left : (a b : Bool) → a ≡ true → (a || b) ≡ true
  or_true_left true b h = refl
  or_true_left false b h = absurd (false≢true h)

  pub standard_stands : StandsWithin mask after file
  standard_stands = record {
    placed = λ c wanted on. rw names_zero (place_of_row c (used_row file c (sym (bit_used c wanted) ∙ on)));
    present = λ i r row wanted on. subst (λ n. StandsAt after (place file.rows n r) file r.comp.0) (sym names_zero) (present_at i r row wanted (sym (bit_used r.comp.0 wanted) ∙ on));
    absent = λ i r row wanted off. let at = row_index file.rows i r row in unused_initial file r.comp.0 (has_row_at file.rows i r at.0 at.1) (sym (bit_used r.comp.0 wanted) ∙ off);
    control = λ wanted. sym (ap (λ n. if is_compacted n && not (has (xstate_bv after) 1) then initial_mxcsr else mxcsr after) names_zero ∙ control_written file 0 (has_control mask) written before after is_file.layout s.bytes (or_true_left (has mask 1) (has mask 2) wanted) long is_file.control);
  }

-- ---- the compacted format

-- What is initial isn't saved, but for an MXCSR that isn't.
pub unsaved : (file : File) (c : ℕ) → in_use file c ≡ false → (c ≡ 1 → file.mxcsr ≡ initial_mxcsr) → is_saved file c ≡ false
unsaved file c off control = here (in_use file c) (c == 1) (file.mxcsr == initial_mxcsr) off (λ one. eq-eqb file.mxcsr initial_mxcsr (control (eqb-true c 1 one)))
  where
    here : (u a e : Bool) → u ≡ false → (a ≡ true → e ≡ true) → (u || (a && not e)) ≡ false
    here true a e off h = absurd (true≢false off)
    here false false e off h = refl
    here false true e off h = ap not (h refl)

pub unsaved_unused : (file : File) (c : ℕ) → is_saved file c ≡ false → in_use file c ≡ false
unsaved_unused file c off = here (in_use file c) ((c == 1) && not (file.mxcsr == initial_mxcsr)) off
  where
    here : (a b : Bool) → (a || b) ≡ false → a ≡ false
    here true b h = h
    here false b h = refl

pub unsaved_control : (file : File) → is_saved file 1 ≡ false → file.mxcsr ≡ initial_mxcsr
unsaved_control file off = eqb-true file.mxcsr initial_mxcsr (here (in_use file 1) (file.mxcsr == initial_mxcsr) off)
  where
    here : (a e : Bool) → (a || not e) ≡ false → e ≡ true
    here true e h = absurd (true≢false h)
    here false true h = refl
    here false false h = absurd (true≢false h)

-- a compacted area's MXCSR with and without SSE
control_with : (area : List ℕ) → has (xstate_bv area) 1 ≡ true → control_in area ≡ mxcsr area
control_with area on = ap (λ b. if is_compacted (xcomp_bv area) && not b then initial_mxcsr else mxcsr area) on ∙ here (is_compacted (xcomp_bv area))
  where
    here : (b : Bool) → (if b && false then initial_mxcsr else mxcsr area) ≡ mxcsr area
    here true = refl
    here false = refl

control_without : (area : List ℕ) → is_compacted (xcomp_bv area) ≡ true → has (xstate_bv area) 1 ≡ false → control_in area ≡ initial_mxcsr
control_without area compact off = ap (λ b. if b && not (has (xstate_bv area) 1) then initial_mxcsr else mxcsr area) compact ∙ ap (λ b. if not b then initial_mxcsr else mxcsr area) off

module _ (file : File) (mask written : ℕ) (before after : List ℕ) (is_file : IsFile file) (s : IsCompactedSave file mask written before after) (long : 576 ≤ length before) (machine : (c : ℕ) → has mask c ≡ true → has_row file.rows c ≡ true) (within : (c : ℕ) → has written c ≡ true → has mask c ≡ true) (left : (i : ℕ) (r : Row) → slice_get file.rows i ≡ Some r → has mask r.comp.0 ≡ true → is_saved file r.comp.0 ≡ true → has written r.comp.0 ≡ false → IsKept file before r × (xcomp_bv before ≡ compacted mask)) where
  small_number : (c : ℕ) → has_row file.rows c ≡ true → c < 63
  small_number c there =
      let row = row_found file.rows c there in
      let sound = sound_at file.rows is_file.layout row.1.index row.0 row.1.within row.1.is in
      omega (arith, sound.number, row.1.number)

  mask_place : (c : ℕ) → has mask c ≡ true → has_place file.rows (compacted mask) c ≡ true
  mask_place c wanted = compacted_placed file.rows mask c (small_number c (machine c wanted)) (machine c wanted) wanted

  bit_saved : (c : ℕ) → has mask c ≡ true → has (xstate_bv after) c ≡ is_saved file c
  bit_saved c wanted = s.bits c ∙ ap (λ b. b && is_saved file c) wanted

  kept_bit : (r : Row) → IsKept file before r → xcomp_bv before ≡ compacted mask → is_saved file r.comp.0 ≡ true → has (xstate_bv before) r.comp.0 ≡ true
  kept_bit r keep names saved = elim (cases_Bool (has (xstate_bv before) r.comp.0)) [
    | inl on ↦ on
    | inr off ↦
        let control : r.comp.0 ≡ 1 → file.mxcsr ≡ initial_mxcsr = λ one. let compact = ap is_compacted names ∙ compacted_is mask in keep.control one compact ∙ control_without before compact (ap (has (xstate_bv before)) (sym one) ∙ off) in
        absurd (true≢false (sym saved ∙ unsaved file r.comp.0 (initial_unused file r.comp.0 (keep.absent off)) control))
  ]

  compact_at : (i : ℕ) (r : Row) → slice_get file.rows i ≡ Some r → has mask r.comp.0 ≡ true → is_saved file r.comp.0 ≡ true → StandsAt after (place file.rows (compacted mask) r) file r.comp.0
  compact_at i r row wanted saved k small own =
      let at = row_index file.rows i r row in
      let sound = sound_at file.rows is_file.layout i r at.0 at.1 in
      let in_size : k < r.size = omega (arith, sound.size) in
      let named : (j : ℕ) (t : Row) → j < length file.rows → t ≡ get_or file.rows j t → has written t.comp.0 ≡ true → has_place file.rows (compacted mask) t.comp.0 ≡ true = λ j t lt_j is_j on. mask_place t.comp.0 (within t.comp.0 on) in
      let placed = mask_place r.comp.0 wanted in
      elim (cases_Bool (has written r.comp.0)) [
        | inl on ↦ written_at file (compacted mask) (has written 1) written before after is_file.layout s.bytes named i r at.0 at.1 placed on k in_size own
        | inr off ↦
            let keep = left i r row wanted saved off in
            left_at file (compacted mask) (has written 1) written before after is_file.layout s.bytes named i r at.0 at.1 placed off k in_size own
            ∙ subst (λ n. StandsAt before (place file.rows n r) file r.comp.0) keep.1 (keep.0.present (kept_bit r keep.0 keep.1 saved)) k small own
      ]

  saved_control : has mask 1 ≡ true → is_saved file 1 ≡ true → file.mxcsr ≡ control_in after
  saved_control wanted saved = sym (control_with after (bit_saved 1 wanted ∙ saved) ∙ elim (cases_Bool (has written 1)) [
    | inl on ↦ control_written file (compacted mask) (has written 1) written before after is_file.layout s.bytes on long is_file.control
    | inr off ↦
        let found = row_found file.rows 1 (machine 1 wanted) in
        let r = found.0 in
        let one : r.comp.0 ≡ 1 = found.1.number in
        let row : slice_get file.rows found.1.index ≡ Some r = slice_get_read file.rows (length file.rows) found.1.index r refl found.1.within found.1.is in
        let saved_r : is_saved file r.comp.0 ≡ true = ap (is_saved file) one ∙ saved in
        let keep = left found.1.index r row (ap (has mask) one ∙ wanted) saved_r (ap (has written) one ∙ off) in
        let bit : has (xstate_bv before) 1 ≡ true = ap (has (xstate_bv before)) (sym one) ∙ kept_bit r keep.0 keep.1 saved_r in
        control_left file (compacted mask) (has written 1) written before after is_file.layout s.bytes off long ∙ sym (keep.0.control one (ap is_compacted keep.1 ∙ compacted_is mask) ∙ control_with before bit)
  ])

  pub compacted_stands : StandsWithin mask after file
  compacted_stands = record {
    placed = λ c wanted on. rw s.names (mask_place c wanted);
    present = λ i r row wanted on. subst (λ n. StandsAt after (place file.rows n r) file r.comp.0) (sym s.names) (compact_at i r row wanted (sym (bit_saved r.comp.0 wanted) ∙ on));
    absent = λ i r row wanted off. let at = row_index file.rows i r row in unused_initial file r.comp.0 (has_row_at file.rows i r at.0 at.1) (unsaved_unused file r.comp.0 (sym (bit_saved r.comp.0 wanted) ∙ off));
    control = λ wanted. elim (cases_Bool (is_saved file 1)) [
      | inl saved ↦ saved_control wanted saved
      | inr off ↦ unsaved_control file off ∙ sym (control_without after (ap is_compacted s.names ∙ compacted_is mask) (bit_saved 1 wanted ∙ off))
    ];
  }

-- ---- all of the file

-- What a save leaves out is PKRU and what is initial.
pub stands_whole : (file : File) (mask written : ℕ) (before after : List ℕ) → IsLayout file.rows → IsCompactedSave file mask written before after → StandsWithin mask after file → has mask 1 ≡ true → IsInitialOutside mask file → StandsFor file.rows after file
stands_whole file mask written before after table s within sse outside =
    let of_mask : (c : ℕ) → has (xstate_bv after) c ≡ true → has mask c ≡ true = λ c on. first_of (has mask c) (is_saved file c) (sym (s.bits c) ∙ on) in
    record {
      rows_are = refl;
      placed = λ c on. within.placed c (of_mask c on) on;
      present = λ i r row other on. within.present i r row (of_mask r.comp.0 on) on;
      absent = λ i r row other off. elim (cases_Bool (has mask r.comp.0)) [
        | inl on ↦ within.absent i r row on off
        | inr out ↦ outside i r row other out
      ];
      control = within.control sse;
    }
  where
    first_of : (a b : Bool) → (a && b) ≡ true → a ≡ true
    first_of true b h = refl
    first_of false b h = h
