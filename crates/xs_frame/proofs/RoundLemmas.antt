-- A return right after a delivery gives the file of which the frame was made.
use Rattle.std.proofs.Common.{◌≡◌, ◌⊎◌, inl, inr, ℕ, ◌+◌, ◌<◌, ◌≤◌, ◌^◌, ◌==◌, Bool, true, false, not, ◌&&◌, ◌||◌, List, [], length, get_or, take, Option, Some, None, if◌then◌else◌, bit_and, refl, sym, ap, ◌∙◌, arith, lit<}
use Rattle.std.proofs.lemmas.Bool.{cases_Bool, cases_eq, cases_lt, eqb-true, ne_eqb, le-ltb, lt-ltb, and_parts, true≢false, false≢true}
use Rattle.std.proofs.lemmas.List.{ext_get_or, get_or_past, get_or-take, length-take-le}
use Rattle.std.proofs.lemmas.List.Edits.{get_or-between, length-between}
use Rattle.std.proofs.lemmas.Slice.Eq.{bytes_eq-Decides}
use Rattle.std.specs.Int.{from_le_bytes, w32}
use Rattle.std.specs.List.{list_any}
use Rattle.std.specs.Prelude.{bytes_eq, slice_range}
use Rattle.xs_base.specs.declared.component.Row.{Row}
use Rattle.xs_base.specs.declared.header.HeaderError.{HeaderError}
use Rattle.xs_base.specs.declared.header.Parts.{Parts}
use Rattle.xs_base.specs.Bytes.{zeros}
use Rattle.xs_base.specs.Component.{component_numbers, component_count, component_size, initial_mxcsr, initial_part}
use Rattle.xs_base.specs.File.{IsFile, part, initial_file, in_use, is_own, pkru_bytes, pkru_of, with_pkru}
use Rattle.xs_base.specs.Frame.{frame_bytes, frame_bits, frame_error, frame_file, from_frame, legacy_parts, is_legacy_only, with_words, word_at, magic1, magic2, xfeatures, delivered, return_of, return_by, Full}
use Rattle.xs_base.specs.Header.{xstate_bv, xcomp_bv, mxcsr}
use Rattle.xs_base.specs.HeaderCheck.{has_outside, has_reserved, header_error, is_wrong_mxcsr, parts_in, pkru_at}
use Rattle.xs_base.specs.Image.{image_file, offset_of, taken_part}
use Rattle.xs_base.specs.Layout.{has_row, row_of, is_known, features, default_features}
use Rattle.xs_base.specs.Sets.{has}
use Rattle.xs_base.specs.Task.{PrivateTask, user_features, user_size}
use Rattle.xs_base.proofs.ByteLemmas.{range_same}
use Rattle.xs_base.proofs.ComponentLemmas.{length_zeros, zero_at, pkru_size}
use Rattle.xs_base.proofs.FileLemmas.{initial_at, initial_is_file, part_here, part_other, pkru_is_file}
use Rattle.xs_base.proofs.FrameLemmas.{words_length}
use Rattle.xs_base.proofs.HeaderLemmas.{mxcsr_same, xcomp_bv_same}
use Rattle.xs_base.proofs.ImageLemmas.{image_at, image_base, image_is_file, image_pkru, image_taken, length_taken, taken_byte, with_own_pkru}
use Rattle.xs_base.proofs.LayoutLemmas.{row_found, sound_at, has_row_known}
use Rattle.xs_base.proofs.PlaceLemmas.{place_sides}
use Rattle.xs_base.proofs.RowLemmas.{row_of_at}
use Rattle.xs_base.proofs.SetLemmas.{has_and, has_set_of}
use Rattle.xs_frame.specs.Framed.{framed_file}
use Rattle.xs_frame.proofs.BitLemmas.{no_pkru, own_bytes}
use Rattle.xs_frame.proofs.PlainLemmas.{set_small, inside, plain, plain_length, plain_part, plain_control, plain_zero}
use Rattle.xs_frame.proofs.UserLemmas.{has_user, user_x87, user_sse, size_low, size_most, size_covers}
use Rattle.xs_frame.proofs.WordLemmas.{kept_byte, reads_bits, reads_extended, reads_magic1, reads_magic2, reads_size, reads_user}

no_right : (b : Bool) → (b && false) ≡ false
no_right true = refl
no_right false = refl

-- ---- the frame of a task

zero_names : xcomp_bv (zeros 576) ≡ 0
unfolding xcomp_bv zeros
zero_names = refl

zero_reserved : has_reserved (zeros 576) ≡ false
unfolding zeros
zero_reserved = refl

module _ (p : PrivateTask) (good : IsFile p.file) (small : p.file.mxcsr < 2 ^ 16) (tiles : p.large ≡ false → part p.file 18 ≡ initial_part 18) where
  abbrev rows : List Row
  rows = p.file.rows

  abbrev user : ℕ
  user = user_features p

  abbrev size : ℕ
  size = user_size p

  abbrev bits : ℕ
  bits = frame_bits p.file user

  abbrev frame : List ℕ
  frame = frame_bytes p.file user size

  -- it is the standard bytes with words over them
  frame_is : frame ≡ with_words user size bits (plain p.file user good)
  unfolding frame_bytes plain
  frame_is = refl

  low : 576 ≤ size
  low = size_low rows p.large

  most : size ≤ 16384
  most = size_most rows p.large good.layout

  room : size + 4 ≤ length (plain p.file user good)
  room = omega (arith, most, plain_length p.file user good)

  frame_len : length frame ≡ 16388
  frame_len = ap length frame_is ∙ words_length user size bits (plain p.file user good) low room ∙ plain_length p.file user good

  user_is : (c : ℕ) → has user c ≡ (has_row rows c && (p.large || not (c == 18)))
  user_is c = has_user rows good.layout p.large c

  user_small : user < 2 ^ 64
  user_small = here p.large
    where
      here : (large : Bool) → (if large then features rows else default_features rows) < 2 ^ 64
      here true = set_small (has_row rows)
      here false = set_small (λ c. has_row rows c && not (c == 18))

  bits_small : bits < 2 ^ 64
  unfolding frame_bits
  bits_small = set_small (λ c. (in_use p.file c && has user c) || (c == 0) || (c == 1))

  -- ---- its words

  at_size : word_at 480 frame ≡ size
  at_size = ap (word_at 480) frame_is ∙ reads_size user size bits (plain p.file user good) low room (omega (arith, most))

  at_user : xfeatures frame ≡ user
  at_user = ap xfeatures frame_is ∙ reads_user user size bits (plain p.file user good) low room user_small

  at_bits : xstate_bv frame ≡ bits
  at_bits = ap xstate_bv frame_is ∙ reads_bits user size bits (plain p.file user good) low room bits_small

  is_whole : is_legacy_only size frame ≡ false
  is_whole =
      let first : word_at 464 frame ≡ magic1 = ap (word_at 464) frame_is ∙ reads_magic1 user size bits (plain p.file user good) low room in
      let extended : word_at 468 frame ≡ size + 4 = ap (word_at 468) frame_is ∙ reads_extended user size bits (plain p.file user good) low room (omega (arith, most)) in
      let second : word_at size frame ≡ magic2 = ap (word_at size) frame_is ∙ reads_magic2 user size bits (plain p.file user good) low room in
      rw (first, at_size, extended, second, le-ltb size 576 low, le-ltb size size (omega arith), le-ltb (size + 4) size (omega arith)) refl

  -- ---- its bits

  bit_is : (c : ℕ) → has bits c ≡ (((in_use p.file c && has user c) || (c == 0) || (c == 1)) && is_known c)
  unfolding frame_bits
  bit_is c = has_set_of (λ d. (in_use p.file d && has user d) || (d == 0) || (d == 1)) component_numbers refl c

  -- the task may use what they name
  in_user : (c : ℕ) → has bits c ≡ true → has user c ≡ true
  in_user c on = elim (cases_eq c 0) [
    | inl is ↦ rw is (user_x87 rows p.large good.layout)
    | inr n0 ↦ elim (cases_eq c 1) [
      | inl is ↦ rw is (user_sse rows p.large good.layout)
      | inr n1 ↦ third (in_use p.file c) (has user c) (c == 0) (c == 1) (ne_eqb c 0 n0) (ne_eqb c 1 n1) ((and_parts ((in_use p.file c && has user c) || (c == 0) || (c == 1)) (is_known c) (sym (bit_is c) ∙ on)).0)
    ]
  ]
    where
      third : (a b x y : Bool) → x ≡ false → y ≡ false → ((a && b) || x || y) ≡ true → b ≡ true
      third a b true y hx hy on = absurd (true≢false hx)
      third a b false true hx hy on = absurd (true≢false hy)
      third true true false false hx hy on = refl
      third true false false false hx hy on = absurd (false≢true on)
      third false b false false hx hy on = absurd (false≢true on)

  -- and what they don't name is initial
  unnamed : (c : ℕ) → has_row rows c ≡ true → has bits c ≡ false → part p.file c ≡ initial_part c
  unnamed c there off = elim (cases_Bool (in_use p.file c)) [
    | inr unused ↦ (bytes_eq-Decides (part p.file c) (initial_part c)).0 (same (has_row rows c) (bytes_eq (part p.file c) (initial_part c)) there unused)
    | inl used ↦
        let left = second (in_use p.file c) (has user c) (c == 0) (c == 1) (is_known c) used (has_row_known rows good.layout c there) (sym (bit_is c) ∙ off) in
        let both = last (has_row rows c) p.large (c == 18) there (sym (user_is c) ∙ left) in
        rw (eqb-true c 18 both.1) (tiles both.0)
  ]
    where
      same : (a b : Bool) → a ≡ true → (a && not b) ≡ false → b ≡ true
      same true true ha off = refl
      same true false ha off = absurd (true≢false off)
      same false b ha off = absurd (false≢true ha)

      second : (a b x y k : Bool) → a ≡ true → k ≡ true → (((a && b) || x || y) && k) ≡ false → b ≡ false
      second true true x y true ha hk off = absurd (true≢false off)
      second true true x y false ha hk off = absurd (false≢true hk)
      second true false x y k ha hk off = refl
      second false b x y k ha hk off = absurd (false≢true ha)

      last : (a l t : Bool) → a ≡ true → (a && (l || not t)) ≡ false → (l ≡ false) × (t ≡ true)
      last true true t ha off = absurd (true≢false off)
      last true false true ha off = (refl, refl)
      last true false false ha off = absurd (true≢false off)
      last false l t ha off = absurd (false≢true ha)

  -- ---- its bytes

  -- those of a component that it names
  kept : (i : ℕ) (r : Row) → i < length rows → r ≡ get_or rows i r → has bits r.comp.0 ≡ true → (k : ℕ) → k < r.size → is_own r.comp.0 k ≡ true → get_or frame (r.offset + k) 0 ≡ get_or (part p.file r.comp.0) k 0
  kept i r lt is on k inside_k own =
      let wanted = in_user r.comp.0 on in
      let fits = size_covers rows p.large i r lt is (sym (user_is r.comp.0) ∙ wanted) in
      let sides : (r.offset + k < 464) ⊎ (520 ≤ r.offset + k) = elim (place_sides rows 0 r (sound_at rows good.layout i r lt is)) [ inl below ↦ inl (omega arith) | inr above ↦ inr (omega arith) ] in
      ap (λ bs. get_or bs (r.offset + k) 0) frame_is
      ∙ kept_byte user size bits (plain p.file user good) low room (r.offset + k) sides (omega (arith, fits))
      ∙ plain_part p.file user good i r lt is wanted k inside_k own

  at_control : mxcsr frame ≡ p.file.mxcsr
  at_control =
      mxcsr_same frame (plain p.file user good) (omega (arith, frame_len)) (omega (arith, plain_length p.file user good))
      (λ k from to. ap (λ bs. get_or bs k 0) frame_is ∙ kept_byte user size bits (plain p.file user good) low room k (inl (omega arith)) (omega (arith, low)))
      ∙ plain_control p.file user good (rw (user_sse rows p.large good.layout) refl)

  zero_between : (k : ℕ) → 520 ≤ k → k < 576 → get_or frame k 0 ≡ get_or (zeros 576) k 0
  zero_between k from to =
      ap (λ bs. get_or bs k 0) frame_is
      ∙ kept_byte user size bits (plain p.file user good) low room k (inr from) (omega (arith, low))
      ∙ plain_zero p.file user good k (omega arith) to
      ∙ sym (zero_at 576 k)

  -- ---- it is accepted

  accepted : frame_error user size frame ≡ None
  unfolding header_error
  accepted =
      let outside : has_outside (xstate_bv frame) user ≡ false = rw at_bits (inside bits user in_user) in
      let format : xcomp_bv frame ≡ 0 = xcomp_bv_same frame (zeros 576) (omega (arith, frame_len)) (omega (arith, length_zeros 576)) (λ k from to. zero_between k from (omega arith)) ∙ zero_names in
      let reserved : has_reserved frame ≡ false = ap (list_any (λ byte. not (byte == 0))) (range_same 528 576 frame (zeros 576) (omega (arith, frame_len)) (omega (arith, length_zeros 576)) (λ k from to. zero_between k (omega arith) to)) ∙ zero_reserved in
      let right : (has (bit_and (xfeatures frame) user) 1 && is_wrong_mxcsr (mxcsr frame)) ≡ false = ap (λ b. has (bit_and (xfeatures frame) user) 1 && b) (ap is_wrong_mxcsr at_control ∙ le-ltb 0xFFFF p.file.mxcsr (omega (arith, small))) ∙ no_right (has (bit_and (xfeatures frame) user) 1) in
      rw (is_whole, outside, format, reserved, right) refl

  -- ---- what it has

  abbrev parts : Parts
  parts = parts_in rows (from_frame user frame) frame

  wanted_is : (c : ℕ) → has (bit_and (xfeatures frame) user) c ≡ has user c
  wanted_is c = has_and (xfeatures frame) user c ∙ ap (λ n. has n c && has user c) at_user ∙ twice (has user c)
    where
      twice : (b : Bool) → (b && b) ≡ b
      twice true = refl
      twice false = refl

  taken_is : (c : ℕ) → has parts.bits.0 c ≡ has bits c
  taken_is c =
      has_and (bit_and (xfeatures frame) user) (xstate_bv frame) c
      ∙ ap (λ b. b && has (xstate_bv frame) c) (wanted_is c)
      ∙ ap (λ n. has user c && has n c) at_bits
      ∙ under (has user c) (has bits c) (in_user c)
    where
      under : (a b : Bool) → (b ≡ true → a ≡ true) → (a && b) ≡ b
      under true b h = refl
      under false true h = absurd (false≢true (h refl))
      under false false h = refl

  control_is : parts.mxcsr ≡ p.file.mxcsr
  control_is = ap (λ b. if b then mxcsr frame else initial_mxcsr) (wanted_is 1 ∙ user_sse rows p.large good.layout) ∙ at_control

  -- the bytes of a component
  component_is : (c : ℕ) → c < component_count → has_row rows c ≡ true → has bits c ≡ true → taken_part frame (offset_of (row_of rows c)) c ≡ part p.file c
  component_is c lt there on =
      let found = row_found rows c there in
      let r = found.0 in
      let at = found.1 in
      let sound = sound_at rows good.layout at.index r at.within at.is in
      let row : row_of rows c ≡ Some r = ap (row_of rows) (sym at.number) ∙ row_of_at rows good.layout at.index r at.within at.is in
      ap (λ o. taken_part frame (offset_of o) c) row
      ∙ ext_get_or 0 (taken_part frame r.offset c) (part p.file c) (length_taken frame r.offset c ∙ sym (good.sizes c lt))
      (λ k klt.
      let inside_k : k < component_size c = omega (arith, length_taken frame r.offset c) in
      let size_is : r.size ≡ component_size c = sound.size ∙ ap component_size at.number in
      taken_byte frame r.offset c k inside_k ∙ elim (cases_Bool (is_own c k)) [
        | inl own ↦ rw own (rw (at.number) at (kept at.index r at.within at.is (ap (has bits) at.number ∙ on) k (omega (arith, size_is)) (ap (λ n. is_own n k) at.number ∙ own)))
        | inr loose ↦ rw loose (sym (good.clean c k loose))
      ])

  same_parts : (c : ℕ) → (c ≡ 9 → ⊥) → part p.file c ≡ part (image_file (initial_file rows) frame parts) c
  same_parts c other = elim (cases_lt c component_count) [
    | inr past ↦
        get_or_past p.file.parts c [] (omega (arith, good.count))
        ∙ sym (get_or_past (image_file (initial_file rows) frame parts).parts c [] (omega (arith, (image_is_file (initial_file rows) frame parts (initial_is_file rows good.layout) (omega (arith, control_is, small))).count)))
    | inl lt ↦ sym (image_at (initial_file rows) frame parts c lt ∙ elim (cases_Bool (has_row rows c)) [
      | inr lacks ↦ image_base (initial_file rows) frame parts c other (ap (λ b. b && has parts.bits.0 c) lacks) ∙ initial_at rows c lt ∙ sym (good.absent c lt lacks other)
      | inl there ↦ elim (cases_Bool (has bits c)) [
        | inl on ↦ image_taken (initial_file rows) frame parts c other there (taken_is c ∙ on) ∙ component_is c lt there on
        | inr off ↦ image_base (initial_file rows) frame parts c other (ap (λ b. has_row rows c && b) (taken_is c ∙ off) ∙ no_right (has_row rows c)) ∙ initial_at rows c lt ∙ sym (unnamed c there off)
      ]
    ])
  ]

  -- the file, but for PKRU
  file_is : image_file (initial_file rows) frame parts ≡ with_pkru p.file parts.pkru
  file_is =
      let image = image_file (initial_file rows) frame parts in
      let other = with_pkru p.file parts.pkru in
      let is_file = image_is_file (initial_file rows) frame parts (initial_is_file rows good.layout) (omega (arith, control_is, small)) in
      let parts_are : image.parts ≡ other.parts = ext_get_or [] image.parts other.parts (is_file.count ∙ sym (pkru_is_file p.file parts.pkru good).count) (λ c lt. each c) in
      ap (λ (ps : List (List ℕ)). record { rows = rows; parts = ps; mxcsr = parts.mxcsr }) parts_are
      ∙ ap (λ (n : ℕ). record other { mxcsr = n }) control_is
    where
      each : (c : ℕ) → part (image_file (initial_file rows) frame parts) c ≡ part (with_pkru p.file parts.pkru) c
      each c = elim (cases_eq c 9) [
        | inl nine ↦ rw nine (image_at (initial_file rows) frame parts 9 (lit< tt) ∙ image_pkru (initial_file rows) frame parts ∙ sym (part_here p.file 9 (pkru_bytes parts.pkru) (omega (arith, good.count))))
        | inr apart ↦ sym (part_other p.file 9 c (pkru_bytes parts.pkru) apart ∙ same_parts c apart)
      ]

  -- ---- PKRU

  four_bytes : (i : ℕ) (r : Row) → i < length rows → r ≡ get_or rows i r → r.comp.0 ≡ 9 → has bits 9 ≡ true → slice_range frame r.offset (r.offset + 4) ≡ take 4 (part p.file 9)
  four_bytes i r lt is nine on =
      let sound = sound_at rows good.layout i r lt is in
      let ends = sound.ends in
      let size_is : r.size ≡ 8 = sound.size ∙ ap component_size nine ∙ pkru_size in
      let first : length (take 4 (part p.file 9)) ≡ 4 = length-take-le 4 (part p.file 9) (omega (arith, good.sizes 9 (lit< tt) ∙ pkru_size)) in
      let len : length (slice_range frame r.offset (r.offset + 4)) ≡ 4 = length-between frame r.offset (r.offset + 4) (omega (arith, frame_len)) ∙ omega arith in
      ext_get_or 0 (slice_range frame r.offset (r.offset + 4)) (take 4 (part p.file 9)) (len ∙ sym first)
      (λ k klt.
      let low_k : k < 4 = omega (arith, len) in
      get_or-between frame r.offset (r.offset + 4) k 0 (omega arith)
      ∙ (rw nine at (kept i r lt is (ap (has bits) nine ∙ on) k (omega (arith, size_is)) (ap (λ n. is_own n k) nine ∙ own_low k low_k)))
      ∙ sym (get_or-take 4 (part p.file 9) k 0 low_k))
    where
      own_low : (k : ℕ) → k < 4 → is_own 9 k ≡ true
      own_low k less = lt-ltb k 4 less

  pkru_is : parts.pkru ≡ (if has_row rows 9 then pkru_of p.file else 0)
  pkru_is = elim (cases_Bool (has_row rows 9)) [
    | inr lacks ↦ rw (lacks, taken_is 9 ∙ none (has bits 9) (has user 9) (user_is 9 ∙ ap (λ b. b && (p.large || true)) lacks) (in_user 9)) refl
    | inl there ↦ elim (cases_Bool (has bits 9)) [
      | inl on ↦
          let found = row_found rows 9 there in
          let at = found.1 in
          let row : row_of rows 9 ≡ Some found.0 = ap (row_of rows) (sym at.number) ∙ row_of_at rows good.layout at.index found.0 at.within at.is in
          rw (there, taken_is 9 ∙ on) (ap (λ o. pkru_at o frame) row ∙ ap (from_le_bytes w32) (four_bytes at.index found.0 at.within at.is at.number on))
      | inr off ↦ rw (there, taken_is 9 ∙ off) (sym (ap (λ (bs : List ℕ). from_le_bytes w32 (take 4 bs)) (unnamed 9 there off) ∙ no_pkru))
    ]
  ]
    where
      none : (a b : Bool) → b ≡ false → (a ≡ true → b ≡ true) → a ≡ false
      none true b off h = absurd (false≢true (sym off ∙ h refl))
      none false b off h = refl

  -- ---- the return

  pub returns_file : ((k : ℕ) → get_or (part p.file 9) k 0 < 256) → return_of (delivered p) ≡ Full (framed_file p.file)
  returns_file bytes =
      let file = frame_file rows user size frame in
      ap (λ (o : Option HeaderError). return_by o (is_legacy_only size frame) file) accepted
      ∙ ap (λ b. return_by None b file) is_whole
      ∙ ap Full (
      ap (λ b. image_file (initial_file rows) frame (if b then legacy_parts frame else parts)) is_whole
      ∙ file_is
      ∙ ap (with_pkru p.file) pkru_is
      ∙ framed (has_row rows 9))
    where
      framed : (b : Bool) → with_pkru p.file (if b then pkru_of p.file else 0) ≡ (if b then p.file else with_pkru p.file 0)
      framed true = with_own_pkru p.file (pkru_of p.file) (own_bytes p.file good bytes)
      framed false = refl
