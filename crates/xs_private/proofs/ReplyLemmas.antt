-- The bytes of a reply.
use Rattle.std.proofs.Common.{◌≡◌, ◌⊎◌, ℕ, ◌+◌, ◌-◌, ◌<◌, ◌≤◌, ◌==◌, Bool, true, false, not, ◌&&◌, ◌||◌, List, [], length, get_or, refl, sym, ap, ◌∙◌, if◌then◌else◌, nat_lt, bit_and, arith, inl, inr}
use Rattle.std.proofs.lemmas.Bool.{true≢false, false≢true, cases_lt, eqb-true}
use Rattle.std.proofs.lemmas.Bool.Decides.{nat_tests}
use Rattle.std.proofs.lemmas.List.{ext_get_or, get_or_past}
use Rattle.std.proofs.lemmas.List.FromFn.{get_or-map-range_with_len}
use Rattle.std.specs.Int.{to_le_bytes, w64}
use Rattle.xs_base.specs.declared.component.Row.{Row}
use Rattle.xs_base.specs.declared.words.Set.{Set}
use Rattle.xs_base.specs.declared.words.Set.TheVariants.{Xstate, Fx}
use Rattle.xs_base.specs.Bytes.{splice, zeros, is_within}
use Rattle.xs_base.specs.Component.{component_numbers}
use Rattle.xs_base.specs.File.{File}
use Rattle.xs_base.specs.Layout.{IsLayout, is_known, features, full_size, set_of}
use Rattle.xs_base.specs.RegisterSet.{set_byte, set_size, set_reply}
use Rattle.xs_base.specs.Sets.{has}
use Rattle.xs_base.specs.Standard.{IsStandard, standard_byte, component_byte, saved_byte, control_bytes, has_control}
use Rattle.xs_base.specs.Task.{PrivateTask, user_features}
use Rattle.xs_base.proofs.ByteLemmas.{length_splice, splice_byte, splice_above, splice_inside, within_above, within_in}
use Rattle.xs_base.proofs.ComponentLemmas.{cleared_byte, length_zeros}
use Rattle.xs_base.proofs.LayoutLemmas.{sound_at}
use Rattle.xs_base.proofs.PlaceLemmas.{legacy_end}
use Rattle.xs_base.proofs.ReplyLemmas.{reply_length}
use Rattle.xs_base.proofs.SetLemmas.{has_set_of}
use Rattle.xs_base.proofs.SizeLemmas.{end_low, end_covers}
use Rattle.xs_base.proofs.StandardLemmas.{component_none}

-- ---- bytes behind the components

-- no component of the mask has a byte that all of them are before
component_past : (byte : ℕ → ℕ → ℕ) (rows : List Row) (mask k d : ℕ) → ((i : ℕ) (r : Row) → i < length rows → r ≡ get_or rows i r → has mask r.comp.0 ≡ true → r.offset + r.size ≤ k) → component_byte byte (λ r. r.offset) mask k rows d ≡ d
component_past byte rows mask k d past = component_none byte (λ r. r.offset) mask rows k d (λ i r lt is on. off (is_within r.offset r.size k) (not (is_within 24 8 k)) (within_above r.offset r.size k (past i r lt is on)))
  where
    off : (a b : Bool) → a ≡ false → (a && b) ≡ false
    off true b h = absurd (true≢false h)
    off false b h = refl

-- x87 and SSE are the components below 2
legacy_set : set_of (λ k. (k == 0) || (k == 1)) component_numbers ≡ 3
unfolding set_of
legacy_set = refl

legacy_low : (c : ℕ) → has 3 c ≡ true → c < 2
legacy_low c on = here (c == 0) (c == 1) refl refl (sym (ap (λ m. has m c) (sym legacy_set) ∙ has_set_of (λ k. (k == 0) || (k == 1)) component_numbers refl c) ∙ on)
  where
    here : (z o : Bool) → (c == 0) ≡ z → (c == 1) ≡ o → ((z || o) && is_known c) ≡ true → c < 2
    here true o zero one h = let same = eqb-true c 0 zero in omega (arith, same)
    here false true zero one h = let same = eqb-true c 1 one in omega (arith, same)
    here false false zero one h = absurd (false≢true h)

-- they end by byte 416
fx_end : (rows : List Row) (k : ℕ) → IsLayout rows → 416 ≤ k → (i : ℕ) (r : Row) → i < length rows → r ≡ get_or rows i r → has 3 r.comp.0 ≡ true → r.offset + r.size ≤ k
fx_end rows k table past i r lt is on =
    let two = legacy_low r.comp.0 on in
    let end = legacy_end r (sound_at rows table i r lt is) two in
    omega (arith, end, past)

-- behind MXCSR a byte that no component of the mask has is that of the base
standard_past : (file : File) (mask i : ℕ) (base : List ℕ) → 32 ≤ i → ((j : ℕ) (r : Row) → j < length file.rows → r ≡ get_or file.rows j r → has mask r.comp.0 ≡ true → r.offset + r.size ≤ i) → standard_byte file mask base i ≡ get_or base i 0
standard_past file mask i base past ends =
    ap (λ b. if b && has_control mask then get_or (control_bytes file.mxcsr) (i - 24) 0 else component_byte (saved_byte file) (λ r. r.offset) mask i file.rows (get_or base i 0)) (within_above 24 8 i past)
    ∙ component_past (saved_byte file) file.rows mask i (get_or base i 0) ends

-- a byte goes by that of the base
base_same : (file : File) (mask i : ℕ) (a b : List ℕ) → get_or a i 0 ≡ get_or b i 0 → standard_byte file mask a i ≡ standard_byte file mask b i
base_same file mask i a b same = ap (λ (d : ℕ). if is_within 24 8 i && has_control mask then get_or (control_bytes file.mxcsr) (i - 24) 0 else component_byte (saved_byte file) (λ r. r.offset) mask i file.rows d) same

empty_at : (i : ℕ) → get_or {A = ℕ} [] i 0 ≡ 0
empty_at i = get_or_past [] i 0 (omega arith)

-- ---- a reply in front of what was there

module _ (p : PrivateTask) (set : Set) (old cleared : List ℕ) (fits : set_size p set ≤ length old) (is : cleared ≡ splice 0 (zeros (set_size p set)) old) where
  reply_at : (i : ℕ) → i < set_size p set → get_or (splice 0 (set_reply p set) old) i 0 ≡ set_byte p set i
  unfolding set_reply
  reply_at i lt =
      let len = reply_length p set in
      let back : i - 0 ≡ i = omega arith in
      splice_inside 0 (set_reply p set) old i (omega (arith, len, fits)) (omega arith) (omega (arith, len, lt)) ∙ ap (λ k. get_or (set_reply p set) k 0) back
      ∙ get_or-map-range_with_len (set_byte p set) 0 (set_size p set) i i 0 lt (omega arith)

  reply_past : (i : ℕ) → set_size p set ≤ i → get_or (splice 0 (set_reply p set) old) i 0 ≡ get_or old i 0
  reply_past i past = let len = reply_length p set in splice_above 0 (set_reply p set) old i (omega (arith, len, fits)) (omega (arith, len, past))

  reply_len : length (splice 0 (set_reply p set) old) ≡ length old
  reply_len = let len = reply_length p set in length_splice 0 (set_reply p set) old (omega (arith, len, fits))

  cleared_len : length cleared ≡ length old
  cleared_len = ap (λ l. length l) is ∙ length_splice 0 (zeros (set_size p set)) old (omega (arith, length_zeros (set_size p set), fits))

  cleared_at : (i : ℕ) → i < set_size p set → get_or cleared i 0 ≡ get_or {A = ℕ} [] i 0
  cleared_at i lt =
      ap (λ l. get_or l i 0) is ∙ cleared_byte 0 (set_size p set) old i (omega (arith, fits))
      ∙ ap (λ b. if b then 0 else get_or old i 0) (within_in 0 (set_size p set) i (omega arith) (omega (arith, lt))) ∙ sym (empty_at i)

  cleared_past : (i : ℕ) → set_size p set ≤ i → get_or cleared i 0 ≡ get_or old i 0
  cleared_past i past =
      ap (λ l. get_or l i 0) is ∙ cleared_byte 0 (set_size p set) old i (omega (arith, fits))
      ∙ ap (λ b. if b then 0 else get_or old i 0) (within_above 0 (set_size p set) i (omega (arith, past)))

  -- bytes that are the set's in front, and as before behind it
  reply_from : (out : List ℕ) → length out ≡ length old → ((i : ℕ) → i < set_size p set → get_or out i 0 ≡ set_byte p set i) → ((i : ℕ) → set_size p set ≤ i → i < length old → get_or out i 0 ≡ get_or old i 0) → out ≡ splice 0 (set_reply p set) old
  reply_from out len front behind = ext_get_or 0 out (splice 0 (set_reply p set) old) (len ∙ sym reply_len) (λ i lt. each i (cases_lt i (set_size p set)) (omega (arith, len, lt)))
    where
      each : (i : ℕ) → (i < set_size p set) ⊎ (set_size p set ≤ i) → i < length old → get_or out i 0 ≡ get_or (splice 0 (set_reply p set) old) i 0
      each i (inl lt) low = front i lt ∙ sym (reply_at i lt)
      each i (inr past) low = behind i past low ∙ sym (reply_past i past)

-- ---- the Fx set

pub fx_reply : (p : PrivateTask) (old cleared out : List ℕ) → IsLayout p.file.rows → 512 ≤ length old → cleared ≡ splice 0 (zeros 512) old → IsStandard p.file 3 cleared out → out ≡ splice 0 (set_reply p Fx) old
fx_reply p old cleared out table fits is standard =
    reply_from p Fx old cleared fits is out (standard.len ∙ len) (λ i lt. front i lt (cases_lt i 416)) (λ i past low.
    standard.each i (omega (arith, len, low)) ∙ standard_past p.file 3 i cleared (omega (arith, past)) (fx_end p.file.rows i table (omega (arith, past))) ∙ cleared_past p Fx old cleared fits is i past)
  where
    len : length cleared ≡ length old
    len = cleared_len p Fx old cleared fits is

    below : (i : ℕ) → i < 416 → nat_lt i 416 ≡ true
    below i low = grind (arith, nat_tests)

    above : (i : ℕ) → 416 ≤ i → nat_lt i 416 ≡ false
    above i high = grind (arith, nat_tests)

    front : (i : ℕ) → i < 512 → (i < 416) ⊎ (416 ≤ i) → get_or out i 0 ≡ set_byte p Fx i
    front i lt (inl low) =
        standard.each i (omega (arith, len, lt, fits)) ∙ base_same p.file 3 i cleared [] (cleared_at p Fx old cleared fits is i lt)
        ∙ sym (ap (λ b. if b then standard_byte p.file 3 [] i else 0) (below i low))
    front i lt (inr high) =
        standard.each i (omega (arith, len, lt, fits)) ∙ standard_past p.file 3 i cleared (omega (arith, high)) (fx_end p.file.rows i table high)
        ∙ cleared_at p Fx old cleared fits is i lt ∙ empty_at i ∙ sym (ap (λ b. if b then standard_byte p.file 3 [] i else 0) (above i high))

-- ---- the Xstate set

pub xstate_reply : (p : PrivateTask) (shown : ℕ) (old cleared mid out : List ℕ) → full_size p.file.rows ≤ length old → shown ≡ bit_and p.marks (user_features p) → cleared ≡ splice 0 (zeros (full_size p.file.rows)) old → IsStandard p.file (features p.file.rows) cleared mid → out ≡ splice 512 (to_le_bytes w64 shown) (splice 464 (to_le_bytes w64 (features p.file.rows)) mid) → out ≡ splice 0 (set_reply p Xstate) old
xstate_reply p shown old cleared mid out fits marks is standard put =
    put ∙ reply_from p Xstate old cleared fits is (splice 512 (to_le_bytes w64 shown) named) (length_splice 512 (to_le_bytes w64 shown) named fits_shown ∙ named_len) front behind
  where
    low : 576 ≤ full_size p.file.rows
    low = end_low (λ _. true) p.file.rows

    len : length mid ≡ length old
    len = standard.len ∙ cleared_len p Xstate old cleared fits is

    named : List ℕ
    named = splice 464 (to_le_bytes w64 (features p.file.rows)) mid

    fits_named : 464 + length (to_le_bytes w64 (features p.file.rows)) ≤ length mid
    fits_named = omega (arith, low, len, fits)

    named_len : length named ≡ length old
    named_len = length_splice 464 (to_le_bytes w64 (features p.file.rows)) mid fits_named ∙ len

    fits_shown : 512 + length (to_le_bytes w64 shown) ≤ length named
    fits_shown = omega (arith, low, named_len, fits)

    front : (i : ℕ) → i < full_size p.file.rows → get_or (splice 512 (to_le_bytes w64 shown) named) i 0 ≡ set_byte p Xstate i
    front i lt =
        splice_byte 512 (to_le_bytes w64 shown) named i fits_shown
        ∙ ap (λ d. if is_within 512 8 i then get_or (to_le_bytes w64 shown) (i - 512) 0 else d)
        (splice_byte 464 (to_le_bytes w64 (features p.file.rows)) mid i fits_named
        ∙ ap (λ d. if is_within 464 8 i then get_or (to_le_bytes w64 (features p.file.rows)) (i - 464) 0 else d)
        (standard.each i (omega (arith, len, standard.len, lt, fits)) ∙ base_same p.file (features p.file.rows) i cleared [] (cleared_at p Xstate old cleared fits is i lt)))
        ∙ ap (λ m. if is_within 512 8 i then get_or (to_le_bytes w64 m) (i - 512) 0 else if is_within 464 8 i then get_or (to_le_bytes w64 (features p.file.rows)) (i - 464) 0 else standard_byte p.file (features p.file.rows) [] i) marks

    behind : (i : ℕ) → full_size p.file.rows ≤ i → i < length old → get_or (splice 512 (to_le_bytes w64 shown) named) i 0 ≡ get_or old i 0
    behind i past lt =
        splice_above 512 (to_le_bytes w64 shown) named i fits_shown (omega (arith, low, past))
        ∙ splice_above 464 (to_le_bytes w64 (features p.file.rows)) mid i fits_named (omega (arith, low, past))
        ∙ standard.each i (omega (arith, len, standard.len, lt))
        ∙ standard_past p.file (features p.file.rows) i cleared (omega (arith, low, past)) (λ j r less at on. let covers = end_covers (λ _. true) p.file.rows j r less at refl in omega (arith, covers, past))
        ∙ cleared_past p Xstate old cleared fits is i past
