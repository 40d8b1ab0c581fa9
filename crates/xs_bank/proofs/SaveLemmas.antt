-- What a save writes: room for it, the components with MXCSR, and the header.
use Rattle.std.proofs.Common.{◌≡◌, ℕ, ◌+◌, ◌-◌, ◌<◌, ◌≤◌, ◌^◌, Bool, true, false, not, ◌&&◌, List, length, get_or, if◌then◌else◌, refl, sym, ap, subst, ◌∙◌, arith}
use Rattle.std.proofs.lemmas.Bool.Decides.{nat_tests}
use Rattle.std.specs.Int.{to_le_bytes, w64}
use Rattle.std.specs.Prelude.{slice_get, Some}
use Rattle.xs_base.specs.declared.component.Row.{Row}
use Rattle.xs_base.specs.Bytes.{splice, is_within}
use Rattle.xs_base.specs.Compact.{place, compacted}
use Rattle.xs_base.specs.File.{File, part, is_own, in_use, is_saved}
use Rattle.xs_base.specs.Header.{xstate_bv, xcomp_bv}
use Rattle.xs_base.specs.Layout.{IsLayout, standard_size}
use Rattle.xs_bank.specs.Save.{IsWrittenArea, IsStandardSave, IsCompactedSave}
use Rattle.xs_base.specs.Sets.{has}
use Rattle.xs_base.specs.Standard.{saved_byte, component_byte, control_bytes, has_control, has_byte, IsWritten}
use Rattle.xs_base.proofs.ByteLemmas.{length_splice, splice_byte, within_above, within_in, within_tells}
use Rattle.xs_base.proofs.LayoutLemmas.{sound_at}
use Rattle.xs_base.proofs.SizeLemmas.{end_covers}
use Rattle.xs_base.proofs.StandardLemmas.{component_none}
use Rattle.xs_base.proofs.PlaceLemmas.{place_outside}
use Rattle.xs_base.proofs.HeaderLemmas.{xstate_bv_splice, xcomp_bv_same}
use Rattle.xs_base.proofs.StandardLemmas.{control_eight}
use Rattle.xs_base.proofs.HeaderLemmas.{xcomp_bv_splice}
use Rattle.xs_base.proofs.RowLemmas.{row_index}

-- ---- room

pub standard_room : (rows : List Row) (mask written len : ℕ) → ((c : ℕ) → has written c ≡ true → has mask c ≡ true) → standard_size rows mask ≤ len → (i : ℕ) (r : Row) → slice_get rows i ≡ Some r → has written r.comp.0 ≡ true → r.offset + r.size ≤ len
standard_room rows mask written len within room i r row on =
    let at = row_index rows i r row in
    let ends = end_covers (has mask) rows i r at.0 at.1 (within r.comp.0 on) in
    omega arith

-- ---- the components, and MXCSR

pub area_written : (file : File) (names : ℕ) (control : Bool) (written : ℕ) (before mid after : List ℕ) → length mid ≡ length before → ((k : ℕ) → get_or mid k 0 ≡ component_byte (saved_byte file) (place file.rows names) written k file.rows (get_or before k 0)) → control ≡ true → 32 ≤ length mid → after ≡ splice 24 (control_bytes file.mxcsr) mid → IsWrittenArea file names control written before after
area_written file names control written before mid after len each on room is =
    let eight = control_eight file.mxcsr in
    let fits : 24 + length (control_bytes file.mxcsr) ≤ length mid = omega arith in
    record {
      len = ap length is ∙ length_splice 24 (control_bytes file.mxcsr) mid fits ∙ len;
      each = λ i outside. rw (is, splice_byte 24 (control_bytes file.mxcsr) mid i fits, eight, each i, on) (here (is_within 24 8 i) (get_or (control_bytes file.mxcsr) (i - 24) 0) (component_byte (saved_byte file) (place file.rows names) written i file.rows (get_or before i 0)));
    }
  where
    here : (b : Bool) (x y : ℕ) → (if b then x else y) ≡ (if b && true then x else y)
    here true x y = refl
    here false x y = refl

-- bytes 416 to 575 belong to no component
pub header_kept : (file : File) (names written : ℕ) (before mid : List ℕ) → IsLayout file.rows → ((k : ℕ) → get_or mid k 0 ≡ component_byte (saved_byte file) (place file.rows names) written k file.rows (get_or before k 0)) → (k : ℕ) → is_within 416 160 k ≡ true → get_or mid k 0 ≡ get_or before k 0
header_kept file names written before mid table each k inside =
    each k ∙ component_none (saved_byte file) (place file.rows names) written file.rows k (get_or before k 0) (λ i r lt is on. none i r lt is)
  where
    none : (i : ℕ) (r : Row) → i < length file.rows → r ≡ get_or file.rows i r → has_byte (place file.rows names r) r k ≡ false
    none i r lt is = ap (λ b. b && not (is_within 24 8 k)) (place_outside file.rows names r k (sound_at file.rows table i r lt is) inside)

pub header_beside : (file : File) (mid after : List ℕ) → 32 ≤ length mid → after ≡ splice 24 (control_bytes file.mxcsr) mid → (k : ℕ) → is_within 416 160 k ≡ true → get_or after k 0 ≡ get_or mid k 0
header_beside file mid after room is k inside =
    let tells = within_tells 416 160 k inside in
    let eight = control_eight file.mxcsr in
    let fits : 24 + length (control_bytes file.mxcsr) ≤ length mid = omega arith in
    ap (λ l. get_or l k 0) is ∙ splice_byte 24 (control_bytes file.mxcsr) mid k fits ∙ ap (λ b. if b then get_or (control_bytes file.mxcsr) (k - 24) 0 else get_or mid k 0) (within_above 24 (length (control_bytes file.mxcsr)) k (omega arith))

-- ---- the header

-- eight bytes were written, and the others stay
eight_other : (at n : ℕ) (area : List ℕ) (k : ℕ) → at + 8 ≤ length area → is_within at 8 k ≡ false → get_or (splice at (to_le_bytes w64 n) area) k 0 ≡ get_or area k 0
eight_other at n area k fits off =
    splice_byte at (to_le_bytes w64 n) area k fits ∙ ap (λ b. if b then get_or (to_le_bytes w64 n) (k - at) 0 else get_or area k 0) off

module _ (i : ℕ) (off : is_within 512 16 i ≡ false) where
  -- what isn't of the header is none of its two numbers'
  first_off : is_within 512 8 i ≡ false
  first_off = grind (arith, nat_tests, off)

  second_off : is_within 520 8 i ≡ false
  second_off = grind (arith, nat_tests, off)

and_twice : (m u o : Bool) → (if m then m && u else o) ≡ (if m then u else o)
and_twice true u o = refl
and_twice false u o = refl

pub standard_saved : (file : File) (mask written bits used : ℕ) (control : Bool) (before mid after : List ℕ) → 576 ≤ length before → control ≡ has_control mask → IsWrittenArea file 0 control written before mid → ((k : ℕ) → is_within 416 160 k ≡ true → get_or mid k 0 ≡ get_or before k 0) → after ≡ splice 512 (to_le_bytes w64 bits) mid → bits < 2 ^ 64 → ((c : ℕ) → has bits c ≡ (if has mask c then has used c else has (xstate_bv before) c)) → ((c : ℕ) → has used c ≡ (has mask c && in_use file c)) → IsStandardSave file mask written before after
standard_saved file mask written bits used control before mid after long control_is area header is small are used_are =
    let len = area.len in
    let fits : 512 + 8 ≤ length mid = omega arith in
    let whole : length after ≡ length before = ap length is ∙ length_splice 512 (to_le_bytes w64 bits) mid fits ∙ len in
    let other : (k : ℕ) → is_within 512 8 k ≡ false → get_or after k 0 ≡ get_or mid k 0 = λ k off. ap (λ l. get_or l k 0) is ∙ eight_other 512 bits mid k fits off in
    record {
      bits = λ c. ap (λ n. has n c) (ap xstate_bv is ∙ xstate_bv_splice mid bits (omega arith) small) ∙ are c ∙ ap (λ b. if has mask c then b else has (xstate_bv before) c) (used_are c) ∙ and_twice (has mask c) (in_use file c) (has (xstate_bv before) c);
      names = xcomp_bv_same after before (omega arith) (omega arith) (λ k low high. other k (within_above 512 8 k low) ∙ header k (within_in 416 160 k (omega arith) (omega arith)));
      bytes = record {
        len = whole;
        each = λ i off. other i (first_off i off) ∙ area.each i off ∙ ap (λ b. if is_within 24 8 i && b then get_or (control_bytes file.mxcsr) (i - 24) 0 else component_byte (saved_byte file) (place file.rows 0) written i file.rows (get_or before i 0)) control_is;
      };
    }

pub compacted_saved : (file : File) (mask written names bits : ℕ) (control : Bool) (before mid named after : List ℕ) → 576 ≤ length before → control ≡ has written 1 → names ≡ compacted mask → IsWrittenArea file names control written before mid → named ≡ splice 520 (to_le_bytes w64 names) mid → names < 2 ^ 64 → after ≡ splice 512 (to_le_bytes w64 bits) named → bits < 2 ^ 64 → ((c : ℕ) → has bits c ≡ (has mask c && is_saved file c)) → IsCompactedSave file mask written before after
compacted_saved file mask written names bits control before mid named after long control_is names_are area named_is names_small is small are =
    let len = area.len in
    let fits : 520 + 8 ≤ length mid = omega arith in
    let named_len : length named ≡ length before = ap length named_is ∙ length_splice 520 (to_le_bytes w64 names) mid fits ∙ len in
    let fits2 : 512 + 8 ≤ length named = omega arith in
    let whole : length after ≡ length before = ap length is ∙ length_splice 512 (to_le_bytes w64 bits) named fits2 ∙ named_len in
    let other : (k : ℕ) → is_within 512 8 k ≡ false → get_or after k 0 ≡ get_or named k 0 = λ k off. ap (λ l. get_or l k 0) is ∙ eight_other 512 bits named k fits2 off in
    let further : (k : ℕ) → is_within 520 8 k ≡ false → get_or named k 0 ≡ get_or mid k 0 = λ k off. ap (λ l. get_or l k 0) named_is ∙ eight_other 520 names mid k fits off in
    record {
      bits = λ c. ap (λ n. has n c) (ap xstate_bv is ∙ xstate_bv_splice named bits (omega arith) small) ∙ are c;
      names = xcomp_bv_same after named (omega arith) (omega arith) (λ k low high. other k (within_above 512 8 k low)) ∙ ap xcomp_bv named_is ∙ xcomp_bv_splice mid names fits names_small ∙ names_are;
      bytes = record {
        len = whole;
        each = λ i off. other i (first_off i off) ∙ further i (second_off i off) ∙ area.each i off
            ∙ ap (λ b. if is_within 24 8 i && b then get_or (control_bytes file.mxcsr) (i - 24) 0 else component_byte (saved_byte file) (place file.rows names) written i file.rows (get_or before i 0)) control_is
            ∙ ap (λ n. if is_within 24 8 i && has written 1 then get_or (control_bytes file.mxcsr) (i - 24) 0 else component_byte (saved_byte file) (place file.rows n) written i file.rows (get_or before i 0)) names_are;
      };
    }

-- ---- one component of a file

pub saved_written : (file : File) (r : Row) (at into : ℕ) (bytes old new : List ℕ) → at ≡ into → bytes ≡ part file r.comp.0 → r.size ≡ length bytes → IsWritten at (length bytes) (λ k. if is_own r.comp.0 k then get_or bytes k 0 else 0) old new → IsWritten into r.size (saved_byte file r.comp.0) old new
saved_written file r at into bytes old new at_is is size h =
    let own : IsWritten at (length bytes) (saved_byte file r.comp.0) old new = subst (λ bs. IsWritten at (length bytes) (λ k. if is_own r.comp.0 k then get_or bs k 0 else 0) old new) is h in
    let sized : IsWritten at r.size (saved_byte file r.comp.0) old new = subst (λ n. IsWritten at n (saved_byte file r.comp.0) old new) (sym size) own in
    subst (λ n. IsWritten n r.size (saved_byte file r.comp.0) old new) at_is sized
