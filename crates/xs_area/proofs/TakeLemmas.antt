-- What a copy of components into an area wrote, from its steps.
use Rattle.std.proofs.Common.{◌≡◌, ◌⊎◌, ℕ, ◌+◌, ◌<◌, ◌≤◌, ◌==◌, ◌&&◌, ◌||◌, Bool, true, false, true≢false, not, List, length, get_or, Some, refl, sym, ap, ◌∙◌, arith, inl, inr}
use Rattle.std.proofs.lemmas.Bool.{cases_eq, eqb-true}
use Rattle.std.specs.Prelude.{slice_get}
use Rattle.xs_base.specs.declared.component.Row.{Row}
use Rattle.xs_base.specs.Area.{KeepsForm, has_room, is_named}
use Rattle.xs_base.specs.Bytes.{is_within}
use Rattle.xs_base.specs.Component.{initial_mxcsr}
use Rattle.xs_base.specs.Compact.{is_compacted, place}
use Rattle.xs_base.specs.File.{is_own}
use Rattle.xs_base.specs.Header.{xcomp_bv}
use Rattle.xs_base.specs.Layout.{IsLayout, IsSound}
use Rattle.xs_base.specs.Sets.{has}
use Rattle.xs_base.proofs.ByteLemmas.{range_same, within_in, within_below, within_above}
use Rattle.xs_base.proofs.LayoutLemmas.{sound_at}
use Rattle.xs_base.proofs.HeaderLemmas.{xcomp_bv_same}
use Rattle.xs_base.proofs.PlaceLemmas.{place_legacy, place_extended, place_sides, own_outside}
use Rattle.xs_base.proofs.RowLemmas.{row_index}
use Rattle.xs_area.specs.Copy.{IsTaken, AreCopied, IsFinished, is_copied, is_alone}
use Rattle.xs_area.proofs.RoomLemmas.{room_sse}

module _ (rows : List Row) (table : IsLayout rows) (from : List ℕ) (names set copied control : ℕ) (old mid new : List ℕ) (long : 576 ≤ length old) (bits : (c : ℕ) → has copied c ≡ is_copied rows old set c) (first : AreCopied rows from names copied (length rows) old mid) (last : IsFinished copied control (is_alone mid copied control) mid new) where
  length_is : length new ≡ length old
  length_is = last.len ∙ first.len

  -- the header behind XSTATE_BV stays
  header_kept : (k : ℕ) → 520 ≤ k → k < 576 → get_or new k 0 ≡ get_or old k 0
  header_kept k low high =
      last.others k (within_above 24 8 k (omega arith)) (within_above 512 8 k (omega arith)) (λ on. within_above 160 256 k (omega arith))
      ∙ first.others k (within_in 416 160 k (omega arith) (omega arith))

  names_kept : xcomp_bv mid ≡ xcomp_bv old
  names_kept = xcomp_bv_same mid old (omega (arith, first.len)) (omega arith) (λ k low high. first.others k (within_in 416 160 k (omega arith) (omega arith)))

  form : KeepsForm old new
  form = record {
    len = length_is;
    names = xcomp_bv_same new old (omega (arith, length_is)) (omega arith) (λ k low high. header_kept k low (omega arith));
    reserved = range_same 528 576 new old (omega (arith, length_is)) long (λ k low high. header_kept k (omega arith) high);
  }

  named : (c : ℕ) → (has copied c || ((c == 1) && is_alone mid copied control)) ≡ is_named rows old set control c
  named c =
      ap (λ x. has copied c || ((c == 1) && (is_compacted x && has x 1 && not (has copied 1) && not (control == initial_mxcsr)))) names_kept
      ∙ tests (has copied c) (c == 1) (is_compacted (xcomp_bv old)) (has (xcomp_bv old) 1) (has copied 1) (not (control == initial_mxcsr)) (has_room rows old 1) (room_sse rows table old long) (λ on. ap (has copied) (eqb-true c 1 on))
      ∙ ap (λ b. b || ((c == 1) && is_compacted (xcomp_bv old) && has_room rows old 1 && not (control == initial_mxcsr))) (bits c)
    where
      tests : (a e c n a1 v r : Bool) → r ≡ (not c || n) → (e ≡ true → a ≡ a1) → (a || (e && (c && n && not a1 && v))) ≡ (a || (e && c && r && v))
      tests true e c n a1 v r room same = refl
      tests false false c n a1 v r room same = refl
      tests false true false n a1 v r room same = refl
      tests false true true n a1 v r room same = ap (λ b. n && not b && v) (sym (same refl)) ∙ and_true n v ∙ ap (λ b. b && v) (sym room)
        where
          and_true : (n v : Bool) → (n && true && v) ≡ (n && v)
          and_true true v = refl
          and_true false v = refl

  -- a byte of a copied component's register
  copied_byte : (i : ℕ) (r : Row) → slice_get rows i ≡ Some r → is_copied rows old set r.comp.0 ≡ true → (k : ℕ) → k < r.size → is_own r.comp.0 k ≡ true → get_or new (place rows (xcomp_bv old) r + k) 0 ≡ get_or from (place rows names r + k) 0
  copied_byte i r row chosen k small own =
      let at = row_index rows i r row in
      let sound = sound_at rows table i r at.0 at.1 in
      let bit : has copied r.comp.0 ≡ true = bits r.comp.0 ∙ chosen in
      last.others (place rows (xcomp_bv old) r + k) (own_outside rows (xcomp_bv old) r k sound own) (header_off sound (place_sides rows (xcomp_bv old) r sound)) (λ on. sse_off sound on bit (cases_eq r.comp.0 0) (cases_eq r.comp.0 1))
      ∙ first.each i r at.0 at.0 at.1 bit k small own
    where
      header_off : IsSound r → (place rows (xcomp_bv old) r + r.size ≤ 416) ⊎ (576 ≤ place rows (xcomp_bv old) r) → is_within 512 8 (place rows (xcomp_bv old) r + k) ≡ false
      header_off sound (inl low) = within_below 512 8 (place rows (xcomp_bv old) r + k) (omega arith)
      header_off sound (inr high) = within_above 512 8 (place rows (xcomp_bv old) r + k) (omega arith)

      third : (a b c d : Bool) → (a && b && not c && d) ≡ true → c ≡ false
      third true true true d h = absurd (true≢false (sym h))
      third true true false d h = refl
      third true false c d h = absurd (true≢false (sym h))
      third false b c d h = absurd (true≢false (sym h))

      sse_off : IsSound r → is_alone mid copied control ≡ true → has copied r.comp.0 ≡ true → (r.comp.0 ≡ 0) ⊎ (r.comp.0 ≡ 0 → ⊥) → (r.comp.0 ≡ 1) ⊎ (r.comp.0 ≡ 1 → ⊥) → is_within 160 256 (place rows (xcomp_bv old) r + k) ≡ false
      sse_off sound on bit (inl x87) b = within_below 160 256 (place rows (xcomp_bv old) r + k) (omega (arith, place_legacy rows (xcomp_bv old) r (omega arith), (sound.x87 x87).0, (sound.x87 x87).1))
      sse_off sound on bit (inr a) (inl sse) = absurd (true≢false (sym bit ∙ ap (has copied) sse ∙ third (is_compacted (xcomp_bv mid)) (has (xcomp_bv mid) 1) (has copied 1) (not (control == initial_mxcsr)) on))
      sse_off sound on bit (inr a) (inr b) = within_above 160 256 (place rows (xcomp_bv old) r + k) (omega (arith, place_extended rows (xcomp_bv old) r sound (omega arith)))

  pub taken : IsTaken rows from names set control old new
  taken = record {
    form = form;
    bits = λ c. last.bits c ∙ named c;
    copied = copied_byte;
    alone = λ left on k small. last.zero_is (alone_on (has copied 1) (is_alone mid copied control) (bits 1 ∙ left) (sym (last.bits 1) ∙ on)) k small;
    control_is = last.control_is;
  }
    where
      alone_on : (a b : Bool) → a ≡ false → (a || ((1 == 1) && b)) ≡ true → b ≡ true
      alone_on true b off h = absurd (true≢false off)
      alone_on false b off h = h
