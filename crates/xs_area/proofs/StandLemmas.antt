-- What an area stands for after a copy of components into it.
use Rattle.std.proofs.Common.{◌≡◌, ◌⊎◌, ℕ, ◌+◌, ◌==◌, ◌&&◌, ◌||◌, Bool, true, false, true≢false, not, List, get_or, Some, if◌then◌else◌, refl, sym, ap, ◌∙◌, arith, inl, inr}
use Rattle.std.proofs.lemmas.Bool.{cases_Bool, or_cases, eqb-true, ne_eqb}
use Rattle.std.specs.Prelude.{slice_get}
use Rattle.xs_base.specs.declared.component.Row.{Row}
use Rattle.xs_base.specs.declared.header.Parts.{Parts}
use Rattle.xs_base.specs.Area.{StandsAt, StandsFor, IsOfParts, IsCut, has_room, has_control_room, control_in}
use Rattle.xs_base.specs.Component.{component_size, initial_part, initial_mxcsr}
use Rattle.xs_base.specs.Compact.{is_compacted, place, has_place}
use Rattle.xs_base.specs.File.{File, part, initial_file}
use Rattle.xs_base.specs.Header.{xstate_bv, xcomp_bv, mxcsr}
use Rattle.xs_base.specs.Layout.{IsLayout}
use Rattle.xs_base.specs.Sets.{has}
use Rattle.xs_base.proofs.ComponentLemmas.{initial_other, zero_at}
use Rattle.xs_base.proofs.FileLemmas.{initial_at}
use Rattle.xs_base.proofs.LayoutLemmas.{has_row_at, sound_at}
use Rattle.xs_base.proofs.PlaceLemmas.{place_legacy}
use Rattle.xs_area.specs.Copy.{IsTaken, is_copied}
use Rattle.xs_area.proofs.RoomLemmas.{room_tells}
use Rattle.xs_base.proofs.RowLemmas.{row_index}

-- The components of the set stand for the file in these bytes by `names`, and every other one is initial.
pub record IsSource (rows : List Row) (from : List ℕ) (names set control : ℕ) (file : File) : Type 0 where
  pub rows_are : file.rows ≡ rows
  pub present : (i : ℕ) (r : Row) → slice_get rows i ≡ Some r → (r.comp.0 ≡ 9 → ⊥) → has set r.comp.0 ≡ true → StandsAt from (place rows names r) file r.comp.0
  pub absent : (i : ℕ) (r : Row) → slice_get rows i ≡ Some r → (r.comp.0 ≡ 9 → ⊥) → has set r.comp.0 ≡ false → part file r.comp.0 ≡ initial_part r.comp.0
  pub control_is : file.mxcsr ≡ control

-- What the area has room for is the file's, and every other component of the machine is initial.
pub record IsTarget (rows : List Row) (area : List ℕ) (file cut : File) : Type 0 where
  pub rows_are : cut.rows ≡ file.rows
  pub kept : (c : ℕ) → (c ≡ 9 → ⊥) → has_room rows area c ≡ true → part cut c ≡ part file c
  pub left_out : (i : ℕ) (r : Row) → slice_get rows i ≡ Some r → (r.comp.0 ≡ 9 → ⊥) → has_room rows area r.comp.0 ≡ false → part cut r.comp.0 ≡ initial_part r.comp.0
  pub control_is : cut.mxcsr ≡ (if has_control_room rows area then file.mxcsr else initial_mxcsr)

-- ---- sources

pub source_area : (rows : List Row) (area : List ℕ) (file : File) → StandsFor rows area file → IsSource rows area (xcomp_bv area) (xstate_bv area) (control_in area) file
source_area rows area file h = record { rows_are = h.rows_are; present = h.present; absent = h.absent; control_is = h.control }

pub source_parts : (rows : List Row) → IsLayout rows → (bytes : List ℕ) (parts : Parts) (file : File) → IsOfParts rows bytes parts (initial_file rows) file → IsSource rows bytes 0 parts.bits.0 parts.mxcsr file
source_parts rows table bytes parts file h = record {
  rows_are = h.rows_are;
  present = h.present;
  absent = λ i r row other none. let at = row_index rows i r row in h.absent i r row other none ∙ initial_at rows r.comp.0 (sound_at rows table i r at.0 at.1).number;
  control_is = h.control;
}

-- ---- targets

pub target_cut : (rows : List Row) (area : List ℕ) (file cut : File) → IsCut rows area file cut → IsTarget rows area file cut
target_cut rows area file cut h = record {
  rows_are = h.rows_are;
  kept = h.kept;
  left_out = λ i r row other none. let at = row_index rows i r row in h.left_out r.comp.0 other (has_row_at rows i r at.0 at.1) none;
  control_is = h.control;
}

-- an area with room for every component of the set, and for SSE
pub target_whole : (rows : List Row) (from : List ℕ) (names set control : ℕ) (area : List ℕ) (file : File) → has_room rows area 1 ≡ true → ((c : ℕ) → (c ≡ 9 → ⊥) → has set c ≡ true → has_room rows area c ≡ true) → IsSource rows from names set control file → IsTarget rows area file file
target_whole rows from names set control area file sse room source = record {
  rows_are = refl;
  kept = λ c other h. refl;
  left_out = λ i r row other none. source.absent i r row other (bit_off (has set r.comp.0) refl other none);
  control_is = sym (ap (λ b. if not (is_compacted (xcomp_bv area)) || b then file.mxcsr else initial_mxcsr) sse ∙ either (not (is_compacted (xcomp_bv area))));
}
  where
    bit_off : {c : ℕ} → (b : Bool) → has set c ≡ b → (c ≡ 9 → ⊥) → has_room rows area c ≡ false → has set c ≡ false
    bit_off {c} true on other none = absurd (true≢false (sym (room c other on) ∙ none))
    bit_off {c} false off other none = off

    either : (b : Bool) → (if b || true then file.mxcsr else initial_mxcsr) ≡ file.mxcsr
    either true = refl
    either false = refl

-- ---- what the area stands for

module _ (rows : List Row) (table : IsLayout rows) (from : List ℕ) (names set control : ℕ) (old new : List ℕ) (file cut : File) (taken : IsTaken rows from names set control old new) (source : IsSource rows from names set control file) (target : IsTarget rows old file cut) where
  both : (a b c : Bool) → (a && b && c) ≡ true → (a ≡ true) × (c ≡ true)
  both true true true h = (refl, refl)
  both true true false h = absurd (true≢false (sym h))
  both true false c h = absurd (true≢false (sym h))
  both false b c h = absurd (true≢false (sym h))

  four : (a b c d : Bool) → (a && b && c && d) ≡ true → (a ≡ true) × (c ≡ true)
  four true true true true h = (refl, refl)
  four true true true false h = absurd (true≢false (sym h))
  four true true false d h = absurd (true≢false (sym h))
  four true false c d h = absurd (true≢false (sym h))
  four false b c d h = absurd (true≢false (sym h))

  -- a component that is named is copied, or is SSE that has room
  named_cases : (c : ℕ) → has (xstate_bv new) c ≡ true → (is_copied rows old set c ≡ true) ⊎ ((c ≡ 1) × (has_room rows old 1 ≡ true))
  named_cases c on = here (or_cases (is_copied rows old set c) ((c == 1) && is_compacted (xcomp_bv old) && has_room rows old 1 && not (control == initial_mxcsr)) (sym (taken.bits c) ∙ on))
    where
      here : (is_copied rows old set c ≡ true) ⊎ (((c == 1) && is_compacted (xcomp_bv old) && has_room rows old 1 && not (control == initial_mxcsr)) ≡ true) → (is_copied rows old set c ≡ true) ⊎ ((c ≡ 1) × (has_room rows old 1 ≡ true))
      here (inl copied) = inl copied
      here (inr alone) =
          let parts = four (c == 1) (is_compacted (xcomp_bv old)) (has_room rows old 1) (not (control == initial_mxcsr)) alone in
          inr (eqb-true c 1 parts.0, parts.1)

  placed : (c : ℕ) → has (xstate_bv new) c ≡ true → has_place rows (xcomp_bv new) c ≡ true
  placed c on = ap (λ x. has_place rows x c) taken.form.names ∙ here (named_cases c on)
    where
      here : (is_copied rows old set c ≡ true) ⊎ ((c ≡ 1) × (has_room rows old 1 ≡ true)) → has_place rows (xcomp_bv old) c ≡ true
      here (inl copied) = (room_tells rows table old c (both (has set c) (not (c == 9)) (has_room rows old c) copied).1).placed
      here (inr sse) = (room_tells rows table old c (ap (has_room rows old) sse.0 ∙ sse.1)).placed

  -- with room and another number than PKRU's, what isn't copied isn't of the set
  not_set : (c : ℕ) → (c ≡ 9 → ⊥) → has_room rows old c ≡ true → is_copied rows old set c ≡ false → has set c ≡ false
  not_set c other room off = here (has set c) (c == 9) (has_room rows old c) (ne_eqb c 9 other) room off
    where
      here : (a b r : Bool) → b ≡ false → r ≡ true → (a && not b && r) ≡ false → a ≡ false
      here false b r nine room off = refl
      here true true r nine room off = absurd (true≢false nine)
      here true false r nine room off = absurd (true≢false (sym room ∙ off))

  present : (i : ℕ) (r : Row) → slice_get rows i ≡ Some r → (r.comp.0 ≡ 9 → ⊥) → has (xstate_bv new) r.comp.0 ≡ true → StandsAt new (place rows (xcomp_bv new) r) cut r.comp.0
  present i r row other on k small own =
      ap (λ x. get_or new (place rows x r + k) 0) taken.form.names ∙ here (cases_Bool (is_copied rows old set r.comp.0)) (named_cases r.comp.0 on)
    where
      copied_case : is_copied rows old set r.comp.0 ≡ true → get_or new (place rows (xcomp_bv old) r + k) 0 ≡ get_or (part cut r.comp.0) k 0
      copied_case copied =
          let parts = both (has set r.comp.0) (not (r.comp.0 == 9)) (has_room rows old r.comp.0) copied in
          let place_of = row_index rows i r row in
          let sound = sound_at rows table i r place_of.0 place_of.1 in
          taken.copied i r row copied k (omega (arith, sound.size)) own
          ∙ source.present i r row other parts.0 k small own
          ∙ ap (λ l. get_or l k 0) (sym (target.kept r.comp.0 other parts.1))

      alone_case : is_copied rows old set r.comp.0 ≡ false → r.comp.0 ≡ 1 → has_room rows old 1 ≡ true → get_or new (place rows (xcomp_bv old) r + k) 0 ≡ get_or (part cut r.comp.0) k 0
      alone_case off sse room =
          let place_of = row_index rows i r row in
          let sound = sound_at rows table i r place_of.0 place_of.1 in
          let where_is : place rows (xcomp_bv old) r ≡ 160 = place_legacy rows (xcomp_bv old) r (omega arith) ∙ (sound.sse sse).0 in
          let room_r : has_room rows old r.comp.0 ≡ true = ap (has_room rows old) sse ∙ room in
          let initial : part cut r.comp.0 ≡ initial_part r.comp.0 = target.kept r.comp.0 other room_r ∙ source.absent i r row other (not_set r.comp.0 other room_r off) in
          let zeros_are = initial_other r.comp.0 (λ z. omega arith) in
          ap (λ p. get_or new (p + k) 0) where_is
          ∙ taken.alone (ap (is_copied rows old set) (sym sse) ∙ off) (ap (has (xstate_bv new)) (sym sse) ∙ on) k (omega (arith, sound.size, (sound.sse sse).1))
          ∙ sym (ap (λ l. get_or l k 0) (initial ∙ zeros_are) ∙ zero_at (component_size r.comp.0) k)

      here : (is_copied rows old set r.comp.0 ≡ true) ⊎ (is_copied rows old set r.comp.0 ≡ false) → (is_copied rows old set r.comp.0 ≡ true) ⊎ ((r.comp.0 ≡ 1) × (has_room rows old 1 ≡ true)) → get_or new (place rows (xcomp_bv old) r + k) 0 ≡ get_or (part cut r.comp.0) k 0
      here (inl copied) named = copied_case copied
      here (inr off) (inl copied) = copied_case copied
      here (inr off) (inr sse) = alone_case off sse.0 sse.1

  absent : (i : ℕ) (r : Row) → slice_get rows i ≡ Some r → (r.comp.0 ≡ 9 → ⊥) → has (xstate_bv new) r.comp.0 ≡ false → part cut r.comp.0 ≡ initial_part r.comp.0
  absent i r row other off = here (cases_Bool (has_room rows old r.comp.0))
    where
      left : (a b : Bool) → (a || b) ≡ false → a ≡ false
      left true b h = h
      left false b h = refl

      not_copied : is_copied rows old set r.comp.0 ≡ false
      not_copied = left (is_copied rows old set r.comp.0) ((r.comp.0 == 1) && is_compacted (xcomp_bv old) && has_room rows old 1 && not (control == initial_mxcsr)) (sym (taken.bits r.comp.0) ∙ off)

      here : (has_room rows old r.comp.0 ≡ true) ⊎ (has_room rows old r.comp.0 ≡ false) → part cut r.comp.0 ≡ initial_part r.comp.0
      here (inl room) = target.kept r.comp.0 other room ∙ source.absent i r row other (not_set r.comp.0 other room not_copied)
      here (inr none) = target.left_out i r row other none

  control_of : cut.mxcsr ≡ control_in new
  control_of =
      target.control_is
      ∙ ap (λ m. if has_control_room rows old then m else initial_mxcsr) source.control_is
      ∙ here (is_compacted (xcomp_bv old)) (has_room rows old 1) (has set 1) (control == initial_mxcsr) (λ e. eqb-true control initial_mxcsr e)
      ∙ ap (λ b. if is_compacted (xcomp_bv old) && not b then initial_mxcsr else control) (sym (taken.bits 1))
      ∙ ap (λ m. if is_compacted (xcomp_bv old) && not (has (xstate_bv new) 1) then initial_mxcsr else m) (sym taken.control_is)
      ∙ ap (λ x. if is_compacted x && not (has (xstate_bv new) 1) then initial_mxcsr else mxcsr new) (sym taken.form.names)
    where
      here : (c r a e : Bool) → (e ≡ true → control ≡ initial_mxcsr) → (if not c || r then control else initial_mxcsr) ≡ (if c && not ((a && not (1 == 9) && r) || ((1 == 1) && c && r && not e)) then initial_mxcsr else control)
      here false r a e same = refl
      here true true true e same = refl
      here true true false true same = same refl
      here true true false false same = refl
      here true false true e same = refl
      here true false false e same = refl

  pub stands_taken : StandsFor rows new cut
  stands_taken = record {
    rows_are = target.rows_are ∙ source.rows_are;
    placed = placed;
    present = present;
    absent = absent;
    control = control_of;
  }
