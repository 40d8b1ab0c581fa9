-- What a change of eight bytes of the legacy region leaves, and what a call's inputs keep from turn to turn.
use Rattle.std.proofs.Common.{◌≡◌, ℕ, ◌+◌, ◌≤◌, Bool, true, false, ◌||◌, ◌==◌, bit_or, List, length, Option, Some, None, ◌&&◌, w32, w64, if◌then◌else◌, refl, sym, ap, ◌∙◌, arith}
use Rattle.std.specs.Int.{from_le_bytes}
use Rattle.std.specs.Prelude.{slice_range}
use Rattle.xs_base.specs.declared.component.Row.{Row}
use Rattle.xs_base.specs.declared.component.Place.{Place}
use Rattle.xs_base.specs.declared.header.Parts.{Parts}
use Rattle.xs_base.specs.Area.{HasPlaces, KeepsForm, has_room, ends_inside}
use Rattle.xs_base.specs.Bytes.{splice}
use Rattle.xs_base.specs.Compact.{place, has_place}
use Rattle.xs_base.specs.File.{File, write_place, is_mxcsr, part, with_part}
use Rattle.xs_base.specs.Header.{xstate_bv, xcomp_bv}
use Rattle.xs_base.specs.Layout.{full_size, standard_size, row_of}
use Rattle.xs_base.specs.Register.{IsRegister}
use Rattle.xs_base.specs.Sets.{has}
use Rattle.xs_base.proofs.SetLemmas.{has_or}
use Rattle.std.proofs.lemmas.Bool.{ne_eqb, false≢true}
use Rattle.xs_base.proofs.ByteLemmas.{length_splice, splice_above, range_same}

-- ---- a change of eight bytes: 160 to 167, and XSTATE_BV

changed_range : (at : ℕ) (bytes old : List ℕ) (from to : ℕ) → length bytes ≡ 8 → at + 8 ≤ from → 576 ≤ length old → from ≤ to → to ≤ 576 → slice_range (splice at bytes old) from to ≡ slice_range old from to
changed_range at bytes old from to eight low long order high =
    let fits : at + length bytes ≤ length old = omega arith in
    let len = length_splice at bytes old fits in
    range_same from to (splice at bytes old) old (omega arith) (omega arith) (λ k above below. splice_above at bytes old k fits (omega arith))

pub changed_bits : (bytes old : List ℕ) → length bytes ≡ 8 → 576 ≤ length old → xstate_bv (splice 160 bytes old) ≡ xstate_bv old
unfolding xstate_bv
changed_bits bytes old eight long = ap (from_le_bytes w64) (changed_range 160 bytes old 512 520 eight (omega arith) long (omega arith) (omega arith))

pub changed_names : (at : ℕ) (bytes old : List ℕ) → length bytes ≡ 8 → 576 ≤ length old → at ≤ 512 → xcomp_bv (splice at bytes old) ≡ xcomp_bv old
unfolding xcomp_bv
changed_names at bytes old eight long low = ap (from_le_bytes w64) (changed_range at bytes old 520 528 eight (omega arith) long (omega arith) (omega arith))

-- ---- an area that can be read

pub record CanBeRead (rows : List Row) (area : List ℕ) : Type 0 where
  pub header : 576 ≤ length area
  pub places : HasPlaces rows area (xstate_bv area)

-- It stays one with the same header and length.
pub read_on : (rows : List Row) (old new : List ℕ) → CanBeRead rows old → length new ≡ length old → xstate_bv new ≡ xstate_bv old → xcomp_bv new ≡ xcomp_bv old → CanBeRead rows new
read_on rows old new h len bits names = record {
  header = rw len h.header;
  places = λ i r row named. rw (names, len) (h.places i r row (rw bits at named));
}

-- ---- an image and an area that takes its components

pub record CanBeTaken (rows : List Row) (image : List ℕ) (parts : Parts) (area : List ℕ) : Type 0 where
  pub whole : full_size rows ≤ length image
  pub long : 8192 ≤ length area
  pub sse : has_room rows area 1 ≡ true
  pub room : (c : ℕ) → (c ≡ 9 → ⊥) → has parts.bits.0 c ≡ true → has_room rows area c ≡ true

ends_kept : (rows : List Row) (old new : List ℕ) → xcomp_bv new ≡ xcomp_bv old → length new ≡ length old → (o : Option Row) → ends_inside rows new o ≡ ends_inside rows old o
ends_kept rows old new names len None = refl
ends_kept rows old new names len (Some r) = rw (names, len) refl

room_kept : (rows : List Row) (old new : List ℕ) → xcomp_bv new ≡ xcomp_bv old → length new ≡ length old → (c : ℕ) → has_room rows new c ≡ has_room rows old c
room_kept rows old new names len c =
    ap (λ x. has_place rows x c && ends_inside rows new (row_of rows c)) names ∙ ap (λ b. has_place rows (xcomp_bv old) c && b) (ends_kept rows old new names len (row_of rows c))

-- each component of the image's parts but PKRU is one of the area's
pub room_of_parts : (rows : List Row) (area : List ℕ) (bits parts : ℕ) → parts ≡ bit_or bits 512 → ((c : ℕ) → has bits c ≡ true → has_room rows area c ≡ true) → (c : ℕ) → (c ≡ 9 → ⊥) → has parts c ≡ true → has_room rows area c ≡ true
room_of_parts rows area bits parts same room c apart named = room c (either (has bits c) (c == 9) (ne_eqb c 9 apart) (sym (has_or bits 9 c (omega arith)) ∙ ap (λ x. has x c) (sym same) ∙ named))
  where
    either : (a b : Bool) → b ≡ false → (a || b) ≡ true → a ≡ true
    either true b none e = refl
    either false b none e = absurd (false≢true (sym none ∙ e))

-- They stay so after a call.
pub taken_on : (rows : List Row) (image other : List ℕ) (parts : Parts) (old new : List ℕ) → CanBeTaken rows image parts old → length other ≡ length image → KeepsForm old new → CanBeTaken rows other parts new
taken_on rows image other parts old new h len form = record {
  whole = rw len h.whole;
  long = rw form.len h.long;
  sse = room_kept rows old new form.names form.len 1 ∙ h.sse;
  room = λ c apart named. room_kept rows old new form.names form.len c ∙ h.room c apart named;
}

-- ---- a file whose register is written

pub record CanBeWritten (file : File) (mask : ℕ) (place : Place) (out : List ℕ) : Type 0 where
  pub register : (name : List ℕ) × IsRegister file.rows name place
  pub len : place.len ≡ 16
  pub room : standard_size file.rows mask ≤ length out
  pub long : 8192 ≤ length out

-- a register's bytes leave the machine
pub rows_kept : (file : File) (place : Place) (bytes : List ℕ) → (write_place file place bytes).rows ≡ file.rows
rows_kept file place bytes = choose (is_mxcsr place)
  where
    choose : (b : Bool) → (if b then record file { mxcsr = from_le_bytes w32 bytes } else with_part file place.comp.0 (splice place.offset bytes (part file place.comp.0))).rows ≡ file.rows
    choose true = refl
    choose false = refl

pub written_on : (file : File) (mask : ℕ) (place : Place) (bytes old new : List ℕ) → CanBeWritten file mask place old → length new ≡ length old → CanBeWritten (write_place file place bytes) mask place new
written_on file mask place bytes old new h len = record {
  register = rw (rows_kept file place bytes) h.register;
  len = h.len;
  room = rw (rows_kept file place bytes, len) h.room;
  long = rw len h.long;
}
