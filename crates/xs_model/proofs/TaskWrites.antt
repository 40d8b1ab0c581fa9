-- A register that is set to bytes that fit it leaves a file that a task may have.
use Rattle.std.proofs.Common.{◌≡◌, ℕ, zero, suc, ◌+◌, ◌-◌, ◌<◌, ◌≤◌, ◌^◌, true, false, List, [], ◌∷◌, length, get_or, sym, ap, subst, ◌∙◌, inl, inr, arith}
use Rattle.std.specs.Prelude.{drop, not, ◌&&◌, ◌||◌, ◌==◌, if◌then◌else◌}
use Rattle.std.specs.List.{AllByRecursion, list_all}
use Rattle.std.specs.Int.{from_le_bytes, w32}
use Rattle.std.proofs.lemmas.Bool.{cases_lt, cases_eq, cases_Bool, and_parts, eqb-true}
use Rattle.xs_base.specs.declared.component.Row.{Row}
use Rattle.xs_base.specs.declared.component.Place.{Place}
use Rattle.xs_base.specs.Bytes.{splice}
use Rattle.xs_base.specs.Component.{component_count, component_size, tiledata_number}
use Rattle.xs_base.specs.File.{File, part, with_part, is_mxcsr, write_place}
use Rattle.xs_base.specs.Register.{IsRegister}
use Rattle.xs_base.specs.Task.{IsFileOf}
use Rattle.xs_base.proofs.ByteLemmas.{splice_below, splice_inside, splice_above}
use Rattle.xs_base.proofs.FileLemmas.{part_here, part_other, with_control, write_is_file}
use Rattle.xs_base.proofs.Registers.{place_component, place_within, control_length}
use Rattle.xs_model.specs.Script.{fits_register}

-- an element of bytes is one
pub byte_at_place : (bytes : List ℕ) (k : ℕ) → AllByRecursion (λ byte. byte < 256) bytes → get_or bytes k 0 < 256
byte_at_place [] k all = omega arith
byte_at_place (b ∷ bytes) zero all = all.0
byte_at_place (b ∷ bytes) (suc k) all = byte_at_place bytes k all.1

-- MXCSR's upper two bytes are zero in what a command sets it to.
control_below : (bytes : List ℕ) → length bytes ≡ 4 → AllByRecursion (λ byte. byte < 256) bytes → list_all (λ byte. byte == 0) (drop 2 bytes) ≡ true → from_le_bytes w32 bytes < 2 ^ 16
control_below (a ∷ b ∷ c ∷ d ∷ []) len all none =
    let third = and_parts (c == 0) ((d == 0) && true) none in
    let fourth = and_parts (d == 0) true third.1 in
    omega (arith, all.0, all.1.0, eqb-true c 0 third.0, eqb-true d 0 fourth.0)
control_below bytes len all none = absurd (omega arith)

-- bytes written into bytes are bytes
pub splice_bytes : (at : ℕ) (new old : List ℕ) → at + length new ≤ length old → AllByRecursion (λ byte. byte < 256) new → ((k : ℕ) → get_or old k 0 < 256) → (k : ℕ) → get_or (splice at new old) k 0 < 256
splice_bytes at new old fits all bytes k =
    elim (cases_lt k at) [
      | inl below ↦ rw (splice_below at new old k fits below) (bytes k)
      | inr from ↦ elim (cases_lt k (at + length new)) [
        | inl inside ↦ rw (splice_inside at new old k fits from inside) (byte_at_place new (k - at) all)
        | inr above ↦ rw (splice_above at new old k fits above) (bytes k)
      ]
    ]

-- a write to MXCSR
write_control : (file : File) (place : Place) (bytes : List ℕ) → is_mxcsr place ≡ true → write_place file place bytes ≡ record file { mxcsr = from_le_bytes w32 bytes }
write_control file place bytes is = ap (λ here. if here then record file { mxcsr = from_le_bytes w32 bytes } else with_part file place.comp.0 (splice place.offset bytes (part file place.comp.0))) is

-- a write elsewhere
write_part : (file : File) (place : Place) (bytes : List ℕ) → is_mxcsr place ≡ false → write_place file place bytes ≡ with_part file place.comp.0 (splice place.offset bytes (part file place.comp.0))
write_part file place bytes is = ap (λ here. if here then record file { mxcsr = from_le_bytes w32 bytes } else with_part file place.comp.0 (splice place.offset bytes (part file place.comp.0))) is

-- MXCSR set to four bytes whose upper two are zero
control_written : (rows : List Row) (file : File) (bytes : List ℕ) → IsFileOf rows file → from_le_bytes w32 bytes < 2 ^ 16 → IsFileOf rows (record file { mxcsr = from_le_bytes w32 bytes })
control_written rows file bytes good small = record {
  is_file = with_control file (from_le_bytes w32 bytes) (omega arith) good.is_file;
  rows_are = good.rows_are;
  bytes = good.bytes;
  control = small;
}

-- another register set to bytes
part_written : (rows : List Row) (file : File) (reg : List ℕ) (place : Place) (bytes : List ℕ) → IsFileOf rows file → IsRegister rows reg place → length bytes ≡ place.len → is_mxcsr place ≡ false → AllByRecursion (λ byte. byte < 256) bytes → IsFileOf rows (with_part file place.comp.0 (splice place.offset bytes (part file place.comp.0)))
part_written rows file reg place bytes good register len apart all =
    let c = place.comp.0 in
    let lt : c < component_count = place_component reg place register.0 in
    let size : length (part file c) ≡ component_size c = good.is_file.sizes c lt in
    let within : place.offset + place.len ≤ component_size c = place_within reg place register.0 apart in
    let fits : place.offset + length bytes ≤ length (part file c) = omega arith in
    let new = splice place.offset bytes (part file c) in
    let there : c < length file.parts = omega (arith, good.is_file.count) in
    let here : part (with_part file c new) c ≡ new = part_here file c new there in
    record {
      is_file = write_is_file file reg place bytes good.is_file (subst (λ (rs : List Row). IsRegister rs reg place) (sym good.rows_are) register) len apart;
      rows_are = good.rows_are;
      bytes = λ d k. elim (cases_eq d c) [
        | inl same ↦ rw (same, here) (splice_bytes place.offset bytes (part file c) fits all (good.bytes c) k)
        | inr other ↦ rw (part_other file c d new other) (good.bytes d k)
      ];
      control = good.control;
    }

-- a register that takes bytes of a command
pub written : (rows : List Row) (file : File) (reg : List ℕ) (place : Place) (bytes : List ℕ) → IsFileOf rows file → IsRegister rows reg place → fits_register place bytes ≡ true → AllByRecursion (λ byte. byte < 256) bytes → IsFileOf rows (write_place file place bytes)
written rows file reg place bytes good register fits all =
    let parts = and_parts (length bytes == place.len) (not (is_mxcsr place) || list_all (λ byte. byte == 0) (drop 2 bytes)) fits in
    let len : length bytes ≡ place.len = eqb-true (length bytes) place.len parts.0 in
    elim (cases_Bool (is_mxcsr place)) [
      | inl is ↦
          let none : list_all (λ byte. byte == 0) (drop 2 bytes) ≡ true = rw is at parts.1 in
          let small = control_below bytes (len ∙ control_length reg place register.0 is) all none in
          subst (IsFileOf rows) (sym (write_control file place bytes is)) (control_written rows file bytes good small)
      | inr apart ↦ subst (IsFileOf rows) (sym (write_part file place bytes apart)) (part_written rows file reg place bytes good register len apart all)
    ]

-- a write elsewhere leaves TILEDATA
pub write_leaves : (file : File) (place : Place) (bytes : List ℕ) → (place.comp.0 ≡ tiledata_number → ⊥) → part (write_place file place bytes) tiledata_number ≡ part file tiledata_number
write_leaves file place bytes apart = elim (cases_Bool (is_mxcsr place)) [
  | inl is ↦ ap (λ (f : File). part f tiledata_number) (write_control file place bytes is)
  | inr off ↦
      ap (λ (f : File). part f tiledata_number) (write_part file place bytes off)
      ∙ part_other file place.comp.0 tiledata_number (splice place.offset bytes (part file place.comp.0)) (λ (same : tiledata_number ≡ place.comp.0). apart (sym same))
]
