-- What holds of the registers at every moment, after each instruction.
use Rattle.std.proofs.Common.{◌≡◌, ℕ, ◌^◌, ◌<◌, ◌==◌, Bool, true, false, not, ◌&&◌, ◌||◌, List, length, get_or, Some, None, if◌then◌else◌, inl, inr, ◌⊎◌, refl, sym, ap, subst, ◌∙◌, arith, lit<}
use Rattle.std.proofs.lemmas.Bool.{cases_Bool, eq-eqb, false≢true}
use Rattle.std.proofs.lemmas.Bool.Decides.{nat_tests}
use Rattle.std.proofs.lemmas.Option.{slice_get_read}
use Rattle.std.specs.Int.{from_le_bytes, w32}
use Rattle.std.specs.List.{list_any}
use Rattle.std.specs.Prelude.{slice_get, slice_range}
use Rattle.xs_base.specs.declared.component.Row.{Row}
use Rattle.xs_base.specs.declared.component.Place.{Place}
use Rattle.xs_bank.specs.declared.instruction.Trap.TheVariants.{Nm}
use Rattle.xs_base.specs.Bytes.{splice}
use Rattle.xs_base.specs.Component.{initial_part, initial_mxcsr}
use Rattle.xs_base.specs.File.{File, IsFile, part, with_part, write_place, is_mxcsr}
use Rattle.xs_base.specs.Header.{xstate_bv, xcomp_bv, mxcsr}
use Rattle.xs_base.specs.HeaderCheck.{has_outside, has_reserved, is_wrong_mxcsr}
use Rattle.xs_base.specs.Layout.{features, has_row}
use Rattle.xs_base.specs.Compact.{is_compacted}
use Rattle.xs_base.specs.Sets.{has}
use Rattle.xs_base.specs.Standard.{has_control}
use Rattle.xs_base.proofs.FileLemmas.{part_here, part_other}
use Rattle.xs_base.proofs.LayoutLemmas.{else_none, row_found}
use Rattle.xs_bank.specs.Bank.{disarmed_file}
use Rattle.xs_bank.specs.Load.{tiles, stops_tiles, named_in, standard_trap, compacted_trap, standard_control, compacted_control, IsLoaded}
use Rattle.xs_bank.specs.Registers.{AreRegisters}

-- ---- writes and XFD

-- what is armed is TILEDATA, and the machine has it
pub armed_row : (file : File) (armed : ℕ) → AreRegisters file armed → has armed 18 ≡ true → has_row file.rows 18 ≡ true
armed_row file armed h on = elim h.known [
  | inl none ↦ absurd (false≢true (ap (λ n. has n 18) (sym none) ∙ on))
  | inr one ↦ one.1
]

pub armed_registers : (file : File) (armed : ℕ) → IsFile file → file.mxcsr < 2 ^ 16 → ((armed ≡ 0) ⊎ ((armed ≡ tiles) × (has_row file.rows 18 ≡ true))) → AreRegisters (disarmed_file file armed) armed
armed_registers file armed is_file control known = elim (cases_Bool (has armed 18)) [
  | inl on ↦
      let same : disarmed_file file armed ≡ with_part file 18 (initial_part 18) = ap (λ b. if b then with_part file 18 (initial_part 18) else file) on in
      let count = is_file.count in
      subst (λ (f : File). AreRegisters f armed) (sym same) (record { control = control; known = known; initial = λ _. part_here file 18 (initial_part 18) (omega arith) })
  | inr off ↦
      let same : disarmed_file file armed ≡ file = ap (λ b. if b then with_part file 18 (initial_part 18) else file) off in
      subst (λ (f : File). AreRegisters f armed) (sym same) (record { control = control; known = known; initial = λ on. absurd (false≢true (sym off ∙ on)) })
]

-- MXCSR of four bytes whose upper two are zero
pub small_control : (bytes : List ℕ) → ((i : ℕ) → get_or bytes i 0 < 256) → get_or bytes 2 0 ≡ 0 → get_or bytes 3 0 ≡ 0 → from_le_bytes w32 bytes < 2 ^ 16
small_control bytes small two three = omega (arith, small 0, small 1)

-- a write that isn't refused
pub written_registers : (file : File) (armed : ℕ) (place : Place) (bytes : List ℕ) → ((i : ℕ) → get_or bytes i 0 < 256) → (is_mxcsr place ≡ true → (get_or bytes 2 0 ≡ 0) × (get_or bytes 3 0 ≡ 0)) → (if has armed 18 && ((place.comp.0 == 17) || (place.comp.0 == 18)) then Some (Nm (record { 0 = tiles })) else None) ≡ None → AreRegisters file armed → AreRegisters (write_place file place bytes) armed
written_registers file armed place bytes small control none h = elim (cases_Bool (is_mxcsr place)) [
  | inl on ↦
      let same : write_place file place bytes ≡ record file { mxcsr = from_le_bytes w32 bytes } = ap (λ b. if b then record file { mxcsr = from_le_bytes w32 bytes } else with_part file place.comp.0 (splice place.offset bytes (part file place.comp.0))) on in
      subst (λ (f : File). AreRegisters f armed) (sym same) (record { control = small_control bytes small (control on).0 (control on).1; known = h.known; initial = h.initial })
  | inr off ↦
      let same : write_place file place bytes ≡ with_part file place.comp.0 (splice place.offset bytes (part file place.comp.0)) = ap (λ b. if b then record file { mxcsr = from_le_bytes w32 bytes } else with_part file place.comp.0 (splice place.offset bytes (part file place.comp.0))) off in
      subst (λ (f : File). AreRegisters f armed) (sym same) (record {
        control = h.control;
        known = h.known;
        initial = λ on. part_other file place.comp.0 18 (splice place.offset bytes (part file place.comp.0)) (λ tile. other (has armed 18) (place.comp.0 == 17) (place.comp.0 == 18) on (eq-eqb place.comp.0 18 (sym tile)) none) ∙ h.initial on;
      })
]
  where
    other : (a b d : Bool) → a ≡ true → d ≡ true → (if a && (b || d) then Some (Nm (record { 0 = tiles })) else None) ≡ None → ⊥
    other true true d on here e = cc
    other true false true on here e = cc
    other true false false on here e = false≢true here
    other false b d on here e = false≢true on

-- ---- loads

-- a load of an MXCSR without a bit above 15 that XFD doesn't stop
pub loaded_registers : (mask : ℕ) (area : List ℕ) (control : ℕ) (before after : File) (armed : ℕ) → IsLoaded mask area control before after → control < 2 ^ 16 → stops_tiles armed mask area ≡ false → AreRegisters before armed → AreRegisters after armed
loaded_registers mask area control before after armed loaded small goes h = record {
  control = rw loaded.control_is small;
  known = rw loaded.rows_are h.known;
  initial = λ on. elim (cases_Bool (has mask 18)) [
    | inl wanted ↦
        let found = row_found before.rows 18 (armed_row before armed h on) in
        let row : slice_get before.rows found.1.index ≡ Some found.0 = slice_get_read before.rows (length before.rows) found.1.index found.0 refl found.1.within found.1.is in
        let off : has (xstate_bv area) 18 ≡ false = third (has armed 18) (has mask 18) (has (xstate_bv area) 18) on wanted goes in
        ap (part after) (sym found.1.number) ∙ loaded.absent found.1.index found.0 row (ap (has mask) found.1.number ∙ wanted) (ap (has (xstate_bv area)) found.1.number ∙ off) ∙ ap initial_part found.1.number
    | inr others ↦ loaded.others 18 others ∙ h.initial on
  ];
}
  where
    third : (a b d : Bool) → a ≡ true → b ≡ true → (a && b && d) ≡ false → d ≡ false
    third true true d x y e = e
    third true false d x y e = absurd (false≢true y)
    third false b d x y e = absurd (false≢true x)

-- a right MXCSR
right_control : (value : ℕ) → is_wrong_mxcsr value ≡ false → value < 2 ^ 16
right_control value right = grind (arith, nat_tests)

-- what a load that isn't refused tells
pub standard_goes : (rows : List Row) (armed mask : ℕ) (area : List ℕ) (old : ℕ) → standard_trap rows armed mask area ≡ None → old < 2 ^ 16 → (standard_control mask area old < 2 ^ 16) × (stops_tiles armed mask area ≡ false)
unfolding standard_trap
standard_goes rows armed mask area old none small =
    let a = (else_none (has_outside (xstate_bv area) (features rows)) _ _ none).1 in
    let b = (else_none (not (xcomp_bv area == 0)) _ _ a).1 in
    let c = (else_none (list_any (λ byte. not (byte == 0)) (slice_range area 528 536)) _ _ b).1 in
    let d = else_none (has_control mask && is_wrong_mxcsr (mxcsr area)) _ _ c in
    let e = else_none (stops_tiles armed mask area) _ _ d.1 in
    (taken (has_control mask) d.0, e.0)
  where
    taken : (b : Bool) → (b && is_wrong_mxcsr (mxcsr area)) ≡ false → (if b then mxcsr area else old) < 2 ^ 16
    taken true right = right_control (mxcsr area) right
    taken false right = small

pub compacted_goes : (rows : List Row) (armed mask : ℕ) (area : List ℕ) (old : ℕ) → compacted_trap rows armed mask area ≡ None → old < 2 ^ 16 → (compacted_control mask area old < 2 ^ 16) × (stops_tiles armed mask area ≡ false)
unfolding compacted_trap
compacted_goes rows armed mask area old none small =
    let a = (else_none (has_outside (xstate_bv area) (features rows) || has_outside (named_in area) (features rows) || has_outside (xstate_bv area) (xcomp_bv area)) _ _ none).1 in
    let b = (else_none (not (is_compacted (xcomp_bv area))) _ _ a).1 in
    let c = (else_none (has_reserved area) _ _ b).1 in
    let d = else_none (has mask 1 && has (xstate_bv area) 1 && is_wrong_mxcsr (mxcsr area)) _ _ c in
    let e = else_none (stops_tiles armed mask area) _ _ d.1 in
    (taken (has mask 1) (has (xstate_bv area) 1) d.0, e.0)
  where
    taken : (a b : Bool) → (a && b && is_wrong_mxcsr (mxcsr area)) ≡ false → (if a then (if b then mxcsr area else initial_mxcsr) else old) < 2 ^ 16
    taken true true right = right_control (mxcsr area) right
    taken true false right = lit< tt
    taken false b right = small
