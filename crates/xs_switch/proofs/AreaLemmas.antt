-- What a task's area tells a restore and a save.
use Rattle.std.proofs.Common.{◌≡◌, ℕ, ◌≤◌, ◌==◌, Bool, true, false, not, ◌&&◌, List, length, refl, sym, ap, ◌∙◌, if◌then◌else◌, arith, inl, inr}
use Rattle.std.proofs.lemmas.Bool.{ne_eqb, true≢false, false≢true, cases_Bool, eqb-true}
use Rattle.std.proofs.lemmas.List.{get_or-set_other}
use Rattle.xs_base.specs.declared.class.Class.{Class}
use Rattle.xs_base.specs.declared.class.Class.TheVariants.{Small, Large}
use Rattle.xs_base.specs.declared.component.Row.{Row}
use Rattle.xs_area.specs.declared.area.Lease.{Lease}
use Rattle.xs_base.specs.Area.{HasPlaces}
use Rattle.xs_base.specs.Compact.{is_compacted, compacted}
use Rattle.xs_base.specs.Component.{initial_part}
use Rattle.xs_base.specs.File.{File, part, with_part}
use Rattle.xs_base.specs.Header.{xstate_bv, xcomp_bv}
use Rattle.xs_base.specs.KernelArea.{class_features, is_of_class, IsLoadable}
use Rattle.xs_base.specs.Layout.{IsLayout, has_row}
use Rattle.xs_base.specs.Sets.{has}
use Rattle.xs_bank.specs.Bank.{disarmed_file}
use Rattle.xs_bank.specs.declared.instruction.Trap.{Trap}
use Rattle.xs_bank.specs.Load.{stops_tiles, tiles, IsStopped}
use Rattle.xs_bank.specs.Registers.{AreRegisters}
use Rattle.xs_bank.specs.Save.{IsInitialOutside, IsLoadableSave}
use Rattle.xs_task.specs.TaskArea.{IsTaskArea}
use Rattle.xs_switch.specs.Armed.{armed_for}
use Rattle.xs_base.proofs.ClassLemmas.{has_class}
use Rattle.xs_base.proofs.CompactLemmas.{compact_size_low}
use Rattle.xs_base.proofs.CompactedLemmas.{compacted_places}
use Rattle.xs_base.proofs.LayoutLemmas.{has_row_at}
use Rattle.xs_base.proofs.RowLemmas.{row_index}
use Rattle.xs_base.proofs.SetLemmas.{has_none}

-- ---- arming

pub disarmed_rows : (file : File) (armed : ℕ) → (disarmed_file file armed).rows ≡ file.rows
disarmed_rows file armed = here (has armed 18)
  where
    here : (b : Bool) → (if b then with_part file 18 (initial_part 18) else file).rows ≡ file.rows
    here true = refl
    here false = refl

pub disarmed_pkru : (file : File) (armed : ℕ) → part (disarmed_file file armed) 9 ≡ part file 9
disarmed_pkru file armed = here (has armed 18)
  where
    here : (b : Bool) → part (if b then with_part file 18 (initial_part 18) else file) 9 ≡ part file 9
    here true = get_or-set_other file.parts 18 9 (initial_part 18) _ (omega arith)
    here false = refl

-- ---- a task's area

module _ (rows : List Row) (lease : Lease) (area : IsTaskArea rows lease) where
  pub table : IsLayout rows
  table = rw (area.loadable.stands.rows_are) at area.loadable.is_file.layout

  pub names : xcomp_bv lease.area.bytes.items ≡ compacted (class_features rows lease.class)
  names = elim area.loadable.names [
    | inl are ↦ are
    | inr zero_is ↦ absurd (false≢true (sym (ap is_compacted zero_is) ∙ area.compact))
  ]

  pub long : 576 ≤ length lease.area.bytes.items
  long = let low = compact_size_low rows (class_features rows lease.class) in omega (arith, area.len)

  -- it has the places that it names
  pub has_places : HasPlaces rows lease.area.bytes.items (xcomp_bv lease.area.bytes.items)
  has_places = compacted_places rows (class_features rows lease.class) lease.area.bytes.items table names (omega (arith, area.len))

  -- nothing of it is stopped by what is armed for its class
  pub no_tiles : (mask : ℕ) → stops_tiles (armed_for rows lease.class) mask lease.area.bytes.items ≡ false
  no_tiles mask = here lease.class (area.loadable.bits 18)
    where
      three : (a b c : Bool) → (a ≡ false) → (a && b && c) ≡ false
      three true b c off = absurd (true≢false off)
      three false b c off = refl

      off_last : (a b c : Bool) → (c ≡ false) → (a && b && c) ≡ false
      off_last true true c off = off
      off_last true false c off = refl
      off_last false b c off = refl

      second_off : (a : Bool) → (a && false) ≡ false
      second_off true = refl
      second_off false = refl

      large_none : (b : Bool) → has (if b && false then tiles else 0) 18 ≡ false
      large_none true = has_none 18
      large_none false = has_none 18

      here : (class : Class) → (has (xstate_bv lease.area.bytes.items) 18 ≡ true → has (class_features rows class) 18 ≡ true) → stops_tiles (armed_for rows class) mask lease.area.bytes.items ≡ false
      here Small bits = elim (cases_Bool (has (xstate_bv lease.area.bytes.items) 18)) [
        | inl on ↦ absurd (false≢true (sym (second_off (has_row rows 18)) ∙ sym (has_class rows Small table 18) ∙ bits on))
        | inr off ↦ off_last (has (armed_for rows Small) 18) (has mask 18) (has (xstate_bv lease.area.bytes.items) 18) off
      ]
      here Large bits = three (has (armed_for rows Large) 18) (has mask 18) (has (xstate_bv lease.area.bytes.items) 18) (large_none (has_row rows 18))

-- so no restore of it is
pub never_stopped : (rows : List Row) (lease : Lease) → IsTaskArea rows lease → (armed mask : ℕ) (trap : Trap) → armed ≡ armed_for rows lease.class → IsStopped armed mask lease.area.bytes.items trap → ⊥
never_stopped rows lease area armed mask trap is stopped = true≢false (sym stopped.0 ∙ ap (λ n. stops_tiles n mask lease.area.bytes.items) is ∙ no_tiles rows lease area mask)

-- a restore takes every component of the machine but PKRU
pub covers : (rows : List Row) (mask : ℕ) → IsLayout rows → mask ≡ class_features rows Large → (c : ℕ) → has_row rows c ≡ true → (c ≡ 9 → ⊥) → has mask c ≡ true
covers rows mask table is c there other = ap (λ m. has m c) is ∙ has_class rows Large table c ∙ both (has_row rows c) (c == 9) there (ne_eqb c 9 other)
  where
    both : (a b : Bool) → a ≡ true → b ≡ false → (a && not b) ≡ true
    both true true on off = absurd (true≢false off)
    both true false on off = refl
    both false b on off = absurd (false≢true on)

-- and not PKRU
pub no_pkru : (rows : List Row) (class : Class) (mask : ℕ) → IsLayout rows → mask ≡ class_features rows class → has mask 9 ≡ false
no_pkru rows class mask table is = ap (λ m. has m 9) is ∙ has_class rows class table 9 ∙ here class (has_row rows 9)
  where
    here : (class : Class) (b : Bool) → (b && is_of_class class 9) ≡ false
    here Small true = refl
    here Small false = refl
    here Large true = refl
    here Large false = refl

-- ---- saves

-- what a save leaves out is initial: of a Small area TILEDATA, which is armed
pub initial_outside : (rows : List Row) (class : Class) (file : File) (armed : ℕ) → IsLayout rows → file.rows ≡ rows → armed ≡ armed_for rows class → AreRegisters file armed → IsInitialOutside (class_features rows class) file
initial_outside rows class file armed table rows_are is registers i r row other out =
    let at = row_index rows i r (rw rows_are at row) in
    let there = has_row_at rows i r at.0 at.1 in
    here class r.comp.0 there other is (sym (has_class rows class table r.comp.0) ∙ out)
  where
    armed_on : (b : Bool) → b ≡ true → has (if b && true then tiles else 0) 18 ≡ true
    armed_on true on = refl
    armed_on false on = absurd (false≢true on)

    left_out : (a x y : Bool) → a ≡ true → x ≡ false → (a && (not x && not y)) ≡ false → y ≡ true
    left_out true true y on none off = absurd (true≢false none)
    left_out true false true on none off = refl
    left_out true false false on none off = absurd (true≢false off)
    left_out false x y on none off = absurd (false≢true on)

    never : (a x : Bool) → a ≡ true → x ≡ false → (a && not x) ≡ false → ⊥
    never true true on none off = true≢false none
    never true false on none off = true≢false off
    never false x on none off = false≢true on

    here : (class : Class) (c : ℕ) → has_row rows c ≡ true → (c ≡ 9 → ⊥) → armed ≡ armed_for rows class → (has_row rows c && is_of_class class c) ≡ false → part file c ≡ initial_part c
    here Small c there other is off =
        let tile : c ≡ 18 = eqb-true c 18 (left_out (has_row rows c) (c == 9) (c == 18) there (ne_eqb c 9 other) off) in
        let on : has armed 18 ≡ true = ap (λ n. has n 18) is ∙ armed_on (has_row rows 18) (ap (has_row rows) (sym tile) ∙ there) in
        ap (part file) tile ∙ registers.initial on ∙ ap initial_part (sym tile)
    here Large c there other is off = absurd (never (has_row rows c) (c == 9) there (ne_eqb c 9 other) off)

-- a save into a task's area leaves one that can be loaded
pub loadable_save : (rows : List Row) (lease : Lease) (file : File) (armed mask : ℕ) → IsTaskArea rows lease → file.rows ≡ rows → armed ≡ armed_for rows lease.class → AreRegisters file armed → mask ≡ class_features rows lease.class → IsLoadableSave file mask lease.class lease.area.id lease.area.bytes.items
loadable_save rows lease file armed mask area rows_are is registers mask_is = record {
  features = mask_is ∙ ap (λ rs. class_features rs lease.class) (sym rows_are);
  outside = rw mask_is (initial_outside rows lease.class file armed (table rows lease area) rows_are is registers);
  control = registers.control;
  reserved = area.loadable.reserved;
  numbered = area.loadable.numbered;
}

-- the area after a save
pub saved_area : (rows : List Row) (lease after : Lease) → IsTaskArea rows lease → after.class ≡ lease.class → IsLoadable rows lease.class after.area.id after.area.bytes.items → xcomp_bv after.area.bytes.items ≡ xcomp_bv lease.area.bytes.items → length after.area.bytes.items ≡ length lease.area.bytes.items → IsTaskArea rows after
saved_area rows lease after area class loadable form len = record {
  loadable = rw class loadable;
  len = rw (class, len) area.len;
  compact = ap is_compacted form ∙ area.compact;
}
