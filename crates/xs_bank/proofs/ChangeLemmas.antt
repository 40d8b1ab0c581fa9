-- Changes of registers, after which an area that was ready to save is so still.
use Rattle.std.proofs.Common.{◌≡◌, ◌⊎◌, inl, inr, ℕ, ◌+◌, ◌^◌, ◌==◌, Bool, true, false, not, ◌&&◌, ◌||◌, max, List, get_or, bit_or, Option, Some, None, refl, sym, ap, ◌∙◌}
use Rattle.std.proofs.lemmas.Bool.{cases_Bool, eqb-true, true≢false, false≢true}
use Rattle.std.proofs.lemmas.Nat.Bits.{bit_at_or, bit_at-pow_same}
use Rattle.std.specs.Int.{bit_at, from_le_bytes, w32}
use Rattle.std.specs.Prelude.{slice_get}
use Rattle.xs_base.specs.declared.component.Row.{Row}
use Rattle.xs_base.specs.declared.component.Place.{Place}
use Rattle.xs_bank.specs.Bank.{Tracked, IsKept, is_unmodified, touch, disarmed_file}
use Rattle.xs_base.specs.Bytes.{splice}
use Rattle.xs_base.specs.Compact.{place}
use Rattle.xs_base.specs.Component.{initial_part}
use Rattle.xs_base.specs.File.{File, part, with_part, write_place, is_mxcsr}
use Rattle.xs_base.specs.Header.{xcomp_bv}
use Rattle.xs_base.specs.Sets.{has}
use Rattle.xs_base.proofs.FileLemmas.{part_other}
use Rattle.xs_bank.proofs.SetBits.{bit_cases}
use Rattle.xs_bank.proofs.ReadyLemmas.{last_of}

or_off : (a b : Bool) → (a || b) ≡ false → (a ≡ false) × (b ≡ false)
or_off true b h = absurd (true≢false h)
or_off false b h = (refl, h)

pub has_either : (a b c : ℕ) → has (bit_or a b) c ≡ (has a c || has b c)
has_either a b c = ap (λ n. n == 1) (bit_at_or a b c) ∙ here (bit_at a c) (bit_at b c) (bit_cases a c) (bit_cases b c)
  where
    here : (x y : ℕ) → (x ≡ 0) ⊎ (x ≡ 1) → (y ≡ 0) ⊎ (y ≡ 1) → (max x y == 1) ≡ ((x == 1) || (y == 1))
    here x y (inl a) (inl b) = rw (a, b) refl
    here x y (inl a) (inr b) = rw (a, b) refl
    here x y (inr a) (inl b) = rw (a, b) refl
    here x y (inr a) (inr b) = rw (a, b) refl

same_and : (a b m n : Bool) → (a && b && not m) ≡ true → n ≡ false → (a && b && not n) ≡ true
same_and true true m n h e = ap not e
same_and true false m n h e = h
same_and false b m n h e = h

-- what is unmodified after a change was so before, and isn't of what changed
pub unmodified_before : (set : ℕ) (tracked : Option Tracked) (id names c : ℕ) → is_unmodified (touch set tracked) id names c ≡ true → (is_unmodified tracked id names c ≡ true) × (has set c ≡ false)
unmodified_before set None id names c h = absurd (false≢true h)
unmodified_before set (Some t) id names c h =
    let off = or_off (has t.modified c) (has set c) (sym (has_either t.modified set c) ∙ last_of (t.id == id) (t.names == names) (has (bit_or t.modified set) c) h) in
    (same_and (t.id == id) (t.names == names) (has (bit_or t.modified set) c) (has t.modified c) h off.0, off.1)

-- One set of components changed.
pub record IsChange (set : ℕ) (old new : File) : Type 0 where
  pub rows_are : new.rows ≡ old.rows
  pub others : (c : ℕ) → has set c ≡ false → part new c ≡ part old c
  pub control : has set 1 ≡ false → new.mxcsr ≡ old.mxcsr

pub ready_changed : (set : ℕ) (old new : File) (tracked : Option Tracked) (id m : ℕ) (area : List ℕ) → IsChange set old new → ((i : ℕ) (r : Row) → slice_get old.rows i ≡ Some r → has m r.comp.0 ≡ true → is_unmodified tracked id (xcomp_bv area) r.comp.0 ≡ true → IsKept old area r) → (i : ℕ) (r : Row) → slice_get new.rows i ≡ Some r → has m r.comp.0 ≡ true → is_unmodified (touch set tracked) id (xcomp_bv area) r.comp.0 ≡ true → IsKept new area r
ready_changed set old new tracked id m area change ready i r row wanted h =
    let before = unmodified_before set tracked id (xcomp_bv area) r.comp.0 h in
    let keep = ready i r (ap (λ rs. slice_get rs i) (sym change.rows_are) ∙ row) wanted before.0 in
    let same = change.others r.comp.0 before.1 in
    record {
      present = λ on k small own. ap (λ rs. get_or area (place rs (xcomp_bv area) r + k) 0) change.rows_are ∙ keep.present on k small own ∙ ap (λ l. get_or l k 0) (sym same);
      absent = λ off. same ∙ keep.absent off;
      control = λ one compact. change.control (ap (has set) (sym one) ∙ before.1) ∙ keep.control one compact;
    }

-- ---- the changes of instructions

pub change_part : (file : File) (c : ℕ) (bytes : List ℕ) (set : ℕ) → has set c ≡ true → IsChange set file (with_part file c bytes)
change_part file c bytes set on = record {
  rows_are = refl;
  others = λ d off. part_other file c d bytes (λ same. true≢false (sym on ∙ ap (has set) (sym same) ∙ off));
  control = λ off. refl;
}

pub change_control : (file : File) (value set : ℕ) → has set 1 ≡ true → IsChange set file (record file { mxcsr = value })
change_control file value set on = record {
  rows_are = refl;
  others = λ d off. refl;
  control = λ off. absurd (true≢false (sym on ∙ off));
}

pub change_none : (file : File) (set : ℕ) → IsChange set file file
change_none file set = record { rows_are = refl; others = λ d off. refl; control = λ off. refl }

pub change_both : (set : ℕ) (a b d : File) → IsChange set a b → IsChange set b d → IsChange set a d
change_both set a b d first second = record {
  rows_are = second.rows_are ∙ first.rows_are;
  others = λ c off. second.others c off ∙ first.others c off;
  control = λ off. second.control off ∙ first.control off;
}

pub has_power : (c : ℕ) → has (2 ^ c) c ≡ true
has_power c = ap (λ n. n == 1) (bit_at-pow_same c)

pub change_written : (file : File) (p : Place) (bytes : List ℕ) → IsChange (2 ^ p.comp.0) file (write_place file p bytes)
change_written file p bytes = elim (cases_Bool (is_mxcsr p)) [
  | inl control ↦
      let one : p.comp.0 ≡ 1 = eqb-true p.comp.0 1 (first_of (p.comp.0 == 1) (p.offset == 256) control) in
      rw control (change_control file (from_le_bytes w32 bytes) (2 ^ p.comp.0) (ap (has (2 ^ p.comp.0)) (sym one) ∙ has_power p.comp.0))
  | inr other ↦ rw other (change_part file p.comp.0 (splice p.offset bytes (part file p.comp.0)) (2 ^ p.comp.0) (has_power p.comp.0))
]
  where
    first_of : (a b : Bool) → (a && b) ≡ true → a ≡ true
    first_of true b h = refl
    first_of false b h = h

pub change_released : (file : File) → IsChange 0x60000 file (with_part (with_part file 17 (initial_part 17)) 18 (initial_part 18))
change_released file = change_both 0x60000 file (with_part file 17 (initial_part 17)) (with_part (with_part file 17 (initial_part 17)) 18 (initial_part 18)) (change_part file 17 (initial_part 17) 0x60000 refl) (change_part (with_part file 17 (initial_part 17)) 18 (initial_part 18) 0x60000 refl)

pub change_disarmed : (file : File) (armed : ℕ) → IsChange armed file (disarmed_file file armed)
change_disarmed file armed = elim (cases_Bool (has armed 18)) [
  | inl on ↦ rw on (change_part file 18 (initial_part 18) armed on)
  | inr off ↦ rw off (change_none file armed)
]
