-- The area and the private task of a task that no fork has made.
use Rattle.std.proofs.Common.{◌≡◌, ℕ, ◌+◌, ◌-◌, ◌<◌, ◌≤◌, ◌^◌, ◌==◌, Bool, true, false, not, ◌&&◌, ◌||◌, List, ◌++◌, length, take, get_or, refl, sym, ap, ◌∙◌, Some, None, arith, lit<}
use Rattle.std.proofs.lemmas.Bool.{false≢true}
use Rattle.std.proofs.lemmas.List.{drop-replicate, take-replicate}
use Rattle.std.proofs.lemmas.Nat.{from_le_bytes-to_le_bytes_4}
use Rattle.std.proofs.lemmas.Slice.Eq.{bytes_eq-Decides}
use Rattle.std.specs.Int.{from_le_bytes, to_le_bytes, w32, w64}
use Rattle.std.specs.Prelude.{bytes_eq, slice_range}
use Rattle.xs_base.specs.declared.class.Class.{Class}
use Rattle.xs_base.specs.declared.class.Class.TheVariants.{Small}
use Rattle.xs_base.specs.declared.component.Row.{Row}
use Rattle.xs_area.specs.declared.area.Lease.{Lease}
use Rattle.xs_base.specs.Area.{StandsFor, control_in}
use Rattle.xs_base.specs.Bytes.{zeros, is_within}
use Rattle.xs_base.specs.Compact.{compacted, is_compacted}
use Rattle.xs_base.specs.Component.{component_count, initial_part, initial_mxcsr}
use Rattle.xs_base.specs.File.{File, part, with_pkru, initial_file, is_saved, pkru_bytes}
use Rattle.xs_base.specs.Header.{xstate_bv, xcomp_bv}
use Rattle.xs_base.specs.KernelArea.{class_features, class_size, IsLoadable}
use Rattle.xs_base.specs.Layout.{IsLayout, has_row}
use Rattle.xs_base.specs.Sets.{has}
use Rattle.xs_base.specs.Task.{root_task, start_pkru}
use Rattle.xs_task.specs.declared.task.Task.{Task}
use Rattle.xs_task.specs.Marks.{IsSavedIn}
use Rattle.xs_task.specs.Parked.{IsParked}
use Rattle.xs_task.specs.TaskArea.{IsTask, IsTaskArea}
use Rattle.xs_base.proofs.ByteLemmas.{range_same, within_below}
use Rattle.xs_base.proofs.CompactedLemmas.{compacted_is}
use Rattle.xs_base.proofs.ComponentLemmas.{length_zeros, zero_at}
use Rattle.xs_base.proofs.FileLemmas.{initial_at, initial_is_file, part_here, part_other}
use Rattle.xs_base.proofs.LayoutLemmas.{row_found, sound_at}
use Rattle.xs_base.proofs.SetLemmas.{has_none}
use Rattle.xs_base.proofs.TaskLemmas.{root_is_private}
use Rattle.xs_task.proofs.CopyLemmas.{class_other, class_row}
use Rattle.xs_task.proofs.ParkLemmas.{parked_from}

-- ---- its area

-- an area without state is a task's
pub blank_area : (rows : List Row) (lease new : Lease) → IsTaskArea rows lease → lease.class ≡ Small → new.class ≡ lease.class → new.area.id ≡ lease.area.id → length new.area.bytes.items ≡ length lease.area.bytes.items → xcomp_bv new.area.bytes.items ≡ compacted (class_features rows Small) → ((id : ℕ) → (id ≡ 0 → ⊥) → IsLoadable rows Small id new.area.bytes.items) → IsTaskArea rows new
blank_area rows lease new area small class id len names loadable = record {
  loadable = rw (class, small) (loadable new.area.id (rw id area.loadable.numbered));
  len = len ∙ area.len ∙ ap (class_size rows) (sym class);
  compact = ap is_compacted names ∙ compacted_is (class_features rows Small);
}

range_zeros : (n from many : ℕ) → from + many ≤ n → slice_range (zeros n) from (from + many) ≡ zeros many
unfolding zeros
range_zeros n from many within =
    let left : from + many - from ≡ many = omega arith in
    rw (left, drop-replicate {X = ℕ} from n 0) (take-replicate {X = ℕ} many (n - from) 0 (omega arith))

zero_number : from_le_bytes w64 (zeros 8) ≡ 0
unfolding zeros
zero_number = refl

-- it names no component
pub no_bits : (area : List ℕ) → 576 ≤ length area → ((k : ℕ) → is_within 520 8 k ≡ false → get_or area k 0 ≡ 0) → xstate_bv area ≡ 0
unfolding xstate_bv
no_bits area long zero =
    ap (from_le_bytes w64) (range_same 512 520 area (zeros 520) (omega arith) (omega (arith, length_zeros 520)) (λ k low high. zero k (within_below 520 8 k high) ∙ sym (zero_at 520 k)) ∙ range_zeros 520 512 8 (omega arith)) ∙ zero_number

-- an area says nothing of PKRU
pub stands_pkru : (rows : List Row) (area : List ℕ) (file : File) (value : ℕ) → StandsFor rows area file → StandsFor rows area (with_pkru file value)
stands_pkru rows area file value s = record {
  rows_are = s.rows_are;
  placed = s.placed;
  present = λ i r row other on k small own. s.present i r row other on k small own ∙ sym (ap (λ (l : List ℕ). get_or l k 0) (part_other file 9 r.comp.0 (to_le_bytes w32 value ++ zeros 4) other));
  absent = λ i r row other off. part_other file 9 r.comp.0 (to_le_bytes w32 value ++ zeros 4) other ∙ s.absent i r row other off;
  control = s.control;
}

-- ---- its file

-- what a class has is a component of the machine, and not PKRU
class_number : (rows : List Row) (class : Class) (c : ℕ) → IsLayout rows → has (class_features rows class) c ≡ true → (c < component_count) × (c ≡ 9 → ⊥)
class_number rows class c table on =
    let found = row_found rows c (class_row rows class c table on) in
    let sound = sound_at rows table found.1.index found.0 found.1.within found.1.is in
    (omega (arith, sound.number, found.1.number), λ nine. false≢true (ap (λ k. not (k == 9)) (sym nine) ∙ class_other rows class c table on))

-- nothing of it is saved but PKRU
start_saved : (rows : List Row) (value c : ℕ) → c < component_count → (c ≡ 9 → ⊥) → is_saved (with_pkru (initial_file rows) value) c ≡ false
start_saved rows value c lt other =
    ap (λ (bs : List ℕ). (has_row rows c && not (bytes_eq bs (initial_part c))) || ((c == 1) && false)) (part_other (initial_file rows) 9 c (to_le_bytes w32 value ++ zeros 4) other ∙ initial_at rows c lt)
    ∙ ap (λ b. (has_row rows c && not b) || ((c == 1) && false)) ((bytes_eq-Decides (initial_part c) (initial_part c)).1 refl)
    ∙ none (has_row rows c) (c == 1)
  where
    none : (a b : Bool) → ((a && false) || (b && false)) ≡ false
    none true true = refl
    none true false = refl
    none false true = refl
    none false false = refl

pub blank_saved : (rows : List Row) (lease : Lease) (value : ℕ) → IsLayout rows → xstate_bv lease.area.bytes.items ≡ 0 → StandsFor rows lease.area.bytes.items (initial_file rows) → IsSavedIn rows lease (with_pkru (initial_file rows) value)
blank_saved rows lease value table none stands = record {
  stands = stands_pkru rows lease.area.bytes.items (initial_file rows) value stands;
  marks = λ c.
      ap (λ n. has n c || ((c == 1) && not (control_in lease.area.bytes.items == initial_mxcsr))) none
      ∙ ap (λ b. b || ((c == 1) && not (control_in lease.area.bytes.items == initial_mxcsr))) (has_none c)
      ∙ ap (λ n. (c == 1) && not (n == initial_mxcsr)) (sym stands.control)
      ∙ off (c == 1)
      ∙ sym (both (has (class_features rows lease.class) c) (is_saved (with_pkru (initial_file rows) value) c) (λ on. let at = class_number rows lease.class c table on in start_saved rows value c at.0 at.1));
}
  where
    off : (b : Bool) → (b && false) ≡ false
    off true = refl
    off false = refl

    both : (h s : Bool) → (h ≡ true → s ≡ false) → (h && s) ≡ false
    both true s is = is refl
    both false s is = refl

-- ---- the task

pub whole_task : (rows : List Row) (task : Task) (lease : Lease) → task.lease ≡ Some lease → IsTaskArea rows lease → task.frame.items ≡ zeros 16388 → task.buffer.items ≡ zeros 16384 → IsTask rows task
whole_task rows task lease is area frame buffer = record {
  frame = rw frame (length_zeros 16388);
  buffer = rw buffer (length_zeros 16384);
  some = λ none. absurd (some_none lease (sym is ∙ none));
  area = λ other here. let same : other ≡ lease = cc (sym here ∙ is) in rw same area;
}
  where
    some_none : (l : Lease) → Some l ≡ None → ⊥
    some_none l h = cc

pub own_value : (value : ℕ) → value < 2 ^ 32 → from_le_bytes w32 (take 4 (pkru_bytes value)) ≡ value
own_value value small = from_le_bytes-to_le_bytes_4 value small

pub root_parked : (rows : List Row) (task : Task) (lease : Lease) → IsLayout rows → lease.class ≡ Small → task.lease ≡ Some lease → task.need_load ≡ true → task.permitted ≡ false → task.frame.items ≡ zeros 16388 → task.buffer.items ≡ zeros 16384 → task.handling ≡ false → task.place ≡ 0 → task.back ≡ 0 → task.pkru ≡ start_pkru → IsSavedIn rows lease (with_pkru (initial_file rows) start_pkru) → IsParked rows task (root_task rows)
unfolding root_task
root_parked rows task lease table class is flag permitted frame buffer handling place back pkru saved =
    let good = initial_is_file rows table in
    let count = good.count in
    let valid = root_is_private rows table in
    let own : part (with_pkru (initial_file rows) start_pkru) 9 ≡ pkru_bytes start_pkru = part_here (initial_file rows) 9 (to_le_bytes w32 start_pkru ++ zeros 4) (omega arith) in
    parked_from rows task _ (record {
      file = valid.file;
      tiles_are = valid.tiles_are;
      frame_size = valid.frame_size;
      frame_bytes = valid.frame_bytes;
      buffer_size = valid.buffer_size;
      buffer_bytes = valid.buffer_bytes;
    }) flag
    (rw (permitted, is, class, frame, buffer, handling, place, back) refl)
    (λ none. absurd (some_none lease (sym is ∙ none)))
    (λ other here. let same : other ≡ lease = cc (sym here ∙ is) in rw same saved)
    (own ∙ ap pkru_bytes (sym pkru))
    (ap (λ (bs : List ℕ). from_le_bytes w32 (take 4 bs)) own ∙ own_value start_pkru (lit< tt) ∙ sym pkru)
  where
    some_none : (l : Lease) → Some l ≡ None → ⊥
    some_none l h = cc
