-- What a task's area has room for, and what it is after a kernel's copy into it.
use Rattle.std.proofs.Common.{◌≡◌, ◌⊎◌, ℕ, ◌+◌, ◌<◌, ◌≤◌, ◌^◌, ◌==◌, Bool, true, false, not, ◌&&◌, ◌||◌, List, length, refl, sym, ap, ◌∙◌, if◌then◌else◌, arith, inl, inr, Some}
use Rattle.std.proofs.lemmas.Bool.Decides.{nat_tests}
use Rattle.std.proofs.lemmas.Bool.{ne_eqb, true≢false, false≢true, cases_Bool, cases_eq}
use Rattle.std.proofs.lemmas.Option.{slice_get_read}
use Rattle.std.specs.List.{list_any}
use Rattle.std.specs.Prelude.{slice_get, nat_le}
use Rattle.xs_base.specs.declared.class.Class.{Class}
use Rattle.xs_base.specs.declared.class.Class.TheVariants.{Small, Large}
use Rattle.xs_base.specs.declared.component.Row.{Row}
use Rattle.xs_area.specs.declared.area.Lease.{Lease}
use Rattle.xs_base.specs.Area.{StandsFor, HasPlaces, IsCut, KeepsForm, control_in, ends_inside, has_room, has_control_room, is_named}
use Rattle.xs_base.specs.Compact.{is_compacted, compacted, place}
use Rattle.xs_base.specs.Component.{initial_mxcsr}
use Rattle.xs_base.specs.File.{File, IsFile}
use Rattle.xs_base.specs.Header.{xstate_bv, xcomp_bv}
use Rattle.xs_base.specs.KernelArea.{class_features, is_of_class}
use Rattle.xs_base.specs.Layout.{IsLayout, has_row, row_of}
use Rattle.xs_base.specs.Sets.{has}
use Rattle.xs_task.specs.Marks.{is_marked_in}
use Rattle.xs_task.specs.TaskArea.{IsTaskArea, IsCutTo}
use Rattle.xs_base.proofs.ClassLemmas.{has_class, class_sse}
use Rattle.xs_base.proofs.CompactedLemmas.{compacted_has, compacted_places}
use Rattle.xs_base.proofs.CompactLemmas.{compact_size_low}
use Rattle.xs_base.proofs.LayoutLemmas.{sound_at, row_found}
use Rattle.xs_base.proofs.RowLemmas.{row_index, row_of_at}

-- ---- the components of a class

-- PKRU isn't one
pub class_other : (rows : List Row) (class : Class) (c : ℕ) → IsLayout rows → has (class_features rows class) c ≡ true → not (c == 9) ≡ true
class_other rows class c table on = here class (has_row rows c) (c == 18) (sym (has_class rows class table c) ∙ on)
  where
    first : (x y : Bool) → (x && y) ≡ true → x ≡ true
    first true y on = refl
    first false y on = absurd (false≢true on)

    here : (class : Class) (a t : Bool) → (a && is_of_class class c) ≡ true → not (c == 9) ≡ true
    here Small true t on = first (not (c == 9)) (not (c == 18)) on
    here Large true t on = on
    here Small false t on = absurd (false≢true on)
    here Large false t on = absurd (false≢true on)

-- the machine has it
pub class_row : (rows : List Row) (class : Class) (c : ℕ) → IsLayout rows → has (class_features rows class) c ≡ true → has_row rows c ≡ true
class_row rows class c table on = here (has_row rows c) (is_of_class class c) (sym (has_class rows class table c) ∙ on)
  where
    here : (a b : Bool) → (a && b) ≡ true → a ≡ true
    here true b on = refl
    here false b on = absurd (false≢true on)

pub class_one : (rows : List Row) (class : Class) → IsLayout rows → has (class_features rows class) 1 ≡ true
class_one rows class table = class_sse rows class (class_features rows class) table refl

-- ---- a task's area

module _ (rows : List Row) (lease : Lease) (area : IsTaskArea rows lease) where
  pub table : IsLayout rows
  table = rw (area.loadable.stands.rows_are) at area.loadable.is_file.layout

  pub names : xcomp_bv lease.area.bytes.items ≡ compacted (class_features rows lease.class)
  names = elim area.loadable.names [
    | inl are ↦ are
    | inr zero_is ↦ absurd (false≢true (sym (ap is_compacted zero_is) ∙ area.compact))
  ]

  pub long : 576 ≤ length lease.area.bytes.items
  long = let low = compact_size_low rows (class_features rows lease.class) in omega (arith, area.len)

  has_places : HasPlaces rows lease.area.bytes.items (xcomp_bv lease.area.bytes.items)
  has_places = compacted_places rows (class_features rows lease.class) lease.area.bytes.items table names (omega (arith, area.len))

  -- XCOMP_BV names the components of the class
  named_class : (c : ℕ) → c < 63 → has (xcomp_bv lease.area.bytes.items) c ≡ has (class_features rows lease.class) c
  named_class c lt = ap (λ n. has n c) names ∙ compacted_has (class_features rows lease.class) c lt

  -- it has the place of what it has state of
  pub state_places : HasPlaces rows lease.area.bytes.items (xstate_bv lease.area.bytes.items)
  state_places i r row on = has_places i r row (named_class r.comp.0 (number i r row) ∙ area.loadable.bits r.comp.0 on)
    where
      number : (i : ℕ) (r : Row) → slice_get rows i ≡ Some r → r.comp.0 < 63
      number i r row = let at = row_index rows i r row in let sound = sound_at rows table i r at.0 at.1 in omega (arith, sound.number)

  -- it has room for the components of its class, and for no others
  pub room : (c : ℕ) → has_room rows lease.area.bytes.items c ≡ has (class_features rows lease.class) c
  room c = elim (cases_Bool (has_row rows c)) [
    | inl there ↦
        let found = row_found rows c there in
        let r = found.0 in
        let is = found.1 in
        let small = (sound_at rows table is.index r is.within is.is).number in
        let row : slice_get rows is.index ≡ Some r = slice_get_read rows (length rows) is.index r refl is.within is.is in
        let named = named_class r.comp.0 (omega arith) in
        rw (← is.number) (
        ap (λ o. (has_row rows r.comp.0 && (not (is_compacted (xcomp_bv lease.area.bytes.items)) || has (xcomp_bv lease.area.bytes.items) r.comp.0)) && ends_inside rows lease.area.bytes.items o) (row_of_at rows table is.index r is.within is.is)
        ∙ all (has_row rows r.comp.0) (is_compacted (xcomp_bv lease.area.bytes.items)) (has (xcomp_bv lease.area.bytes.items) r.comp.0) (nat_le (place rows (xcomp_bv lease.area.bytes.items) r + r.size) (length lease.area.bytes.items)) (ap (has_row rows) is.number ∙ there) area.compact (λ on. fits (place rows (xcomp_bv lease.area.bytes.items) r + r.size) (length lease.area.bytes.items) (has_places is.index r row on))
        ∙ named)
    | inr lacks ↦ gone (has_row rows c) (not (is_compacted (xcomp_bv lease.area.bytes.items)) || has (xcomp_bv lease.area.bytes.items) c) (ends_inside rows lease.area.bytes.items (row_of rows c)) (is_of_class lease.class c) lacks ∙ sym (has_class rows lease.class table c)
  ]
    where
      all : (a k n e : Bool) → a ≡ true → k ≡ true → (n ≡ true → e ≡ true) → ((a && (not k || n)) && e) ≡ n
      all true true true e on compact h = h refl
      all true true false e on compact h = refl
      all true false n e on compact h = absurd (false≢true compact)
      all false k n e on compact h = absurd (false≢true on)

      fits : (a b : ℕ) → a ≤ b → nat_le a b ≡ true
      fits a b h = grind (arith, nat_tests)

      gone : (a x y z : Bool) → a ≡ false → ((a && x) && y) ≡ (a && z)
      gone true x y z off = absurd (true≢false off)
      gone false x y z off = refl

  -- what a kernel's copy names
  pub named : (bits control c : ℕ) → is_named rows lease.area.bytes.items bits control c ≡ ((has bits c && has (class_features rows lease.class) c) || ((c == 1) && not (control == initial_mxcsr)))
  named bits control c =
      ap (λ b. (has bits c && not (c == 9) && b) || ((c == 1) && is_compacted (xcomp_bv lease.area.bytes.items) && has_room rows lease.area.bytes.items 1 && not (control == initial_mxcsr))) (room c)
      ∙ ap (λ b. (has bits c && not (c == 9) && has (class_features rows lease.class) c) || ((c == 1) && b && has_room rows lease.area.bytes.items 1 && not (control == initial_mxcsr))) area.compact
      ∙ ap (λ b. (has bits c && not (c == 9) && has (class_features rows lease.class) c) || ((c == 1) && true && b && not (control == initial_mxcsr))) (room 1 ∙ class_one rows lease.class table)
      ∙ drop (has bits c) (not (c == 9)) (has (class_features rows lease.class) c) (c == 1) (not (control == initial_mxcsr)) (class_other rows lease.class c table)
    where
      ones : (o m : Bool) → (o && true && true && m) ≡ (o && m)
      ones true m = refl
      ones false m = refl

      first : (a n b : Bool) → (b ≡ true → n ≡ true) → (a && n && b) ≡ (a && b)
      first true true b h = refl
      first true false true h = absurd (false≢true (h refl))
      first true false false h = refl
      first false n b h = refl

      drop : (a n b o m : Bool) → (b ≡ true → n ≡ true) → ((a && n && b) || (o && true && true && m)) ≡ ((a && b) || (o && m))
      drop a n b o m h = ap (λ x. x || (o && true && true && m)) (first a n b h) ∙ ap (λ x. (a && b) || x) (ones o m)

  control_room : has_control_room rows lease.area.bytes.items ≡ true
  control_room = ap (λ b. not b || has_room rows lease.area.bytes.items 1) area.compact ∙ room 1 ∙ class_one rows lease.class table

  -- a cut by the class is one by the room
  pub cut_room : (file cut : File) → IsCutTo rows lease.class file cut → IsCut rows lease.area.bytes.items file cut
  cut_room file cut is = record {
    rows_are = is.rows_are;
    kept = λ c other on. is.kept c (sym (room c) ∙ on);
    left_out = λ c other there off. is.left_out c other there (sym (room c) ∙ off);
    control = is.control ∙ sym (ap (λ b. if b then file.mxcsr else initial_mxcsr) control_room);
  }

  pub cut_control : (file cut : File) → IsCut rows lease.area.bytes.items file cut → cut.mxcsr ≡ file.mxcsr
  cut_control file cut is = is.control ∙ ap (λ b. if b then file.mxcsr else initial_mxcsr) control_room

-- ---- the area after a copy

-- it is still a task's
pub copied_area : (rows : List Row) (lease new : Lease) (bits control : ℕ) (file : File) → IsTaskArea rows lease → new.class ≡ lease.class → new.area.id ≡ lease.area.id → KeepsForm lease.area.bytes.items new.area.bytes.items → ((c : ℕ) → has (xstate_bv new.area.bytes.items) c ≡ is_named rows lease.area.bytes.items bits control c) → IsFile file → StandsFor rows new.area.bytes.items file → file.mxcsr < 2 ^ 16 → IsTaskArea rows new
copied_area rows lease new bits control file area class id form are good stands small = record {
  loadable = rw class (record {
    file = file;
    is_file = good;
    stands = stands;
    control = small;
    names = inl (form.names ∙ names rows lease area);
    bits = λ c on. inside c (has bits c) (sym (named rows lease area bits control c) ∙ sym (are c) ∙ on);
    reserved = ap (λ (bs : List ℕ). list_any (λ byte. not (byte == 0)) bs) form.reserved ∙ area.loadable.reserved;
    numbered = rw id area.loadable.numbered;
  });
  len = rw (class, form.len) area.len;
  compact = ap is_compacted form.names ∙ area.compact;
}
  where
    inside : (c : ℕ) (b : Bool) → ((b && has (class_features rows lease.class) c) || ((c == 1) && not (control == initial_mxcsr))) ≡ true → has (class_features rows lease.class) c ≡ true
    inside c b on = elim (cases_eq c 1) [
      | inl one ↦ rw one (class_one rows lease.class (table rows lease area))
      | inr other ↦ first b (has (class_features rows lease.class) c) (c == 1) (not (control == initial_mxcsr)) (ne_eqb c 1 other) on
    ]
      where
        first : (b h o n : Bool) → o ≡ false → ((b && h) || (o && n)) ≡ true → h ≡ true
        first true true o n off on = refl
        first true false true n off on = absurd (true≢false off)
        first true false false n off on = absurd (false≢true on)
        first false true o n off on = refl
        first false false true n off on = absurd (true≢false off)
        first false false false n off on = absurd (false≢true on)

-- its marks are the components of the class in these bits, and SSE where MXCSR isn't initial
pub named_marks : (rows : List Row) (lease : Lease) (new : List ℕ) (bits control c : ℕ) → IsTaskArea rows lease → ((c : ℕ) → has (xstate_bv new) c ≡ is_named rows lease.area.bytes.items bits control c) → control_in new ≡ control → is_marked_in new c ≡ ((has bits c && has (class_features rows lease.class) c) || ((c == 1) && not (control == initial_mxcsr)))
named_marks rows lease new bits control c area are is =
    ap (λ b. b || ((c == 1) && not (control_in new == initial_mxcsr))) (are c ∙ named rows lease area bits control c)
    ∙ ap (λ n. ((has bits c && has (class_features rows lease.class) c) || ((c == 1) && not (control == initial_mxcsr))) || ((c == 1) && not (n == initial_mxcsr))) is
    ∙ twice (has bits c && has (class_features rows lease.class) c) ((c == 1) && not (control == initial_mxcsr))
  where
    twice : (a b : Bool) → ((a || b) || b) ≡ (a || b)
    twice true b = refl
    twice false true = refl
    twice false false = refl

-- after a copy its marks are those of the other area that its class has a place for
pub copied_marks : (rows : List Row) (lease : Lease) (new from : List ℕ) (c : ℕ) → IsTaskArea rows lease → ((c : ℕ) → has (xstate_bv new) c ≡ is_named rows lease.area.bytes.items (xstate_bv from) (control_in from) c) → control_in new ≡ control_in from → is_marked_in new c ≡ (is_marked_in from c && has (class_features rows lease.class) c)
copied_marks rows lease new from c area are is = named_marks rows lease new (xstate_bv from) (control_in from) c area are is ∙ within (cases_eq c 1)
  where
    on : (a b n : Bool) → b ≡ true → ((a && b) || n) ≡ ((a || n) && b)
    on true true n h = refl
    on false true true h = refl
    on false true false h = refl
    on a false n h = absurd (false≢true h)

    off : (a b o n : Bool) → o ≡ false → ((a && b) || (o && n)) ≡ ((a || (o && n)) && b)
    off true true false n h = refl
    off true false false n h = refl
    off false b false n h = refl
    off a b true n h = absurd (true≢false h)

    within : (c ≡ 1) ⊎ (c ≡ 1 → ⊥) → ((has (xstate_bv from) c && has (class_features rows lease.class) c) || ((c == 1) && not (control_in from == initial_mxcsr))) ≡ ((has (xstate_bv from) c || ((c == 1) && not (control_in from == initial_mxcsr))) && has (class_features rows lease.class) c)
    within (inl one) = rw one (on (has (xstate_bv from) 1) (has (class_features rows lease.class) 1) (not (control_in from == initial_mxcsr)) (class_one rows lease.class (table rows lease area)))
    within (inr other) = off (has (xstate_bv from) c) (has (class_features rows lease.class) c) (c == 1) (not (control_in from == initial_mxcsr)) (ne_eqb c 1 other)
