-- A task with a Large area in place of another.
use Rattle.std.proofs.Common.{◌≡◌, ℕ, ◌==◌, Bool, true, false, not, ◌&&◌, ◌||◌, List, refl, sym, ap, subst, ◌∙◌, if◌then◌else◌, inl, inr, ◌⊎◌, Some, None}
use Rattle.std.proofs.lemmas.Bool.{ne_eqb, true≢false, false≢true, cases_eq}
use Rattle.xs_base.specs.declared.class.Class.{Class}
use Rattle.xs_base.specs.declared.class.Class.TheVariants.{Small, Large}
use Rattle.xs_base.specs.declared.component.Row.{Row}
use Rattle.xs_area.specs.declared.area.Lease.{Lease}
use Rattle.xs_base.specs.Area.{StandsFor, control_in}
use Rattle.xs_base.specs.Component.{initial_mxcsr}
use Rattle.xs_base.specs.File.{File}
use Rattle.xs_base.specs.Header.{xstate_bv}
use Rattle.xs_base.specs.KernelArea.{class_features, is_of_class}
use Rattle.xs_base.specs.Layout.{IsLayout, has_row}
use Rattle.xs_base.specs.Sets.{has}
use Rattle.xs_base.specs.Task.{PrivateTask, marks_after, parked}
use Rattle.xs_base.specs.Tile.{grown}
use Rattle.xs_task.specs.declared.task.Task.{Task}
use Rattle.xs_task.specs.Marks.{is_marked_in, has_mark, marks_of}
use Rattle.xs_task.specs.Parked.{IsParked}
use Rattle.xs_task.specs.Private.{private_of}
use Rattle.xs_task.specs.TaskArea.{IsTaskArea, IsCutTo, is_large}
use Rattle.xs_base.proofs.ClassLemmas.{class_sse, has_class}
use Rattle.xs_base.proofs.ValidLemmas.{grown_is_private}
use Rattle.xs_tile.proofs.MarkLemmas.{set_of_same}

-- ---- a Large area

-- it has a place for what any area has one for
larger : (rows : List Row) (class : Class) (c : ℕ) → IsLayout rows → has (class_features rows class) c ≡ true → has (class_features rows Large) c ≡ true
larger rows class c table on = has_class rows Large table c ∙ within class (has_row rows c) (c == 9) (c == 18) (sym (has_class rows class table c) ∙ on)
  where
    within : (class : Class) (a p t : Bool) → (a && is_of_class class c) ≡ true → (a && not (c == 9)) ≡ true
    within Small true p t h = first (not (c == 9)) (not (c == 18)) h
      where
        first : (x y : Bool) → (x && y) ≡ true → x ≡ true
        first true y h = refl
        first false y h = h
    within Large true p t h = h
    within class false p t h = h

-- it can stand for all of a file
pub whole_cut : (rows : List Row) (class : Class) (file : File) → IsLayout rows → class ≡ Large → IsCutTo rows class file file
whole_cut rows class file table large = rw large (record {
  rows_are = refl;
  kept = λ c on. refl;
  left_out = λ c other there off. absurd (true≢false (sym (has_class rows Large table c ∙ ap (λ b. b && not (c == 9)) there ∙ ap not (ne_eqb c 9 other)) ∙ off));
  control = refl;
})

-- each component that is marked in another area has a place in it
marked_has_place : (rows : List Row) (from : Lease) (c : ℕ) → IsLayout rows → IsTaskArea rows from → is_marked_in from.area.bytes.items c ≡ true → has (class_features rows Large) c ≡ true
marked_has_place rows from c table area = either (has (xstate_bv from.area.bytes.items) c) (c == 1) (not (control_in from.area.bytes.items == initial_mxcsr)) (λ on. larger rows from.class c table (area.loadable.bits c on)) (one (cases_eq c 1))
  where
    one : (c ≡ 1) ⊎ (c ≡ 1 → ⊥) → (c == 1) ≡ true → has (class_features rows Large) c ≡ true
    one (inl same) h = rw same (class_sse rows Large (class_features rows Large) table refl)
    one (inr apart) h = absurd (false≢true (sym (ne_eqb c 1 apart) ∙ h))

    either : (x y z : Bool) → (x ≡ true → has (class_features rows Large) c ≡ true) → (y ≡ true → has (class_features rows Large) c ≡ true) → (x || (y && z)) ≡ true → has (class_features rows Large) c ≡ true
    either true y z hx hy on = hx refl
    either false true z hx hy on = hy refl
    either false false z hx hy on = absurd (false≢true on)

-- ---- the task

module _ (rows : List Row) (old new : Task) (from to : Lease) (p : PrivateTask) (area : IsTaskArea rows from) (class : to.class ≡ Large) (before : IsParked rows old p) (is : old.lease ≡ Some from) (new_is : new ≡ record old { lease = Some to; last = None }) (stands : StandsFor rows to.area.bytes.items p.file) (marked : (c : ℕ) → is_marked_in to.area.bytes.items c ≡ (is_marked_in from.area.bytes.items c && has (class_features rows to.class) c)) where
  table : IsLayout rows
  table = rw (before.valid.file.rows_are) at before.valid.file.is_file.layout

  -- the copy has the same marks
  same_mark : (c : ℕ) → is_marked_in to.area.bytes.items c ≡ is_marked_in from.area.bytes.items c
  same_mark c = marked c ∙ ap (λ k. is_marked_in from.area.bytes.items c && has (class_features rows k) c) class ∙ both (is_marked_in from.area.bytes.items c) (has (class_features rows Large) c) (marked_has_place rows from c table area)
    where
      both : (a b : Bool) → (a ≡ true → b ≡ true) → (a && b) ≡ a
      both true b h = h refl
      both false b h = refl

  pub grown_parked : IsParked rows new (grown p)
  grown_parked = rw new_is (record {
    valid = grown_is_private rows p before.valid;
    flag = before.flag;
    form = ap grown before.form ∙ ap (λ (b : Bool). record (private_of old p.file p.marks) { large = b }) (sym (ap is_large class));
    stands = λ other here. let same : other ≡ to = cc here in rw same stands;
    pkru = before.pkru;
    marks = before.marks ∙ ap (λ o. marks_of o old.pkru) is ∙ set_of_same (has_mark from.area.bytes.items old.pkru) (has_mark to.area.bytes.items old.pkru) (λ c. ap (λ b. if c == 9 then not (old.pkru == 0) else b) (sym (same_mark c)));
  })

-- its marks are those after a turn where they were
pub grown_after : (rows : List Row) (task : Task) (p : PrivateTask) → IsParked rows task (grown p) → p.marks ≡ marks_after p → marks_after (grown p) ≡ marks_after p → IsParked rows task (parked (grown p))
grown_after rows task p here after same = subst (λ (m : ℕ). IsParked rows task (record (grown p) { marks = m })) (after ∙ sym same) here
