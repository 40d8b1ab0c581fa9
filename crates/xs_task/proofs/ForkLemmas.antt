-- The child of a private task, and what its area stands for.
use Rattle.std.proofs.Common.{◌≡◌, ℕ, ◌<◌, ◌^◌, ◌==◌, Bool, true, false, not, ◌&&◌, ◌||◌, List, take, refl, sym, ap, ◌∙◌, if◌then◌else◌, arith, inl, inr, Some, None, lit<}
use Rattle.std.proofs.lemmas.Bool.{ne_eqb, true≢false, false≢true, cases_eq}
use Rattle.std.specs.Int.{from_le_bytes, w32}
use Rattle.std.specs.Prelude.{bytes_eq}
use Rattle.xs_base.specs.declared.class.Class.{Class}
use Rattle.xs_base.specs.declared.class.Class.TheVariants.{Small}
use Rattle.xs_base.specs.declared.component.Row.{Row}
use Rattle.xs_area.specs.declared.area.Lease.{Lease}
use Rattle.xs_base.specs.Area.{StandsFor}
use Rattle.xs_base.specs.Bytes.{zeros}
use Rattle.xs_base.specs.Component.{component_numbers, initial_part, initial_mxcsr}
use Rattle.xs_base.specs.File.{File, IsFile, part, with_part, is_saved, pkru_of, pkru_bytes}
use Rattle.xs_base.specs.KernelArea.{class_features}
use Rattle.xs_base.specs.Layout.{IsLayout, has_row, set_of}
use Rattle.xs_base.specs.Sets.{has}
use Rattle.xs_base.specs.Task.{PrivateTask, IsPrivateTask, child_of, is_marked, marks_after, user_features}
use Rattle.xs_task.specs.declared.task.Task.{Task}
use Rattle.xs_task.specs.Marks.{is_marked_in, has_mark, IsSavedIn}
use Rattle.xs_task.specs.Parked.{IsParked}
use Rattle.xs_task.specs.TaskArea.{IsTask, IsTaskArea, IsCutTo}
use Rattle.xs_base.proofs.ClassLemmas.{has_class}
use Rattle.xs_base.proofs.FileLemmas.{other_is_file, initial_clean, part_here, part_other}
use Rattle.xs_base.proofs.ComponentLemmas.{length_initial}
use Rattle.xs_base.proofs.LayoutLemmas.{has_row_known}
use Rattle.xs_base.proofs.SetLemmas.{has_set_of}
use Rattle.xs_base.proofs.ValidLemmas.{child_is_private}
use Rattle.xs_task.proofs.BirthLemmas.{own_value}
use Rattle.xs_task.proofs.CopyLemmas.{class_other, class_row}
use Rattle.xs_task.proofs.MarkLemmas.{has_user}
use Rattle.xs_task.proofs.ParkLemmas.{parked_from}

-- the registers of a child
abbrev pub child_file : File → File
child_file file = with_part file 18 (initial_part 18)

pub child_is_file : (file : File) → IsFile file → IsFile (child_file file)
child_is_file file good = other_is_file file 18 (initial_part 18) (lit< tt) (length_initial 18) (initial_clean 18) (λ gone other. refl) good

-- a Small area has no place for TILEDATA
no_tiles : (rows : List Row) (c : ℕ) → IsLayout rows → has (class_features rows Small) c ≡ true → (c ≡ 18 → ⊥)
no_tiles rows c table on tile = here (has_row rows 18) (sym (has_class rows Small table 18) ∙ ap (has (class_features rows Small)) (sym tile) ∙ on)
  where
    here : (a : Bool) → (a && (true && false)) ≡ true → ⊥
    here true h = false≢true h
    here false h = false≢true h

-- so a child's registers are its parent's as far as such an area has them
pub child_cut : (rows : List Row) (class : Class) (file : File) → IsLayout rows → class ≡ Small → IsFile file → IsCutTo rows class file (child_file file)
child_cut rows class file table small good = rw small (record {
  rows_are = refl;
  kept = λ c on. part_other file 18 c (initial_part 18) (no_tiles rows c table on);
  left_out = λ c other there off. elim (cases_eq c 18) [
    | inl tile ↦ let count = good.count in rw tile (part_here file 18 (initial_part 18) (omega arith))
    | inr apart ↦ absurd (true≢false (sym (in_class c other apart there) ∙ off))
  ];
  control = refl;
})
  where
    in_class : (c : ℕ) → (c ≡ 9 → ⊥) → (c ≡ 18 → ⊥) → has_row rows c ≡ true → has (class_features rows Small) c ≡ true
    in_class c other apart there = has_class rows Small table c ∙ ap (λ b. b && (not (c == 9) && not (c == 18))) there ∙ ap (λ b. not b && not (c == 18)) (ne_eqb c 9 other) ∙ ap not (ne_eqb c 18 apart)

-- ---- marks

-- a mark of the parent after its turn
module _ (rows : List Row) (from : List ℕ) (pkru : ℕ) (p : PrivateTask) (table : IsLayout rows) (rows_are : p.file.rows ≡ rows) (marks : set_of (has_mark from pkru) component_numbers ≡ marks_after p) where
  parent_mark : (c : ℕ) → has_row rows c ≡ true → (c ≡ 9 → ⊥) → (c ≡ 18 → ⊥) → is_marked_in from c ≡ is_saved p.file c
  unfolding marks_after
  parent_mark c there other apart =
      let known = has_row_known rows table c there in
      let user : has (user_features p) c ≡ true = rw rows_are (has_user rows table p.large c ∙ ap (λ b. b && (p.large || not (c == 18))) there ∙ ap (λ b. p.large || not b) (ne_eqb c 18 apart) ∙ yes p.large) in
      let left : has (set_of (has_mark from pkru) component_numbers) c ≡ has_mark from pkru c = has_set_of (has_mark from pkru) component_numbers refl c ∙ ap (λ b. has_mark from pkru c && b) known ∙ all (has_mark from pkru c) in
      let right : has (set_of (is_marked p) component_numbers) c ≡ is_marked p c = has_set_of (is_marked p) component_numbers refl c ∙ ap (λ b. is_marked p c && b) known ∙ all (is_marked p c) in
      sym (ap (λ b. if b then not (pkru == 0) else is_marked_in from c) (ne_eqb c 9 other))
      ∙ sym left ∙ ap (λ m. has m c) marks ∙ right
      ∙ ap (λ b. if b then not (pkru_of p.file == 0) else (is_saved p.file c && has (user_features p) c)) (ne_eqb c 9 other)
      ∙ ap (λ b. is_saved p.file c && b) user ∙ all (is_saved p.file c)
    where
      yes : (b : Bool) → (b || not false) ≡ true
      yes true = refl
      yes false = refl

      all : (b : Bool) → (b && true) ≡ b
      all true = refl
      all false = refl

  -- the child's area is one after a save
  pub child_saved : (to : Lease) → to.class ≡ Small → StandsFor rows to.area.bytes.items (child_file p.file) → ((c : ℕ) → is_marked_in to.area.bytes.items c ≡ (is_marked_in from c && has (class_features rows to.class) c)) → IsSavedIn rows to (child_file p.file)
  child_saved to class stands marked = record {
    stands = stands;
    marks = λ c. marked c ∙ swap (is_marked_in from c) (has (class_features rows to.class) c) (is_saved (child_file p.file) c) (λ on. each c (rw class at on));
  }
    where
      swap : (m h s : Bool) → (h ≡ true → m ≡ s) → (m && h) ≡ (h && s)
      swap true true s is = is refl
      swap false true s is = is refl
      swap true false s is = refl
      swap false false s is = refl

      each : (c : ℕ) → has (class_features rows Small) c ≡ true → is_marked_in from c ≡ is_saved (child_file p.file) c
      each c on =
          let apart = no_tiles rows c table on in
          parent_mark c (class_row rows Small c table on) (λ nine. false≢true (ap (λ k. not (k == 9)) (sym nine) ∙ class_other rows Small c table on)) apart
          ∙ ap (λ (bs : List ℕ). (has_row p.file.rows c && not (bytes_eq bs (initial_part c))) || ((c == 1) && not (p.file.mxcsr == initial_mxcsr))) (sym (part_other p.file 18 c (initial_part 18) apart))

-- ---- the child

pub child_parked : (rows : List Row) (task : Task) (lease : Lease) (p : PrivateTask) → IsPrivateTask rows p → lease.class ≡ Small → task.lease ≡ Some lease → task.need_load ≡ true → task.permitted ≡ p.permitted → task.frame.items ≡ zeros 16388 → task.buffer.items ≡ zeros 16384 → task.handling ≡ false → task.place ≡ 0 → task.back ≡ 0 → IsSavedIn rows lease (child_file p.file) → part p.file 9 ≡ pkru_bytes task.pkru → task.pkru < 2 ^ 32 → IsParked rows task (child_of p)
unfolding child_of
child_parked rows task lease p good class is flag permitted frame buffer handling place back saved own small =
    let valid = child_is_private rows p good in
    let same : part (child_file p.file) 9 ≡ pkru_bytes task.pkru = part_other p.file 18 9 (initial_part 18) (omega arith) ∙ own in
    parked_from rows task _ (record {
      file = valid.file;
      tiles_are = valid.tiles_are;
      frame_size = valid.frame_size;
      frame_bytes = valid.frame_bytes;
      buffer_size = valid.buffer_size;
      buffer_bytes = valid.buffer_bytes;
    }) flag
    (rw (permitted, is, class, frame, buffer, handling, place, back) refl)
    (λ none. absurd (some_none lease (sym is ∙ none)))
    (λ other here. let it : other ≡ lease = cc (sym here ∙ is) in rw it saved)
    same
    (ap (λ (bs : List ℕ). from_le_bytes w32 (take 4 bs)) same ∙ own_value task.pkru small)
  where
    some_none : (l : Lease) → Some l ≡ None → ⊥
    some_none l h = cc

-- a task with another area and the same memories
pub another_area : (rows : List Row) (old task : Task) (lease : Lease) → IsTask rows old → task.frame.items ≡ old.frame.items → task.buffer.items ≡ old.buffer.items → task.lease ≡ Some lease → IsTaskArea rows lease → IsTask rows task
another_area rows old task lease whole frame buffer is area = record {
  frame = rw frame whole.frame;
  buffer = rw buffer whole.buffer;
  some = λ none. absurd (some_none lease (sym is ∙ none));
  area = λ other here. let same : other ≡ lease = cc (sym here ∙ is) in rw same area;
}
  where
    some_none : (l : Lease) → Some l ≡ None → ⊥
    some_none l h = cc
