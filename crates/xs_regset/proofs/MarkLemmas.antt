-- The marks that an area gives.
use Rattle.std.proofs.Common.{◌≡◌, ◌⊎◌, ℕ, ◌==◌, Bool, true, false, not, ◌&&◌, ◌||◌, List, Some, if◌then◌else◌, refl, sym, ap, ◌∙◌, inl, inr}
use Rattle.std.proofs.lemmas.Bool.{ne_eqb, false≢true, cases_eq}
use Rattle.xs_base.specs.declared.class.Class.{Class}
use Rattle.xs_base.specs.declared.class.Class.TheVariants.{Small, Large}
use Rattle.xs_base.specs.declared.component.Row.{Row}
use Rattle.xs_area.specs.declared.area.Lease.{Lease}
use Rattle.xs_base.specs.Area.{control_in}
use Rattle.xs_base.specs.Compact.{is_compacted}
use Rattle.xs_base.specs.Component.{component_numbers, initial_mxcsr}
use Rattle.xs_base.specs.Header.{xstate_bv, xcomp_bv, mxcsr}
use Rattle.xs_base.specs.KernelArea.{is_of_class}
use Rattle.xs_base.specs.Layout.{IsLayout, is_known, has_row, set_of, features, default_features}
use Rattle.xs_base.specs.Sets.{has}
use Rattle.xs_base.specs.Task as tasks
use Rattle.xs_base.specs.Task.{PrivateTask}
use Rattle.xs_task.specs.declared.task.Task.{Task}
use Rattle.xs_task.specs.Marks.{is_marked_in, has_mark, marks_of}
use Rattle.xs_task.specs.Parked.{IsParked}
use Rattle.xs_task.specs.TaskArea.{IsTaskArea, is_large, has_large}
use Rattle.xs_image.specs.User.{user_features}
use Rattle.xs_base.proofs.ClassLemmas.{has_class}
use Rattle.xs_base.proofs.LayoutLemmas.{has_row_known}
use Rattle.xs_base.proofs.SetLemmas.{has_set_of, same_set}

-- the machine of an area has a table
pub area_table : (rows : List Row) (lease : Lease) → IsTaskArea rows lease → IsLayout rows
area_table rows lease area = rw (area.loadable.stands.rows_are) at area.loadable.is_file.layout

-- tests that agree on the components make one set
pub set_of_same : (f h : ℕ → Bool) → ((c : ℕ) → (f c && is_known c) ≡ (h c && is_known c)) → set_of f component_numbers ≡ set_of h component_numbers
set_of_same f h same = same_set (set_of f component_numbers) (set_of h component_numbers) (λ c. has_set_of f component_numbers refl c ∙ same c ∙ sym (has_set_of h component_numbers refl c))

-- a compacted area names each component that is marked in it
pub marked_bits : (area : List ℕ) → is_compacted (xcomp_bv area) ≡ true → (c : ℕ) → is_marked_in area c ≡ has (xstate_bv area) c
marked_bits area compact c = elim (cases_eq c 1) [
  | inl one ↦ rw one (named (is_compacted (xcomp_bv area)) (has (xstate_bv area) 1) compact)
  | inr apart ↦ ap (λ b. has (xstate_bv area) c || (b && not (control_in area == initial_mxcsr))) (ne_eqb c 1 apart) ∙ or_false (has (xstate_bv area) c)
]
  where
    or_false : (b : Bool) → (b || false) ≡ b
    or_false true = refl
    or_false false = refl

    named : (k h : Bool) → k ≡ true → (h || (true && not ((if k && not h then initial_mxcsr else mxcsr area) == initial_mxcsr))) ≡ h
    named true true on = refl
    named true false on = refl
    named false h on = absurd (false≢true on)

-- a number with those bits, and that of PKRU by its value, is the marks
pub marks_are : (rows : List Row) (lease : Lease) (pkru set : ℕ) → IsTaskArea rows lease → ((c : ℕ) → has set c ≡ (if c == 9 then not (pkru == 0) else has (xstate_bv lease.area.bytes.items) c)) → set ≡ marks_of (Some lease) pkru
marks_are rows lease pkru set area are =
    same_set set (set_of (has_mark lease.area.bytes.items pkru) component_numbers) (λ c. are c ∙ each c ∙ sym (known c (cases_eq c 9)) ∙ sym (has_set_of (has_mark lease.area.bytes.items pkru) component_numbers refl c))
  where
    table : IsLayout rows
    table = area_table rows lease area

    each : (c : ℕ) → (if c == 9 then not (pkru == 0) else has (xstate_bv lease.area.bytes.items) c) ≡ has_mark lease.area.bytes.items pkru c
    each c = ap (λ b. if c == 9 then not (pkru == 0) else b) (sym (marked_bits lease.area.bytes.items area.compact c))

    implied : (a b : Bool) → (a ≡ true → b ≡ true) → (a && b) ≡ a
    implied true b h = h refl
    implied false b h = refl

    first : (a b : Bool) → (a && b) ≡ true → a ≡ true
    first true b on = refl
    first false b on = absurd (false≢true on)

    row : (c : ℕ) → has (xstate_bv lease.area.bytes.items) c ≡ true → has_row rows c ≡ true
    row c on = first (has_row rows c) (is_of_class lease.class c) (sym (has_class rows lease.class table c) ∙ area.loadable.bits c on)

    known : (c : ℕ) → (c ≡ 9) ⊎ (c ≡ 9 → ⊥) → (has_mark lease.area.bytes.items pkru c && is_known c) ≡ has_mark lease.area.bytes.items pkru c
    known c (inl nine) = rw nine (implied (not (pkru == 0)) true (λ on. refl))
    known c (inr other) = implied (has_mark lease.area.bytes.items pkru c) (is_known c) (λ on. has_row_known rows table c (row c (sym (marked_bits lease.area.bytes.items area.compact c) ∙ sym (ap (λ b. if b then not (pkru == 0) else is_marked_in lease.area.bytes.items c) (ne_eqb c 9 other)) ∙ on)))

-- what a task may use, by the class of its area
pub parked_user : (rows : List Row) (task : Task) (lease : Lease) (p : PrivateTask) → IsParked rows task p → task.lease ≡ Some lease → tasks.user_features p ≡ user_features rows lease.class
parked_user rows task lease p parked is =
    ap (λ b. if b then features p.file.rows else default_features p.file.rows) (ap (λ (q : PrivateTask). q.large) parked.form ∙ ap has_large is)
    ∙ ap (λ (rs : List Row). if is_large lease.class then features rs else default_features rs) parked.valid.file.rows_are
    ∙ sym (by_class lease.class)
  where
    by_class : (class : Class) → user_features rows class ≡ (if is_large class then features rows else default_features rows)
    by_class Small = refl
    by_class Large = refl
