-- The marks of a task that grows.
use Rattle.std.proofs.Common.{◌≡◌, ℕ, ◌==◌, Bool, true, false, not, ◌&&◌, ◌||◌, List, refl, sym, ap, ◌∙◌, if◌then◌else◌, inl, inr}
use Rattle.std.proofs.lemmas.Bool.{ne_eqb, cases_eq}
use Rattle.std.proofs.lemmas.Slice.Eq.{bytes_eq-Decides}
use Rattle.std.specs.Prelude.{bytes_eq}
use Rattle.xs_base.specs.declared.component.Row.{Row}
use Rattle.xs_base.specs.Component.{component_numbers, initial_part}
use Rattle.xs_base.specs.File.{File, part, is_saved, pkru_of}
use Rattle.xs_base.specs.Layout.{has_row, is_known, set_of, features, default_features}
use Rattle.xs_base.specs.Sets.{has}
use Rattle.xs_base.specs.Task.{PrivateTask, IsPrivateTask, is_marked, marks_after}
use Rattle.xs_base.specs.Tile.{grown}
use Rattle.xs_base.proofs.FeatureLemmas.{has_default}
use Rattle.xs_base.proofs.SetLemmas.{has_set_of, same_set}

-- tests that agree make one set
pub set_of_same : (f h : ℕ → Bool) → ((c : ℕ) → f c ≡ h c) → set_of f component_numbers ≡ set_of h component_numbers
set_of_same f h same = same_set (set_of f component_numbers) (set_of h component_numbers) (λ c. has_set_of f component_numbers refl c ∙ ap (λ b. b && is_known c) (same c) ∙ sym (has_set_of h component_numbers refl c))

-- initial TILEDATA isn't saved
unsaved : (file : File) → part file 18 ≡ initial_part 18 → is_saved file 18 ≡ false
unsaved file initial =
    ap (λ (bs : List ℕ). (has_row file.rows 18 && not (bytes_eq bs (initial_part 18))) || false) initial
    ∙ ap (λ b. (has_row file.rows 18 && not b) || false) ((bytes_eq-Decides (initial_part 18) (initial_part 18)).1 refl)
    ∙ none (has_row file.rows 18)
  where
    none : (a : Bool) → ((a && false) || false) ≡ false
    none true = refl
    none false = refl

-- so leave to use it adds no saved component
saved_same : (file : File) (large : Bool) (c : ℕ) → (large ≡ false → part file 18 ≡ initial_part 18) → (is_saved file c && has (features file.rows) c) ≡ (is_saved file c && has (if large then features file.rows else default_features file.rows) c)
saved_same file true c tiles = refl
saved_same file false c tiles = elim (cases_eq c 18) [
  | inl tile ↦ let off = unsaved file (tiles refl) in rw tile (ap (λ b. b && has (features file.rows) 18) off ∙ sym (ap (λ b. b && has (default_features file.rows) 18) off))
  | inr apart ↦ ap (λ b. is_saved file c && b) (sym (has_default file.rows c ∙ ap (λ b. has (features file.rows) c && not b) (ne_eqb c 18 apart) ∙ all (has (features file.rows) c)))
]
  where
    all : (b : Bool) → (b && true) ≡ b
    all true = refl
    all false = refl

pub grown_marks : (rows : List Row) (task : PrivateTask) → IsPrivateTask rows task → marks_after (grown task) ≡ marks_after task
unfolding marks_after
grown_marks rows task valid = set_of_same (is_marked (grown task)) (is_marked task) (λ c. ap (λ b. if c == 9 then not (pkru_of task.file == 0) else b) (saved_same task.file task.large c valid.tiles_are))
