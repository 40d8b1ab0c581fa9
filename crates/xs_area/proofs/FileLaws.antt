-- Files are there where the copies speak of them: one of any parts of an image, and one of what an area has room for of
-- a file.
use Rattle.std.proofs.Common.{◌≡◌, ℕ, ◌^◌, ◌<◌, Bool, true, false, ◌||◌, ◌==◌, List, [], if◌then◌else◌, refl, sym, subst, ◌∙◌, inl, inr, arith, lit<}
use Rattle.std.proofs.lemmas.Bool.{cases_lt, ne_eqb}
use Rattle.std.proofs.lemmas.List.{get_or_past}
use Rattle.xs_base.specs.declared.component.Row.{Row}
use Rattle.xs_base.specs.declared.header.Parts.{Parts}
use Rattle.xs_base.specs.Area.{IsOfParts, IsCut, has_room, has_control_room}
use Rattle.xs_base.specs.Component.{component_count, initial_part, initial_mxcsr}
use Rattle.xs_base.specs.File.{File, IsFile, part}
use Rattle.xs_base.specs.Layout.{IsLayout, has_row}
use Rattle.xs_base.specs.Image.{image_file}
use Rattle.xs_base.proofs.ImageLemmas.{made, made_part, made_past, IsPart, made_is_file, initial_is_part, file_is_part, image_is_file, image_of_parts}
use Rattle.xs_base.proofs.LayoutLemmas.{sound_at}
use Rattle.xs_base.proofs.RowLemmas.{row_found, row_of_tells}

-- The parts of an image are those of a file over any base.
pub parts_have_a_file : (rows : List Row) (bytes : List ℕ) (parts : Parts) (base : File) → IsFile base → base.rows ≡ rows → parts.mxcsr < 2 ^ 32 → (file : File) × IsFile file × IsOfParts rows bytes parts base file
parts_have_a_file rows bytes parts base h are small = (
  image_file base bytes parts,
  image_is_file base bytes parts h small,
  subst (λ rows. IsOfParts rows bytes parts base (image_file base bytes parts)) are (image_of_parts base bytes parts h),
)

-- ---- what an area has room for

unfoldable cut_part : List Row → List ℕ → File → ℕ → List ℕ
cut_part rows area file c = if (c == 9) || has_room rows area c then part file c else initial_part c

cut_kept : (rows : List Row) (area : List ℕ) (file : File) (c : ℕ) → has_room rows area c ≡ true → cut_part rows area file c ≡ part file c
unfolding cut_part
cut_kept rows area file c room = rw room (choose (c == 9))
  where
    choose : (b : Bool) → (if b || true then part file c else initial_part c) ≡ part file c
    choose true = refl
    choose false = refl

cut_initial : (rows : List Row) (area : List ℕ) (file : File) (c : ℕ) → (c ≡ 9 → ⊥) → has_room rows area c ≡ false → cut_part rows area file c ≡ initial_part c
unfolding cut_part
cut_initial rows area file c other none = rw (ne_eqb c 9 other, none) refl

cut_is_part : (rows : List Row) (area : List ℕ) (file : File) → IsFile file → file.rows ≡ rows → (c : ℕ) → c < component_count → IsPart rows c (cut_part rows area file c)
unfolding cut_part
cut_is_part rows area file h are c lt = choose ((c == 9) || has_room rows area c)
  where
    choose : (b : Bool) → IsPart rows c (if b then part file c else initial_part c)
    choose true = file_is_part rows file h are c lt
    choose false = initial_is_part rows c

-- A file can be cut to what an area has room for.
pub a_file_can_be_cut : (rows : List Row) (area : List ℕ) (file : File) → IsFile file → file.rows ≡ rows → (cut : File) × IsFile cut × IsCut rows area file cut
a_file_can_be_cut rows area file h are = (
  cut,
  made_is_file rows each control (rw are at h.layout) (λ c lt. cut_is_part rows area file h are c lt) (small (has_control_room rows area)),
  record {
    rows_are = sym are;
    kept = λ c other room. elim (cases_lt c component_count) [
      | inl lt ↦ made_part rows each control c lt ∙ cut_kept rows area file c room
      | inr past ↦ made_past rows each control c (λ lt. omega arith) ∙ sym (get_or_past file.parts c [] (omega (arith, h.count)))
    ];
    left_out = λ c other there none. made_part rows each control c (number c there) ∙ cut_initial rows area file c other none;
    control = refl;
  },
)
  where
    each : ℕ → List ℕ
    each = cut_part rows area file

    control : ℕ
    control = if has_control_room rows area then file.mxcsr else initial_mxcsr

    cut : File
    cut = made rows each control

    small : (b : Bool) → (if b then file.mxcsr else initial_mxcsr) < 2 ^ 32
    small true = h.control
    small false = lit< tt

    table : IsLayout rows
    table = rw are at h.layout

    number : (c : ℕ) → has_row rows c ≡ true → c < component_count
    number c there =
        let found = row_found rows c there in
        let tells = row_of_tells rows c found.0 found.1 in
        let sound = sound_at rows table tells.index found.0 tells.within tells.is in
        omega (arith, sound.number, tells.number)
