-- Files that take the components of an image.
use Rattle.std.proofs.Common.{◌≡◌, ℕ, ◌+◌, ◌<◌, ◌^◌, Bool, true, false, ◌&&◌, List, length, get_or, Option, Some, if◌then◌else◌, refl, sym, ap, subst, ◌∙◌, inl, inr, arith, lit<}
use Rattle.std.proofs.lemmas.Bool.{cases_eq, cases_Bool}
use Rattle.std.proofs.lemmas.List.{ext_get_or, length-set}
use Rattle.xs_base.specs.declared.component.Row.{Row}
use Rattle.xs_base.specs.declared.header.Parts.{Parts}
use Rattle.xs_base.specs.Component.{component_count, component_size}
use Rattle.xs_base.specs.File.{File, IsFile, part, with_part, is_own, with_pkru, pkru_bytes, initial_file}
use Rattle.xs_base.specs.Image.{taken_part, offset_of, image_part, image_file}
use Rattle.xs_base.specs.Layout.{IsLayout, has_row, row_of}
use Rattle.xs_base.specs.Sets.{has}
use Rattle.xs_base.proofs.FileLemmas.{part_here, part_other, part_is_file, initial_is_file}
use Rattle.xs_base.proofs.ImageLemmas.{length_taken, taken_byte, taken_clean, image_is_file, image_at, image_pkru, image_taken, image_base}
use Rattle.xs_private.proofs.FileLemmas.{same_file}

-- A file is that with a component of the bytes, where it has just what of these belongs to registers.
pub taken_is : (old new : File) (c at : ℕ) (bytes : List ℕ) → IsFile old → IsFile new → c < component_count → has_row old.rows c ≡ true → new.rows ≡ old.rows
    → ((k : ℕ) → k < component_size c → is_own c k ≡ true → get_or (part new c) k 0 ≡ get_or bytes (at + k) 0)
    → ((d : ℕ) → (d ≡ c → ⊥) → part new d ≡ part old d) → new.mxcsr ≡ old.mxcsr → new ≡ with_part old c (taken_part bytes at c)
taken_is old new c at bytes good made known there rows own others control =
    same_file new (with_part old c taken) made (part_is_file old c taken known (length_taken bytes at c) (taken_clean bytes at c) there good) rows each control
  where
    taken : List ℕ
    taken = taken_part bytes at c

    size : length (part new c) ≡ component_size c
    size = made.sizes c known

    byte : (k : ℕ) → k < length (part new c) → get_or (part new c) k 0 ≡ get_or taken k 0
    byte k lt =
        let within : k < component_size c = omega (arith, size) in
        elim (cases_Bool (is_own c k)) [
          | inl is ↦ own k within is ∙ sym (taken_byte bytes at c k within ∙ ap (λ b. if b then get_or bytes (at + k) 0 else 0) is)
          | inr isnt ↦ made.clean c k isnt ∙ sym (taken_clean bytes at c k isnt)
        ]

    here : part new c ≡ part (with_part old c taken) c
    here = ext_get_or 0 (part new c) taken (size ∙ sym (length_taken bytes at c)) byte ∙ sym (part_here old c taken (omega (arith, good.count)))

    each : (d : ℕ) → d < component_count → part new d ≡ part (with_part old c taken) d
    each d lt = elim (cases_eq d c) [
      | inl same ↦ rw same here
      | inr apart ↦ others d apart ∙ sym (part_other old c d taken apart)
    ]

-- what the parts have of a component goes by the base's own
pub same_base : (base other : File) (bytes : List ℕ) (parts : Parts) (c : ℕ) → base.rows ≡ other.rows → part base c ≡ part other c → image_part base bytes parts c ≡ image_part other bytes parts c
unfolding image_part
same_base base other bytes parts c rows same = rw (rows, same) refl

-- The file of an image, where each component but PKRU is that of the image.
pub image_is : (rows : List Row) (file new : File) (bytes : List ℕ) (parts : Parts) → IsFile new → file.rows ≡ rows
    → ((c : ℕ) → c < component_count → (c ≡ 9 → ⊥) → part file c ≡ image_part (initial_file rows) bytes parts c)
    → new ≡ record (with_pkru file parts.pkru) { mxcsr = parts.mxcsr } → new ≡ image_file (initial_file rows) bytes parts
image_is rows file new bytes parts made rows_are each is =
    same_file new (image_file base bytes parts) made (image_is_file base bytes parts (initial_is_file rows table) small) (ap (λ (f : File). f.rows) is ∙ rows_are) all control
  where
    base : File
    base = initial_file rows

    table : IsLayout rows
    table = subst IsLayout (ap (λ (f : File). f.rows) is ∙ rows_are) made.layout

    control : new.mxcsr ≡ parts.mxcsr
    control = ap (λ (f : File). f.mxcsr) is

    small : parts.mxcsr < 2 ^ 32
    small = omega (arith, control, made.control)

    count : length file.parts ≡ 19
    count = sym (length-set file.parts 9 (pkru_bytes parts.pkru)) ∙ ap (λ (f : File). length f.parts) (sym is) ∙ made.count

    all : (c : ℕ) → c < component_count → part new c ≡ part (image_file base bytes parts) c
    all c lt = ap (λ (f : File). part f c) is ∙ elim (cases_eq c 9) [
      | inl nine ↦ rw nine (part_here file 9 (pkru_bytes parts.pkru) (omega (arith, count)) ∙ sym (image_at base bytes parts 9 (lit< tt) ∙ image_pkru base bytes parts))
      | inr other ↦ part_other file 9 c (pkru_bytes parts.pkru) other ∙ each c lt other ∙ sym (image_at base bytes parts c lt)
    ]

-- ---- one component of an image

-- it has no state of what the machine lacks
pub image_left : (base : File) (bytes : List ℕ) (parts : Parts) (c : ℕ) → has_row base.rows c ≡ false → (c ≡ 9 → ⊥) → part base c ≡ image_part base bytes parts c
image_left base bytes parts c lacks other = sym (image_base base bytes parts c other (ap (λ b. b && has parts.bits.0 c) lacks))

-- nor of what its bits don't have
pub image_out : (base : File) (bytes : List ℕ) (parts : Parts) (c : ℕ) → has parts.bits.0 c ≡ false → (c ≡ 9 → ⊥) → part base c ≡ image_part base bytes parts c
image_out base bytes parts c off other = sym (image_base base bytes parts c other (none (has_row base.rows c) (has parts.bits.0 c) off))
  where
    none : (a b : Bool) → b ≡ false → (a && b) ≡ false
    none true b h = h
    none false b h = refl

-- what is taken stands at its row's place
pub image_in : (base : File) (bytes : List ℕ) (parts : Parts) (c : ℕ) (r : Row) → row_of base.rows c ≡ Some r → has_row base.rows c ≡ true → has parts.bits.0 c ≡ true → (c ≡ 9 → ⊥) → taken_part bytes r.offset c ≡ image_part base bytes parts c
image_in base bytes parts c r row there named other = sym (image_taken base bytes parts c other there named ∙ ap (λ (o : Option Row). taken_part bytes (offset_of o) c) row)
