-- Files made component by component: the file of an image's parts over a base file is one, and one of these parts.
use Rattle.std.proofs.Common.{◌≡◌, ℕ, ◌+◌, ◌^◌, ◌<◌, Bool, true, false, ◌&&◌, List, [], length, map, get_or, Some, if◌then◌else◌, refl, sym, ap, ◌∙◌, inl, inr, arith, lit<}
use Rattle.std.proofs.lemmas.Bool.{cases_lt, cases_eq, true≢false, ne_eqb}
use Rattle.std.proofs.lemmas.List.{get_or_past, set-get_or}
use Rattle.std.proofs.lemmas.List.FromFn.{length-map-range_with_len, get_or-map-range_with_len}
use Rattle.std.proofs.lemmas.Option.{slice_get_within, get_or_from_slice_get}
use Rattle.std.specs.List.{range_with_len}
use Rattle.std.specs.Prelude.{slice_get, slice_set}
use Rattle.xs_base.specs.declared.component.Row.{Row}
use Rattle.xs_base.specs.declared.header.Parts.{Parts}
use Rattle.xs_base.specs.Area.{IsOfParts}
use Rattle.xs_base.specs.Component.{component_count, component_size, initial_part}
use Rattle.xs_base.specs.File.{File, IsFile, part, pkru_bytes, with_pkru, is_own}
use Rattle.xs_base.specs.Image.{taken_part, offset_of, image_part, image_file}
use Rattle.xs_base.specs.Layout.{IsLayout, has_row, row_of}
use Rattle.xs_base.specs.Sets.{has}
use Rattle.xs_base.proofs.ComponentLemmas.{length_initial}
use Rattle.xs_base.proofs.FileLemmas.{initial_clean, pkru_length, pkru_clean}
use Rattle.xs_base.proofs.LayoutLemmas.{sound_at, has_row_at}
use Rattle.xs_base.proofs.RowLemmas.{row_of_at}

-- ---- a file by its parts

abbrev pub made : List Row → (ℕ → List ℕ) → ℕ → File
made rows parts control = record { rows = rows; parts = map parts (range_with_len 0 component_count); mxcsr = control }

-- component c of it
pub made_part : (rows : List Row) (parts : ℕ → List ℕ) (control c : ℕ) → c < component_count → part (made rows parts control) c ≡ parts c
made_part rows parts control c lt = get_or-map-range_with_len parts 0 component_count c c [] lt (omega arith)

-- a number past the components has no bytes
pub made_past : (rows : List Row) (parts : ℕ → List ℕ) (control c : ℕ) → (c < component_count → ⊥) → part (made rows parts control) c ≡ []
made_past rows parts control c past = get_or_past (made rows parts control).parts c [] (omega (arith, past, length-map-range_with_len parts 0 component_count))

-- what is wanted of the bytes of a component
pub record IsPart (rows : List Row) (c : ℕ) (bytes : List ℕ) : Type 0 where
  pub size : length bytes ≡ component_size c
  pub clean : (k : ℕ) → is_own c k ≡ false → get_or bytes k 0 ≡ 0
  pub absent : has_row rows c ≡ false → (c ≡ 9 → ⊥) → bytes ≡ initial_part c

pub made_is_file : (rows : List Row) (parts : ℕ → List ℕ) (control : ℕ) → IsLayout rows → ((c : ℕ) → c < component_count → IsPart rows c (parts c)) → control < 2 ^ 32 → IsFile (made rows parts control)
made_is_file rows parts control table each small = record {
  layout = table;
  count = length-map-range_with_len parts 0 component_count;
  sizes = λ c lt. rw (made_part rows parts control c lt) ((each c lt).size);
  clean = λ c k loose. elim (cases_lt c component_count) [
    | inl lt ↦ rw (made_part rows parts control c lt) ((each c lt).clean k loose)
    | inr past ↦ rw (made_past rows parts control c (λ lt. omega arith)) refl
  ];
  absent = λ c lt lacks other. made_part rows parts control c lt ∙ (each c lt).absent lacks other;
  control = small;
}

-- an initial component
pub initial_is_part : (rows : List Row) (c : ℕ) → IsPart rows c (initial_part c)
initial_is_part rows c = record { size = length_initial c; clean = λ k loose. initial_clean c k loose; absent = λ lacks other. refl }

-- the component of a row of the machine
pub row_part : (rows : List Row) (i : ℕ) (r : Row) → IsLayout rows → slice_get rows i ≡ Some r → (row_of rows r.comp.0 ≡ Some r) × (has_row rows r.comp.0 ≡ true) × (r.comp.0 < component_count)
row_part rows i r table row =
    let lt = slice_get_within rows i r row in
    let is : r ≡ get_or rows i r = sym (get_or_from_slice_get rows i r r row) in
    (row_of_at rows table i r lt is, has_row_at rows i r lt is, (sound_at rows table i r lt is).number)

-- ---- a component that is taken from bytes

pub length_taken : (bytes : List ℕ) (at c : ℕ) → length (taken_part bytes at c) ≡ component_size c
length_taken bytes at c = length-map-range_with_len (λ k. if is_own c k then get_or bytes (at + k) 0 else 0) 0 (component_size c)

pub taken_byte : (bytes : List ℕ) (at c k : ℕ) → k < component_size c → get_or (taken_part bytes at c) k 0 ≡ (if is_own c k then get_or bytes (at + k) 0 else 0)
taken_byte bytes at c k lt = get_or-map-range_with_len (λ j. if is_own c j then get_or bytes (at + j) 0 else 0) 0 (component_size c) k k 0 lt (omega arith)

pub taken_clean : (bytes : List ℕ) (at c k : ℕ) → is_own c k ≡ false → get_or (taken_part bytes at c) k 0 ≡ 0
taken_clean bytes at c k loose = elim (cases_lt k (component_size c)) [
  | inl lt ↦ taken_byte bytes at c k lt ∙ ap (λ t. if t then get_or bytes (at + k) 0 else 0) loose
  | inr past ↦ get_or_past (taken_part bytes at c) k 0 (omega (arith, length_taken bytes at c))
]

-- ---- the parts of an image's file

pub image_pkru : (base : File) (bytes : List ℕ) (parts : Parts) → image_part base bytes parts 9 ≡ pkru_bytes parts.pkru
unfolding image_part
image_pkru base bytes parts = refl

pub image_taken : (base : File) (bytes : List ℕ) (parts : Parts) (c : ℕ) → (c ≡ 9 → ⊥) → has_row base.rows c ≡ true → has parts.bits.0 c ≡ true → image_part base bytes parts c ≡ taken_part bytes (offset_of (row_of base.rows c)) c
unfolding image_part
image_taken base bytes parts c other there named = rw (ne_eqb c 9 other, there, named) refl

pub image_base : (base : File) (bytes : List ℕ) (parts : Parts) (c : ℕ) → (c ≡ 9 → ⊥) → (has_row base.rows c && has parts.bits.0 c) ≡ false → image_part base bytes parts c ≡ part base c
unfolding image_part
image_base base bytes parts c other none = rw (ne_eqb c 9 other, none) refl

pkru_is_part : (rows : List Row) (pkru : ℕ) → IsPart rows 9 (pkru_bytes pkru)
pkru_is_part rows pkru = record { size = pkru_length pkru; clean = pkru_clean pkru; absent = λ lacks other. absurd (other refl) }

-- a component of a file of the machine
pub file_is_part : (rows : List Row) (file : File) → IsFile file → file.rows ≡ rows → (c : ℕ) → c < component_count → IsPart rows c (part file c)
file_is_part rows file h are c lt = record { size = h.sizes c lt; clean = λ k loose. h.clean c k loose; absent = λ lacks other. h.absent c lt (rw are lacks) other }

image_is_part : (base : File) (bytes : List ℕ) (parts : Parts) → IsFile base → (c : ℕ) → c < component_count → IsPart base.rows c (image_part base bytes parts c)
image_is_part base bytes parts h c lt = elim (cases_eq c 9) [
  | inl nine ↦ rw (nine, image_pkru base bytes parts) (pkru_is_part base.rows parts.pkru)
  | inr other ↦ choose other (has_row base.rows c) (has parts.bits.0 c) refl refl
]
  where
    at : ℕ
    at = offset_of (row_of base.rows c)

    choose : (c ≡ 9 → ⊥) → (there named : Bool) → has_row base.rows c ≡ there → has parts.bits.0 c ≡ named → IsPart base.rows c (image_part base bytes parts c)
    choose other true true is on = rw (image_taken base bytes parts c other is on) (record {
      size = length_taken bytes at c;
      clean = λ k loose. taken_clean bytes at c k loose;
      absent = λ lacks apart. absurd (true≢false (sym is ∙ lacks));
    })
    choose other true false is on = rw (image_base base bytes parts c other (rw (is, on) refl)) (file_is_part base.rows base h refl c lt)
    choose other false named is on = rw (image_base base bytes parts c other (rw is refl)) (file_is_part base.rows base h refl c lt)

-- ---- an image's file is one, and of its parts

pub image_is_file : (base : File) (bytes : List ℕ) (parts : Parts) → IsFile base → parts.mxcsr < 2 ^ 32 → IsFile (image_file base bytes parts)
image_is_file base bytes parts h small = made_is_file base.rows (image_part base bytes parts) parts.mxcsr h.layout (λ c lt. image_is_part base bytes parts h c lt) small

-- a component of it
pub image_at : (base : File) (bytes : List ℕ) (parts : Parts) (c : ℕ) → c < component_count → part (image_file base bytes parts) c ≡ image_part base bytes parts c
image_at base bytes parts c lt = made_part base.rows (image_part base bytes parts) parts.mxcsr c lt

-- a file with the PKRU that it has
pub with_own_pkru : (file : File) (pkru : ℕ) → part file 9 ≡ pkru_bytes pkru → with_pkru file pkru ≡ file
with_own_pkru file pkru own = ap (λ (ps : List (List ℕ)). record file { parts = ps }) (ap (slice_set file.parts 9) (sym own) ∙ set-get_or file.parts 9 [])

pub image_of_parts : (base : File) (bytes : List ℕ) (parts : Parts) → IsFile base → IsOfParts base.rows bytes parts base (image_file base bytes parts)
image_of_parts base bytes parts h = record {
  rows_are = refl;
  present = λ i r row other named k lt own.
      let of_row = row_part base.rows i r h.layout row in
      let taken : part (image_file base bytes parts) r.comp.0 ≡ taken_part bytes r.offset r.comp.0 = image_at base bytes parts r.comp.0 of_row.2 ∙ image_taken base bytes parts r.comp.0 other of_row.1 named ∙ ap (λ o. taken_part bytes (offset_of o) r.comp.0) of_row.0 in
      sym (ap (λ l. get_or l k 0) taken ∙ taken_byte bytes r.offset r.comp.0 k lt ∙ ap (λ t. if t then get_or bytes (r.offset + k) 0 else 0) own);
  absent = λ i r row other none.
      let of_row = row_part base.rows i r h.layout row in
      image_at base bytes parts r.comp.0 of_row.2 ∙ image_base base bytes parts r.comp.0 other (rw (of_row.1, none) refl);
  control = refl;
  pkru = with_own_pkru (image_file base bytes parts) parts.pkru (image_at base bytes parts 9 (lit< tt) ∙ image_pkru base bytes parts);
}
