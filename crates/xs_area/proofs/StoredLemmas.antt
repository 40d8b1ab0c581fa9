-- What an area stores of a component is the byte of the file that it stands for.
use Rattle.std.proofs.Common.{◌≡◌, ◌⊎◌, ℕ, ◌+◌, ◌-◌, ◌<◌, ◌≤◌, Bool, true, false, List, ◌++◌, length, get_or, drop, Some, if◌then◌else◌, refl, sym, ap, subst, ◌∙◌, arith, inl, inr, get_or-set_same, get_or-set_other, length-append}
use Rattle.std.proofs.lemmas.Bool.{cases_Bool, cases_eq, cases_lt, ne_eqb}
use Rattle.std.proofs.lemmas.Bool.Decides.{nat_tests}
use Rattle.std.proofs.lemmas.List.{get_or-append_right}
use Rattle.std.proofs.lemmas.List.Edits.{get_or-between, length-between}
use Rattle.std.proofs.lemmas.Option.{slice_get_read}
use Rattle.std.specs.Int.{to_le_bytes, w32}
use Rattle.std.specs.Prelude.{slice_range, slice_get}
use Rattle.xs_base.specs.declared.component.Row.{Row}
use Rattle.xs_base.specs.Area.{StandsFor}
use Rattle.xs_base.specs.Sets.{has}
use Rattle.xs_base.specs.Bytes.{zeros}
use Rattle.xs_base.specs.Component.{component_size, initial_part}
use Rattle.xs_base.specs.Compact.{place}
use Rattle.xs_base.specs.File.{File, IsFile, part, pkru_bytes, with_pkru, is_own}
use Rattle.xs_base.specs.Header.{xstate_bv, xcomp_bv}
use Rattle.xs_base.specs.Layout.{IsLayout, IsSound}
use Rattle.xs_base.specs.Standard.{IsWritten, component_byte, saved_byte}
use Rattle.xs_area.specs.Stored.{stored_byte}
use Rattle.xs_base.proofs.LayoutLemmas.{sound_at}
use Rattle.xs_base.proofs.ComponentLemmas.{zero_at, length_zeros, pkru_size}
use Rattle.xs_base.proofs.StandardLemmas.{written_as, component_written, component_skip, component_all}

-- ---- a file with another PKRU

-- component 9 is the number's bytes
pub pkru_part : (file : File) (pkru : ℕ) → IsFile file → part (with_pkru file pkru) 9 ≡ pkru_bytes pkru
pkru_part file pkru h = get_or-set_same file.parts 9 (to_le_bytes w32 pkru ++ zeros 4) _ (omega (arith, h.count))

-- every other component is as before
pub other_part : (file : File) (pkru c : ℕ) → (c ≡ 9 → ⊥) → part (with_pkru file pkru) c ≡ part file c
other_part file pkru c other = get_or-set_other file.parts 9 c (to_le_bytes w32 pkru ++ zeros 4) _ other

-- ---- the byte that is stored

-- behind the four bytes of PKRU there is zero
pub pkru_byte : (pkru k : ℕ) → (if is_own 9 k then get_or (pkru_bytes pkru) k 0 else 0) ≡ get_or (pkru_bytes pkru) k 0
pkru_byte pkru k = elim (cases_lt k 4) [
  | inl low ↦ let own : is_own 9 k ≡ true = grind (arith, nat_tests) in rw own refl
  | inr high ↦
      let own : is_own 9 k ≡ false = grind (arith, nat_tests) in
      rw own (sym (get_or-append_right (to_le_bytes w32 pkru) (zeros 4) 4 k 0 refl high ∙ zero_at 4 (k - 4)))
]

pub pkru_eight : (pkru : ℕ) → length (pkru_bytes pkru) ≡ 8
pkru_eight pkru = length-append (to_le_bytes w32 pkru) (zeros 4) ∙ ap (λ n. 4 + n) (length_zeros 4)

-- of a component whose bit is 1
pub stored_present : (area : List ℕ) (bits pkru at c k : ℕ) → (c ≡ 9 → ⊥) → has bits c ≡ true → stored_byte area bits pkru at c k ≡ (if is_own c k then get_or area (at + k) 0 else 0)
stored_present area bits pkru at c k other present =
    let b = if is_own c k then get_or area (at + k) 0 else 0 in
    ap (λ t. if t then get_or (pkru_bytes pkru) k 0 else if has bits c then b else get_or (initial_part c) k 0) (ne_eqb c 9 other)
    ∙ ap (λ t. if t then b else get_or (initial_part c) k 0) present

-- and of one whose bit is 0
pub stored_absent : (area : List ℕ) (bits pkru at c k : ℕ) → (c ≡ 9 → ⊥) → has bits c ≡ false → stored_byte area bits pkru at c k ≡ get_or (initial_part c) k 0
stored_absent area bits pkru at c k other absent =
    let b = if is_own c k then get_or area (at + k) 0 else 0 in
    ap (λ t. if t then get_or (pkru_bytes pkru) k 0 else if has bits c then b else get_or (initial_part c) k 0) (ne_eqb c 9 other)
    ∙ ap (λ t. if t then b else get_or (initial_part c) k 0) absent

-- what is stored is what the file has
pub stored_saved : (rows : List Row) (area : List ℕ) (file : File) (pkru i : ℕ) (r : Row) (at k : ℕ) → IsFile file → StandsFor rows area file → i < length rows → r ≡ get_or rows i r → IsSound r → at ≡ place rows (xcomp_bv area) r → k < r.size → stored_byte area (xstate_bv area) pkru at r.comp.0 k ≡ saved_byte (with_pkru file pkru) r.comp.0 k
stored_saved rows area file pkru i r at k h stands lt is sound placed small =
    here (cases_eq r.comp.0 9) (cases_Bool (has (xstate_bv area) r.comp.0))
  where
    row : slice_get rows i ≡ Some r
    row = slice_get_read rows (length rows) i r refl lt is

    P : ℕ → Type 0
    P c = stored_byte area (xstate_bv area) pkru at c k ≡ saved_byte (with_pkru file pkru) c k

    pkru_case : P 9
    pkru_case = sym (ap (λ l. if is_own 9 k then get_or l k 0 else 0) (pkru_part file pkru h) ∙ pkru_byte pkru k)

    saved : (r.comp.0 ≡ 9 → ⊥) → saved_byte (with_pkru file pkru) r.comp.0 k ≡ (if is_own r.comp.0 k then get_or (part file r.comp.0) k 0 else 0)
    saved other = ap (λ l. if is_own r.comp.0 k then get_or l k 0 else 0) (other_part file pkru r.comp.0 other)

    choose : (own : Bool) (x y : ℕ) → (own ≡ true → x ≡ y) → (if own then x else 0) ≡ (if own then y else 0)
    choose true x y e = e refl
    choose false x y e = refl

    clean : (own : Bool) (x : ℕ) → (own ≡ false → x ≡ 0) → x ≡ (if own then x else 0)
    clean true x e = refl
    clean false x e = e refl

    here : (r.comp.0 ≡ 9) ⊎ (r.comp.0 ≡ 9 → ⊥) → (has (xstate_bv area) r.comp.0 ≡ true) ⊎ (has (xstate_bv area) r.comp.0 ≡ false) → P r.comp.0
    here (inl nine) bit = subst P (sym nine) pkru_case
    here (inr other) (inl present) =
        stored_present area (xstate_bv area) pkru at r.comp.0 k other present
        ∙ choose (is_own r.comp.0 k) (get_or area (at + k) 0) (get_or (part file r.comp.0) k 0) (λ own. ap (λ n. get_or area (n + k) 0) placed ∙ stands.present i r row other present k (omega (arith, sound.size)) own)
        ∙ sym (saved other)
    here (inr other) (inr absent) =
        stored_absent area (xstate_bv area) pkru at r.comp.0 k other absent
        ∙ ap (λ l. get_or l k 0) (sym (stands.absent i r row other absent))
        ∙ clean (is_own r.comp.0 k) (get_or (part file r.comp.0) k 0) (λ own. h.clean r.comp.0 k own)
        ∙ sym (saved other)

-- ---- one component written

-- PKRU
pub put_pkru : (area : List ℕ) (bits pkru at : ℕ) (r : Row) (bytes old new : List ℕ) → r.comp.0 ≡ 9 → IsSound r → bytes ≡ pkru_bytes pkru → IsWritten r.offset (length bytes) (λ k. if is_own r.comp.0 k then get_or bytes k 0 else 0) old new → IsWritten r.offset r.size (stored_byte area bits pkru at r.comp.0) old new
put_pkru area bits pkru at r bytes old new nine sound are written =
    let many : length bytes ≡ r.size = ap length are ∙ pkru_eight pkru ∙ sym (sound.size ∙ ap component_size nine ∙ pkru_size) in
    let Q : ℕ → Type 0 = λ n. IsWritten r.offset n (stored_byte area bits pkru at r.comp.0) old new in
    subst Q many (written_as r.offset (length bytes) _ (stored_byte area bits pkru at r.comp.0) old new (λ k small. each k) written)
  where
    each : (k : ℕ) → (if is_own r.comp.0 k then get_or bytes k 0 else 0) ≡ stored_byte area bits pkru at r.comp.0 k
    each k =
        let P : ℕ → Type 0 = λ c. (if is_own c k then get_or bytes k 0 else 0) ≡ stored_byte area bits pkru at c k in
        subst P (sym nine) (ap (λ l. if is_own 9 k then get_or l k 0 else 0) are ∙ pkru_byte pkru k)

-- a component that the area has
pub put_present : (area : List ℕ) (bits pkru at : ℕ) (r : Row) (bytes old new : List ℕ) → (r.comp.0 ≡ 9 → ⊥) → has bits r.comp.0 ≡ true → at + r.size ≤ length area → bytes ≡ slice_range area at (at + r.size) → IsWritten r.offset (length bytes) (λ k. if is_own r.comp.0 k then get_or bytes k 0 else 0) old new → IsWritten r.offset r.size (stored_byte area bits pkru at r.comp.0) old new
put_present area bits pkru at r bytes old new other present fits are written =
    let ranged : length (slice_range area at (at + r.size)) ≡ at + r.size - at = length-between area at (at + r.size) fits in
    let many : length bytes ≡ r.size = ap length are ∙ omega (arith, ranged) in
    let Q : ℕ → Type 0 = λ n. IsWritten r.offset n (stored_byte area bits pkru at r.comp.0) old new in
    subst Q many (written_as r.offset (length bytes) _ (stored_byte area bits pkru at r.comp.0) old new (λ k small. each k (omega arith)) written)
  where
    each : (k : ℕ) → k < r.size → (if is_own r.comp.0 k then get_or bytes k 0 else 0) ≡ stored_byte area bits pkru at r.comp.0 k
    each k small =
        ap (λ n. if is_own r.comp.0 k then n else 0) (ap (λ l. get_or l k 0) are ∙ get_or-between area at (at + r.size) k 0 (omega arith))
        ∙ sym (stored_present area bits pkru at r.comp.0 k other present)

-- ---- along the rows

-- The components of the rows before i have been written over `old`.
pub record AreStored (rows : List Row) (area : List ℕ) (pkru mask i : ℕ) (old out : List ℕ) : Type 0 where
  pub len : length out ≡ length old
  pub each : (file : File) → IsFile file → StandsFor rows area file → (k : ℕ) → component_byte (saved_byte (with_pkru file pkru)) (λ r. r.offset) mask k (drop i rows) (get_or out k 0) ≡ component_byte (saved_byte (with_pkru file pkru)) (λ r. r.offset) mask k rows (get_or old k 0)

-- before the first row
pub stored_first : (rows : List Row) (area : List ℕ) (pkru mask : ℕ) (old : List ℕ) → AreStored rows area pkru mask 0 old old
stored_first rows area pkru mask old = record { len = refl; each = λ file h stands k. refl }

module _ (rows : List Row) (table : IsLayout rows) (area : List ℕ) (pkru mask i : ℕ) (old out : List ℕ) (r : Row) (lt : i < length rows) (is : r ≡ get_or rows i r) (at : AreStored rows area pkru mask i old out) where
  -- a row of the mask was written
  pub stored_written : (new : List ℕ) (p : ℕ) → has mask r.comp.0 ≡ true → p ≡ place rows (xcomp_bv area) r → IsWritten r.offset r.size (stored_byte area (xstate_bv area) pkru p r.comp.0) out new → AreStored rows area pkru mask (i + 1) old new
  stored_written new p wanted placed written = record {
    len = written.len ∙ at.len;
    each = λ file h stands k.
        let saved = saved_byte (with_pkru file pkru) in
        let meant : IsWritten r.offset r.size (saved r.comp.0) out new = written_as r.offset r.size _ (saved r.comp.0) out new (λ j small. stored_saved rows area file pkru i r p j h stands lt is (sound_at rows table i r lt is) placed small) written in
        component_written saved (λ (x : Row). x.offset) mask rows i r out new k lt is wanted meant ∙ at.each file h stands k;
  }

  -- a row that isn't of the mask
  pub stored_left : has mask r.comp.0 ≡ false → AreStored rows area pkru mask (i + 1) old out
  stored_left left = record {
    len = at.len;
    each = λ file h stands k. component_skip (saved_byte (with_pkru file pkru)) (λ (x : Row). x.offset) mask rows i r k (get_or out k 0) lt is left ∙ at.each file h stands k;
  }

-- every row
pub stored_all : (rows : List Row) (area : List ℕ) (pkru mask i : ℕ) (old out : List ℕ) → length rows ≤ i → AreStored rows area pkru mask i old out → (file : File) → IsFile file → StandsFor rows area file → (k : ℕ) → get_or out k 0 ≡ component_byte (saved_byte (with_pkru file pkru)) (λ r. r.offset) mask k rows (get_or old k 0)
stored_all rows area pkru mask i old out past at file h stands k = sym (component_all (saved_byte (with_pkru file pkru)) (λ (x : Row). x.offset) mask rows i k (get_or out k 0) past) ∙ at.each file h stands k
