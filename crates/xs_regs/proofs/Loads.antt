-- One component of a file that takes bytes, or becomes initial.
use Rattle.std.proofs.Common.{◌≡◌, ◌⊎◌, inl, inr, ℕ, ◌+◌, ◌-◌, ◌<◌, ◌≤◌, Bool, true, false, not, ◌&&◌, List, [], map, length, get_or, set, Vec, Global, if◌then◌else◌, refl, sym, ap, ◌∙◌, arith}
use Rattle.std.proofs.lemmas.Bool.{cases_lt, cases_eq, false≢true}
use Rattle.std.proofs.lemmas.List.{get_or_past, length-map, length-set, ext_get_or}
use Rattle.std.proofs.lemmas.List.FromFn.{get_or-map-range_with_len, length-map-range_with_len}
use Rattle.std.specs.List.{range_with_len}
use Rattle.std.specs.Vec.{with_items}
use Rattle.xs_base.specs.declared.component.Row.{Row}
use Rattle.xs_base.specs.Bytes.{is_within}
use Rattle.xs_base.specs.Component.{component_count, component_size, initial_part}
use Rattle.xs_base.specs.File.{File, part, with_part, is_own, IsFile}
use Rattle.xs_base.specs.Standard.{IsCleaned}
use Rattle.xs_base.proofs.ByteLemmas.{within_in}
use Rattle.xs_base.proofs.ComponentLemmas.{length_initial}
use Rattle.xs_base.proofs.FileLemmas.{part_here, part_other, initial_clean, other_is_file}
use Rattle.xs_regs.proofs.Parts.{shown, shown_at, shown_file, shown_written}
use Rattle.xs_regs.specs.Loads.{IsCleanCopy, IsPartLoaded}

-- bytes copied and cleaned
pub clean_copy : (c : ℕ) (bytes copied out : List ℕ) → copied ≡ bytes → length bytes ≡ component_size c → IsCleaned 0 c copied out → IsCleanCopy c bytes out
clean_copy c bytes copied out is len h = record {
  len = h.len ∙ ap length is ∙ len;
  own = λ k own. h.each k ∙ here k own;
  clean = λ k left. h.each k ∙ there k left (cases_lt k (component_size c));
}
  where
    back : (k : ℕ) → k - 0 ≡ k
    back k = omega arith

    off : (a : Bool) (x : ℕ) → (if a && not true then 0 else x) ≡ x
    off true x = refl
    off false x = refl

    here : (k : ℕ) → is_own c k ≡ true → (if is_within 0 (component_size c) k && not (is_own c (k - 0)) then 0 else get_or copied k 0) ≡ get_or bytes k 0
    here k own = rw (back k, own, is) (off (is_within 0 (component_size c) k) (get_or bytes k 0))

    kept : (a : Bool) (x : ℕ) → x ≡ 0 → (if a && not false then 0 else x) ≡ 0
    kept true x e = refl
    kept false x e = e

    there : (k : ℕ) → is_own c k ≡ false → (k < component_size c) ⊎ (component_size c ≤ k) → (if is_within 0 (component_size c) k && not (is_own c (k - 0)) then 0 else get_or copied k 0) ≡ 0
    there k left (inl lt) = rw (back k, left, within_in 0 (component_size c) k (omega arith) (omega arith)) refl
    there k left (inr ge) =
        let past : get_or copied k 0 ≡ 0 = get_or_past copied k 0 (omega (arith, ap length is)) in
        rw (back k, left) (kept (is_within 0 (component_size c) k) (get_or copied k 0) past)

-- ---- files with another part

pub reset_is_file : (file : File) (c : ℕ) → c < component_count → IsFile file → IsFile (with_part file c (initial_part c))
reset_is_file file c small h = other_is_file file c (initial_part c) small (length_initial c) (initial_clean c) (λ gone other. refl) h

-- ---- by the vectors

module _ (rows : List Row) (parts : List (Vec ℕ Global)) (mxcsr : ℕ) (c : ℕ) (v : Vec ℕ Global) (small : c < component_count) (h : IsFile (shown_file rows parts mxcsr)) (is : v ≡ get_or parts c v) where
  pub vector_inside : c < length parts
  vector_inside = omega (arith, h.count, length-map parts (λ p. p.items))

  -- the vector has the component's size
  pub vector_size : length v.items ≡ component_size c
  vector_size = ap length (sym (shown_at parts c v vector_inside is)) ∙ h.sizes c small

  -- other bytes of that size are as many as the vector's
  pub vector_len : (old out : List ℕ) → old ≡ v.items → length old ≡ v.len → length out ≡ component_size c → length out ≡ v.len
  vector_len old out items len size = size ∙ sym vector_size ∙ ap length (sym items) ∙ len

  -- the file with other bytes in the vector
  pub vector_written : (out : List ℕ) → length out ≡ v.len → shown (set parts c (with_items v out)) ≡ set (shown parts) c out
  vector_written out len = shown_written parts c v out len

pub loaded : (file : File) (c : ℕ) (bytes out : List ℕ) → c < component_count → IsFile file → IsCleanCopy c bytes out → IsPartLoaded c bytes file (with_part file c out)
loaded file c bytes out small h copy =
    let count = h.count in
    let here : part (with_part file c out) c ≡ out = part_here file c out (omega arith) in
    record {
      rows_are = refl;
      own = λ k own. rw here (copy.own k own);
      others = λ d apart. part_other file c d out apart;
      control = refl;
    }

-- ---- a test that fails with its first part

pub none_of : (a b : Bool) → a ≡ false → (a && b) ≡ false
none_of true b e = absurd (false≢true (sym e))
none_of false b e = refl

-- ---- one part after another becomes initial

pub initial_more : (old new : File) (c : ℕ) → new ≡ with_part old c (initial_part c) → IsFile new → c < component_count → ((n : ℕ) → n < c → part old n ≡ initial_part n) → (n : ℕ) → n < c + 1 → part new n ≡ initial_part n
initial_more old new c is file small before n lt =
    let count : length old.parts ≡ component_count = sym (length-set old.parts c (initial_part c)) ∙ ap (λ (f : File). length f.parts) (sym is) ∙ file.count in
    rw is (elim (cases_eq n c) [
      | inl same ↦ rw same (part_here old c (initial_part c) (omega arith))
      | inr apart ↦ part_other old c n (initial_part c) apart ∙ before n (omega arith)
    ])

pub initial_all : (file : File) → length file.parts ≡ component_count → ((n : ℕ) → n < component_count → part file n ≡ initial_part n) → file.parts ≡ map initial_part (range_with_len 0 component_count)
initial_all file count each =
    let many = length-map-range_with_len initial_part 0 component_count in
    ext_get_or [] file.parts (map initial_part (range_with_len 0 component_count)) (count ∙ sym many)
    (λ n lt. each n (omega arith) ∙ sym (get_or-map-range_with_len initial_part 0 component_count n n [] (omega arith) (omega arith)))
