-- Register files: the initial one, and a file with another part or another MXCSR.
use Rattle.std.proofs.Common.{◌≡◌, ℕ, zero, suc, ◌+◌, ◌-◌, ◌<◌, ◌≤◌, ◌^◌, true, false, List, [], ◌++◌, length, get_or, refl, sym, ap, ◌∙◌, inl, inr, arith, rules, lit<, length-append}
use Rattle.std.proofs.lemmas.Bool.{cases_lt, cases_eq, false≢true, true≢false}
use Rattle.std.proofs.lemmas.Bool.Decides.{nat_tests}
use Rattle.std.proofs.lemmas.List.{drop_all, append-nil, get_or_past, length-set, places, get_or-set_same, get_or-set_other}
use Rattle.std.proofs.lemmas.List.FromFn.{length-map-range_with_len, get_or-map-range_with_len}
use Rattle.xs_base.specs.declared.component.Row.{Row}
use Rattle.xs_base.specs.declared.component.Place.{Place}
use Rattle.std.specs.Int.{to_le_bytes, w32}
use Rattle.xs_base.specs.Bytes.{splice, zeros}
use Rattle.xs_base.specs.Component.{component_count, component_size, initial_part}
use Rattle.xs_base.specs.Layout.{IsLayout, has_row}
use Rattle.xs_base.specs.File.{File, part, with_part, pkru_bytes, with_pkru, initial_file, is_own, is_mxcsr, IsFile}
use Rattle.xs_base.specs.Register.{IsRegister}
use Rattle.xs_base.proofs.ByteLemmas.{length_splice, splice_below, splice_above}
use Rattle.xs_base.proofs.Registers.{place_component, place_within, place_own}
use Rattle.xs_base.proofs.ComponentLemmas.{zero_at, length_zeros, length_initial, initial_x87, initial_other, pkru_size}

-- all of a list written over
pub splice_whole : (new old : List ℕ) → length new ≡ length old → splice 0 new old ≡ new
unfolding splice
splice_whole new old same =
    ap (λ rest. new ++ rest) (drop_all (0 + length new) old (omega arith)) ∙ append-nil new

-- ---- the initial file

-- What belongs to no register is zero in an initial component.
pub initial_clean : (c k : ℕ) → is_own c k ≡ false → get_or (initial_part c) k 0 ≡ 0
initial_clean zero zero loose = absurd (true≢false loose)
initial_clean zero (suc zero) loose = absurd (true≢false loose)
initial_clean zero (suc (suc k)) loose = rw initial_x87 (zero_at 158 k)
initial_clean (suc c) k loose = rw (initial_other (suc c) (λ e. omega arith)) (zero_at (component_size (suc c)) k)

pub initial_at : (rows : List Row) (c : ℕ) → c < component_count → part (initial_file rows) c ≡ initial_part c
initial_at rows c lt = get_or-map-range_with_len initial_part 0 component_count c c [] lt (omega arith)

pub initial_is_file : (rows : List Row) → IsLayout rows → IsFile (initial_file rows)
initial_is_file rows layout = record {
  layout = layout;
  count = length-map-range_with_len initial_part 0 component_count;
  sizes = λ c lt. rw (initial_at rows c lt) (length_initial c);
  clean = λ c k loose. elim (cases_lt c component_count) [
    | inl lt ↦ rw (initial_at rows c lt) (initial_clean c k loose)
    | inr past ↦ rw (get_or_past (initial_file rows).parts c [] (omega (arith, length-map-range_with_len initial_part 0 component_count))) refl
  ];
  absent = λ c lt lacks apart. initial_at rows c lt;
  control = lit< tt;
}

-- ---- another MXCSR

pub with_control : (file : File) (value : ℕ) → value < 2 ^ 32 → IsFile file → IsFile (record file { mxcsr = value })
with_control file value small h = record { layout = h.layout; count = h.count; sizes = h.sizes; clean = h.clean; absent = h.absent; control = small }

-- ---- another part

pub part_here : (file : File) (c : ℕ) (bytes : List ℕ) → c < length file.parts → part (with_part file c bytes) c ≡ bytes
part_here file c bytes lt = get_or-set_same file.parts c bytes [] lt

pub part_other : (file : File) (c d : ℕ) (bytes : List ℕ) → (d ≡ c → ⊥) → part (with_part file c bytes) d ≡ part file d
part_other file c d bytes apart = get_or-set_other file.parts c d bytes [] apart

-- A file stays one with another part of its size, clean, which is initial where the machine lacks it and it isn't PKRU.
pub other_is_file : (file : File) (c : ℕ) (bytes : List ℕ) → c < component_count → length bytes ≡ component_size c → ((k : ℕ) → is_own c k ≡ false → get_or bytes k 0 ≡ 0) → (has_row file.rows c ≡ false → (c ≡ 9 → ⊥) → bytes ≡ initial_part c) → IsFile file → IsFile (with_part file c bytes)
other_is_file file c bytes lt len clean lack h =
    let count = h.count in
    let here : part (with_part file c bytes) c ≡ bytes = part_here file c bytes (omega arith) in
    record {
      layout = h.layout;
      count = length-set file.parts c bytes ∙ h.count;
      sizes = λ d less. elim (cases_eq d c) [
        | inl same ↦ rw (same, here) len
        | inr apart ↦ rw (part_other file c d bytes apart) (h.sizes d less)
      ];
      clean = λ d k loose. elim (cases_eq d c) [
        | inl same ↦ rw (same, here) (clean k (rw same at loose))
        | inr apart ↦ rw (part_other file c d bytes apart) (h.clean d k loose)
      ];
      absent = λ d less lacks away. elim (cases_eq d c) [
        | inl same ↦ rw (same, here) (lack (rw same at lacks) (λ nine. away (same ∙ nine)))
        | inr apart ↦ rw (part_other file c d bytes apart) (h.absent d less lacks away)
      ];
      control = h.control;
    }

-- A file stays one with another part of the same size, clean, of a component that the machine has.
pub part_is_file : (file : File) (c : ℕ) (bytes : List ℕ) → c < component_count → length bytes ≡ component_size c → ((k : ℕ) → is_own c k ≡ false → get_or bytes k 0 ≡ 0) → has_row file.rows c ≡ true → IsFile file → IsFile (with_part file c bytes)
part_is_file file c bytes lt len clean has h = other_is_file file c bytes lt len clean (λ gone other. absurd (false≢true (sym gone ∙ has))) h

-- the bytes of PKRU
pub pkru_clean : (value k : ℕ) → is_own 9 k ≡ false → get_or (pkru_bytes value) k 0 ≡ 0
pkru_clean value k loose =
    let high : 4 ≤ k = grind (arith, nat_tests, loose) in
    let rest : get_or (to_le_bytes w32 value ++ zeros 4) k 0 ≡ get_or (zeros 4) (k - 4) 0 = search (rules, places) in
    rest ∙ zero_at 4 (k - 4)

pub pkru_length : (value : ℕ) → length (pkru_bytes value) ≡ component_size 9
pkru_length value = rw pkru_size (simp length-append (omega (arith, length_zeros 4)))

pub pkru_is_file : (file : File) (value : ℕ) → IsFile file → IsFile (with_pkru file value)
pkru_is_file file value h =
    other_is_file file 9 (pkru_bytes value) (omega arith) (pkru_length value) (pkru_clean value) (λ gone other. absurd (other refl)) h

-- A file stays one with other bytes of a register.
pub splice_clean : (c at : ℕ) (new old : List ℕ) → at + length new ≤ length old → ((k : ℕ) → at ≤ k → k < at + length new → is_own c k ≡ true) → ((k : ℕ) → is_own c k ≡ false → get_or old k 0 ≡ 0) → (k : ℕ) → is_own c k ≡ false → get_or (splice at new old) k 0 ≡ 0
splice_clean c at new old fits own clean k loose =
    elim (cases_lt k at) [
      | inl below ↦ splice_below at new old k fits below ∙ clean k loose
      | inr from ↦ elim (cases_lt k (at + length new)) [
        | inl inside ↦ absurd (false≢true (sym loose ∙ own k from inside))
        | inr above ↦ splice_above at new old k fits above ∙ clean k loose
      ]
    ]

pub write_is_file : (file : File) (name : List ℕ) (place : Place) (bytes : List ℕ) → IsFile file → IsRegister file.rows name place → length bytes ≡ place.len → is_mxcsr place ≡ false → IsFile (with_part file place.comp.0 (splice place.offset bytes (part file place.comp.0)))
write_is_file file name place bytes h register len apart =
    let named = register.0 in
    let c = place.comp.0 in
    let lt : c < component_count = place_component name place named in
    let size : length (part file c) ≡ component_size c = h.sizes c lt in
    let within : place.offset + place.len ≤ component_size c = place_within name place named apart in
    let fits : place.offset + length bytes ≤ length (part file c) = omega arith in
    part_is_file file c (splice place.offset bytes (part file c)) lt (length_splice place.offset bytes (part file c) fits ∙ size)
    (splice_clean c place.offset bytes (part file c) fits (λ k from to. place_own name place k named from (omega arith)) (h.clean c))
    register.1 h
