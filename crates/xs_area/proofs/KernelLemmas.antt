-- Compacted areas of a class, and what an area without state stands for.
use Rattle.std.proofs.Common.{◌≡◌, ℕ, ◌+◌, ◌-◌, ◌<◌, ◌≤◌, ◌^◌, ◌==◌, true, false, not, List, length, get_or, if◌then◌else◌, refl, sym, ap, ◌∙◌, inl, arith}
use Rattle.std.proofs.lemmas.Bool.{false≢true}
use Rattle.std.proofs.lemmas.List.{drop-replicate, take-replicate}
use Rattle.std.specs.Int.{from_le_bytes, to_le_bytes, w64}
use Rattle.std.specs.List.{list_any}
use Rattle.std.specs.Prelude.{slice_range}
use Rattle.xs_base.specs.declared.class.Class.{Class}
use Rattle.xs_base.specs.declared.component.Row.{Row}
use Rattle.xs_base.specs.Area.{StandsFor, control_in}
use Rattle.xs_base.specs.Bytes.{splice, zeros, is_within}
use Rattle.xs_base.specs.Compact.{compacted}
use Rattle.xs_base.specs.Component.{initial_mxcsr}
use Rattle.xs_base.specs.File.{initial_file}
use Rattle.xs_base.specs.Header.{xstate_bv, xcomp_bv}
use Rattle.xs_base.specs.HeaderCheck.{has_reserved}
use Rattle.xs_base.specs.KernelArea.{class_features, IsLoadable}
use Rattle.xs_base.specs.Layout.{IsLayout}
use Rattle.xs_base.specs.Sets.{has}
use Rattle.xs_base.proofs.ByteLemmas.{length_splice, splice_above, splice_below, splice_byte, range_same}
use Rattle.xs_base.proofs.ComponentLemmas.{length_zeros, zero_at}
use Rattle.xs_base.proofs.FileLemmas.{initial_at, initial_is_file}
use Rattle.xs_base.proofs.LayoutLemmas.{sound_at}
use Rattle.xs_base.proofs.SetLemmas.{has_none}
use Rattle.xs_base.proofs.CompactedLemmas.{compacted_is}
use Rattle.xs_base.proofs.HeaderLemmas.{xcomp_bv_splice}
use Rattle.xs_base.proofs.RowLemmas.{row_index}

-- ---- an area of zeros

range_zeros : (n from many : ℕ) → from + many ≤ n → slice_range (zeros n) from (from + many) ≡ zeros many
unfolding zeros
range_zeros n from many within =
    let left : from + many - from ≡ many = omega arith in
    rw (left, drop-replicate {X = ℕ} from n 0) (take-replicate {X = ℕ} many (n - from) 0 (omega arith))

no_byte : list_any (λ byte. not (byte == 0)) (zeros 48) ≡ false
unfolding zeros
no_byte = refl

no_bits : from_le_bytes w64 (zeros 8) ≡ 0
unfolding zeros
no_bits = refl

-- An area of zeros but for its XCOMP_BV.
module _ (rows : List Row) (class : Class) (len : ℕ) (area : List ℕ) (table : IsLayout rows) (names : ℕ) (names_is : names ≡ compacted (class_features rows class)) (small : names < 2 ^ 64) (long : 576 ≤ len) (is : area ≡ splice 520 (to_le_bytes w64 names) (zeros len)) where
  fits : 520 + length (to_le_bytes w64 names) ≤ length (zeros len)
  fits = omega (arith, length_zeros len)

  pub length_is : length area ≡ len
  length_is = ap length is ∙ length_splice 520 (to_le_bytes w64 names) (zeros len) fits ∙ length_zeros len

  pub names_are : xcomp_bv area ≡ compacted (class_features rows class)
  names_are = ap xcomp_bv is ∙ xcomp_bv_splice (zeros len) names (omega (arith, length_zeros len)) small ∙ names_is

  -- every byte but those of XCOMP_BV is zero
  pub zero_is : (k : ℕ) → is_within 520 8 k ≡ false → get_or area k 0 ≡ 0
  zero_is k off = ap (λ l. get_or l k 0) is ∙ splice_byte 520 (to_le_bytes w64 names) (zeros len) k fits ∙ ap (λ b. if b then get_or (to_le_bytes w64 names) (k - 520) 0 else get_or (zeros len) k 0) off ∙ zero_at len k

  bits_range : slice_range area 512 520 ≡ slice_range (zeros len) 512 520
  bits_range = range_same 512 520 area (zeros len) (omega (arith, length_is)) (omega (arith, length_zeros len)) (λ k low high. ap (λ l. get_or l k 0) is ∙ splice_below 520 (to_le_bytes w64 names) (zeros len) k fits high)

  bits_none : xstate_bv area ≡ 0
  unfolding xstate_bv
  bits_none = ap (from_le_bytes w64) (bits_range ∙ range_zeros len 512 8 (omega arith)) ∙ no_bits

  reserved_range : slice_range area 528 576 ≡ slice_range (zeros len) 528 576
  reserved_range = range_same 528 576 area (zeros len) (omega (arith, length_is)) (omega (arith, length_zeros len)) (λ k low high. ap (λ l. get_or l k 0) is ∙ splice_above 520 (to_le_bytes w64 names) (zeros len) k fits (omega arith))

  reserved_none : has_reserved area ≡ false
  reserved_none = ap (list_any (λ byte. not (byte == 0))) (reserved_range ∙ range_zeros len 528 48 (omega arith)) ∙ no_byte

  no_bit : (c : ℕ) → has (xstate_bv area) c ≡ true → ⊥
  no_bit c on = false≢true (sym (has_none c) ∙ ap (λ n. has n c) (sym bits_none) ∙ on)

  control_initial : initial_mxcsr ≡ control_in area
  control_initial = rw (names_are, bits_none, compacted_is (class_features rows class)) refl

  -- stands for the initial file
  pub stands_initial : StandsFor rows area (initial_file rows)
  stands_initial = record {
    rows_are = refl;
    placed = λ c on. absurd (no_bit c on);
    present = λ i r row other on. absurd (no_bit r.comp.0 on);
    absent = λ i r row other off. let at = row_index rows i r row in initial_at rows r.comp.0 (sound_at rows table i r at.0 at.1).number;
    control = control_initial;
  }

  -- and can be loaded
  pub loadable_initial : (id : ℕ) → (id ≡ 0 → ⊥) → IsLoadable rows class id area
  loadable_initial id numbered = record {
    file = initial_file rows;
    is_file = initial_is_file rows table;
    stands = stands_initial;
    control = omega arith;
    names = inl names_are;
    bits = λ c on. absurd (no_bit c on);
    reserved = reserved_none;
    numbered = numbered;
  }
