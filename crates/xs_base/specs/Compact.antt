-- Places in the compacted format (SDM volume 1, 13.4.3): each component of the mask from 2 on follows the one before,
-- and begins at a multiple of 64 where its row asks for it. The legacy region and the header are those of the
-- standard format.
use Rattle.std.specs.Prelude.{ℕ, ◌+◌, ◌*◌, ◌/◌, ◌^◌, Bool, not, ◌&&◌, ◌||◌, ◌==◌, nat_le, List, [], ◌∷◌, if◌then◌else◌, bit_or}
use Rattle.xs_base.specs.declared.component.Row.{Row}
use Rattle.xs_base.specs.Sets.{has}
use Rattle.xs_base.specs.Layout.{has_row, is_aligned}

-- where the row's component begins, where the components before it end at n
abbrev pub aligned : Row → ℕ → ℕ
aligned r n = if is_aligned r then (n + 63) / 64 * 64 else n

-- the row has a place after the header
abbrev pub is_extended : ℕ → Row → Bool
is_extended mask r = nat_le 2 r.comp.0 && has mask r.comp.0

-- where the components end with one row more
abbrev pub compact_after : ℕ → ℕ → Row → ℕ
compact_after mask n r = if is_extended mask r then aligned r n + r.size else n

-- where the components of the mask end, and where component c begins, where those before end at n
unfoldable pub compact_end : ℕ → ℕ → List Row → ℕ
compact_end mask n [] = n
compact_end mask n (r ∷ rows) = compact_end mask (compact_after mask n r) rows

unfoldable pub compact_from : ℕ → ℕ → ℕ → List Row → ℕ
compact_from mask c n [] = n
compact_from mask c n (r ∷ rows) = if r.comp.0 == c then aligned r n else compact_from mask c (compact_after mask n r) rows

-- the bytes of the compacted format with the components of the mask, and the place of one of them from 2 on
abbrev pub compact_size : List Row → ℕ → ℕ
compact_size rows mask = compact_end mask 576 rows

abbrev pub compact_offset : List Row → ℕ → ℕ → ℕ
compact_offset rows mask c = compact_from mask c 576 rows

-- ---- both formats, by XCOMP_BV: bit 63 is that of the compacted format (SDM volume 1, 13.4.2)

abbrev pub compacted_bit : ℕ
compacted_bit = 63

abbrev pub is_compacted : ℕ → Bool
is_compacted xcomp = has xcomp compacted_bit

-- XCOMP_BV of a compacted area with a place for each of these components
abbrev pub compacted : ℕ → ℕ
compacted mask = bit_or (2 ^ compacted_bit) mask

-- where the row's component stands
abbrev pub place : List Row → ℕ → Row → ℕ
place rows xcomp r = if is_compacted xcomp && nat_le 2 r.comp.0 then compact_offset rows xcomp r.comp.0 else r.offset

-- XCOMP_BV leaves a place for component c: the compacted format has one for each component that it names, the standard
-- format one for each.
abbrev pub leaves_place : ℕ → ℕ → Bool
leaves_place xcomp c = not (is_compacted xcomp) || has xcomp c

-- Component c has a place: the machine has it, and XCOMP_BV leaves a place for it.
abbrev pub has_place : List Row → ℕ → ℕ → Bool
has_place rows xcomp c = has_row rows c && leaves_place xcomp c
