-- Where the components of the rows before a row end, and where its own begins.
use Rattle.std.proofs.Common.{◌≡◌, ◌≢◌, ℕ, zero, suc, ◌+◌, ◌<◌, ◌≤◌, List, [], ◌∷◌, length, get_or, take, refl, sym, ap, ◌∙◌, arith, add-one}
use Rattle.xs_base.specs.declared.component.Row.{Row}
use Rattle.xs_base.specs.Compact.{aligned, compact_after, compact_end, compact_from, compact_offset}
use Rattle.xs_base.specs.Layout.{IsLayout}
use Rattle.xs_base.proofs.CompactLemmas.{compact_from_here, compact_from_more, compact_end_low, compact_size_most}
use Rattle.xs_base.proofs.LayoutLemmas.{same_index}

-- before the first row
pub end_first : (mask n : ℕ) (rows : List Row) → compact_end mask n (take 0 rows) ≡ n
unfolding compact_end
end_first mask n rows = refl

-- one row on
end_after : (mask n : ℕ) (rows : List Row) (i : ℕ) (r : Row) → i < length rows → r ≡ get_or rows i r → compact_end mask n (take (suc i) rows) ≡ compact_after mask (compact_end mask n (take i rows)) r
unfolding compact_end
end_after mask n [] i r lt is = absurd (omega arith)
end_after mask n (r0 ∷ rows) zero r lt is = ap (compact_after mask n) (sym is)
end_after mask n (r0 ∷ rows) (suc i) r lt is = end_after mask (compact_after mask n r0) rows i r (omega arith) is

pub end_next : (mask : ℕ) (rows : List Row) (i : ℕ) (r : Row) → i < length rows → r ≡ get_or rows i r → compact_end mask 576 (take (i + 1) rows) ≡ compact_after mask (compact_end mask 576 (take i rows)) r
end_next mask rows i r lt is = rw add-one (end_after mask 576 rows i r lt is)

-- some rows end by the end of them all
end_within : (mask n : ℕ) (rows : List Row) (i : ℕ) → compact_end mask n (take i rows) ≤ compact_end mask n rows
unfolding compact_end
end_within mask n rows zero = compact_end_low mask n rows
end_within mask n [] (suc i) = omega arith
end_within mask n (r0 ∷ rows) (suc i) = end_within mask (compact_after mask n r0) rows i

pub end_small : (rows : List Row) → IsLayout rows → (mask i : ℕ) → compact_end mask 576 (take i rows) ≤ 16384
end_small rows table mask i =
    let within = end_within mask 576 rows i in
    let most = compact_size_most rows table mask in
    omega arith

-- a component that no earlier row has begins where those before it end
from_after : (mask n : ℕ) (rows : List Row) (i : ℕ) (r : Row) → i < length rows → r ≡ get_or rows i r → ((j : ℕ) (s : Row) → j < i → s ≡ get_or rows j s → s.comp.0 ≢ r.comp.0) → compact_from mask r.comp.0 n rows ≡ aligned r (compact_end mask n (take i rows))
unfolding compact_end
from_after mask n [] i r lt is other = absurd (omega arith)
from_after mask n (r0 ∷ rows) zero r lt is other = compact_from_here mask r.comp.0 n (r0 ∷ rows) 0 r lt is refl
from_after mask n (r0 ∷ rows) (suc i) r lt is other =
    compact_from_more mask r.comp.0 n (r0 ∷ rows) 0 r0 (omega arith) refl (other 0 r0 (omega arith) refl)
    ∙ from_after mask (compact_after mask n r0) rows i r (omega arith) is (λ j s less it. other (suc j) s (omega arith) it)

pub offset_after : (rows : List Row) → IsLayout rows → (mask i : ℕ) (r : Row) → i < length rows → r ≡ get_or rows i r → aligned r (compact_end mask 576 (take i rows)) ≡ compact_offset rows mask r.comp.0
offset_after rows table mask i r lt is =
    sym (from_after mask 576 rows i r lt is (λ j s less it same. let one = same_index rows table i j r s lt (omega arith) is it (sym same) in omega arith))
