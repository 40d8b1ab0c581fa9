-- The numbers of an area's header and its MXCSR, where their bytes were written, and where they are the same.
use Rattle.std.proofs.Common.{◌≡◌, ℕ, ◌+◌, ◌<◌, ◌≤◌, ◌^◌, List, length, get_or, sym, ap, ◌∙◌, arith, take, drop, refl}
use Rattle.std.proofs.lemmas.List.{take-take}
use Rattle.std.proofs.lemmas.Nat.{from_le_bytes-to_le_bytes_4, from_le_bytes-to_le_bytes_8}
use Rattle.std.specs.Int.{from_le_bytes, to_le_bytes, w32, w64}
use Rattle.std.specs.Prelude.{slice_range}
use Rattle.xs_base.specs.Bytes.{splice}
use Rattle.xs_base.specs.Header.{xstate_bv, xcomp_bv, mxcsr}
use Rattle.xs_base.specs.Standard.{control_bytes}
use Rattle.xs_base.proofs.ByteLemmas.{range_splice, range_same}
use Rattle.xs_base.proofs.StandardLemmas.{control_eight}

-- XCOMP_BV where its bytes were written
pub xcomp_bv_splice : (area : List ℕ) (names : ℕ) → 528 ≤ length area → names < 2 ^ 64 → xcomp_bv (splice 520 (to_le_bytes w64 names) area) ≡ names
unfolding xcomp_bv
xcomp_bv_splice area names long small =
    ap (from_le_bytes w64) (range_splice 520 528 (to_le_bytes w64 names) area long refl) ∙ from_le_bytes-to_le_bytes_8 names small

-- XSTATE_BV where its bytes were written
pub xstate_bv_splice : (area : List ℕ) (bits : ℕ) → 520 ≤ length area → bits < 2 ^ 64 → xstate_bv (splice 512 (to_le_bytes w64 bits) area) ≡ bits
unfolding xstate_bv
xstate_bv_splice area bits long small =
    ap (from_le_bytes w64) (range_splice 512 520 (to_le_bytes w64 bits) area long refl) ∙ from_le_bytes-to_le_bytes_8 bits small

control_range : (area : List ℕ) (value : ℕ) → 32 ≤ length area → slice_range (splice 24 (control_bytes value) area) 24 28 ≡ to_le_bytes w32 value
unfolding control_bytes
control_range area value long =
    let whole = range_splice 24 32 (control_bytes value) area (omega (arith, control_eight value)) (sym (ap (λ n. 24 + n) (control_eight value))) in
    sym (take-take 4 8 (drop 24 (splice 24 (control_bytes value) area)) (omega arith)) ∙ ap (λ l. take 4 l) whole

-- MXCSR where its bytes were written
pub mxcsr_splice : (area : List ℕ) (value : ℕ) → 32 ≤ length area → value < 2 ^ 32 → mxcsr (splice 24 (control_bytes value) area) ≡ value
unfolding mxcsr
mxcsr_splice area value long small = ap (from_le_bytes w32) (control_range area value long) ∙ from_le_bytes-to_le_bytes_4 value small

-- the same bytes are the same numbers
pub mxcsr_same : (a b : List ℕ) → 28 ≤ length a → 28 ≤ length b → ((k : ℕ) → 24 ≤ k → k < 28 → get_or a k 0 ≡ get_or b k 0) → mxcsr a ≡ mxcsr b
unfolding mxcsr
mxcsr_same a b la lb same = ap (from_le_bytes w32) (range_same 24 28 a b la lb same)

pub xcomp_bv_same : (a b : List ℕ) → 528 ≤ length a → 528 ≤ length b → ((k : ℕ) → 520 ≤ k → k < 528 → get_or a k 0 ≡ get_or b k 0) → xcomp_bv a ≡ xcomp_bv b
unfolding xcomp_bv
xcomp_bv_same a b la lb same = ap (from_le_bytes w64) (range_same 520 528 a b la lb same)
