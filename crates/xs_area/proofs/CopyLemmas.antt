-- Components copied along the rows.
use Rattle.std.proofs.Common.{◌≡◌, ℕ, ◌+◌, ◌-◌, ◌<◌, ◌≤◌, ◌&&◌, true, false, true≢false, not, List, length, get_or, if◌then◌else◌, refl, sym, ap, subst, ◌∙◌, arith, inl, inr}
use Rattle.std.proofs.lemmas.Bool.{cases_lt}
use Rattle.std.proofs.lemmas.List.{get_or_default}
use Rattle.std.proofs.lemmas.List.Edits.{length-between, get_or-between}
use Rattle.std.specs.Prelude.{slice_range}
use Rattle.xs_base.proofs.StandardLemmas.{written_as}
use Rattle.xs_base.specs.declared.component.Row.{Row}
use Rattle.xs_base.specs.Area.{has_room}
use Rattle.xs_base.specs.Bytes.{is_within}
use Rattle.xs_base.specs.Compact.{place}
use Rattle.xs_base.specs.File.{is_own}
use Rattle.xs_base.specs.Header.{xcomp_bv}
use Rattle.xs_base.specs.Layout.{IsLayout, IsSound}
use Rattle.xs_base.specs.Sets.{has}
use Rattle.xs_base.specs.Standard.{IsWritten}
use Rattle.xs_base.proofs.ByteLemmas.{within_in, within_below, within_above}
use Rattle.xs_base.proofs.LayoutLemmas.{AreApart, sound_at}
use Rattle.xs_base.proofs.PlaceLemmas.{places_apart, place_outside, own_outside}
use Rattle.xs_area.specs.Copy.{AreCopied}
use Rattle.xs_area.proofs.RoomLemmas.{room_tells}

-- a component as it was sliced and put
pub row_put : (from : List ℕ) (at into : ℕ) (r : Row) (old new : List ℕ) → at + r.size ≤ length from → IsWritten into (length (slice_range from at (at + r.size))) (λ k. if is_own r.comp.0 k then get_or (slice_range from at (at + r.size)) k 0 else 0) old new → IsWritten into r.size (λ k. if is_own r.comp.0 k then get_or from (at + k) 0 else 0) old new
row_put from at into r old new fits written =
    let ranged = length-between from at (at + r.size) fits in
    let many : length (slice_range from at (at + r.size)) ≡ r.size = omega (arith, ranged) in
    let Q : ℕ → Type 0 = λ n. IsWritten into n (λ k. if is_own r.comp.0 k then get_or from (at + k) 0 else 0) old new in
    subst Q many (written_as into (length (slice_range from at (at + r.size))) _ (λ k. if is_own r.comp.0 k then get_or from (at + k) 0 else 0) old new
    (λ k small. ap (λ n. if is_own r.comp.0 k then n else 0) (get_or-between from at (at + r.size) k 0 (omega arith))) written)

-- ---- along the rows

-- before the first row
pub copied_first : (rows : List Row) (from : List ℕ) (names copied : ℕ) (old : List ℕ) → AreCopied rows from names copied 0 old old
copied_first rows from names copied old = record { len = refl; each = λ j r none lt is bit k small own. absurd (omega arith); others = λ k inside. refl }

module _ (rows : List Row) (table : IsLayout rows) (from : List ℕ) (names copied i : ℕ) (old out : List ℕ) (r : Row) (lt : i < length rows) (is : r ≡ get_or rows i r) (at : AreCopied rows from names copied i old out) where
  same_row : (j : ℕ) (s : Row) → s ≡ get_or rows j s → j ≡ i → s ≡ r
  same_row j s it one = it ∙ ap (λ n. get_or rows n s) one ∙ get_or_default rows i s r lt ∙ sym is

  -- a component was copied
  pub copied_written : (new : List ℕ) (p q : ℕ) → ((c : ℕ) → has copied c ≡ true → has_room rows old c ≡ true) → has copied r.comp.0 ≡ true → p ≡ place rows names r → q ≡ place rows (xcomp_bv old) r → IsWritten q r.size (λ k. if is_own r.comp.0 k then get_or from (p + k) 0 else 0) out new → AreCopied rows from names copied (i + 1) old new
  copied_written new p q room bit p_place q_place written = record { len = written.len ∙ at.len; each = each; others = others }
    where
      sound : IsSound r
      sound = sound_at rows table i r lt is

      -- a byte outside of the place
      kept : (n : ℕ) → is_within (place rows (xcomp_bv old) r) r.size n ≡ false → get_or new n 0 ≡ get_or out n 0
      kept n off = written.each n ∙ ap (λ b. if b && not (is_within 24 8 n) then (if is_own r.comp.0 (n - q) then get_or from (p + (n - q)) 0 else 0) else get_or out n 0) (ap (λ a. is_within a r.size n) q_place ∙ off)

      others : (k : ℕ) → is_within 416 160 k ≡ true → get_or new k 0 ≡ get_or old k 0
      others k inside = kept k (place_outside rows (xcomp_bv old) r k sound inside) ∙ at.others k inside

      -- a byte of the place
      here : (k : ℕ) → k < r.size → is_own r.comp.0 k ≡ true → get_or new (place rows (xcomp_bv old) r + k) 0 ≡ get_or from (place rows names r + k) 0
      here k small own =
          let n = place rows (xcomp_bv old) r + k in
          let in_place : is_within q r.size n ≡ true = within_in q r.size n (omega (arith, q_place)) (omega (arith, q_place)) in
          let back : n - q ≡ k = omega (arith, q_place) in
          let value : ℕ → ℕ = λ m. if is_own r.comp.0 m then get_or from (p + m) 0 else 0 in
          written.each n
          ∙ ap (λ b. if b && not (is_within 24 8 n) then value (n - q) else get_or out n 0) in_place
          ∙ ap (λ b. if not b then value (n - q) else get_or out n 0) (own_outside rows (xcomp_bv old) r k sound own)
          ∙ ap value back
          ∙ ap (λ b. if b then get_or from (p + k) 0 else 0) own
          ∙ ap (λ m. get_or from (m + k) 0) p_place

      -- a byte of an earlier row's place
      before : (j : ℕ) (s : Row) → j < i → j < length rows → s ≡ get_or rows j s → has copied s.comp.0 ≡ true → (k : ℕ) → k < s.size → is_own s.comp.0 k ≡ true → get_or new (place rows (xcomp_bv old) s + k) 0 ≡ get_or from (place rows names s + k) 0
      before j s early within it bit_s k small own =
          let apart : AreApart (place rows (xcomp_bv old) r) r.size (place rows (xcomp_bv old) s) s.size = places_apart rows table (xcomp_bv old) i j r s lt within is it (λ e. omega arith) (room_tells rows table old r.comp.0 (room r.comp.0 bit)).placed (room_tells rows table old s.comp.0 (room s.comp.0 bit_s)).placed in
          let off : is_within (place rows (xcomp_bv old) r) r.size (place rows (xcomp_bv old) s + k) ≡ false = elim apart [
            | inl first ↦ within_above (place rows (xcomp_bv old) r) r.size (place rows (xcomp_bv old) s + k) (omega arith)
            | inr later ↦ within_below (place rows (xcomp_bv old) r) r.size (place rows (xcomp_bv old) s + k) (omega arith)
          ] in
          kept (place rows (xcomp_bv old) s + k) off ∙ at.each j s early within it bit_s k small own

      each : (j : ℕ) (s : Row) → j < i + 1 → j < length rows → s ≡ get_or rows j s → has copied s.comp.0 ≡ true → (k : ℕ) → k < s.size → is_own s.comp.0 k ≡ true → get_or new (place rows (xcomp_bv old) s + k) 0 ≡ get_or from (place rows names s + k) 0
      each j s early within it bit_s k small own = elim (cases_lt j i) [
        | inl less ↦ before j s less within it bit_s k small own
        | inr more ↦
            let same = same_row j s it (omega arith) in
            let P : Row → Type 0 = λ t. k < t.size → is_own t.comp.0 k ≡ true → get_or new (place rows (xcomp_bv old) t + k) 0 ≡ get_or from (place rows names t + k) 0 in
            subst P (sym same) (here k) small own
      ]

  -- a component that isn't copied
  pub copied_left : has copied r.comp.0 ≡ false → AreCopied rows from names copied (i + 1) old out
  copied_left left = record {
    len = at.len;
    each = λ j s early within it bit k small own. elim (cases_lt j i) [
      | inl less ↦ at.each j s less within it bit k small own
      | inr more ↦
          let same = same_row j s it (omega arith) in
          absurd (true≢false (sym bit ∙ ap (λ (t : Row). has copied t.comp.0) same ∙ left))
    ];
    others = at.others;
  }

-- every row
pub copied_all : (rows : List Row) (from : List ℕ) (names copied i : ℕ) (old out : List ℕ) → length rows ≡ i → AreCopied rows from names copied i old out → AreCopied rows from names copied (length rows) old out
copied_all rows from names copied i old out last at = let P : ℕ → Type 0 = λ n. AreCopied rows from names copied n old out in subst P (sym last) at
