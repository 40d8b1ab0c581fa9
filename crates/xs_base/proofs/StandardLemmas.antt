-- Bytes of an area by the rows of its machine: one row more, what a row's component leaves, and MXCSR with its mask.
use Rattle.std.proofs.Common.{◌≡◌, ℕ, ◌+◌, ◌-◌, ◌<◌, ◌≤◌, Bool, true, false, not, ◌&&◌, List, [], ◌∷◌, length, get_or, drop, if◌then◌else◌, zero, suc, refl, sym, ap, ◌∙◌, add-one, true≢false, arith}
use Rattle.std.proofs.lemmas.List.{at_drop_more, at_drop_all}
use Rattle.xs_base.specs.declared.component.Row.{Row}
use Rattle.xs_base.specs.Sets.{has}
use Rattle.xs_base.specs.Bytes.{splice, is_within}
use Rattle.xs_base.specs.File.{File}
use Rattle.xs_base.proofs.ByteLemmas.{within_tells, length_splice, splice_byte}
use Rattle.xs_base.specs.Standard.{has_byte, component_byte, saved_byte, control_bytes, has_control, IsStandard, IsWritten}

-- one row further, for any function of the rows that are left
pub one_row_more : {Y : Type 0} (F : List Row → Y) (rows : List Row) (i : ℕ) (r : Row) → i < length rows → r ≡ get_or rows i r → F (drop i rows) ≡ F (r ∷ drop (i + 1) rows)
one_row_more F rows i r lt is = at_drop_more F rows i r lt ∙ ap (λ x. F (x ∷ drop (i + 1) rows)) (sym is)

module _ (byte : ℕ → ℕ → ℕ) (place : Row → ℕ) (mask : ℕ) where
  -- A row of the mask was written.
  pub component_written : (rows : List Row) (i : ℕ) (r : Row) (old new : List ℕ) (k : ℕ) → i < length rows → r ≡ get_or rows i r → has mask r.comp.0 ≡ true → IsWritten (place r) r.size (byte r.comp.0) old new → component_byte byte place mask k (drop (i + 1) rows) (get_or new k 0) ≡ component_byte byte place mask k (drop i rows) (get_or old k 0)
  unfolding component_byte
  component_written rows i r old new k lt is wanted written =
      let more = one_row_more (λ xs. component_byte byte place mask k xs (get_or old k 0)) rows i r lt is in
      let both : (has mask r.comp.0 && has_byte (place r) r k) ≡ has_byte (place r) r k = rw wanted refl in
      let same : (if has mask r.comp.0 && has_byte (place r) r k then byte r.comp.0 (k - place r) else get_or old k 0) ≡ get_or new k 0 = ap (λ b. if b then byte r.comp.0 (k - place r) else get_or old k 0) both ∙ sym (written.each k) in
      sym (more ∙ ap (λ d. component_byte byte place mask k (drop (i + 1) rows) d) same)

  -- A row that isn't of the mask needs nothing.
  pub component_skip : (rows : List Row) (i : ℕ) (r : Row) (k d : ℕ) → i < length rows → r ≡ get_or rows i r → has mask r.comp.0 ≡ false → component_byte byte place mask k (drop (i + 1) rows) d ≡ component_byte byte place mask k (drop i rows) d
  unfolding component_byte
  component_skip rows i r k d lt is left =
      let more = one_row_more (λ xs. component_byte byte place mask k xs d) rows i r lt is in
      let same : (if has mask r.comp.0 && has_byte (place r) r k then byte r.comp.0 (k - place r) else d) ≡ d = rw left refl in
      sym (more ∙ ap (λ e. component_byte byte place mask k (drop (i + 1) rows) e) same)

  -- no row is left
  pub component_all : (rows : List Row) (i k d : ℕ) → length rows ≤ i → component_byte byte place mask k (drop i rows) d ≡ d
  unfolding component_byte
  component_all rows i k d past = at_drop_all (λ xs. component_byte byte place mask k xs d) rows i past

  -- No component of the mask among these rows has the byte.
  pub component_none : (rows : List Row) (k d : ℕ) → ((i : ℕ) (r : Row) → i < length rows → r ≡ get_or rows i r → has mask r.comp.0 ≡ true → has_byte (place r) r k ≡ false) → component_byte byte place mask k rows d ≡ d
  unfolding component_byte
  component_none [] k d none = refl
  component_none (r ∷ rows) k d none =
      let first : has mask r.comp.0 ≡ true → has_byte (place r) r k ≡ false = none 0 r (omega arith) refl in
      let rest = component_none rows k d (λ i s lt is. none (i + 1) s (omega arith) (rw add-one is)) in
      rest_of (has mask r.comp.0) (has_byte (place r) r k) first ∙ rest
    where
      rest_of : (a b : Bool) → (a ≡ true → b ≡ false) → component_byte byte place mask k rows (if a && b then byte r.comp.0 (k - place r) else d) ≡ component_byte byte place mask k rows d
      rest_of true true h = absurd (true≢false (h refl))
      rest_of true false h = refl
      rest_of false b h = refl

  -- bytes 24 to 31 are no component's
  pub component_control : (rows : List Row) (k d : ℕ) → is_within 24 8 k ≡ true → component_byte byte place mask k rows d ≡ d
  component_control rows k d inside = component_none rows k d (λ i r lt is wanted. rw inside (none_of (is_within (place r) r.size k)))
    where
      none_of : (a : Bool) → (a && not true) ≡ false
      none_of true = refl
      none_of false = refl

  -- One component of the mask has the byte, and no other one.
  pub component_one : (rows : List Row) (i : ℕ) (r : Row) (k d : ℕ) → i < length rows → r ≡ get_or rows i r → has mask r.comp.0 ≡ true → has_byte (place r) r k ≡ true → ((j : ℕ) (s : Row) → j < length rows → s ≡ get_or rows j s → has mask s.comp.0 ≡ true → (j ≡ i → ⊥) → has_byte (place s) s k ≡ false) → component_byte byte place mask k rows d ≡ byte r.comp.0 (k - place r)
  unfolding component_byte
  component_one [] i r k d lt is wanted here others = absurd (omega arith)
  component_one (s ∷ rows) zero r k d lt is wanted here others =
      let first : (if has mask s.comp.0 && has_byte (place s) s k then byte s.comp.0 (k - place s) else d) ≡ byte r.comp.0 (k - place r) = rw (← is) (rw (wanted, here) refl) in
      component_none rows k _ (λ j t later at m. others (j + 1) t (omega arith) (rw add-one at) m (λ e. omega arith)) ∙ first
  component_one (s ∷ rows) (suc i) r k d lt is wanted here others =
      component_one rows i r k _ (omega arith) is wanted here (λ j t later at m apart. others (j + 1) t (omega arith) (rw add-one at) m (λ e. apart (omega arith)))

-- Only the bytes of the place count.
pub written_as : (at n : ℕ) (byte other : ℕ → ℕ) (old new : List ℕ) → ((k : ℕ) → k < n → byte k ≡ other k) → IsWritten at n byte old new → IsWritten at n other old new
written_as at n byte other old new same written = record { len = written.len; each = λ i. written.each i ∙ each i }
  where
    choose : (a b : Bool) (x y z : ℕ) → (a ≡ true → x ≡ y) → (if a && b then x else z) ≡ (if a && b then y else z)
    choose true true x y z e = e refl
    choose true false x y z e = refl
    choose false b x y z e = refl

    each : (i : ℕ) → (if is_within at n i && not (is_within 24 8 i) then byte (i - at) else get_or old i 0) ≡ (if is_within at n i && not (is_within 24 8 i) then other (i - at) else get_or old i 0)
    each i = choose (is_within at n i) (not (is_within 24 8 i)) (byte (i - at)) (other (i - at)) (get_or old i 0) (λ inside. let tells = within_tells at n i inside in same (i - at) (omega arith))

-- ---- MXCSR with its mask

-- they are eight bytes
pub control_eight : (mxcsr : ℕ) → length (control_bytes mxcsr) ≡ 8
unfolding control_bytes
control_eight mxcsr = refl

-- The components are written, and then MXCSR with its mask.
pub control_written : (file : File) (mask : ℕ) (base mid out : List ℕ) → has_control mask ≡ true → 32 ≤ length mid → length mid ≡ length base → ((k : ℕ) → get_or mid k 0 ≡ component_byte (saved_byte file) (λ r. r.offset) mask k file.rows (get_or base k 0)) → out ≡ splice 24 (control_bytes file.mxcsr) mid → IsStandard file mask base out
control_written file mask base mid out control room len each written =
    let eight = control_eight file.mxcsr in
    let fits : 24 + length (control_bytes file.mxcsr) ≤ length mid = omega arith in
    record {
      len = ap length written ∙ length_splice 24 (control_bytes file.mxcsr) mid fits ∙ len;
      each = λ i lt. rw (written, splice_byte 24 (control_bytes file.mxcsr) mid i fits, eight, each i, control) (here (is_within 24 8 i) (get_or (control_bytes file.mxcsr) (i - 24) 0) (component_byte (saved_byte file) (λ r. r.offset) mask i file.rows (get_or base i 0)));
    }
  where
    here : (b : Bool) (x y : ℕ) → (if b then x else y) ≡ (if b && true then x else y)
    here true x y = refl
    here false x y = refl
