-- What a bank tracks: components that weren't changed since a load, and that they stand in the area.
use Rattle.std.proofs.Common.{◌≡◌, ◌⊎◌, inl, inr, ℕ, ◌+◌, ◌%◌, ◌==◌, Bool, true, false, not, ◌&&◌, min, List, bit_and, Option, Some, if◌then◌else◌, refl, sym, ap, subst, ◌∙◌}
use Rattle.std.proofs.lemmas.Bool.{eq-eqb, true≢false, false≢true}
use Rattle.std.proofs.lemmas.Nat.Bits.{bit_at_and, bit_at_xor}
use Rattle.std.specs.Int.{bit_at}
use Rattle.std.specs.Int.Bits.{bit_xor}
use Rattle.std.specs.Prelude.{slice_get}
use Rattle.xs_base.specs.declared.component.Row.{Row}
use Rattle.xs_base.specs.Area.{StandsAt, control_in}
use Rattle.xs_bank.specs.Bank.{Tracked, IsKept, is_unmodified, loaded_from}
use Rattle.xs_base.specs.Compact.{place, is_compacted}
use Rattle.xs_base.specs.Component.{component_numbers, initial_mxcsr}
use Rattle.xs_base.specs.File.{File}
use Rattle.xs_base.specs.Header.{xstate_bv, xcomp_bv, mxcsr}
use Rattle.xs_base.specs.Layout.{IsLayout, has_row, set_of, is_known}
use Rattle.xs_bank.specs.Load.{IsLoaded, standard_control, compacted_control}
use Rattle.xs_base.specs.Sets.{has}
use Rattle.xs_base.specs.Standard.{has_control}
use Rattle.xs_base.proofs.LayoutLemmas.{sound_at, has_row_at, has_row_known}
use Rattle.xs_base.proofs.SetLemmas.{has_set_of, same_set}
use Rattle.xs_base.proofs.RowLemmas.{row_index}
use Rattle.xs_bank.specs.declared.tracking.LoadedArea.{LoadedArea}
use Rattle.xs_bank.specs.Tracking.{shown}
use Rattle.xs_bank.proofs.SetBits.{bit_cases}

-- ---- sets

-- one set without another
pub has_but : (all mask c : ℕ) → has (bit_and all (bit_xor all mask)) c ≡ (has all c && not (has mask c))
has_but all mask c =
    ap (λ n. n == 1) (bit_at_and all (bit_xor all mask) c ∙ ap (λ n. min (bit_at all c) n) (bit_at_xor all mask c))
    ∙ here (bit_at all c) (bit_at mask c) (bit_cases all c) (bit_cases mask c)
  where
    here : (x y : ℕ) → (x ≡ 0) ⊎ (x ≡ 1) → (y ≡ 0) ⊎ (y ≡ 1) → (min x ((x + y) % 2) == 1) ≡ ((x == 1) && not (y == 1))
    here x y (inl a) (inl b) = rw (a, b) refl
    here x y (inl a) (inr b) = rw (a, b) refl
    here x y (inr a) (inl b) = rw (a, b) refl
    here x y (inr a) (inr b) = rw (a, b) refl

-- the machine's components outside a mask, as a set and as a test
pub others_are : (rows : List Row) (all mask : ℕ) → IsLayout rows → ((c : ℕ) → has all c ≡ has_row rows c) → bit_and all (bit_xor all mask) ≡ set_of (λ c. has_row rows c && not (has mask c)) component_numbers
others_are rows all mask table are = same_set (bit_and all (bit_xor all mask)) (set_of (λ c. has_row rows c && not (has mask c)) component_numbers) (λ c.
    has_but all mask c ∙ ap (λ b. b && not (has mask c)) (are c) ∙ known c (has_row rows c) (not (has mask c)) (is_known c) (has_row_known rows table c) ∙ sym (has_set_of (λ d. has_row rows d && not (has mask d)) component_numbers refl c))
  where
    known : (c : ℕ) (a b k : Bool) → (a ≡ true → k ≡ true) → (a && b) ≡ ((a && b) && k)
    known c true true k h = sym (h refl)
    known c true false k h = refl
    known c false b k h = refl

-- ---- unmodified components

pub unmodified_here : (t : LoadedArea) (id names c : ℕ) → t.id ≡ id → t.names ≡ names → is_unmodified (shown (Some t)) id names c ≡ not (has t.modified.0 c)
unmodified_here t id names c same_id same_names = rw (eq-eqb t.id id same_id, eq-eqb t.names names same_names) refl

pub last_of : (a b d : Bool) → (a && b && not d) ≡ true → d ≡ false
last_of true true true h = absurd (false≢true h)
last_of true true false h = refl
last_of true false d h = absurd (false≢true h)
last_of false b d h = absurd (false≢true h)

-- right after a load only the mask's components are
pub unmodified_wanted : (rows : List Row) (id mask names : ℕ) (area : List ℕ) (c : ℕ) → is_known c ≡ true → has_row rows c ≡ true → is_unmodified (Some (loaded_from rows id mask area)) id names c ≡ true → has mask c ≡ true
unmodified_wanted rows id mask names area c known there h =
    let off = last_of (id == id) (xcomp_bv area == names) (has (loaded_from rows id mask area).modified c) h in
    here (has_row rows c) (has mask c) (is_known c) there known (sym (has_set_of (λ d. has_row rows d && not (has mask d)) component_numbers refl c) ∙ off)
  where
    here : (a b k : Bool) → a ≡ true → k ≡ true → ((a && not b) && k) ≡ false → b ≡ true
    here true true k a_is k_is off = refl
    here true false k a_is k_is off = absurd (true≢false (sym k_is ∙ off))
    here false b k a_is k_is off = absurd (false≢true a_is)

-- and they stand in the area
pub ready_loaded : (before after : File) (mask : ℕ) (area : List ℕ) (control id : ℕ) (tracked : Option Tracked) → IsLayout after.rows → IsLoaded mask area control before after → (has mask 1 ≡ true → control ≡ control_in area) → tracked ≡ Some (loaded_from after.rows id mask area) → (i : ℕ) (r : Row) → slice_get after.rows i ≡ Some r → is_unmodified tracked id (xcomp_bv area) r.comp.0 ≡ true → IsKept after area r
ready_loaded before after mask area control id tracked table h control_is is i r row unmodified =
    let at = row_index after.rows i r row in
    let sound = sound_at after.rows table i r at.0 at.1 in
    let wanted : has mask r.comp.0 ≡ true = unmodified_wanted after.rows id mask (xcomp_bv area) area r.comp.0 sound.known (has_row_at after.rows i r at.0 at.1) (ap (λ t. is_unmodified t id (xcomp_bv area) r.comp.0) (sym is) ∙ unmodified) in
    let row_before : slice_get before.rows i ≡ Some r = ap (λ rs. slice_get rs i) (sym h.rows_are) ∙ row in
    record {
      present = λ on. subst (λ rs. StandsAt area (place rs (xcomp_bv area) r) after r.comp.0) (sym h.rows_are) (h.present i r row_before wanted on);
      absent = λ off. h.absent i r row_before wanted off;
      control = λ one compact. h.control_is ∙ control_is (ap (has mask) (sym one) ∙ wanted);
    }

-- MXCSR that was loaded is the area's
pub standard_control_is : (mask : ℕ) (area : List ℕ) (old : ℕ) → xcomp_bv area ≡ 0 → has_control mask ≡ true → standard_control mask area old ≡ control_in area
standard_control_is mask area old zero_is wanted =
    ap (λ b. if b then mxcsr area else old) wanted ∙ sym (ap (λ n. if is_compacted n && not (has (xstate_bv area) 1) then initial_mxcsr else mxcsr area) zero_is)

pub compacted_control_is : (mask : ℕ) (area : List ℕ) (old : ℕ) → is_compacted (xcomp_bv area) ≡ true → has mask 1 ≡ true → compacted_control mask area old ≡ control_in area
compacted_control_is mask area old compact wanted =
    ap (λ b. if b then (if has (xstate_bv area) 1 then mxcsr area else initial_mxcsr) else old) wanted
    ∙ here (has (xstate_bv area) 1)
    ∙ sym (ap (λ b. if b && not (has (xstate_bv area) 1) then initial_mxcsr else mxcsr area) compact)
  where
    here : (b : Bool) → (if b then mxcsr area else initial_mxcsr) ≡ (if not b then initial_mxcsr else mxcsr area)
    here true = refl
    here false = refl

pub not_not : (b : Bool) → b ≡ not (not b)
not_not true = refl
not_not false = refl
