-- Whole files: what a load of them gives, which areas are accepted, and which can be loaded after a save.
use Rattle.std.proofs.Common.{◌≡◌, inl, inr, ℕ, ◌-◌, ◌<◌, ◌≤◌, ◌^◌, ◌==◌, Bool, true, false, not, ◌&&◌, ◌||◌, List, [], ◌∷◌, zero, suc, length, get_or, take, drop, bit_and, Option, Some, None, if◌then◌else◌, refl, sym, ap, subst, ◌∙◌, arith}
use Rattle.std.proofs.lemmas.Bool.{cases_Bool, cases_lt, cases_eq, eq-eqb, ne_eqb, true≢false, false≢true, and_parts}
use Rattle.std.proofs.lemmas.Bool.Decides.{nat_tests}
use Rattle.std.proofs.lemmas.List.{ext_get_or, get_or_past, take-take}
use Rattle.std.proofs.lemmas.Option.{slice_get_read}
use Rattle.std.specs.List.{list_any}
use Rattle.std.specs.Prelude.{slice_get, slice_range}
use Rattle.xs_base.specs.declared.class.Class.{Class}
use Rattle.xs_base.specs.declared.component.Row.{Row}
use Rattle.xs_base.specs.Area.{StandsAt, StandsFor, control_in}
use Rattle.xs_base.specs.Bytes.{is_within}
use Rattle.xs_base.specs.Compact.{place, is_compacted, compacted}
use Rattle.xs_base.specs.Component.{component_count, component_size, initial_mxcsr}
use Rattle.xs_base.specs.File.{File, IsFile, part, is_own, is_saved}
use Rattle.xs_base.specs.Header.{xstate_bv, xcomp_bv, mxcsr}
use Rattle.xs_base.specs.HeaderCheck.{has_outside, is_wrong_mxcsr}
use Rattle.xs_base.specs.KernelArea.{IsLoadable, class_features, is_of_class}
use Rattle.xs_base.specs.Layout.{IsLayout, has_row, features}
use Rattle.xs_base.specs.Sets.{has}
use Rattle.xs_base.specs.Standard.{has_control, control_bytes, component_byte, saved_byte, has_byte}
use Rattle.xs_bank.specs.Bank.{Tracked, IsKept, StandsUnmodified, loaded_from}
use Rattle.xs_bank.specs.declared.instruction.Trap.{Trap}
use Rattle.xs_bank.specs.declared.instruction.Trap.TheVariants.{Nm}
use Rattle.xs_bank.specs.Load.{IsLoaded, IsTakenFrom, IsWholeLoad, standard_control, compacted_control, standard_trap, compacted_trap, named_in, stops_tiles, IsStopped, tiles}
use Rattle.xs_bank.specs.Save.{IsCompactedSave, IsLoadableSave, StandsWithin}
use Rattle.xs_base.proofs.ByteLemmas.{range_same, within_above, within_in}
use Rattle.xs_base.proofs.LayoutLemmas.{sound_at, row_found, has_features}
use Rattle.xs_base.proofs.RowLemmas.{has_sse}
use Rattle.xs_base.proofs.SetLemmas.{has_and, set_within}
use Rattle.xs_base.proofs.StandardLemmas.{component_none}
use Rattle.xs_base.proofs.PlaceLemmas.{place_outside}
use Rattle.xs_base.proofs.CompactedLemmas.{has_compacted}
use Rattle.xs_base.proofs.ClassLemmas.{has_class}
use Rattle.xs_bank.proofs.ReadyLemmas.{ready_loaded, standard_control_is, compacted_control_is}
use Rattle.xs_bank.proofs.TrapLemmas.{standard_format, compacted_format}

-- ---- a load of a whole file

or_left : (a b : Bool) → a ≡ true → (a || b) ≡ true
or_left true b h = refl
or_left false b h = absurd (false≢true h)

-- what both hold of a component is the same bytes
same_part : (area : List ℕ) (at c : ℕ) (a b : File) → IsFile a → IsFile b → c < component_count → StandsAt area at a c → StandsAt area at b c → part a c ≡ part b c
same_part area at c a b is_a is_b lt stands_a stands_b =
    ext_get_or 0 (part a c) (part b c) (is_a.sizes c lt ∙ sym (is_b.sizes c lt)) (λ k small. elim (cases_Bool (is_own c k)) [
      | inl own ↦ let in_size : k < component_size c = omega (arith, is_a.sizes c lt) in sym (stands_a k in_size own) ∙ stands_b k in_size own
      | inr loose ↦ is_a.clean c k loose ∙ sym (is_b.clean c k loose)
    ])

module _ (mask : ℕ) (takes : Bool) (area : List ℕ) (control : ℕ) (before after : File) (is_after : IsFile after) (h : IsLoaded mask area control before after) (file : File) (is_file : IsFile file) (stands : StandsFor before.rows area file) where
  row_part : (c : ℕ) → c < component_count → (c ≡ 9 → ⊥) → has mask c ≡ true → has_row before.rows c ≡ true → part after c ≡ part file c
  row_part c lt other taken there =
      let found = row_found before.rows c there in
      let r = found.0 in
      let row : slice_get before.rows found.1.index ≡ Some r = slice_get_read before.rows (length before.rows) found.1.index r refl found.1.within found.1.is in
      let apart : r.comp.0 ≡ 9 → ⊥ = λ nine. other (sym found.1.number ∙ nine) in
      let wanted : has mask r.comp.0 ≡ true = ap (has mask) found.1.number ∙ taken in
      let below : r.comp.0 < component_count = omega (arith, found.1.number) in
      subst (λ n. part after n ≡ part file n) found.1.number (elim (cases_Bool (has (xstate_bv area) r.comp.0)) [
        | inl on ↦ same_part area (place before.rows (xcomp_bv area) r) r.comp.0 after file is_after is_file below (h.present found.1.index r row wanted on) (stands.present found.1.index r row apart on)
        | inr off ↦ h.absent found.1.index r row wanted off ∙ sym (stands.absent found.1.index r row apart off)
      ])

  lacking : (c : ℕ) → c < component_count → (c ≡ 9 → ⊥) → has_row before.rows c ≡ false → part after c ≡ part file c
  lacking c lt other lacks =
      is_after.absent c lt (ap (λ rows. has_row rows c) h.rows_are ∙ lacks) other
      ∙ sym (is_file.absent c lt (ap (λ rows. has_row rows c) stands.rows_are ∙ lacks) other)

  past_all : (c : ℕ) → component_count ≤ c → part after c ≡ part file c
  past_all c past = get_or_past after.parts c [] (omega (arith, is_after.count)) ∙ sym (get_or_past file.parts c [] (omega (arith, is_file.count)))

  -- a component that the mask has, where the machine has it
  each_part : (c : ℕ) → (c ≡ 9 → ⊥) → (has_row before.rows c ≡ true → has mask c ≡ true) → part after c ≡ part file c
  each_part c other taken = elim (cases_lt c component_count) [
    | inl lt ↦ elim (cases_Bool (has_row before.rows c)) [
      | inl there ↦ row_part c lt other (taken there) there
      | inr lacks ↦ lacking c lt other lacks
    ]
    | inr past ↦ past_all c past
  ]

  table : IsLayout before.rows
  table = subst (λ rows. IsLayout rows) h.rows_are is_after.layout

  pub taken_from : (has mask 1 ≡ true → takes ≡ true) → (takes ≡ true → control ≡ control_in area) → IsTakenFrom file before.rows mask takes after
  taken_from with_sse control_is = record {
    parts = λ c other wanted. each_part c other (λ there. wanted);
    control = λ takes_it. mxcsr_is takes_it;
    all = λ covers. record {
      rows_are = h.rows_are ∙ sym stands.rows_are;
      parts = λ c other. each_part c other (λ there. covers c there other);
      control = mxcsr_is (with_sse (covers 1 (has_sse before.rows table) (λ e. omega arith)));
    };
  }
    where
      mxcsr_is : takes ≡ true → after.mxcsr ≡ file.mxcsr
      mxcsr_is takes_it = h.control_is ∙ control_is takes_it ∙ sym stands.control

-- of a load from the standard format that isn't refused
pub standard_whole : (armed mask : ℕ) (area : List ℕ) (before after : File) → IsFile after → standard_trap before.rows armed mask area ≡ None → IsLoaded mask area (standard_control mask area before.mxcsr) before after → IsWholeLoad mask (has_control mask) area before.rows after
standard_whole armed mask area before after is_after none h file is_file stands =
    taken_from mask (has_control mask) area (standard_control mask area before.mxcsr) before after is_after h file is_file stands
    (λ sse. or_left (has mask 1) (has mask 2) sse)
    (λ takes. standard_control_is mask area before.mxcsr (standard_format before.rows armed mask area none) takes)

-- and from the compacted one
pub compacted_whole : (armed mask : ℕ) (area : List ℕ) (before after : File) → IsFile after → compacted_trap before.rows armed mask area ≡ None → IsLoaded mask area (compacted_control mask area before.mxcsr) before after → IsWholeLoad mask (has mask 1) area before.rows after
compacted_whole armed mask area before after is_after none h file is_file stands =
    taken_from mask (has mask 1) area (compacted_control mask area before.mxcsr) before after is_after h file is_file stands
    (λ sse. sse)
    (λ takes. compacted_control_is mask area before.mxcsr (compacted_format before.rows armed mask area none).0 takes)

-- what was loaded is ready for a save
pub standard_ready : (armed id mask : ℕ) (area : List ℕ) (before after : File) (tracked : Option Tracked) → IsFile after → standard_trap before.rows armed mask area ≡ None → IsLoaded mask area (standard_control mask area before.mxcsr) before after → tracked ≡ Some (loaded_from before.rows id mask area) → (m : ℕ) → StandsUnmodified after tracked id m area
standard_ready armed id mask area before after tracked is_after none h is m i r row wanted unmodified =
    ready_loaded before after mask area (standard_control mask area before.mxcsr) id tracked is_after.layout h
    (λ sse. standard_control_is mask area before.mxcsr (standard_format before.rows armed mask area none) (or_left (has mask 1) (has mask 2) sse))
    (rw h.rows_are is) i r row unmodified

pub compacted_ready : (armed id mask : ℕ) (area : List ℕ) (before after : File) (tracked : Option Tracked) → IsFile after → compacted_trap before.rows armed mask area ≡ None → IsLoaded mask area (compacted_control mask area before.mxcsr) before after → tracked ≡ Some (loaded_from before.rows id mask area) → (m : ℕ) → StandsUnmodified after tracked id m area
compacted_ready armed id mask area before after tracked is_after none h is m i r row wanted unmodified =
    ready_loaded before after mask area (compacted_control mask area before.mxcsr) id tracked is_after.layout h
    (λ sse. compacted_control_is mask area before.mxcsr (compacted_format before.rows armed mask area none).0 sse)
    (rw h.rows_are is) i r row unmodified

-- ---- areas that are accepted

none_more : {A : Type 0} (b : Bool) (x : A) (rest : Option A) → b ≡ false → rest ≡ None → (if b then Some x else rest) ≡ None
none_more b x rest off none = rw (off, none) refl

inside : (set allowed : ℕ) → ((c : ℕ) → has set c ≡ true → has allowed c ≡ true) → has_outside set allowed ≡ false
inside set allowed each = ap not (eq-eqb (bit_and set allowed) set (set_within set allowed each))

or_off : (a b : Bool) → (a || b) ≡ false → (a ≡ false) × (b ≡ false)
or_off true b h = absurd (true≢false h)
or_off false b h = (refl, h)

and_first : (a b : Bool) → (a && b) ≡ true → a ≡ true
and_first true b h = refl
and_first false b h = absurd (false≢true h)

-- no bit above 15
right_mxcsr : (value : ℕ) → value < 2 ^ 16 → is_wrong_mxcsr value ≡ false
right_mxcsr value small = grind (arith, nat_tests)

module _ (rows : List Row) (class : Class) (id : ℕ) (area : List ℕ) (armed mask : ℕ) (h : IsLoadable rows class id area) where
  sound : IsLayout rows
  sound = subst (λ rs. IsLayout rs) h.stands.rows_are h.is_file.layout

  class_row : (c : ℕ) → has (class_features rows class) c ≡ true → has (features rows) c ≡ true
  class_row c on = has_features rows sound c ∙ and_first (has_row rows c) (is_of_class class c) (sym (has_class rows class sound c) ∙ on)

  bits_inside : has_outside (xstate_bv area) (features rows) ≡ false
  bits_inside = inside (xstate_bv area) (features rows) (λ c on. class_row c (h.bits c on))

  module _ (names : xcomp_bv area ≡ compacted (class_features rows class)) where
    names_inside : has_outside (named_in area) (features rows) ≡ false
    names_inside = inside (named_in area) (features rows) named
      where
        drop_top : (a b : Bool) → b ≡ false → (a || b) ≡ true → a ≡ true
        drop_top true b off on = refl
        drop_top false b off on = absurd (true≢false (sym on ∙ off))

        named : (c : ℕ) → has (named_in area) c ≡ true → has (features rows) c ≡ true
        named c on =
            let both = and_parts (has (xcomp_bv area) c) (has (2 ^ 63 - 1) c) (sym (has_and (xcomp_bv area) (2 ^ 63 - 1) c) ∙ on) in
            elim (cases_eq c 63) [
              | inl top ↦ absurd (false≢true (ap (has (2 ^ 63 - 1)) (sym top) ∙ both.1))
              | inr other ↦ class_row c (drop_top (has (class_features rows class) c) (c == 63) (ne_eqb c 63 other) (sym (has_compacted (class_features rows class) c) ∙ ap (λ n. has n c) (sym names) ∙ both.0))
            ]

    bits_named : has_outside (xstate_bv area) (xcomp_bv area) ≡ false
    bits_named = inside (xstate_bv area) (xcomp_bv area) (λ c on. ap (λ n. has n c) names ∙ has_compacted (class_features rows class) c ∙ or_left (has (class_features rows class) c) (c == 63) (h.bits c on))

  -- MXCSR, where the area has SSE
  right_control : (b : Bool) → has (xstate_bv area) 1 ≡ b → (has mask 1 && b && is_wrong_mxcsr (mxcsr area)) ≡ false
  right_control true on =
      let same : h.file.mxcsr ≡ mxcsr area = h.stands.control ∙ ap (λ b. if is_compacted (xcomp_bv area) && not b then initial_mxcsr else mxcsr area) on ∙ never (is_compacted (xcomp_bv area)) in
      ap (λ b. has mask 1 && true && b) (right_mxcsr (mxcsr area) (omega (arith, h.control))) ∙ no_right (has mask 1)
    where
      never : (b : Bool) → (if b && false then initial_mxcsr else mxcsr area) ≡ mxcsr area
      never true = refl
      never false = refl

      no_right : (b : Bool) → (b && true && false) ≡ false
      no_right true = refl
      no_right false = refl
  right_control false off = no_middle (has mask 1) (is_wrong_mxcsr (mxcsr area))
    where
      no_middle : (b d : Bool) → (b && false && d) ≡ false
      no_middle true d = refl
      no_middle false d = refl

  -- XRSTORS takes a compacted one, but for tiles
  compacted_accepts : is_compacted (xcomp_bv area) ≡ true → compacted_trap rows armed mask area ≡ (if stops_tiles armed mask area then Some (Nm (record { 0 = tiles })) else None)
  unfolding compacted_trap
  compacted_accepts compact = elim h.names [
    | inl names ↦ rw (bits_inside, names_inside names, bits_named names, compact, h.reserved, right_control (has (xstate_bv area) 1) refl) refl
    | inr zero_is ↦ absurd (false≢true (sym (ap is_compacted zero_is) ∙ compact))
  ]

  -- none of the first bytes is any of them all
  none_first : (n : ℕ) (xs : List ℕ) → list_any (λ byte. not (byte == 0)) xs ≡ false → list_any (λ byte. not (byte == 0)) (take n xs) ≡ false
  none_first zero xs none = refl
  none_first (suc n) [] none = refl
  none_first (suc n) (x ∷ xs) none =
      let parts = or_off (not (x == 0)) (list_any (λ byte. not (byte == 0)) xs) none in
      rw (parts.0, none_first n xs parts.1) refl

  reserved_first : list_any (λ byte. not (byte == 0)) (slice_range area 528 536) ≡ false
  reserved_first = ap (list_any (λ byte. not (byte == 0))) (sym (take-take 8 48 (drop 528 area) (omega arith))) ∙ none_first 8 (slice_range area 528 576) h.reserved

  -- XRSTOR a standard one
  standard_accepts : xcomp_bv area ≡ 0 → standard_trap rows armed mask area ≡ (if stops_tiles armed mask area then Some (Nm (record { 0 = tiles })) else None)
  unfolding standard_trap
  standard_accepts zero_is =
      let same : h.file.mxcsr ≡ mxcsr area = h.stands.control ∙ ap (λ n. if is_compacted n && not (has (xstate_bv area) 1) then initial_mxcsr else mxcsr area) zero_is in
      let right : (has_control mask && is_wrong_mxcsr (mxcsr area)) ≡ false = ap (λ b. has_control mask && b) (right_mxcsr (mxcsr area) (omega (arith, h.control))) ∙ no_right (has_control mask) in
      rw (bits_inside, ap (λ n. not (n == 0)) zero_is, reserved_first, right) refl
    where
      no_right : (b : Bool) → (b && false) ≡ false
      no_right true = refl
      no_right false = refl

-- and then that is the reason
stopped : (armed mask : ℕ) (area : List ℕ) (trap : Trap) → Some trap ≡ (if stops_tiles armed mask area then Some (Nm (record { 0 = tiles })) else None) → IsStopped armed mask area trap
stopped armed mask area trap is = here (stops_tiles armed mask area) is
  where
    here : (b : Bool) → Some trap ≡ (if b then Some (Nm (record { 0 = tiles })) else None) → (b ≡ true) × (trap ≡ Nm (record { 0 = tiles }))
    here true is = (refl, cc is)
    here false is = absurd (cc is)

-- of what can be loaded, by its format
pub standard_stopped : (rows : List Row) (class : Class) (id : ℕ) (area : List ℕ) (armed mask : ℕ) (trap : Trap) → standard_trap rows armed mask area ≡ Some trap → IsLoadable rows class id area → xcomp_bv area ≡ 0 → IsStopped armed mask area trap
standard_stopped rows class id area armed mask trap is loadable zero_is = stopped armed mask area trap (sym is ∙ standard_accepts rows class id area armed mask loadable zero_is)

pub compacted_stopped : (rows : List Row) (class : Class) (id : ℕ) (area : List ℕ) (armed mask : ℕ) (trap : Trap) → compacted_trap rows armed mask area ≡ Some trap → IsLoadable rows class id area → is_compacted (xcomp_bv area) ≡ true → IsStopped armed mask area trap
compacted_stopped rows class id area armed mask trap is loadable compact = stopped armed mask area trap (sym is ∙ compacted_accepts rows class id area armed mask loadable compact)

-- ---- an area that can be loaded after a save

-- the reserved bytes stay
pub reserved_kept : (file : File) (mask written : ℕ) (before after : List ℕ) → IsLayout file.rows → 576 ≤ length before → IsCompactedSave file mask written before after → slice_range after 528 576 ≡ slice_range before 528 576
reserved_kept file mask written before after table long s =
    let len = s.bytes.len in
    range_same 528 576 after before (omega arith) long (λ k low high.
    s.bytes.each k (within_above 512 16 k (omega arith))
    ∙ ap (λ b. if b && has written 1 then get_or (control_bytes file.mxcsr) (k - 24) 0 else component_byte (saved_byte file) (place file.rows (compacted mask)) written k file.rows (get_or before k 0)) (within_above 24 8 k (omega arith))
    ∙ component_none (saved_byte file) (place file.rows (compacted mask)) written file.rows k (get_or before k 0) (λ i r lt is on. none i r lt is k (within_in 416 160 k (omega arith) (omega arith))))
  where
    none : (i : ℕ) (r : Row) → i < length file.rows → r ≡ get_or file.rows i r → (k : ℕ) → is_within 416 160 k ≡ true → has_byte (place file.rows (compacted mask) r) r k ≡ false
    none i r lt is k inside = ap (λ b. b && not (is_within 24 8 k)) (place_outside file.rows (compacted mask) r k (sound_at file.rows table i r lt is) inside)

pub loadable_saved : (file : File) (mask written : ℕ) (class : Class) (id : ℕ) (before after : List ℕ) → IsFile file → 576 ≤ length before → IsCompactedSave file mask written before after → IsLoadableSave file mask class id before → StandsFor file.rows after file → IsLoadable file.rows class id after
loadable_saved file mask written class id before after is_file long s save stands = record {
  file = file;
  is_file = is_file;
  stands = stands;
  control = save.control;
  names = inl (s.names ∙ ap compacted save.features);
  bits = λ c on. ap (λ m. has m c) (sym save.features) ∙ and_first (has mask c) (is_saved file c) (sym (s.bits c) ∙ on);
  reserved = ap (list_any (λ byte. not (byte == 0))) (reserved_kept file mask written before after is_file.layout long s) ∙ save.reserved;
  numbered = save.numbered;
}

-- ---- what stands in the area is ready for a save

pub ready_stands : (mask : ℕ) (area : List ℕ) (file : File) → StandsWithin mask area file → (i : ℕ) (r : Row) → slice_get file.rows i ≡ Some r → has mask r.comp.0 ≡ true → IsKept file area r
ready_stands mask area file stands i r row wanted = record {
  present = λ on. stands.present i r row wanted on;
  absent = λ off. stands.absent i r row wanted off;
  control = λ one compact. stands.control (ap (has mask) (sym one) ∙ wanted);
}
